-- An accepted table, for those who use it: its rules by entry, the slots of its sides, a table cut behind some entries, and one
-- more entry written.
-- Assumes nothing.
use Prim.Native.Nat.{ℕ, zero, suc, ◌+◌, ◌*◌, ◌/◌, ◌≤◌, ◌<◌}
use mathlib.Core.List.{List, []}
use mathlib.Core.Option.{none}
use mathlib.Core.Path.{◌≡◌, refl, sym, ◌∙◌}
use native.Mathlib.Omega.{arith}
use lib.ListN.{length, take, length-take}
use lib.Seq.{get_or-take}
use Rattle.model.specs.Judged.{good}
use Rattle.model.specs.Rule.{Rule, listed, add_rule}
use Rattle.model.specs.Tables.{side_words, rule_words, rule_entry, entries_in, and_add, entries, rule_table}
use Rattle.std.specs.Prelude.{Some, None}
use Rattle.rule_table.specs.Slots.{PatternsAt}
use Rattle.rule_table.specs.Entries.{rules_in, entry_of, with_entry, where_listed, left_slots, right_slots}
use Rattle.rule_table.proofs.Parts.{Alike, rule-alike, entry_whole, entry-alone, part-spells}
use Rattle.rule_table.proofs.Entries.{EntryIs, rules-room, Found, rule_found, rule-nowhere}

-- a whole table that is accepted: as many entries as its length has room for, and no word over
pub table-rules : (ws : List ℕ) (rs : List Rule) → rule_table ws ≡ good rs → rules_in ws (length ws / rule_words) ≡ good rs
unfolding rule_table
table-rules ws rs e =
    let r = rules-room ws (entries_in rule_words (length ws)) rs e in
    let c : entries_in rule_words (length ws) ≡ length ws / rule_words = omega arith in
    rw c at e

-- its rule of a number is the one of the entry that lists it, and where none does there is none
pub table-found : (ws : List ℕ) (rs : List Rule) (x i : ℕ) → rule_table ws ≡ good rs → where_listed ws x ≡ Some i → Found ws rs x i
table-found ws rs x i e p = rule_found ws _ rs x i (table-rules ws rs e) p

pub table-nowhere : (ws : List ℕ) (rs : List Rule) (x : ℕ) → rule_table ws ≡ good rs → where_listed ws x ≡ None → listed rs x ≡ none
table-nowhere ws rs x e p = rule-nowhere ws _ rs x (table-rules ws rs e) p

-- the slots of an entry's sides spell its patterns
module _ (ws : List ℕ) (i : ℕ) (r : Rule) (e : EntryIs ws i r) where
  pub left-spells : PatternsAt (left_slots ws i) 0 1 r.left
  left-spells = part-spells ws _ _ r.left e.left side_words (omega (arith, e.room)) (omega (arith, e.left.few))

  pub right-spells : PatternsAt (right_slots ws i) 0 1 r.right
  right-spells = part-spells ws _ _ r.right e.right side_words (omega (arith, e.room)) (omega (arith, e.right.few))

-- entries are judged by their own words alone
module _ (ws ws' : List ℕ) (m : ℕ) (l : m * rule_words ≤ length ws) (l' : m * rule_words ≤ length ws')
    (same : Alike ws 0 ws' 0 (m * rule_words)) where
  entry_kept : (i : ℕ) → i < m → rule_entry ws i ≡ rule_entry ws' i
  entry_kept i h =
      entry_whole ws i (omega arith)
      ∙ rule-alike ws ws' (i * rule_words) (i * rule_words) rule_words
      (λ k d. let e : 0 + (i * rule_words + k) ≡ i * rule_words + k = omega arith in rw e at (same (i * rule_words + k) (omega arith)))
      (omega arith)
      ∙ sym (entry_whole ws' i (omega arith))

  kept-below : (n : ℕ) → n ≤ m → rules_in ws n ≡ rules_in ws' n
  unfolding entries
  kept-below zero h = refl
  kept-below (suc n) h =
      λ t. and_add add_rule (rule_entry ws) [] (kept-below n (omega arith) t) (entry_kept n (omega arith) t)

  pub rules-kept : rules_in ws m ≡ rules_in ws' m
  rules-kept = kept-below m (omega arith)

-- a table of n whole entries, and one cut behind its first n
pub rules-all : (ws : List ℕ) (n : ℕ) → length ws ≡ n * rule_words → rule_table ws ≡ rules_in ws n
unfolding rule_table
rules-all ws n h = let c : entries_in rule_words (length ws) ≡ n = omega arith in rw c

pub rules-cut : (ws : List ℕ) (n : ℕ) → n * rule_words ≤ length ws → rule_table (take (n * rule_words) ws) ≡ rules_in ws n
rules-cut ws n h =
    let front = take (n * rule_words) ws in
    let l : length front ≡ n * rule_words = simp length-take (omega arith) in
    rules-all front n l
    ∙ rules-kept front ws n (omega arith) h (λ k d. let e : 0 + k ≡ k = omega arith in rw e (get_or-take (n * rule_words) ws k 0 d))

-- an entry written behind the accepted ones is judged as it was by itself
pub rules-more : (ws ws' es : List ℕ) (n : ℕ) → length ws ≡ n * rule_words → n * rule_words + rule_words ≤ length ws'
    → length es ≡ rule_words → Alike ws 0 ws' 0 (n * rule_words)
    → Alike es 0 ws' (n * rule_words) rule_words → rules_in ws' (suc n) ≡ with_entry ws (entry_of es)
unfolding entries
rules-more ws ws' es n l l' h older new =
    let e = entry-alone es h ∙ rule-alike es ws' 0 (n * rule_words) rule_words new (omega arith) ∙ sym (entry_whole ws' n l') in
    let k = rules-all ws n l ∙ rules-kept ws ws' n (omega arith) (omega arith) older in
    rw (e, k)
