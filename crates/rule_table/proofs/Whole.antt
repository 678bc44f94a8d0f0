-- A whole table judged entry by entry: each entry is judged as the part of the table that it is, and the first bad one decides.
-- Assumes nothing.
use Prim.Native.Nat.{ℕ, suc, ◌+◌, ◌*◌, ◌-◌, ◌≤◌, ◌<◌, min}
use mathlib.Core.List.{List, []}
use mathlib.Core.Path.{◌≡◌, refl, sym, ◌∙◌}
use native.Mathlib.Decide.{dec_le}
use native.Mathlib.Omega.{arith}
use borrow.Author.Tests.{lt-leb}
use lib.ListN.{length, take, drop, length-take, length-drop}
use Rattle.std.specs.Prelude.{Ok, Err}
use Rattle.model.specs.declared.Refusal.{Refusal}
use Rattle.model.specs.Judged.{good, Judgement, judgement_of}
use Rattle.model.specs.Rule.{Rule, add_rule}
use Rattle.model.specs.Tables.{rule_words, rule_entry, entries, rule_table, entries_in}
use Rattle.laws.proofs.Judging.{taken-good, faulty-bad, first-bad}
use Rattle.rule_table.specs.Entries.{rules_in, AcceptedRules, entry_of}
use Rattle.rule_table.proofs.Entries.{rules-room}
use Rattle.rule_table.proofs.Table.{rules-cut}
use Rattle.rule_table.proofs.Judged.{other_length, Answers}
use Rattle.rule_table.proofs.Parts.{rule-alike, part-alike, entry_whole, entry-alone}

-- an entry of a table by itself
module _ (ws : List ℕ) (i : ℕ) where
  full : i * rule_words + rule_words ≤ length ws → entry_of (take rule_words (drop (i * rule_words) ws)) ≡ rule_entry ws i
  full h =
      let part = take rule_words (drop (i * rule_words) ws) in
      let long : length part ≡ rule_words = simp (length-take, length-drop) (omega arith) in
      entry-alone part long
      ∙ rule-alike part ws 0 (i * rule_words) rule_words (part-alike ws (i * rule_words) rule_words) (omega arith)
      ∙ sym (entry_whole ws i h)

  short : length ws < i * rule_words + rule_words → (e : ℕ) → e < i * rule_words + rule_words
      → entry_of (take (e - i * rule_words) (drop (i * rule_words) ws)) ≡ rule_entry ws i
  unfolding rule_entry
  short h e l =
      let part = take (e - i * rule_words) (drop (i * rule_words) ws) in
      let less : length part < rule_words = simp (length-take, length-drop) (omega arith) in
      other_length part (λ p. omega arith) ∙ rw (lt-leb _ _ h)

  pub entry-part : (pos e : ℕ) → pos ≡ i * rule_words → e ≡ min (pos + rule_words) (length ws)
      → entry_of (take (e - pos) (drop pos ws)) ≡ rule_entry ws i
  entry-part pos e p q =
      elim (dec_le (i * rule_words + rule_words) (length ws)) [
        | yes l ↦ let d : e - i * rule_words ≡ rule_words = omega arith in rw (p, d) (full l)
        | no l ↦ rw p (short (omega arith) e (omega arith))
      ]

-- where judging a table is: the entries before a place are accepted
pub record Judging (ws : List ℕ) (pos : ℕ) : Type 0 where
  pub count : ℕ
  pub rules : List Rule
  pub are : rules_in ws count ≡ good rules
  pub place : pos ≡ count * rule_words

pub judging-start : (ws : List ℕ) → Judging ws 0
unfolding entries
judging-start ws = record { count = 0; rules = []; are = refl; place = refl }

module _ (ws : List ℕ) (pos : ℕ) (g : Judging ws pos) where
  -- the part of the table before the place is a table of these
  pub judging-room : pos ≤ length ws
  judging-room = omega (arith, g.place, rules-room ws g.count g.rules g.are)

  before : rule_table (take pos ws) ≡ rules_in ws g.count
  before = rw g.place (rules-cut ws g.count (rules-room ws g.count g.rules g.are))

  pub judging-accepted : AcceptedRules (take pos ws)
  judging-accepted = record { rules = g.rules; are = before ∙ g.are }

  -- at the end of the table
  pub judging-done : length ws ≤ pos → Ok tt ≡ judgement_of (rule_table ws)
  unfolding rule_table
  judging-done h =
      let c : entries_in rule_words (length ws) ≡ g.count = omega (arith, g.place, judging-room) in
      rw (c, g.are)

  -- one more entry
  module _ (e : ℕ) (ends : e ≡ min (pos + rule_words) (length ws)) (h : pos < length ws) where
    abbrev part : List ℕ
    part = take (e - pos) (drop pos ws)

    next : (r : Judgement) → Answers (take pos ws) part r → r ≡ judgement_of (rules_in ws (suc g.count))
    unfolding entries
    next r a =
        let p = entry-part ws g.count pos e g.place ends in
        a ∙ rw (before, g.are, p)

    pub judging-next : Answers (take pos ws) part (Ok tt) → Judging ws (pos + rule_words)
    judging-next a =
        let t = taken-good (rules_in ws (suc g.count)) (next (Ok tt) a) in
        record { count = suc g.count; rules = t.what; are = t.is; place = omega (arith, g.place) }

    pub judging-faulty : (m : Refusal) → Answers (take pos ws) part (Err m) → Err m ≡ judgement_of (rule_table ws)
    unfolding rule_table
    judging-faulty m a =
        let b = faulty-bad (rules_in ws (suc g.count)) m (next (Err m) a) in
        let more : suc g.count ≤ entries_in rule_words (length ws) = omega (arith, g.place) in
        rw (first-bad add_rule (rule_entry ws) [] (suc g.count) (entries_in rule_words (length ws)) m more b)
