-- A rule written behind those that were accepted: they stay as they are, and it is the next.
use Prim.Native.Nat.{ℕ, suc, ◌+◌, ◌*◌, ◌-◌, ◌≤◌}
use mathlib.Core.List.{List, []}
use mathlib.Core.Path.{◌≡◌, sym, ap, ◌∙◌}
use mathlib.Core.Option.{some}
use native.Mathlib.Omega.{arith}
use borrow.Author.Tests.{eq-eqb}
use borrow.Rule.Slice.PartMut.{mid_of, put_mid}
use lib.ListN.{length, get_or, take}
use lib.Seq.{get_or-take, length-take-le}
use Rattle.model.specs.Judged.{Judged, good}
use Rattle.model.specs.Rule.{Rule, add_rule}
use Rattle.model.specs.Frame.{rule_frame}
use Rattle.model.specs.Tables.{rule_entry, rule_table, rule_words, and_add}
use Rattle.laws.specs.Area.{splice, part}
use Rattle.laws.proofs.Area.{length_part}
use Rattle.layouts.specs.Words.{words_of_rule}
use Rattle.layouts.proofs.Back.{rule-long, rule-back}
use Rattle.rule_table.specs.Entries.{AcceptedRules, rules_in, entry_of, with_entry}
use Rattle.rule_table.proofs.Parts.{part-alike}
use Rattle.rule_table.proofs.Table.{rules-kept, rules-cut, rules-more}
use Rattle.decode.specs.Slot.{slot_by}
use Rattle.tables.proofs.Put.{put-long, put_front, put-slot, put_back}

module _ (ws : List ℕ) (n : ℕ) (room : n * rule_words + rule_words ≤ length ws) (bs : List ℕ) where
  abbrev put : List ℕ
  put = splice ws (n * rule_words) (slot_by words_of_rule (part ws (n * rule_words) rule_words) (rule_frame bs))

  pub rule-put-long : length (splice ws (n * rule_words) (slot_by words_of_rule (part ws (n * rule_words) rule_words) (rule_frame bs))) ≡ length ws
  rule-put-long = put-long words_of_rule rule_words ws n room (rule_frame bs) (rule-long bs)

  pub rule-put : (new : List ℕ) → new ≡ slot_by words_of_rule (mid_of (n * rule_words) (n * rule_words + rule_words - n * rule_words) ws) (rule_frame bs) →
      put_mid (n * rule_words) (n * rule_words + rule_words - n * rule_words) ws new ≡ put
  rule-put = put_back words_of_rule rule_words ws n room (rule_frame bs) (rule-long bs)

  front : take (n * rule_words) ws ≡ take (n * rule_words) put
  front = put_front words_of_rule rule_words ws n room (rule_frame bs) (rule-long bs)

  same : rules_in ws n ≡ rules_in put n
  same =
      rules-kept ws put n (omega arith) (omega (arith, rule-put-long))
      (λ k d.
      let e : 0 + k ≡ k = omega arith in
      rw e
      (sym (get_or-take (n * rule_words) ws k 0 d) ∙ ap (λ (l : List ℕ). get_or l k 0) front ∙ get_or-take (n * rule_words) put k 0 d))

  module _ (rs : List Rule) (p : rules_in ws n ≡ good rs) where
    table : rule_table (take (n * rule_words) put) ≡ good rs
    table = rules-cut put n (omega (arith, rule-put-long)) ∙ sym same ∙ p

    pub rules-accepted : AcceptedRules (take (n * rule_words) put)
    rules-accepted = record { rules = rs; are = table }

    module _ (r : Rule) (q : rule_frame bs ≡ some r) where
      entry : entry_of (part put (n * rule_words) rule_words) ≡ rule_frame bs
      unfolding entry_of
      entry =
          let e = put-slot words_of_rule rule_words ws n room (rule_frame bs) (rule-long bs) r q in
          ap entry_of e ∙ rw (eq-eqb (length (words_of_rule r)) rule_words (rule-long bs r q), rule-back bs r q) (sym q)

      pub rule-judged : with_entry (take (n * rule_words) put) (entry_of (part put (n * rule_words) rule_words)) ≡ add_rule rs (rule_frame bs)
      rule-judged =
          ap (λ (j : Judged (List Rule)). and_add add_rule (rule_entry (take (n * rule_words) put)) [] j (entry_of (part put (n * rule_words) rule_words))) table
          ∙ ap (add_rule rs) entry

      pub rule-table : rules_in put (suc n) ≡ add_rule rs (rule_frame bs)
      unfolding part
      rule-table =
          rules-more (take (n * rule_words) put) put (part put (n * rule_words) rule_words) n
          (length-take-le (n * rule_words) put (omega (arith, rule-put-long))) (omega (arith, rule-put-long))
          (length_part put (n * rule_words) rule_words (omega (arith, rule-put-long)))
          (λ k d. let e : 0 + k ≡ k = omega arith in rw e (get_or-take (n * rule_words) put k 0 d))
          (part-alike put (n * rule_words) rule_words)
          ∙ rule-judged
