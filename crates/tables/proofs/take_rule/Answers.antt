-- `tables::take_rule` meets its contract: a frame that says no rule is refused; else it is judged where it was written.
use native.Mathlib.Omega.{arith}
use Prim.Native.Nat.{ℕ, suc, ◌*◌, ◌+◌, ◌-◌}
use mathlib.Core.List.{List}
use mathlib.Core.Path.{◌≡◌, refl, sym, ap, ap₂, subst, ◌∙◌}
use borrow.Rule.Slice.PartMut.{put_mid}
use lib.ListN.{length, take}
use Rattle.model.specs.Rule.{add_rule}
use Rattle.model.specs.Frame.{rule_frame}
use Rattle.model.specs.Tables.{rule_words}
use Rattle.laws.specs.Area.{splice, part}
use Rattle.layouts.specs.Words.{words_of_rule}
use Rattle.rule_table.specs.Entries.{AcceptedRules, rules_in, entry_of, with_entry}
use Rattle.decode.specs.Slot.{slot_by}
use Rattle.tables.proofs.Slots.{says_some, says_none, grown-bad, grown}
use Rattle.tables.proofs.Rules.{rule-put, rule-put-long, rules-accepted, rule-table, rule-judged}
use Rattle.tables.proofs.take_rule.Goals.{After-put_rule}
use Rattle.tables.proofs.take_rule.Goals as goal

-- the table as it comes back: the frame's words in their slot
written : (c : After-put_rule) →
    put_mid (c.args.n * rule_words) (c.args.n * rule_words + rule_words - c.args.n * rule_words) c.args.rules.now c.put_rule.new.slot
    ≡ splice c.args.rules.now (c.args.n * rule_words)
    (slot_by words_of_rule (part c.args.rules.now (c.args.n * rule_words) rule_words) (rule_frame c.args.bytes.now))
written c = rule-put c.args.rules.now c.args.n c.requires.1 c.args.bytes.now _ c.put_rule.ensures.slot_after

pub returns-then-not-put_rule : goal.returns-then-not-put_rule
unfolding add_rule
returns-then-not-put_rule c =
    let e = says_none (rule_frame c.args.bytes.now) c.put_rule.ensures.value c.if-not-put_rule.true-raw in record {
      rules_grown = λ rs p. grown-bad (ap (add_rule rs) e);
      rules_after = written (goal.at.returns-then-not-put_rule c).After-put_rule;
    }

pub judge_behind-requires : goal.judge_behind-requires
judge_behind-requires c =
    let a = c.args in
    let w = written (goal.at.judge_behind-requires c).After-put_rule in (
      subst (λ (l : List ℕ). AcceptedRules (take (a.n * rule_words) l)) (sym w)
          (rules-accepted a.rules.now a.n c.requires.1 a.bytes.now c.requires.0.rules c.requires.0.are),
      omega arith,
      omega (arith, c.requires.1, ap length w, rule-put-long a.rules.now a.n c.requires.1 a.bytes.now),
    )

pub returns : goal.returns
returns c =
    let a = c.args in
    let w = written (goal.at.returns c).After-put_rule in
    let y = says_some (rule_frame a.bytes.now) c.put_rule.ensures.value c.if-not-put_rule.false-raw in
    let n = a.n * rule_words in
    let size : n + rule_words - n ≡ rule_words = omega arith in record {
      rules_grown = λ rs p.
          grown refl c.judge_behind.ensures
          (ap₂ (λ (l : List ℕ) (m : ℕ). with_entry (take n l) (entry_of (part l n m))) w size
          ∙ rule-judged a.rules.now a.n c.requires.1 a.bytes.now rs p y.what y.is)
          (ap (λ (l : List ℕ). rules_in l (suc a.n)) w ∙ rule-table a.rules.now a.n c.requires.1 a.bytes.now rs p y.what y.is);
      rules_after = w;
    }
