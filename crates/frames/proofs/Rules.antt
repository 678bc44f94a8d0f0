-- A frame of a rule: refused, or one rule more.
use Prim.Native.Nat.{ℕ, suc, ◌+◌, ◌<◌}
use mathlib.Core.List.{List}
use mathlib.Core.Option.{Option, none, some}
use mathlib.Core.Path.{◌≡◌, refl, sym, subst, ◌∙◌}
use native.Mathlib.Omega.{arith}
use native.Mathlib.Numerals.{add-one}
use borrow.Author.Tests.{leb-false}
use lib.Dec.{leb}
use lib.ListN.{length}
use Rattle.std.proofs.Common.{Ok}
use Rattle.model.specs.declared.Refusal.TheVariants.{TableFull}
use Rattle.model.specs.Limits.{rule_limit}
use Rattle.model.specs.Judged.{Judged, good}
use Rattle.model.specs.Rule.{Rule, add_rule}
use Rattle.model.specs.Run.{State, rule_turn}
use Rattle.laws.proofs.Judging.{never-good, taken, taken-good}
use Rattle.rule_table.specs.Entries.{rules_in}
use Rattle.rule_table.proofs.Entries.{rules-length}
use Rattle.tables.specs.Grown.{Grown}
use Rattle.frames.specs.declared.Counts.{Counts}
use Rattle.frames.specs.declared.Store.{Store}
use Rattle.frames.specs.State.{Stands}
use Rattle.frames.specs.Step.{StepIs}
use Rattle.frames.proofs.Stores.{with_rules}

-- the counts behind a rule
abbrev pub one_rule : Counts → Counts
one_rule k = record { kind = 2; nodes = k.nodes; rules = k.rules + 1; connections = k.connections; offered = 0 }

-- a rule is taken only where there is room for it
few-rules : (rs : List Rule) (o : Option Rule) {new : List Rule} → add_rule rs o ≡ good new → length rs < rule_limit
unfolding add_rule
few-rules rs none p = absurd (never-good p)
few-rules rs (some r) p = leb-false rule_limit (length rs) (taken (leb rule_limit (length rs)) TableFull _ _ p).0

module _ (k : Counts) (t : Store) (after : List ℕ) (s : State) (h : Stands k t s) where
  pub rule-taken : k.connections ≡ 0 → (o : Option Rule) → Grown (add_rule s.tables.rules o) (Ok tt) (rules_in after (suc k.rules)) →
      StepIs (rule_turn s (add_rule s.tables.rules o)) (Ok (one_rule k, 0)) (with_rules t after)
  rule-taken free o g =
      let a = taken-good (add_rule s.tables.rules o) g.says in
      let n = rules-length t.rules k.rules s.tables.rules h.rules in
      subst (λ (x : Judged (List Rule)). StepIs (rule_turn s x) (Ok (one_rule k, 0)) (with_rules t after)) (sym a.is) (
        refl,
        refl,
        record {
          kind = refl;
          nodes = h.nodes;
          rules = rw add-one (g.holds refl ∙ a.is);
          few = omega (arith, few-rules s.tables.rules o a.is);
          conns = h.conns;
          tops = h.tops;
          words = refl;
          fits = omega arith;
          fresh = λ _. free;
        },
      )
