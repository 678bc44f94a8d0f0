-- An accepted table, and an entry that is a rule: facts that have one proof at most, as a ghost field must. (In specs/, since a type of
-- this crate names them.) Assumes nothing.
use Prim.Native.Nat.{ℕ}
use mathlib.Core.HLevel.{hedberg, is_prop→PathP}
use mathlib.Core.List.{List}
use mathlib.Core.Option.{Option as Maybe, some}
use mathlib.Core.Path.{◌≡◌, refl, sym, ap, ap₂, ◌∙◌}
use mathlib.Core.Sum.{⊎_set}
use native.Mathlib.Decide.{ℕ_discrete}
use Rattle.std.proofs.Math.Nat.{ℕ_set}
pub use Rattle.std.proofs.Props.{props}
use Rattle.model.specs.declared.Refusal.{Refusal}
use Rattle.model.specs.Judged.{Judged, good}
use Rattle.model.specs.Pattern.{Patterns, no_patterns, var, app}
use Rattle.model.specs.Rule.{Rule}
use Rattle.model.specs.Tables.{rule_entry, rule_table}
use Rattle.rule_table.specs.Entries.{AcceptedRules, HasRule}

-- two rows of patterns are equal or not, so that rows of patterns are a set
same-var : (x : ℕ) (s q : Patterns) → Dec (q ≡ s) → Dec (var x q ≡ var x s)
same-var x s q (yes e) = yes (ap (var x) e)
same-var x s q (no n) = no (λ e. let z : q ≡ s = cc in n z)

same-app : (o : ℕ) (k l s q : Patterns) → Dec (k ≡ l) → Dec (q ≡ s) → Dec (app o k q ≡ app o l s)
same-app o k l s q (yes e) (yes f) = yes (ap₂ (app o) e f)
same-app o k l s q (no n) d = no (λ e. let z : k ≡ l = cc in n z)
same-app o k l s q (yes e) (no n) = no (λ e. let z : q ≡ s = cc in n z)

either : (q r : Patterns) → Dec (q ≡ r)
either no_patterns no_patterns = yes refl
either no_patterns (var x s) = no (λ e. cc)
either no_patterns (app o k s) = no (λ e. cc)
either (var x q) no_patterns = no (λ e. cc)
either (var x q) (var y s) =
    elim (ℕ_discrete x y) [
      | yes e ↦ rw (← e) (same-var x s q (either q s))
      | no n ↦ no (λ e. let z : x ≡ y = cc in n z)
    ]
either (var x q) (app o k s) = no (λ e. cc)
either (app o k q) no_patterns = no (λ e. cc)
either (app o k q) (var x s) = no (λ e. cc)
either (app o k q) (app p l s) =
    elim (ℕ_discrete o p) [
      | yes e ↦ rw (← e) (same-app o k l s q (either k l) (either q s))
      | no n ↦ no (λ e. let z : o ≡ p = cc in n z)
    ]

patterns-set : IsSet Patterns
patterns-set = hedberg either

rule-set : IsSet Rule
rule-set = hlevel (props, ℕ_set, patterns-set)

rules-set : IsSet (List Rule)
rules-set = hlevel (props, rule-set)

refusal-set : IsSet Refusal
refusal-set = hlevel (props, ⊎_set)

judged-set : IsSet (Judged (List Rule))
judged-set = hlevel (props, rules-set, refusal-set, ⊎_set)

entry-set : IsSet (Maybe Rule)
entry-set = hlevel (props, rule-set)

good-injective : (rs qs : List Rule) → good rs ≡ good qs → rs ≡ qs
good-injective rs qs e = cc

some-injective : (r q : Rule) → some r ≡ some q → r ≡ q
some-injective r q e = cc

pub accepted-prop : (ws : List ℕ) → IsProp (AcceptedRules ws)
accepted-prop ws x y =
    let e = good-injective x.rules y.rules (sym x.are ∙ y.are) in
    λ i. record {
      rules = e i;
      are = is_prop→PathP (λ j. rule_table ws ≡ good (e j)) (λ j. judged-set (rule_table ws) (good (e j))) x.are y.are i;
    }

pub has_rule-prop : (ws : List ℕ) (n : ℕ) → IsProp (HasRule ws n)
has_rule-prop ws n x y =
    let e = some-injective x.rule y.rule (sym x.said ∙ y.said) in
    λ i. record {
      rule = e i;
      said = is_prop→PathP (λ j. rule_entry ws n ≡ some (e j)) (λ j. entry-set (rule_entry ws n) (some (e j))) x.said y.said i;
    }

-- the set for `by { Prim.hlevel single }` after a ghost field that is made of these facts
pub ruleset single = (props, accepted-prop, has_rule-prop)
