-- What a connection appends, walked either way: as many terms as it costs, of the size that needed words counts, with one mark
-- each, and from the one node's term to the other's. `proof` is what older connections give between two nodes.
use Prim.Native.Nat.{ℕ}
use mathlib.Core.Path.{◌≡◌, refl, sym, ap, ◌∙◌}
use mathlib.Core.Bool.{Bool}
use mathlib.Core.List.{List}
use native.Mathlib.Omega.{arith}
use Rattle.model.specs.declared.Connection.{Connection}
use Rattle.model.specs.declared.Direction.{Direction}
use Rattle.model.specs.declared.Justification.{Justification}
use Rattle.model.specs.declared.Justification.TheVariants.{Rule as by_rule, Congruence}
use Rattle.model.specs.Term.{unmarked, Terms, no_terms, tree, count, join, one, strip, Narrow, size, mark_count, marks}
use Rattle.model.specs.Node.{Node, op_of, kids_of, row, term_of}
use Rattle.model.specs.Forest.{cost_by}
use Rattle.model.specs.Flat.{mark_for, appended, appended_size}
use Rattle.flat.specs.Marks.{OneMarkEach}
use Rattle.flat.specs.Ends.{last_or, Leads}
use Rattle.flat.specs.Nodes.{AcceptedNodes}
use Rattle.flat.proofs.NodeTerms.{term-narrow, term-op, term-unmarked, term-size, term_is}
use Rattle.flat.proofs.Runs.{Known, runs-count, runs-size, runs-one-mark, runs-narrow, runs-arrive}
use Rattle.flat.proofs.Twins.{Twins}

marked : (n : ℕ) (d : Direction) (up : Bool) → mark_count (mark_for n d up) ≡ 1
marked n d up = refl

module _ (ns : List Node) (cs : List Connection) (proof : ℕ → ℕ → Terms) where
  -- a congruence stands on its support
  abbrev Support : Justification → ℕ → ℕ → Type 0
  Support w a b = w ≡ Congruence → Twins ns cs a b

  pub appended-count : (d : ℕ → ℕ → ℕ) → Known cs (λ x y. count (proof x y) ≡ d x y) → (w : Justification) (up : Bool) (a b : ℕ) →
      Support w a b → count (appended ns proof w up a b) ≡ cost_by ns d w a b
  unfolding appended cost_by count
  appended-count d h (by_rule n f) up a b s = refl
  appended-count d h Congruence up a b s = runs-count ns cs proof d h (op_of ns a) no_terms (kids_of ns a) (kids_of ns b) (s refl).kids

  pub appended-size : (d rec : ℕ → ℕ → ℕ) → Known cs (λ x y. count (proof x y) ≡ d x y) →
      Known cs (λ x y. size (proof x y) ≡ rec x y) →
      (w : Justification) (up : Bool) (a b : ℕ) → Support w a b → size (appended ns proof w up a b) ≡ appended_size ns d rec w a b
  unfolding appended appended_size size
  appended-size d rec h i (by_rule n f) up a b s = term-size ns b
  appended-size d rec h i Congruence up a b s =
      runs-size ns cs proof d rec h i (op_of ns a) no_terms 1 refl (kids_of ns a) (kids_of ns b) (s refl).kids

  pub appended-one-mark : Known cs (λ x y. OneMarkEach (proof x y)) → (w : Justification) (up : Bool) (a b : ℕ) → Support w a b →
      OneMarkEach (appended ns proof w up a b)
  unfolding appended OneMarkEach marks
  appended-one-mark h (by_rule n f) up a b s = (omega (arith, marked n.0 f up, term-unmarked ns b), tt)
  appended-one-mark h Congruence up a b s =
      runs-one-mark ns cs proof h (op_of ns a) no_terms refl (kids_of ns a) (kids_of ns b) (s refl).kids

  pub appended-narrow : AcceptedNodes ns → Known cs (λ x y. Narrow (proof x y)) → (w : Justification) (up : Bool) (a b : ℕ) →
      Support w a b → Narrow (appended ns proof w up a b)
  unfolding appended Narrow count
  appended-narrow nodes h (by_rule n f) up a b s = term-narrow ns nodes b
  appended-narrow nodes h Congruence up a b s =
      runs-narrow ns cs proof nodes h (op_of ns a) no_terms tt (kids_of ns a) (kids_of ns b)
      (omega (arith, nodes.few a)) (s refl).kids

  pub appended-arrive : AcceptedNodes ns → Known cs (λ x y. Leads ns x y (proof x y)) →
      (w : Justification) (up : Bool) (a b : ℕ) → Support w a b →
      Leads ns a b (appended ns proof w up a b)
  unfolding appended last_or strip join marks
  appended-arrive nodes h (by_rule n f) up a b s = ap (λ o. tree o unmarked (strip (term_of ns b).kids) no_terms) (sym (term-op ns b))
  appended-arrive nodes h Congruence up a b s =
      runs-arrive ns cs proof h (op_of ns a) no_terms refl (kids_of ns a) (kids_of ns b) (s refl).kids (one (term_of ns a))
      (ap (λ t. strip (one t)) (term_is ns nodes a))
      ∙ ap (λ o. strip (tree o unmarked (row (term_of ns) (kids_of ns b)) no_terms)) (s refl).ops
      ∙ ap (λ t. strip (one t)) (sym (term_is ns nodes b))
