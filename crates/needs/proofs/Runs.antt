-- The runs of a congruence's children: what the loop over the pairs keeps.
use Prim.Native.Nat.{ℕ, suc, ◌+◌, ◌*◌, ◌≤◌, ◌<◌}
use mathlib.Core.Path.{◌≡◌, refl, sym, ap, ap₂, ◌∙◌}
use mathlib.Core.List.{List}
use native.Mathlib.Nat.{min-le_left}
use native.Mathlib.Omega.{arith}
use lib.ListN.{get_or}
use Rattle.model.specs.declared.Direction.{Direction}
use Rattle.model.specs.declared.RuleNo.{RuleNo}
use Rattle.model.specs.declared.Justification.{Justification}
use Rattle.model.specs.declared.Justification.TheVariants.{Rule as by_rule, Congruence}
use Rattle.model.specs.Tables.{words_from}
use Rattle.model.specs.Flat.{sum}
use Rattle.entries.specs.Nodes.{children_in}
use Rattle.entries.proofs.Children.{left, left-all, left-next, left-none}
use Rattle.trees.specs.Sizes.{held_nodes, node_cap, table_bound}
use Rattle.needs.specs.Needs.{Appends, appended_by, runs_by}
use Rattle.needs.proofs.Held.{Same, same-held, same-plus, same-times}

-- the first i pairs are counted, and the nodes that are held before the next child
pub record Runs (size : ℕ → ℕ) (cost need : ℕ → ℕ → ℕ) (ws : List ℕ) (a b n i before so_far : ℕ) : Type 0 where
  pub some : i ≤ n
  pub small : so_far ≤ node_cap
  pub low : before ≤ suc (i * table_bound)
  pub total : Same (so_far + runs_by size cost need before (left ws a n i) (left ws b n i))
      (runs_by size cost need 1 (words_from ws a n) (words_from ws b n))

pub runs_none : (size : ℕ → ℕ) (cost need : ℕ → ℕ → ℕ) (ws : List ℕ) (a b n : ℕ) → Runs size cost need ws a b n 0 1 0
runs_none size cost need ws a b n =
    record {
      some = omega arith;
      small = omega arith;
      low = omega arith;
      total = omega (arith, ap₂ (runs_by size cost need 1) (left-all ws a n) (left-all ws b n));
    }

module _ {size : ℕ → ℕ} {cost need : ℕ → ℕ → ℕ} {ws : List ℕ} {a b n i before so_far : ℕ}
    (r : Runs size cost need ws a b n i before so_far) where
  abbrev x : ℕ
  x = get_or ws (a + i) 0

  abbrev y : ℕ
  y = get_or ws (b + i) 0

  first_run : (around : ℕ) → i < n → around ≡ before + sum size (left ws a n (i + 1)) →
      runs_by size cost need before (left ws a n i) (left ws b n i) ≡
      need x y + cost x y * around + runs_by size cost need (before + size y) (left ws a n (i + 1)) (left ws b n (i + 1))
  unfolding runs_by
  first_run around h e =
      ap₂ (runs_by size cost need before) (left-next ws a n i h) (left-next ws b n i h)
      ∙ ap (λ (k : ℕ). need x y + cost x y * k + runs_by size cost need (before + size y) (left ws a n (i + 1)) (left ws b n (i + 1))) (sym e)

  -- another pair: its own later terms, and for each of them what is held around the child
  pub runs-next : (d m around s new : ℕ) → i < n → d ≡ held_nodes (cost x y) → m ≡ held_nodes (need x y) →
      around ≡ before + sum size (left ws a n (i + 1)) → s ≡ size y → s < table_bound → new ≡ held_nodes (so_far + m + d * around) →
      Runs size cost need ws a b n (i + 1) (before + s) new
  runs-next d m around s new h p q e t g v =
      let rest = runs_by size cost need (before + s) (left ws a n (i + 1)) (left ws b n (i + 1)) in
      let this : Same (so_far + m + d * around) (so_far + need x y + cost x y * around) =
      same-plus (so_far + m) (so_far + need x y) (d * around) (cost x y * around)
      (same-plus so_far so_far m (need x y) refl (ap held_nodes q ∙ same-held (need x y)))
      (same-times d (cost x y) around around (ap held_nodes p ∙ same-held (cost x y)) refl) in
      let sums : so_far + need x y + cost x y * around + rest ≡ so_far + runs_by size cost need before (left ws a n i) (left ws b n i) =
      omega (
        arith,
        first_run around h e,
        ap (λ (k : ℕ). runs_by size cost need (before + k) (left ws a n (i + 1)) (left ws b n (i + 1))) t,
      ) in
      record {
        some = omega arith;
        small = rw v (min-le_left node_cap (so_far + m + d * around));
        low = next_low;
        total = same-plus new (so_far + need x y + cost x y * around) rest rest
            (ap held_nodes v ∙ same-held (so_far + m + d * around) ∙ this) refl
            ∙ ap held_nodes sums
            ∙ r.total;
      }
    where
      next_low : before + s ≤ suc ((i + 1) * table_bound)
      next_low = omega (arith, r.low, g)

  pub runs_done : n ≤ i → so_far ≡ held_nodes (runs_by size cost need 1 (words_from ws a n) (words_from ws b n))
  unfolding runs_by
  runs_done h = omega (arith, ap₂ (runs_by size cost need before) (left-none ws a n i h) (left-none ws b n i h), r.total, r.small)

-- what a connection appends, by its justification
module _ (size : ℕ → ℕ) (cost need : ℕ → ℕ → ℕ) (nodes : List ℕ) (why : Justification) (a b paid : ℕ) (r : ℕ) (z : paid ≡ 0 → ⊥) where
  pub by-rule : {n : RuleNo} {d : Direction} → why ≡ by_rule n d → r ≡ size b → r ≤ node_cap → Appends paid (appended_by size cost need nodes why a b) r
  unfolding appended_by
  by-rule w e h = rw w record { small = h; free = λ q. absurd (z q); exact = λ p l. omega arith }

  pub by_runs : why ≡ Congruence → r ≡ held_nodes (runs_by size cost need 1 (children_in nodes a) (children_in nodes b)) →
      Appends paid (appended_by size cost need nodes why a b) r
  unfolding appended_by
  by_runs w e = rw w record { small = omega arith; free = λ q. absurd (z q); exact = λ p l. e }
