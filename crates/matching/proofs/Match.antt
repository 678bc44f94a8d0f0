-- What a row of patterns says of every substitution, item by item.
-- Assumes nothing.
use Prim.Native.Nat.{ℕ, zero, suc, ◌+◌, ◌-◌}
use mathlib.Core.List.{List}
use mathlib.Core.Path.{◌≡◌, refl}
use native.Mathlib.Omega.{arith}
use Rattle.model.specs.Tables.{item_words}
use Rattle.model.specs.declared.Bindings.{Bindings}
use Rattle.model.specs.Term.{Terms, no_terms, tree, count, strip}
use Rattle.model.specs.Pattern.{Patterns, no_patterns, var, app, count_p, inst}
use Rattle.std.specs.Prelude.{Option, Some, None}
use Rattle.matching.specs.declared.ItemFit.{ItemFit}
use Rattle.matching.specs.Match.{Valid, Rows, SomeRows, ItemMeans, ItemIs, MatchBy, MatchIs}

-- nothing left to match
pub match_none : (ps : List ℕ) (item n : ℕ) (ws : List ℕ) (at : ℕ) (b : Bindings) → Valid ws b → n ≡ 0
    → MatchIs ps item n ws at b (Some b)
unfolding count_p count strip inst
match_none ps item n ws at b v z no_patterns no_terms hp hf =
    record { valid = v; same = λ σ. (λ a. record { agrees = a; makes = refl }, λ w. w.agrees) }
match_none ps item n ws at b v z no_patterns (tree o m k s) hp hf = absurd (omega (arith, hf.counted))
match_none ps item n ws at b v z (var x s) f hp hf = absurd (omega (arith, hp.counted))
match_none ps item n ws at b v z (app o k s) f hp hf = absurd (omega (arith, hp.counted))

pub some-rows : (ps : List ℕ) (item n : ℕ) (ws : List ℕ) (at : ℕ) → Rows ps item n ws at → (n ≡ 0 → ⊥) → SomeRows ps item ws at
some-rows ps item zero ws at r z = absurd (z refl)
some-rows ps item (suc n) ws at r z = record { left = n; rows = r }

-- an item that fails
pub step-off : (ps : List ℕ) (item : ℕ) (ws : List ℕ) (at : ℕ) (b : Bindings) → ItemIs ps item ws at b None
    → (n : ℕ) → (n ≡ 0 → ⊥) → MatchIs ps item n ws at b None
step-off ps item ws at b d zero z q f hp hf = absurd (z refl)
step-off ps item ws at b d (suc n) z q f hp hf = d n q f hp hf

-- an item that is met
module _ (ps : List ℕ) (item : ℕ) (ws : List ℕ) (at : ℕ) (b : Bindings) (s : ItemFit) (d : ItemIs ps item ws at b (Some s)) where
  -- what is left to match then
  pub record Next (n : ℕ) : Type 0 where
    pub valid : Valid ws s.bound
    pub rows : Rows ps (item + item_words) (n - 1 + s.more) ws s.at

  pub next-rows : (n : ℕ) → (n ≡ 0 → ⊥) → Rows ps item n ws at → Next n
  next-rows zero z r = absurd (z refl)
  next-rows (suc n) z r =
      let g = d n r.patterns r.terms r.is_p r.is_t in
      let m : suc n - 1 + s.more ≡ s.more + n = omega arith in
      record { valid = g.valid; rows = rw m g.rows }

  behind : (n : ℕ) (q : Patterns) (f : Terms) (g : ItemMeans ps item ws b s n q f) (r : Option Bindings)
      → MatchBy r ws s.bound g.rows.patterns g.rows.terms → MatchBy r ws b q f
  behind n q f g (Some b') m =
      record { valid = m.valid; same = λ σ. (λ a. (g.same σ).0 ((m.same σ).0 a), λ w. (m.same σ).1 ((g.same σ).1 w)) }
  behind n q f g None m = λ σ w. m σ ((g.same σ).1 w)

  pub next-match : (n : ℕ) → (n ≡ 0 → ⊥) → (r : Option Bindings)
      → MatchIs ps (item + item_words) (n - 1 + s.more) ws s.at s.bound r → MatchIs ps item n ws at b r
  next-match zero z r m q f hp hf = absurd (z refl)
  next-match (suc n) z r m q f hp hf =
      let g = d n q f hp hf in
      let k : s.more + n ≡ suc n - 1 + s.more = omega arith in
      behind n q f g r (m g.rows.patterns g.rows.terms (rw k at g.rows.is_p) (rw k at g.rows.is_t))
