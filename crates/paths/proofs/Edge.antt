-- A connection between two nodes is the first step from one of its ends, or from the other, to any node joined with them.
-- Nothing is said of parents, so it holds however they are turned.
use Prim.Native.Nat.{ℕ}
use mathlib.Core.Path.{◌≡◌, refl, sym, ap, ◌∙◌}
use mathlib.Core.Bool.{Bool, true, false}
use mathlib.Core.List.{List, ◌∷◌}
use mathlib.Core.Logic.{◌⊎◌, inl, inr, ⊎_elim}
use Rattle.model.specs.declared.Connection.{Connection}
use Rattle.model.specs.Forest.{cur, nxt, root, walk}
use Rattle.paths.specs.Hangs.{Loose}
use Rattle.paths.proofs.Laws.{root-old, root-hung, root_kept}
use Rattle.paths.proofs.Walks.{split, walk-old, walk_up, walk-down, walk-self}

-- a connection of a list, with the older ones
pub data In (c : Connection) (older : List Connection) : List Connection → Type 0 where
  here : In c older (c ∷ older)
  there : {d : Connection} {cs : List Connection} → In c older cs → In c older (d ∷ cs)

pub in-joined : {c : Connection} {older cs : List Connection} → Loose cs → In c older cs → root cs (cur c) ≡ root cs (nxt c)
in-joined {c} {older} f here = root-hung c older (cur c) refl ∙ sym (root_kept c older (nxt c) (λ q. f.0 (sym q)))
in-joined {c} f (there {d = d} {cs = cs} m) = root-old d cs (cur c) (nxt c) (in-joined f.1 m)

module _ {A : Type 0} (e : A) (◌·◌ : A → A → A) (step : List Connection → (ℕ → ℕ → A) → Connection → Bool → A)
    (assoc : (a b c : A) → ◌·◌ (◌·◌ a b) c ≡ ◌·◌ a (◌·◌ b c)) (unit-l : (a : A) → ◌·◌ e a ≡ a) where
  infixr 40 ◌·◌
  abbrev pub X : List Connection → ℕ → ℕ → A
  X = walk e ◌·◌ step

  -- a connection's step, and what is behind it
  abbrev over : List Connection → Connection → Bool → A → A
  over older c u x = step older (X older) c u · x

  pub record First (c : Connection) (older cs : List Connection) (r : ℕ) : Type 0 where
    pub up : X cs (cur c) r ≡ step older (X older) c true · X cs (nxt c) r

  pub record Last (c : Connection) (older cs : List Connection) (r : ℕ) : Type 0 where
    pub down : X cs (nxt c) r ≡ step older (X older) c false · X cs (cur c) r

  pub edge : {c : Connection} {older cs : List Connection} (r : ℕ) → Loose cs → In c older cs → root cs (cur c) ≡ root cs r →
      First c older cs r ⊎ Last c older cs r
  edge {c} {older} r f here j =
      ⊎_elim
      (λ q. inr (record {
        down = walk-down e ◌·◌ step c older (nxt c) r f.0 (record { left = refl; right = sym q })
            ∙ ap (λ x. x · over older c false (X older (cur c) r)) (walk-self e ◌·◌ step older (nxt c)) ∙ unit-l _
            ∙ ap (over older c false) (sym (walk-old e ◌·◌ step c older (cur c) r q));
      }))
      (⊎_elim
      (λ u. inl (record {
        up = walk_up e ◌·◌ step c older (cur c) r f.0 u
            ∙ ap (λ x. x · over older c true (X older (nxt c) r)) (walk-self e ◌·◌ step older (cur c)) ∙ unit-l _
            ∙ ap (over older c true) (sym (walk-old e ◌·◌ step c older (nxt c) r (sym u.right)));
      }))
      (λ u. absurd (f.0 u.left)))
      (split c older (cur c) r j)
  edge {c} {older} r f (there {d = d} {cs = cs} m) j =
      let b = in-joined f.1 m in
      ⊎_elim
      (λ q. ⊎_elim
      (λ k. inl (record { up = walk-old e ◌·◌ step d cs (cur c) r q ∙ k.up ∙ ap (over older c true) (sym (walk-old e ◌·◌ step d cs (nxt c) r (sym b ∙ q))) }))
      (λ k. inr (record { down = walk-old e ◌·◌ step d cs (nxt c) r (sym b ∙ q) ∙ k.down ∙ ap (over older c false) (sym (walk-old e ◌·◌ step d cs (cur c) r q)) }))
      (edge r f.1 m q))
      (⊎_elim
      (λ u.
      let a = walk_up e ◌·◌ step d cs (cur c) r f.0 u in
      let n = walk_up e ◌·◌ step d cs (nxt c) r f.0 (record { left = sym b ∙ u.left; right = u.right }) in
      ⊎_elim
      (λ k. inl (record { up = a ∙ ap (λ x. x · over cs d true (X cs (nxt d) r)) k.up ∙ assoc _ _ _ ∙ ap (over older c true) (sym n) }))
      (λ k. inr (record { down = n ∙ ap (λ x. x · over cs d true (X cs (nxt d) r)) k.down ∙ assoc _ _ _ ∙ ap (over older c false) (sym a) }))
      (edge (cur d) f.1 m u.left))
      (λ u.
      let a = walk-down e ◌·◌ step d cs (cur c) r f.0 u in
      let n = walk-down e ◌·◌ step d cs (nxt c) r f.0 (record { left = sym b ∙ u.left; right = u.right }) in
      ⊎_elim
      (λ k. inl (record { up = a ∙ ap (λ x. x · over cs d false (X cs (cur d) r)) k.up ∙ assoc _ _ _ ∙ ap (over older c true) (sym n) }))
      (λ k. inr (record { down = n ∙ ap (λ x. x · over cs d false (X cs (cur d) r)) k.down ∙ assoc _ _ _ ∙ ap (over older c false) (sym a) }))
      (edge (nxt d) f.1 m u.left)))
      (split d cs (cur c) r j)
