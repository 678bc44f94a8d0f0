-- Two walks over the same connections, related step by step.
use Prim.Native.Nat.{ℕ}
use mathlib.Core.Path.{◌≡◌, refl}
use mathlib.Core.Bool.{Bool, true, false}
use mathlib.Core.List.{List, [], ◌∷◌}
use Rattle.model.specs.declared.Connection.{Connection}
use Rattle.model.specs.Forest.{cur, nxt, joined, walk}

module _ {A B : Type 0} (a : A) (◌·◌ : A → A → A) (f : List Connection → (ℕ → ℕ → A) → Connection → Bool → A)
    (b : B) (◌∘◌ : B → B → B) (g : List Connection → (ℕ → ℕ → B) → Connection → Bool → B)
    (R : A → B → Type 0) (unit : R a b) (two : (x x' : A) (y y' : B) → R x y → R x' y' → R (◌·◌ x x') (◌∘◌ y y')) where
  abbrev F : List Connection → ℕ → ℕ → A
  F = walk a ◌·◌ f

  abbrev G : List Connection → ℕ → ℕ → B
  G = walk b ◌∘◌ g

  -- each connection's own step is related
  abbrev pub Steps : List Connection → Type 0
  Steps [] = Unit {0}
  Steps (c ∷ cs) = ((u : Bool) → R (f cs (F cs) c u) (g cs (G cs) c u)) × Steps cs

  one_more : (c : Connection) (cs : List Connection) (l r : ℕ) → ((u : Bool) → R (f cs (F cs) c u) (g cs (G cs) c u)) →
      ((x y : ℕ) → R (F cs x y) (G cs x y)) → R (F (c ∷ cs) l r) (G (c ∷ cs) l r)
  unfolding walk
  one_more c cs l r s h = go (joined cs l r) refl (joined cs l (cur c)) refl
    where
      go : (t : Bool) → joined cs l r ≡ t → (t' : Bool) → joined cs l (cur c) ≡ t' → R (F (c ∷ cs) l r) (G (c ∷ cs) l r)
      go true p t' q = rw (p, walk) (h l r)
      go false p true q = rw (p, walk) (rw (q, walk) (two _ _ _ _ (h l (cur c)) (two _ _ _ _ (s true) (h (nxt c) r))))
      go false p false q = rw (p, walk) (rw (q, walk) (two _ _ _ _ (h l (nxt c)) (two _ _ _ _ (s false) (h (cur c) r))))

  pub related : (cs : List Connection) (l r : ℕ) → Steps cs → R (F cs l r) (G cs l r)
  unfolding walk
  related [] l r s = unit
  related (c ∷ cs) l r s = one_more c cs l r s.0 (λ x y. related cs x y s.1)
