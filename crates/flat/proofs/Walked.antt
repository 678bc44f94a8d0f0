-- What holds of what each connection gives holds of the whole way between two joined nodes. The law is for two walks at once,
-- so that one can be measured by the other; the relation R may speak of the two nodes. K is what is known of the connections.
use Prim.Native.Nat.{ℕ}
use mathlib.Core.Path.{◌≡◌, sym}
use mathlib.Core.Bool.{Bool, true, false}
use mathlib.Core.List.{List, [], ◌∷◌}
use mathlib.Core.Logic.{⊎_elim}
use Rattle.model.specs.declared.Connection.{Connection}
use Rattle.model.specs.Forest.{cur, nxt, root, walk}
use Rattle.paths.specs.Hangs.{Loose}
use Rattle.paths.proofs.Walks.{split, walk-old, walk_up, walk-down}

module _ {A B : Type 0} (a : A) (◌·◌ : A → A → A) (f : List Connection → (ℕ → ℕ → A) → Connection → Bool → A)
    (b : B) (◌∘◌ : B → B → B) (g : List Connection → (ℕ → ℕ → B) → Connection → Bool → B)
    (R : ℕ → ℕ → A → B → Type 0) (none : (n : ℕ) → R n n a b)
    (two : (l m r : ℕ) (x x' : A) (y y' : B) → R l m x y → R m r x' y' → R l r (◌·◌ x x') (◌∘◌ y y'))
    (K : List Connection → Type 0) (older : (c : Connection) (cs : List Connection) → K (c ∷ cs) → K cs)
    (loose : (cs : List Connection) → K cs → Loose cs) where
  abbrev F : List Connection → ℕ → ℕ → A
  F = walk a ◌·◌ f

  abbrev G : List Connection → ℕ → ℕ → B
  G = walk b ◌∘◌ g

  -- it holds between joined nodes
  abbrev pub Between : List Connection → Type 0
  Between cs = (l r : ℕ) → root cs l ≡ root cs r → R l r (F cs l r) (G cs l r)

  -- it holds of what a connection gives, walked up and down, if it holds between the nodes that older ones join
  module _
      (up : (c : Connection) (cs : List Connection) → K (c ∷ cs) → Between cs →
      R (cur c) (nxt c) (f cs (F cs) c true) (g cs (G cs) c true))
      (down : (c : Connection) (cs : List Connection) → K (c ∷ cs) → Between cs →
      R (nxt c) (cur c) (f cs (F cs) c false) (g cs (G cs) c false)) where
    pub walked : (cs : List Connection) → K cs → Between cs
    unfolding walk root
    walked [] k l r j = rw j (none r)
    walked (c ∷ cs) k l r j =
        let known = walked cs (older c cs k) in
        let apart = (loose (c ∷ cs) k).0 in
        ⊎_elim
        (λ q. rw (walk-old a ◌·◌ f c cs l r q, walk-old b ◌∘◌ g c cs l r q) (known l r q))
        (⊎_elim
        (λ u. rw (walk_up a ◌·◌ f c cs l r apart u, walk_up b ◌∘◌ g c cs l r apart u)
        (two l (cur c) r _ _ _ _ (known l (cur c) u.left)
        (two (cur c) (nxt c) r _ _ _ _ (up c cs k known) (known (nxt c) r (sym u.right)))))
        (λ u. rw (walk-down a ◌·◌ f c cs l r apart u, walk-down b ◌∘◌ g c cs l r apart u)
        (two l (nxt c) r _ _ _ _ (known l (nxt c) u.left)
        (two (nxt c) (cur c) r _ _ _ _ (down c cs k known) (known (cur c) r (sym u.right))))))
        (split c cs l r j)
