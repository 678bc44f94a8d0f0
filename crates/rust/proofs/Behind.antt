-- The older connections of a list, from some age on: what they say of a pair that they join, the whole list says.
use Prim.Native.Nat.{ℕ, zero, suc, ◌≤◌}
use mathlib.Core.Path.{◌≡◌, refl, sym, ap, ◌∙◌}
use mathlib.Core.Bool.{Bool}
use mathlib.Core.List.{List, ◌∷◌}
use native.Mathlib.Omega.{arith}
use lib.ListN.{length}
use Rattle.model.specs.declared.Connection.{Connection}
use Rattle.model.specs.Node.{Node}
use Rattle.model.specs.Forest.{root, walk, below, parent_of}
use Rattle.paths.specs.Hangs.{next_of, depth, Forest, AcceptedConnections}
use Rattle.paths.proofs.Laws.{root-old, parent-old, no-parent}
use Rattle.paths.proofs.Walks.{walk-old}
use Rattle.paths.proofs.Places.{Place, high, low, place, next-below}
use Rattle.paths.proofs.Ways.{climb_by}

pub data Behind (os : List Connection) : List Connection → Type 0 where
  all : Behind os os
  newer : {c : Connection} {cs : List Connection} → Behind os cs → Behind os (c ∷ cs)

pub older : {c : Connection} {os cs : List Connection} → Behind (c ∷ os) cs → Behind os cs
older all = newer all
older (newer b) = newer (older b)

pub behind_more : {os ps cs : List Connection} → Behind os ps → Behind ps cs → Behind os cs
behind_more b all = b
behind_more b (newer d) = newer (behind_more b d)

pub behind-length : {os cs : List Connection} → Behind os cs → length os ≤ length cs
behind-length all = omega arith
behind-length (newer b) = omega (arith, behind-length b)

pub accepted-behind : (ns : List Node) {os cs : List Connection} → Behind os cs → AcceptedConnections ns cs → AcceptedConnections ns os
accepted-behind ns all a = a
accepted-behind ns (newer b) a = accepted-behind ns b a.1

pub root-behind : {os cs : List Connection} (l r : ℕ) → Behind os cs → root os l ≡ root os r → root cs l ≡ root cs r
root-behind l r all p = p
root-behind l r (newer {c} {cs} b) p = root-old c cs l r (root-behind l r b p)

module _ {A : Type 0} (e : A) (◌·◌ : A → A → A) (step : List Connection → (ℕ → ℕ → A) → Connection → Bool → A) where
  pub walk-behind : {os cs : List Connection} (l r : ℕ) → Behind os cs → root os l ≡ root os r → walk e ◌·◌ step cs l r ≡ walk e ◌·◌ step os l r
  walk-behind l r all p = refl
  walk-behind l r (newer {c} {cs} b) p = walk-old e ◌·◌ step c cs l r (root-behind l r b p) ∙ walk-behind l r b p

-- a node that has a parent among the older connections keeps it
pub forest-behind : {os cs : List Connection} → Behind os cs → Forest cs → Forest os
forest-behind all f = f
forest-behind (newer b) f = forest-behind b f.1

pub parent-behind : {os cs : List Connection} → Behind os cs → Forest cs → (n : ℕ) {c : Connection} {o : List Connection} → parent_of os n ≡ below c o →
    parent_of cs n ≡ below c o
parent-behind all f n p = p
parent-behind (newer {c} {cs} b) f n p =
    let i = parent-behind b f.1 n p in
    parent-old c cs n (λ q. no-parent (sym f.0.free ∙ ap (parent_of cs) (sym q) ∙ i)) ∙ i

-- so a climb by the older ones is a climb by all
pub climb-behind : {os cs : List Connection} → Behind os cs → Forest cs → (i n : ℕ) → i ≤ depth os n → climb_by cs i n ≡ climb_by os i n
unfolding climb_by
climb-behind b f zero n h = refl
climb-behind {os} {cs} b f (suc i) n h = go (place os n (forest-behind b f)) (λ x q. climb-behind b f i x q)
  where
    go : Place os n → ((x : ℕ) → i ≤ depth os x → climb_by cs i x ≡ climb_by os i x) → climb_by cs (suc i) n ≡ climb_by os (suc i) n
    go (high p q) rec = absurd (omega arith)
    go (low c o p q t) rec =
        let e : next_of cs n ≡ next_of os n = next-below cs n (parent-behind b f n p) ∙ sym q in
        ap (climb_by cs i) e ∙ rec (next_of os n) (omega arith)
