-- Where a node stands: at the top of its class, or below a parent.
use Prim.Native.Nat.{ℕ, suc}
use mathlib.Core.Path.{◌≡◌, refl, ◌∙◌}
use mathlib.Core.List.{List}
use Rattle.model.specs.declared.Connection.{Connection}
use Rattle.model.specs.Forest.{nxt, root, Parent, top, below, parent_of}
use Rattle.paths.specs.Hangs.{next_of, depth, Forest}
use Rattle.paths.proofs.Laws.{depth_below, depth-top, root-top}

-- a node at the top is its own root, and one below a parent is one deeper than that
pub data Place (cs : List Connection) (n : ℕ) : Type 0 where
  high : root cs n ≡ n → depth cs n ≡ 0 → Place cs n
  low : (c : Connection) (older : List Connection) → parent_of cs n ≡ below c older → next_of cs n ≡ nxt c →
      depth cs n ≡ suc (depth cs (next_of cs n)) → Place cs n

pub place : (cs : List Connection) (n : ℕ) → Forest cs → Place cs n
unfolding next_of
place cs n f = go (parent_of cs n) refl
  where
    go : (p : Parent) → parent_of cs n ≡ p → Place cs n
    go top q = high (root-top cs n f q) (depth-top cs n f q)
    go (below c o) q = low c o q (rw q) (depth_below cs n f q ∙ rw q)

pub next-below : (cs : List Connection) (n : ℕ) {c : Connection} {older : List Connection} → parent_of cs n ≡ below c older →
    next_of cs n ≡ nxt c
unfolding next_of
next-below cs n p = rw p

pub next-top : (cs : List Connection) (n : ℕ) → parent_of cs n ≡ top → next_of cs n ≡ n
unfolding next_of
next-top cs n p = rw p
