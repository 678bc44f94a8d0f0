-- Where two climbs meet.
use Rattle.std.specs.Prelude.{ℕ, Bool, true, false, cond, List, Option, Some, None}
use Rattle.model.specs.declared.Connection.{Connection}
use Rattle.model.specs.Forest.{nxt, joined, walk}
use Rattle.model.specs.declared.NodeNo.{NodeNo}

-- the last node of a list of nodes that may be empty; behind each other, the later one counts
pub data Last : Type 0 where
  none : Last
  at : ℕ → Last

abbrev pub last : Last → Last → Last
last a none = a
last a (at n) = at n

abbrev pub or_else : ℕ → Last → ℕ
or_else n none = n
or_else n (at m) = m

-- a step up leads to next
abbrev pub last_up : Connection → Bool → Last
last_up c true = at (nxt c)
last_up c false = none

-- the top of the way between two joined nodes: where its last step up leads, or the left node where it has none
unfoldable pub top_of : List Connection → ℕ → ℕ → ℕ
unfolding walk
top_of cs l r = or_else l (walk none last (λ _ _. last_up) cs l r)

-- "Both ends climb by parent connections until they meet"
unfoldable pub meet_of : List Connection → ℕ → ℕ → Option NodeNo
unfolding joined top_of
meet_of cs l r = cond (joined cs l r) (Some (record { 0 = top_of cs l r })) None
