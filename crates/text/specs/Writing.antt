-- The text of one term as it is written, by a stack of brackets: for each that is open, how many of its terms are still to come.
-- The stack stands at the end of the room, where the closing brackets will stand, its top first.
use Rattle.std.specs.Prelude.{ℕ, zero, suc, ◌-◌, ◌≤◌, ◌<◌, ◌≡◌, List, [], ◌∷◌, ◌++◌, length, take, drop, replicate}
use Rattle.model.specs.Text.{bytes}
use Rattle.text.specs.Nodes.{head, opened}

-- the closing bracket
abbrev pub closing : ℕ
closing = 41

-- brackets with no term to come are closed: what this writes, and the stack that it leaves
unfoldable pub shut : List ℕ → List ℕ
shut [] = []
shut (zero ∷ st) = closing ∷ shut st
shut (suc n ∷ st) = []

unfoldable pub left : List ℕ → List ℕ
left [] = []
left (zero ∷ st) = left st
left (suc n ∷ st) = suc n ∷ st

-- a term inside a bracket has a space before it, and is no longer to come
abbrev pub space : List ℕ → List ℕ
space [] = []
space (n ∷ st) = bytes " "

abbrev pub less : List ℕ → List ℕ
less [] = []
less (n ∷ st) = (n - 1) ∷ st

-- the innermost bracket, if one is open, has a term to come
abbrev pub Ready : List ℕ → Type 0
Ready [] = Unit {0}
Ready (n ∷ st) = 0 < n

-- what is still to be written: for these words left, and this stack
unfoldable pub emit : List ℕ → List ℕ → List ℕ
unfolding shut left bytes head
emit [] st = replicate (length st) closing
emit (o ∷ []) st = replicate (length st) closing
emit (o ∷ c ∷ []) st = replicate (length st) closing
emit (o ∷ c ∷ m ∷ []) st = replicate (length st) closing
emit (o ∷ c ∷ m ∷ r ∷ ws) st =
    shut st ++ (space (left st) ++ (head o c m r ++ emit ws (opened c m (less (left st)))))

-- a room with these bytes before one place, and this stack from another on
pub record Holds (room : List ℕ) (at top : ℕ) (w st : List ℕ) : Type 0 where
  pub front : take at room ≡ w
  pub stack : drop top room ≡ st
  pub apart : at ≤ top
  pub inside : top ≤ length room
