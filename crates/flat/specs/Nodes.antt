-- What accepted node tables are.
use Rattle.std.specs.Prelude.{ℕ, ◌≤◌, true, List, ◌≡◌, length}
use Rattle.model.specs.Limits.{child_limit}
use Rattle.model.specs.Node.{Node, kids_of, all_below}

-- "a node has an operator and 0 to 8 children, each a lower number than its own"
pub record AcceptedNodes (ns : List Node) : Type 0 where
  pub below : (n : ℕ) → all_below n (kids_of ns n) ≡ true
  pub few : (n : ℕ) → length (kids_of ns n) ≤ child_limit
