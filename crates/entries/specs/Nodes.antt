-- A table of nodes, as words. What stands in a table is read without a test here: judging has tested it.
use Rattle.std.specs.Prelude.{ℕ, zero, suc, ◌*◌, ◌+◌, ◌/◌, ◌<◌, ◌≤◌, List, [], ◌++◌, ◌∷◌, ◌≡◌, get_or, length}
use Rattle.model.specs.Judged.{Judged, good}
use Rattle.model.specs.Limits.{child_limit, node_limit}
use Rattle.model.specs.Node.{Node, add_node}
use Rattle.model.specs.Tables.{entries, node_at, node_entry, node_table, words_from, node_words, count_at, children_at}

-- the first k nodes of a table
unfoldable pub first_nodes : ℕ → List ℕ → List Node
unfolding node_at
first_nodes zero ws = []
first_nodes (suc k) ws = first_nodes k ws ++ (node_at ws k ∷ [])

-- the nodes of a table that holds nothing else
abbrev pub nodes_of : List ℕ → List Node
nodes_of ws = first_nodes (length ws / node_words) ws

-- how many children a node of the table has, and which
abbrev pub count_in : List ℕ → ℕ → ℕ
count_in ws n = get_or ws (n * node_words + count_at) 0

abbrev pub child_in : List ℕ → ℕ → ℕ → ℕ
child_in ws n i = get_or ws (n * node_words + children_at + i) 0

abbrev pub children_in : List ℕ → ℕ → List ℕ
children_in ws n = words_from ws (n * node_words + children_at) (count_in ws n)

-- n nodes stand at the front of a table: what accepted nodes satisfy
pub record NodesStand (ws : List ℕ) (n : ℕ) : Type 0 where
  pub few : n ≤ node_limit
  pub room : n * node_words ≤ length ws
  pub narrow : (a : ℕ) → a < n → count_in ws a ≤ child_limit
  pub lower : (a i : ℕ) → a < n → i < count_in ws a → child_in ws a i < a

abbrev pub nodes_to : List ℕ → ℕ → Judged (List Node)
nodes_to ws k = entries add_node (node_entry ws) [] k

-- a node of a table by itself: its words are there, and its children are nodes
pub record KnownIn (ws : List ℕ) (a : ℕ) : Type 0 where
  pub small : a < node_limit
  pub room : a * node_words + node_words ≤ length ws
  pub narrow : count_in ws a ≤ child_limit
  pub children : (i : ℕ) → i < count_in ws a → child_in ws a i < node_limit

-- a table of nodes that was accepted
pub record NodesWhole (ws : List ℕ) : Type 0 where
  pub stand : NodesStand ws (length ws / node_words)
  pub is : node_table ws ≡ good (nodes_of ws)
