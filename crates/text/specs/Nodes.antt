-- What each node of a text writes: what stands before its children, and how many bytes it has with the brackets that it closes.
use Rattle.std.specs.Prelude.{ℕ, zero, suc, ◌+◌, ◌≤◌, Bool, true, false, List, [], ◌∷◌, ◌++◌, ltb, length, Option, Some, None}
use Rattle.model.specs.declared.Direction.TheVariants.{Forward, Backward}
use Rattle.model.specs.Limits.{child_limit}
use Rattle.model.specs.Text.{bytes, digits, mark_name}
use Rattle.terms.specs.declared.TreeNode.{TreeNode}

-- "(Rewrite=> r7 ": a mark's name with its rule, and so what stands before a node by its mark's word
abbrev pub mark_by : List ℕ → ℕ → List ℕ
mark_by name r = bytes "(" ++ (name ++ (bytes " r" ++ (digits r ++ bytes " ")))

abbrev pub mark_head : ℕ → ℕ → List ℕ
mark_head zero r = []
mark_head (suc zero) r = mark_by (mark_name Forward) r
mark_head (suc (suc m)) r = mark_by (mark_name Backward) r

-- the bracket of a node with children
abbrev pub bracket : ℕ → List ℕ
bracket zero = []
bracket (suc c) = bytes "("

-- the operator
abbrev pub operator : ℕ → List ℕ
operator o = bytes "o" ++ digits o

unfoldable pub head : ℕ → ℕ → ℕ → ℕ → List ℕ
head o c m r = mark_head m r ++ (bracket c ++ operator o)

abbrev pub head_of : TreeNode → List ℕ
head_of n = head n.op.0 n.count n.mark n.rule.0

-- where a bracket was opened, how many terms are to come before it closes; and so for a node's two, the inner one first
abbrev pub pushed : ℕ → ℕ → List ℕ
pushed zero n = []
pushed (suc k) n = n ∷ []

abbrev pub opened : ℕ → ℕ → List ℕ → List ℕ
opened c m st = pushed c c ++ (pushed m 0 ++ st)

-- how many bytes a node has, the space before it aside; and the nodes of words, with s bytes before the first and a space before each other
unfoldable pub node_len : ℕ → ℕ → ℕ → ℕ → ℕ
unfolding head
node_len o c m r = length (head o c m r) + length (opened c m [])

unfoldable pub text_len : ℕ → List ℕ → ℕ
unfolding node_len
text_len s [] = 0
text_len s (o ∷ []) = 0
text_len s (o ∷ c ∷ []) = 0
text_len s (o ∷ c ∷ m ∷ []) = 0
text_len s (o ∷ c ∷ m ∷ r ∷ ws) = s + node_len o c m r + text_len 1 ws

-- so many bytes, if they are within a limit
abbrev pub fit_by : Bool → ℕ → Option ℕ
fit_by true n = None
fit_by false n = Some n

abbrev pub fit_of : ℕ → ℕ → Option ℕ
fit_of n limit = fit_by (ltb limit n) n

-- whole nodes with no more children than a node may have
unfoldable pub Fine : List ℕ → Type 0
Fine [] = Unit {0}
Fine (o ∷ []) = ⊥
Fine (o ∷ c ∷ []) = ⊥
Fine (o ∷ c ∷ m ∷ []) = ⊥
Fine (o ∷ c ∷ m ∷ r ∷ ws) = (c ≤ child_limit) × Fine ws
