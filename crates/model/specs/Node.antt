-- The node table, how its entries are judged (2, 3, 4), and the term of a node.
use Rattle.std.specs.Prelude.{ℕ, zero, suc, List, [], ◌∷◌, ◌++◌, Bool, true, not, ◌&&◌, leb, ltb, length, get_or}
use Rattle.std.proofs.Math.Option.{Option, none, some}
use Rattle.model.specs.declared.Refusal.TheVariants.{NoEntry, TableFull, ChildNotBelow}
use Rattle.model.specs.Limits.{node_limit}
use Rattle.model.specs.Judged.{Judged, good, bad, refuse_if}
use Rattle.model.specs.Term.{unmarked, Terms, no_terms, Term, put}

-- "a node has an operator and 0 to 8 children". "Nodes count from 0 in order": the table's first entry is node 0.
pub record Node : Type 0 where
  pub op : ℕ
  pub kids : List ℕ

abbrev pub no_node : Node
no_node = record { op = 0; kids = [] }

abbrev pub node_of : List Node → ℕ → Node
node_of ns n = get_or ns n no_node

abbrev pub op_of : List Node → ℕ → ℕ
op_of ns n = (node_of ns n).op

abbrev pub kids_of : List Node → ℕ → List ℕ
kids_of ns n = (node_of ns n).kids

-- "child not below its node"
unfoldable pub all_below : ℕ → List ℕ → Bool
all_below n [] = true
all_below n (k ∷ ks) = ltb k n && all_below n ks

-- An entry that is not there is one of wrong length or with a field outside its set: 2. Then "node 2,049" is 3, and 4.
unfoldable pub add_node : List Node → Option Node → Judged (List Node)
unfolding all_below
add_node ns none = bad NoEntry
add_node ns (some x) =
    refuse_if (leb node_limit (length ns)) TableFull
    (refuse_if (not (all_below (length ns) x.kids)) ChildNotBelow
    (good (ns ++ (x ∷ []))))

-- "Its term is the tree read through its children": these have lower numbers, so that n + 1 levels are enough for node n
unfoldable pub row : (ℕ → Term) → List ℕ → Terms
row f [] = no_terms
row f (n ∷ ns) = put (f n) (row f ns)

unfoldable pub term_by : List Node → ℕ → ℕ → Term
unfolding row
term_by ns zero n = record { op = op_of ns n; mark = unmarked; kids = no_terms }
term_by ns (suc d) n = record { op = op_of ns n; mark = unmarked; kids = row (term_by ns d) (kids_of ns n) }

unfoldable pub term_of : List Node → ℕ → Term
unfolding term_by
term_of ns n = term_by ns n n
