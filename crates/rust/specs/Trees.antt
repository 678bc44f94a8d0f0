-- The Rust on values: how src/explain.rs makes the tree of proofs between two nodes. Each definition has the name of its function there.
-- What its caches hold is what was made before for the same nodes, and is made anew here.
use Rattle.std.specs.Prelude.{ℕ, zero, suc, Bool, true, false, ◌&&◌, List, [], ◌∷◌, eqb, length}
use Rattle.std.proofs.Math.Option.{Option, none, some}
use Rattle.std.proofs.Math.ListN.{get_elem?}
use Rattle.model.specs.Node.{Node}
use Rattle.rust.specs.Panics.{◌>>=◌, ◌>>◌, assert}
use Rattle.rust.specs.Explain.{Justification, rule, congruence, Connection, Explain}
use Rattle.rust.specs.Paths.{get_path, walked}
use Rattle.rust.specs.Flatten.{Trees, no_trees, tree_term, Proofs, no_proofs, proof_of}

-- struct TreeTerm
pub record TreeTerm : Type 0 where
  pub op : ℕ
  pub backward : Option ℕ
  pub forward : Option ℕ
  pub child_proofs : Proofs

abbrev pub before : TreeTerm → Trees → Trees
before t ts = tree_term t.op t.backward t.forward t.child_proofs ts

-- fn node_to_explanation: each child's proof is the child alone
unfoldable pub child_explanations : (ℕ → Option TreeTerm) → List ℕ → Option Proofs
child_explanations explanation [] = some no_proofs
child_explanations explanation (child ∷ children) = do
  t ← explanation child
  rest ← child_explanations explanation children
  some (proof_of (before t no_trees) rest)

unfoldable pub node_to_explanation : ℕ → List Node → ℕ → Option TreeTerm
unfolding child_explanations
node_to_explanation zero ns node = none
node_to_explanation (suc rounds) ns node = do
  x ← get_elem? ns node
  children ← child_explanations (node_to_explanation rounds ns) x.kids
  some (record { op = x.op; backward = none; forward = none; child_proofs = children })

-- `matches`: the same operator, and as many children
abbrev pub matches : Node → Node → Bool
matches a b = eqb a.op b.op && eqb (length a.kids) (length b.kids)

-- fn explain_adjacent: `zip` of the children, each explained
unfoldable pub subproofs : (ℕ → ℕ → Option Trees) → List ℕ → List ℕ → Option Proofs
subproofs enodes [] rights = some no_proofs
subproofs enodes (left ∷ lefts) [] = some no_proofs
subproofs enodes (left ∷ lefts) (right ∷ rights) = do
  p ← enodes left right
  rest ← subproofs enodes lefts rights
  some (proof_of p rest)

abbrev pub marked : Bool → ℕ → TreeTerm → TreeTerm
marked true name t = record { op = t.op; backward = t.backward; forward = some name; child_proofs = t.child_proofs }
marked false name t = record { op = t.op; backward = some name; forward = t.forward; child_proofs = t.child_proofs }

abbrev pub explain_by : (ℕ → ℕ → Option Trees) → ℕ → List Node → Justification → Bool → ℕ → ℕ → Option TreeTerm
explain_by enodes rounds ns (rule name) forward current next = do
  rewritten ← node_to_explanation rounds ns next
  some (marked forward name rewritten)
explain_by enodes rounds ns congruence forward current next = do
  a ← get_elem? ns current
  b ← get_elem? ns next
  assert (matches a b)
  ps ← subproofs enodes a.kids b.kids
  some (record { op = a.op; backward = none; forward = none; child_proofs = ps })

abbrev pub explain_adjacent : (ℕ → ℕ → Option Trees) → ℕ → List Node → Connection → Option TreeTerm
explain_adjacent enodes rounds ns c = explain_by enodes rounds ns c.justification c.forward c.current c.next

-- fn explain_enodes, its loop
unfoldable pub explain_all : (Connection → Option TreeTerm) → List Connection → Option Trees
explain_all adjacent [] = some no_trees
explain_all adjacent (c ∷ cs) = do
  t ← adjacent c
  rest ← explain_all adjacent cs
  some (before t rest)

unfoldable pub explain_enodes : ℕ → ℕ → List Node → Explain → ℕ → ℕ → Option Trees
unfolding node_to_explanation subproofs explain_all get_path
explain_enodes zero rounds ns e left right = none
explain_enodes (suc nesting) rounds ns e left right = do
  t ← node_to_explanation rounds ns left
  p ← get_path rounds e [] left right
  ts ← explain_all (explain_adjacent (explain_enodes nesting rounds ns e) rounds ns) (walked p)
  some (before t ts)
