-- What stands at a place of the words: a node, a term, a row of terms.
-- Assumes nothing.
use Rattle.std.specs.Prelude.{ℕ, zero, suc, ◌+◌, ◌≤◌, List, ◌++◌, Bool, true, false, ◌&&◌, ◌≡◌, Option, Some, None, length, get_or, drop, leb, eqb}
use Rattle.std.proofs.Math.Option.{Option as Maybe, none, some}
use Rattle.std.proofs.Math.Seq.{slice}
use Rattle.model.specs.Limits.{child_limit, flat_words}
use Rattle.model.specs.Term.{Mark, Terms, Term, count, one, stripped, Narrow, words, mark_of, same_op}
use Rattle.terms.specs.declared.TreeNode.{TreeNode}

-- the four words at a place
abbrev pub node_of : List ℕ → ℕ → TreeNode
node_of ws at = record {
  op = record { 0 = get_or ws at 0 };
  count = get_or ws (at + 1) 0;
  mark = get_or ws (at + 2) 0;
  rule = record { 0 = get_or ws (at + 3) 0 };
}

-- "count above 8, mark above 2, unmarked node with a rule": none of these
abbrev pub is_some : Maybe Mark → Bool
is_some none = false
is_some (some m) = true

abbrev pub ok_words : ℕ → ℕ → ℕ → Bool
ok_words c m r = leb c child_limit && is_some (mark_of m r)

abbrev pub ok_node : TreeNode → Bool
ok_node n = ok_words n.count n.mark n.rule.0

-- "operator and count agree"
abbrev pub same_head : TreeNode → ℕ → ℕ → Bool
same_head n o c = same_op n.op.0 o && eqb n.count c

-- the nodes at two places agree so; and so many from two places on
abbrev pub same_at : List ℕ → ℕ → ℕ → Bool
same_at ws i j = same_head (node_of ws i) (node_of ws j).op.0 (node_of ws j).count

unfoldable pub same_nodes : List ℕ → ℕ → ℕ → ℕ → Bool
same_nodes ws i j zero = true
same_nodes ws i j (suc n) = same_at ws i j && same_nodes ws (i + flat_words) (j + flat_words) n

-- the words from `at` up to e are those of the one term t
pub record TermAt (ws : List ℕ) (at e : ℕ) (t : Term) : Type 0 where
  pub narrow : Narrow (one t)
  pub within : e ≤ length ws
  pub spelled : slice at e ws ≡ words (one t)

-- the words from `at` on begin with those of the n terms f
pub record RowAt (ws : List ℕ) (at n : ℕ) (f : Terms) : Type 0 where
  pub narrow : Narrow f
  pub counted : count f ≡ n
  pub rest : List ℕ
  pub spelled : drop at ws ≡ words f ++ rest

-- some term stands at `at`; and it ends at e
pub record Well (ws : List ℕ) (at : ℕ) : Type 0 where
  pub end : ℕ
  pub term : Term
  pub is : TermAt ws at end term

pub record EndsAt (ws : List ℕ) (at e : ℕ) : Type 0 where
  pub term : Term
  pub is : TermAt ws at e term

-- where the term at `at` ends: at e, or nowhere, since there is none
abbrev pub EndIs : List ℕ → ℕ → Option ℕ → Type 0
EndIs ws at (Some e) = EndsAt ws at e
EndIs ws at None = (e : ℕ) (t : Term) → TermAt ws at e t → ⊥

-- r answers whether P holds
abbrev pub Decides : Bool → Type 0 → Type 0
Decides true P = P
Decides false P = P → ⊥

-- r says whether the terms at a and b are equal, their marks aside
abbrev pub SameIs : List ℕ → ℕ → ℕ → Bool → Type 0
SameIs ws a b r =
    (e e' : ℕ) (t u : Term) → TermAt ws a e t → TermAt ws b e' u → Decides r (stripped t ≡ stripped u)
