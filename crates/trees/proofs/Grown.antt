-- The loop that writes a node's tree, over a table of nodes: the root is written, and the children's trees one after the other.
use Prim.Native.Nat.{ℕ, ◌+◌, ◌*◌, ◌/◌, ◌≤◌, ◌<◌}
use native.Mathlib.Omega.{arith}
use mathlib.Core.Path.{◌≡◌, sym, ap, subst, ◌∙◌}
use mathlib.Core.List.{List, ◌∷◌}
use lib.ListN.{length}
use Rattle.model.specs.Limits.{flat_words}
use Rattle.model.specs.Tables.{node_words, children_at}
use Rattle.model.specs.Term.{one, words}
use Rattle.model.specs.Node.{row, term_of}
use Rattle.model.specs.Flat.{size_of}
use Rattle.entries.specs.Nodes.{nodes_of, NodesWhole, count_in, child_in, children_in}
use Rattle.entries.proofs.Children.{left, left-all, left-next, left-none}
use Rattle.laws.specs.Area.{splice}
use Rattle.trees.specs.Area.{root_in}
use Rattle.laws.proofs.Area.{splice-more}
use Rattle.trees.proofs.Planted.{Planted, planted-none, planted-length, planted-room, planted-more, planted-all, term-spelled, term-long}

-- where a node's children stand in the table, and those from the i-th on
abbrev base : ℕ → ℕ
base n = n * node_words + children_at

abbrev still : List ℕ → ℕ → ℕ → List ℕ
still nodes n i = left nodes (base n) (count_in nodes n) i

-- the trees of the first i children stand behind the root
pub record Grown (nodes : List ℕ) (n : ℕ) (old : List ℕ) (at : ℕ) (new : List ℕ) (end i : ℕ) : Type 0 where
  pub planted : Planted (nodes_of nodes) (children_in nodes n) (still nodes n i) old (at + flat_words) new end

pub grown-none : (nodes : List ℕ) (n : ℕ) (old : List ℕ) (at : ℕ) → Grown nodes n old at old (at + flat_words) 0
grown-none nodes n old at =
    record {
      planted = subst (λ (l : List ℕ). Planted (nodes_of nodes) (children_in nodes n) l old (at + flat_words) old (at + flat_words))
          (sym (left-all nodes (base n) (count_in nodes n)))
          (planted-none (nodes_of nodes) (children_in nodes n) old (at + flat_words));
    }

module _ {nodes : List ℕ} (good : NodesWhole nodes) {n : ℕ} (here : n < length nodes / node_words) {old : List ℕ} {at : ℕ}
    (fits : at + flat_words * size_of (nodes_of nodes) n ≤ length old) {new : List ℕ} {end i : ℕ} (g : Grown nodes n old at new end i) where
  room : at + flat_words + length (words (row (term_of (nodes_of nodes)) (children_in nodes n))) ≤ length old
  room = omega (arith, term-long nodes good n here)

  -- the next child is the first of those left
  next : {k : ℕ} → i < count_in nodes n → k ≡ child_in nodes n i →
      Planted (nodes_of nodes) (children_in nodes n) (k ∷ still nodes n (i + 1)) old (at + flat_words) new end
  next h e =
      subst (λ (l : List ℕ). Planted (nodes_of nodes) (children_in nodes n) l old (at + flat_words) new end)
      (left-next nodes (base n) (count_in nodes n) i h ∙ ap (λ (k : ℕ). k ∷ still nodes n (i + 1)) (sym e)) g.planted

  pub grown-length : length new ≡ length old
  grown-length = planted-length room g.planted

  pub grown-room : {k : ℕ} → i < count_in nodes n → k ≡ child_in nodes n i → end + flat_words * size_of (nodes_of nodes) k ≤ length new
  grown-room h e = planted-room room (next h e)

  pub grown-more : {k : ℕ} {new' : List ℕ} {end' : ℕ} → i < count_in nodes n → k ≡ child_in nodes n i →
      end' ≡ end + flat_words * size_of (nodes_of nodes) k → new' ≡ splice new end (words (one (term_of (nodes_of nodes) k))) →
      Grown nodes n old at new' end' (i + 1)
  grown-more h e l w = record { planted = planted-more room (next h e) w l }

  -- all of them, behind the root's words
  pub grown-all : (a : List ℕ) → count_in nodes n ≤ i → length a ≡ length old → old ≡ splice a at (root_in nodes n 0 0) →
      (end ≡ at + flat_words * size_of (nodes_of nodes) n) × (new ≡ splice a at (words (one (term_of (nodes_of nodes) n))))
  grown-all a h same e =
      let kids = words (row (term_of (nodes_of nodes)) (children_in nodes n)) in
      let p = planted-all room
      (subst (λ (l : List ℕ). Planted (nodes_of nodes) (children_in nodes n) l old (at + flat_words) new end)
      (left-none nodes (base n) (count_in nodes n) i h) g.planted) in (
        omega (arith, p.1, term-long nodes good n here),
        p.0
            ∙ ap (λ (l : List ℕ). splice l (at + flat_words) kids) e
            ∙ splice-more a at (root_in nodes n 0 0) kids (omega (arith, term-long nodes good n here))
            ∙ ap (splice a at) (sym (term-spelled nodes good n here)),
      )
