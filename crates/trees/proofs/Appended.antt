-- The last term with another subterm: what stands before it, the new subterm with its root written again, what stands behind it.
use Prim.Native.Nat.{ℕ, ◌+◌, ◌-◌, ◌*◌, ◌/◌, ◌≤◌, ◌<◌}
use native.Mathlib.Omega.{arith}
use mathlib.Core.Path.{◌≡◌, refl, sym, ap, ap₂, ◌∙◌}
use mathlib.Core.List.{List, ◌++◌, append_assoc}
use lib.ListN.{length, length-append}
use Rattle.model.specs.declared.Direction.{Direction}
use Rattle.model.specs.Limits.{flat_words}
use Rattle.model.specs.Tables.{node_words}
use Rattle.model.specs.Term.{marked, one, words, direction_word}
use Rattle.model.specs.Node.{row, term_of}
use Rattle.model.specs.Flat.{size_of, marked_term}
use Rattle.entries.specs.Nodes.{nodes_of, NodesWhole, children_in}
use Rattle.laws.specs.Area.{splice, part}
use Rattle.trees.specs.Area.{bare, root_in}
use Rattle.laws.proofs.Area.{length-splice, length_part, part-before, splice-more, splice_front}
use Rattle.trees.proofs.Bare.{length-bare}
use Rattle.trees.proofs.Planted.{marked-spelled, term-spelled, term-long}

-- four writings one after the other: u, a tree, its root again, and what stood before the first of them in the area
module _ (a : List ℕ) (end : ℕ) (u root kids new : List ℕ) (post : ℕ) (within : post ≤ end) (same : length new ≡ length root)
    (fits : end + length u + length (root ++ kids) ≤ length a) where
  abbrev one_written : List ℕ
  one_written = splice a end u

  abbrev two-written : List ℕ
  two-written = splice one_written (end + length u) (root ++ kids)

  abbrev three-written : List ℕ
  three-written = splice two-written (end + length u) new

  pub three-is : three-written ≡ splice a end (u ++ (new ++ kids))
  three-is =
      splice_front one_written (end + length u) root kids new (omega (arith, length-splice a end u (omega arith))) same
      ∙ splice-more a end u (new ++ kids) (omega arith)

  as_long : length (new ++ kids) ≡ length (root ++ kids)
  as_long = omega (arith, length-append new kids, length-append root kids)

  pub before-kept : part three-written (end - post) post ≡ part a (end - post) post
  before-kept =
      ap (λ (l : List ℕ). part l (end - post) post) three-is
      ∙ part-before a end (u ++ (new ++ kids)) (omega (arith, length-append u (new ++ kids), as_long)) (end - post) post (omega arith)

  pub four_is : splice three-written (end + length u + length (root ++ kids)) (bare (part three-written (end - post) post))
      ≡ splice a end (u ++ ((new ++ kids) ++ bare (part a (end - post) post)))
  four_is =
      let x = u ++ (new ++ kids) in
      let v = bare (part a (end - post) post) in
      let e : end + length u + length (root ++ kids) ≡ end + length x = omega (arith, length-append u (new ++ kids), as_long) in
      ap₂ (λ (l : List ℕ) (p : ℕ). splice l p (bare (part three-written (end - post) post))) three-is e
      ∙ ap (λ (l : List ℕ). splice (splice a end x) (end + length x) (bare l)) before-kept
      ∙ splice-more a end x v (omega (arith, length-append u (new ++ kids), as_long))
      ∙ ap (splice a end) (append_assoc u (new ++ kids) v)

-- the four writings, as the places they are made at, for a node of a table
module _ (nodes : List ℕ) (good : NodesWhole nodes) (n : ℕ) (here : n < length nodes / node_words) (a : List ℕ) (place post end old : ℕ)
    (last : place + old + post ≤ end) (fits : end + place + flat_words * size_of (nodes_of nodes) n + post ≤ length a) where
  abbrev start : ℕ
  start = end - post - old - place

  abbrev before : List ℕ
  before = bare (part a start place)

  long-before : length before ≡ place
  long-before = length-bare (part a start place) ∙ length_part a start place (omega arith)

  pub appended : (d : Direction) (rule : ℕ) {a1 a2 a3 a4 : List ℕ} {behind : ℕ} →
      a1 ≡ splice a end (bare (part a start (start + place - start))) →
      a2 ≡ splice a1 (end + place) (words (one (term_of (nodes_of nodes) n))) →
      behind ≡ end + place + flat_words * size_of (nodes_of nodes) n →
      a3 ≡ splice a2 (end + place) (root_in nodes n (direction_word d) rule) →
      a4 ≡ splice a3 behind (bare (part a3 (end - post) (end - (end - post)))) →
      a4 ≡ splice a end (before ++ (words (marked_term (nodes_of nodes) (marked d rule) n) ++ bare (part a (end - post) post)))
  appended d rule {a1} {a2} {a3} {a4} {behind} e1 e2 b e3 e4 =
      let root = root_in nodes n 0 0 in
      let kids = words (row (term_of (nodes_of nodes)) (children_in nodes n)) in
      let new = root_in nodes n (direction_word d) rule in
      let tree = length-append root kids in
      let size = term-long nodes good n here in
      let whole : start + place - start ≡ place = omega arith in
      let behind-part : end - (end - post) ≡ post = omega arith in
      let at : end + place ≡ end + length before = omega (arith, long-before) in
      let far : behind ≡ end + length before + length (root ++ kids) = omega (arith, long-before, tree, size) in
      let one-is : a1 ≡ splice a end before = e1 ∙ ap (λ (k : ℕ). splice a end (bare (part a start k))) whole in
      let two_is : a2 ≡ splice (splice a end before) (end + length before) (root ++ kids) =
      e2
      ∙ ap₂ (λ (l : List ℕ) (p : ℕ). splice l p (words (one (term_of (nodes_of nodes) n)))) one-is at
      ∙ ap (splice (splice a end before) (end + length before)) (term-spelled nodes good n here) in
      let written = splice (splice (splice a end before) (end + length before) (root ++ kids)) (end + length before) new in
      let three : a3 ≡ written = e3 ∙ ap₂ (λ (l : List ℕ) (p : ℕ). splice l p new) two_is at in
      let marked-is : new ++ kids ≡ words (marked_term (nodes_of nodes) (marked d rule) n) =
      sym (marked-spelled nodes good n here (marked d rule)) in
      e4
      ∙ ap₂ (λ (l : List ℕ) (p : ℕ). splice l p (bare (part l (end - post) (end - (end - post))))) three far
      ∙ ap (λ (k : ℕ). splice written (end + length before + length (root ++ kids)) (bare (part written (end - post) k))) behind-part
      ∙ four_is a end before root kids new post (omega arith) refl (omega (arith, long-before, tree, size))
      ∙ ap (λ (l : List ℕ). splice a end (before ++ (l ++ bare (part a (end - post) post)))) marked-is
