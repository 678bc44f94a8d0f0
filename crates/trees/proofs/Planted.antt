-- Writing a node's tree: its root's words, then its children's trees one behind the other.
use Prim.Native.Nat.{ℕ, suc, ◌+◌, ◌*◌, ◌/◌, ◌≤◌, ◌<◌}
use native.Mathlib.Omega.{arith}
use native.Mathlib.Nat.{add-zero}
use mathlib.Core.Path.{◌≡◌, refl, sym, ap, ap₂, ◌∙◌}
use mathlib.Core.List.{List, [], ◌∷◌, ◌++◌, append_assoc, append-nil}
use lib.ListN.{length, length-append, get_or}
use Rattle.model.specs.Limits.{flat_words}
use Rattle.model.specs.Tables.{node_words, children_at}
use Rattle.model.specs.Term.{Mark, unmarked, Terms, no_terms, tree, Term, one, count, words, mark_word, rule_word}
use Rattle.model.specs.Node.{Node, op_of, kids_of, row, term_of}
use Rattle.model.specs.Flat.{sum, size_of, marked_term}
use Rattle.terms.proofs.Rows.{put-words, length-words as length-spelled}
use Rattle.entries.specs.Nodes.{nodes_of, NodesWhole, count_in, children_in}
use Rattle.entries.proofs.Nodes.{children-in, operator-in}
use Rattle.entries.proofs.Children.{length-words}
use Rattle.flat.specs.Nodes.{AcceptedNodes}
use Rattle.flat.proofs.NodeTerms.{row_count, term-size, terms-size, term_is}
use Rattle.flat.proofs.Tables.{table-nodes}
use Rattle.laws.specs.Area.{splice}
use Rattle.trees.specs.Area.{root_in}
use Rattle.laws.proofs.Area.{length-splice, splice-none, splice-more}

-- A term's words are four for each of its nodes.
pub length-term : (ns : List Node) (n : ℕ) → length (words (one (term_of ns n))) ≡ flat_words * size_of ns n
length-term ns n = length-spelled (one (term_of ns n)) ∙ ap (λ (k : ℕ). flat_words * k) (term-size ns n)

-- The children's trees: those that are left are still to be written, behind those that are done.
pub record Planted (ns : List Node) (all left : List ℕ) (old : List ℕ) (at : ℕ) (new : List ℕ) (end : ℕ) : Type 0 where
  pub done : List ℕ
  pub is : new ≡ splice old at done
  pub ends : end ≡ at + length done
  pub whole : done ++ words (row (term_of ns) left) ≡ words (row (term_of ns) all)

pub planted-none : (ns : List Node) (all old : List ℕ) (at : ℕ) → Planted ns all all old at old at
planted-none ns all old at = record { done = []; is = sym (splice-none old at); ends = sym (add-zero at); whole = refl }

module _ {ns : List Node} {all : List ℕ} {old : List ℕ} {at : ℕ} (fits : at + length (words (row (term_of ns) all)) ≤ length old) where
  within : {left : List ℕ} {new : List ℕ} {end : ℕ} (p : Planted ns all left old at new end) → at + length p.done ≤ length old
  within {left} p = omega (arith, length-append p.done (words (row (term_of ns) left)), ap length p.whole)

  pub planted-length : {left : List ℕ} {new : List ℕ} {end : ℕ} → Planted ns all left old at new end → length new ≡ length old
  planted-length p = ap length p.is ∙ length-splice old at p.done (within p)

  -- one child's tree, and those left behind it
  first : {k : ℕ} {left : List ℕ} {new : List ℕ} {end : ℕ} (p : Planted ns all (k ∷ left) old at new end) →
      (p.done ++ words (one (term_of ns k))) ++ words (row (term_of ns) left) ≡ words (row (term_of ns) all)
  unfolding row
  first {k} {left} p =
      append_assoc p.done (words (one (term_of ns k))) (words (row (term_of ns) left))
      ∙ ap (λ (l : List ℕ). p.done ++ l) (sym (put-words (term_of ns k) (row (term_of ns) left)))
      ∙ p.whole

  pub planted-room : {k : ℕ} {left : List ℕ} {new : List ℕ} {end : ℕ} → Planted ns all (k ∷ left) old at new end →
      end + flat_words * size_of ns k ≤ length new
  planted-room {k} {left} p =
      let t = words (one (term_of ns k)) in
      omega (
        arith,
        length-append (p.done ++ t) (words (row (term_of ns) left)),
        length-append p.done t,
        length-term ns k,
        ap length (first p),
        planted-length p,
        p.ends,
      )

  pub planted-more : {k : ℕ} {left : List ℕ} {new new' : List ℕ} {end end' : ℕ} → Planted ns all (k ∷ left) old at new end →
      new' ≡ splice new end (words (one (term_of ns k))) → end' ≡ end + flat_words * size_of ns k → Planted ns all left old at new' end'
  planted-more {k} {left} {new} {new'} {end} {end'} p e l =
      let t = words (one (term_of ns k)) in
      record {
        done = p.done ++ t;
        is = e ∙ ap₂ (λ (s : List ℕ) (q : ℕ). splice s q t) p.is p.ends ∙ splice-more old at p.done t (within p);
        ends = omega (arith, l, p.ends, length-append p.done t, length-term ns k);
        whole = first p;
      }

  pub planted-all : {new : List ℕ} {end : ℕ} → Planted ns all [] old at new end →
      (new ≡ splice old at (words (row (term_of ns) all))) × (end ≡ at + length (words (row (term_of ns) all)))
  unfolding row words
  planted-all p =
      let e = sym (append-nil p.done) ∙ p.whole in
      (p.is ∙ ap (splice old at) e, p.ends ∙ ap (λ (l : List ℕ). at + length l) e)

-- The words of a node's term, by the table: its root's four, with the mark at it, and its children's.
module _ (nodes : List ℕ) (good : NodesWhole nodes) (n : ℕ) (here : n < length nodes / node_words) where
  abbrev ns : List Node
  ns = nodes_of nodes

  abbrev kids : Terms
  kids = row (term_of (nodes_of nodes)) (children_in nodes n)

  accepted : AcceptedNodes ns
  accepted = table-nodes nodes ns good.is

  is-children : kids_of ns n ≡ children_in nodes n
  is-children = children-in (length nodes / node_words) nodes n here

  below : (term_of ns n).kids ≡ kids
  below = ap (λ (t : Term). t.kids) (term_is ns accepted n) ∙ ap (row (term_of ns)) is-children

  pub marked-spelled : (m : Mark) →
      words (marked_term ns m n) ≡ root_in nodes n (mark_word m) (rule_word m) ++ words kids
  unfolding words
  marked-spelled m =
      let c : count kids ≡ count_in nodes n = row_count (term_of ns) (children_in nodes n) ∙ length-words nodes (n * node_words + children_at) (count_in nodes n) in
      ap₂ (λ (o : ℕ) (t : Terms). words (tree o m t no_terms)) (operator-in (length nodes / node_words) nodes n here) below
      ∙ ap₂ (λ (x : ℕ) (l : List ℕ). get_or nodes (n * node_words) 0 ∷ x ∷ mark_word m ∷ rule_word m ∷ l) c (append-nil (words kids))

  pub term-spelled : words (one (term_of ns n)) ≡ root_in nodes n 0 0 ++ words kids
  term-spelled =
      ap (λ (t : Term). words (one t)) (term_is ns accepted n)
      ∙ ap (λ (k : Terms). words (tree (op_of ns n) unmarked k no_terms))
      (sym (ap (λ (t : Term). t.kids) (term_is ns accepted n)))
      ∙ marked-spelled unmarked

  -- so the tree has the root and its children's trees
  pub term-long : flat_words * size_of ns n ≡ flat_words + length (words kids)
  term-long =
      sym (length-term ns n)
      ∙ ap length term-spelled
      ∙ length-append (root_in nodes n 0 0) (words kids)

  pub size_is : size_of ns n ≡ suc (sum (size_of ns) (children_in nodes n))
  size_is =
      let k = children_in nodes n in
      omega (arith, term-long, length-spelled (row (term_of ns) k), terms-size ns k)
