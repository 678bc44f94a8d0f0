-- A node as an explanation (`node_to_explanation`): flattened it is the node's term.
use Prim.Native.Nat.{ℕ, zero, suc, ◌≤◌, ◌<◌}
use mathlib.Core.Path.{◌≡◌, refl, sym, ap, ◌∙◌}
use mathlib.Core.List.{List, [], ◌∷◌}
use mathlib.Core.Option.{Option, none, some}
use native.Mathlib.Omega.{arith}
use lib.ListN.{length}
use Rattle.model.specs.Term.{Terms, no_terms, Term, join, one}
use Rattle.model.specs.Node.{Node, no_node, op_of, kids_of, row, term_of}
use Rattle.model.specs.Flat.{within, runs}
use Rattle.flat.specs.Ends.{last_or}
use Rattle.flat.specs.Nodes.{AcceptedNodes}
use Rattle.flat.proofs.NodeTerms.{term_is}
use Rattle.rust.specs.Flatten.{no_trees, Proofs, no_proofs, proof_of, no_flats, flat_term, flatten_explanation, appended, flatten_proof, flatten_children}
use Rattle.rust.specs.Trees.{TreeTerm, before, child_explanations, node_to_explanation}
use Rattle.rust.proofs.Vectors.{on, elem-default}
use Rattle.rust.proofs.Inside.{Kids, kids-lower}
use Rattle.rust.proofs.Flats.{flats}
use Rattle.rust.proofs.ChildLoop.{Leading, child_flats, explanation}

-- nothing is written behind a child that stays
abbrev nothing : ℕ → ℕ → Terms
nothing x y = no_terms

module _ (ns : List Node) where
  leading : (xs : List ℕ) → Leading ns nothing xs xs
  unfolding last_or
  leading [] = tt
  leading (x ∷ xs) = (refl, leading xs)

  no-runs : (o : ℕ) (done : Terms) (xs : List ℕ) → runs ns nothing o done xs xs ≡ no_terms
  unfolding runs within join
  no-runs o done [] = refl
  no-runs o done (x ∷ xs) = no-runs o (join done (one (term_of ns x))) xs

  module _ (nodes : AcceptedNodes ns) where
    abbrev as_tree : ℕ → Proofs → TreeTerm
    as_tree n ps = record { op = op_of ns n; backward = none; forward = none; child_proofs = ps }

    -- a node's tree, whichever mark its root then gets
    pub record Planted (n : ℕ) (o : Option TreeTerm) : Type 0 where
      pub proofs : Proofs
      pub is : o ≡ some (record { op = op_of ns n; backward = none; forward = none; child_proofs = proofs })
      pub children : flatten_children proofs ≡ some (child_flats ns nothing (kids_of ns n) (kids_of ns n))

    pub planted-flat : (n : ℕ) (b f : Option ℕ) → flatten_explanation (op_of ns n) b f (child_flats ns nothing (kids_of ns n) (kids_of ns n))
        ≡ some (flat_term (op_of ns n) b f (flats (term_of ns n).kids) no_flats)
    unfolding flats
    planted-flat n b f =
        explanation ns nothing (op_of ns n) b f (kids_of ns n) (kids_of ns n) (leading (kids_of ns n))
        ∙ ap (λ (x : Terms). some (flat_term (op_of ns n) b f (flats (row (term_of ns) (kids_of ns n))) (flats x))) (no-runs (op_of ns n) no_terms (kids_of ns n))
        ∙ ap (λ (x : Term). some (flat_term (op_of ns n) b f (flats x.kids) no_flats)) (sym (term_is ns nodes n))

    pub plain-term : (n : ℕ) → flat_term (op_of ns n) none none (flats (term_of ns n).kids) no_flats ≡ flats (one (term_of ns n))
    unfolding flats
    plain-term n =
        ap (λ (x : Term). flat_term (op_of ns n) none none (flats x.kids) no_flats) (term_is ns nodes n)
        ∙ ap (λ (x : Term). flats (one x)) (sym (term_is ns nodes n))

    planted-alone : (n : ℕ) (ps : Proofs) → flatten_children ps ≡ some (child_flats ns nothing (kids_of ns n) (kids_of ns n)) →
        flatten_proof (before (as_tree n ps) no_trees) no_flats ≡ some (flats (one (term_of ns n)))
    unfolding flatten_proof appended flats
    planted-alone n ps p =
        on _ p ∙ on _ (planted-flat n none none) ∙ ap some (plain-term n)

    module _ (rounds : ℕ) (rec : (n : ℕ) → n < rounds → n < length ns → Planted n (node_to_explanation rounds ns n)) where
      record Grown (xs : List ℕ) : Type 0 where
        proofs : Proofs
        is : child_explanations (node_to_explanation rounds ns) xs ≡ some proofs
        flat : flatten_children proofs ≡ some (child_flats ns nothing xs xs)

      grown : (m : ℕ) (xs : List ℕ) → Kids m xs → m ≤ rounds → m ≤ length ns → Grown xs
      unfolding child_explanations flatten_proof
      grown m [] k h g = record { proofs = no_proofs; is = refl; flat = refl }
      grown m (x ∷ xs) k h g =
          let p = rec x (omega (arith, k.0)) (omega (arith, k.0)) in
          let q = grown m xs k.1 h g in
          record {
            proofs = proof_of (before (as_tree x p.proofs) no_trees) q.proofs;
            is = on _ p.is ∙ on _ q.is;
            flat = on _ (planted-alone x p.proofs p.children) ∙ on _ q.flat;
          }

    pub planted : (rounds n : ℕ) → n < rounds → n < length ns → Planted n (node_to_explanation rounds ns n)
    unfolding node_to_explanation
    planted zero n h k = absurd (omega arith)
    planted (suc rounds) n h k =
        let g = grown rounds (planted rounds) n (kids_of ns n) (kids-lower ns nodes n) (omega arith) (omega arith) in
        record {
          proofs = g.proofs;
          is = on _ (elem-default ns n no_node k) ∙ on _ g.is;
          children = g.flat;
        }
