-- The Rust's explanation of one connection (`explain_adjacent`), flattened behind the terms written so far, appends what document 01 says.
use Prim.Native.Nat.{ℕ, ◌≤◌, ◌<◌}
use mathlib.Core.Path.{◌≡◌, refl, sym, ap, ap₂, ◌∙◌}
use mathlib.Core.Bool.{Bool, true, false, not, ◌||◌}
use mathlib.Core.List.{List, [], ◌∷◌}
use mathlib.Core.Option.{Option, none, some}
use native.Mathlib.Omega.{arith}
use borrow.Author.Tests.{eq-eqb}
use lib.ListN.{length}
use Rattle.model.specs.declared.Connection.{Connection as TableConnection}
use Rattle.model.specs.declared.Direction.{Direction}
use Rattle.model.specs.declared.Direction.TheVariants.{Forward, Backward}
use Rattle.model.specs.declared.Justification.{Justification as TableJustification}
use Rattle.model.specs.declared.Justification.TheVariants.{Rule as by_rule, Congruence}
use Rattle.model.specs.Term.{Mark, unmarked, Terms, no_terms, tree, count, join, one, strip}
use Rattle.model.specs.Node.{Node, no_node, op_of, kids_of, row, term_of}
use Rattle.model.specs.Forest.{root}
use Rattle.model.specs.Flat.{mark_for, marked_term, runs, appended as appends, later, flat_proof}
use Rattle.terms.proofs.Rows.{join-assoc}
use Rattle.paths.specs.Hangs.{AcceptedConnections, Paired}
use Rattle.paths.proofs.Accept.{paired-length}
use Rattle.flat.specs.Ends.{last_or, last}
use Rattle.flat.specs.Nodes.{AcceptedNodes}
use Rattle.flat.proofs.NodeTerms.{term_is}
use Rattle.flat.proofs.Twins.{Twins}
use Rattle.flat.proofs.Way.{way}
use Rattle.rust.specs.Explain.{rule, congruence, justified, is_forward, goes_forward}
use Rattle.rust.specs.Flatten.{Trees, Proofs, no_proofs, proof_of, Flats, no_flats, flat_term, first_of, skip_one}
use Rattle.rust.specs.Flatten.{extend, last_of, drop_last, has_forward, has_backward, combine_rewrites, appended, flatten_proof, flatten_children}
use Rattle.rust.specs.Trees.{TreeTerm, before, node_to_explanation, subproofs, marked, explain_by}
use Rattle.rust.proofs.Vectors.{on, elem-default}
use Rattle.rust.proofs.Inside.{Kids, kids-inside}
use Rattle.rust.proofs.Flats.{back_rule, fore_rule, flats, extend-flats, front, front-last, drop-flats, last-flats, no-forward, no-backward, combine-flats}
use Rattle.rust.proofs.ChildLoop.{Leading, child_flats, explanation}
use Rattle.rust.proofs.NodeTrees.{Planted, planted, planted-flat}

-- a round of flatten_proof, from what its tests say
module _ (o : ℕ) (b f : Option ℕ) (k s e : Flats) {first : Flats} (starts : first_of e ≡ some first) where
  merging : {last with-marks : Flats} → has_forward first ≡ false → has_backward first ≡ false → last_of (flat_term o b f k s) ≡ some last →
      combine_rewrites first last ≡ some with-marks →
      appended (flat_term o b f k s) e ≡ some (extend (drop_last (flat_term o b f k s)) (extend with-marks (skip_one e)))
  unfolding appended
  merging p q u v = on _ starts ∙ rw (p, q) (on _ u ∙ on _ v)

  adding : (has_forward first || has_backward first) ≡ true → appended (flat_term o b f k s) e ≡ some (extend (flat_term o b f k s) e)
  unfolding appended
  adding p = on _ starts ∙ rw p refl

-- an explanation that begins with the last term written, unmarked, is merged into it
no-terms : (o : ℕ) (m : Mark) (k s : Terms) → no_terms ≡ tree o m k s → ⊥
unfolding count
no-terms o m k s e = let z : count no_terms ≡ count (tree o m k s) = ap count e in omega arith

merged : (sofar : Terms) (o : ℕ) (k s : Terms) → strip (last sofar) ≡ tree o unmarked k no_terms →
    appended (flats sofar) (flat_term o none none (flats k) (flats s)) ≡ some (flats (join sofar s))
unfolding flats strip last last_or
merged no_terms o k s q = absurd (no-terms o unmarked k no_terms q)
merged (tree o' m' k' s') o k s q =
    let f = tree o' m' k' s' in
    let e : flat_term o none none (flats k) no_flats ≡ flats (strip (last f)) = sym (ap flats q) in
    merging o' (back_rule m') (fore_rule m') (flats k') (flats s') (flat_term o none none (flats k) (flats s)) (ap some e)
    (no-forward (last f)) (no-backward (last f)) (last-flats o' m' k' s') (combine-flats (last f))
    ∙ ap₂ (λ (x y : Flats). some (extend x y)) (drop-flats f) (extend-flats (last f) s)
    ∙ ap some (extend-flats (front f) (join (last f) s))
    ∙ ap (λ (x : Terms). some (flats x)) (sym (join-assoc (front f) (last f) s) ∙ ap (λ (x : Terms). join x s) (front-last o' m' k' s'))

-- one that begins with a marked term is written behind it
or-true : (b : Bool) → (b || true) ≡ true
or-true true = refl
or-true false = refl

sees : (o n : ℕ) (d : Direction) (up : Bool) (k : Terms) →
    (has_forward (flats (tree o (mark_for n d up) k no_terms)) || has_backward (flats (tree o (mark_for n d up) k no_terms))) ≡ true
unfolding flats has_forward has_backward
sees o n Forward true k = refl
sees o n Forward false k = or-true (has_forward (flats (tree o (mark_for n Forward false) k no_terms)))
sees o n Backward true k = or-true (has_forward (flats (tree o (mark_for n Backward true) k no_terms)))
sees o n Backward false k = refl

added : (sofar : Terms) (o n : ℕ) (d : Direction) (up : Bool) (k : Terms) →
    appended (flats sofar) (flats (tree o (mark_for n d up) k no_terms)) ≡ some (flats (join sofar (tree o (mark_for n d up) k no_terms)))
unfolding flats appended join
added no_terms o n d up k = refl
added (tree o' m' k' s') o n d up k =
    adding o' (back_rule m') (fore_rule m') (flats k') (flats s') (flats (tree o (mark_for n d up) k no_terms)) refl (sees o n d up k)
    ∙ ap some (extend-flats (tree o' m' k' s') (tree o (mark_for n d up) k no_terms))

-- the tree between two nodes, flattened document 01's flat proof
pub record Explained (ns : List Node) (os : List TableConnection) (l r : ℕ) (o : Option Trees) : Type 0 where
  pub trees : Trees
  pub is : o ≡ some trees
  pub flat : flatten_proof trees no_flats ≡ some (flats (flat_proof ns os l r))

module _ {ns : List Node} (nodes : AcceptedNodes ns) where
  -- an explanation that appends the terms f behind a proof that ends with node l's term
  pub record Adjoins (l : ℕ) (f : Terms) (o : Option TreeTerm) : Type 0 where
    pub tree : TreeTerm
    pub is : o ≡ some tree
    pub folds : (sofar : Terms) → strip (last sofar) ≡ one (term_of ns l) → (rest : Trees) →
        flatten_proof (before tree rest) (flats sofar) ≡ flatten_proof rest (flats (join sofar f))

  -- a rule: the next node, marked
  module _ (enodes : ℕ → ℕ → Option Trees) (rounds : ℕ) (room : length ns ≤ rounds) (a b : ℕ) (b-in : b < length ns) where
    abbrev plant : Planted ns nodes b (node_to_explanation rounds ns b)
    plant = planted ns nodes rounds b (omega arith) b-in

    by-mark : (n : ℕ) (d : Direction) (up : Bool) (forward : Bool) →
        marked forward n (record { op = op_of ns b; backward = none; forward = none; child_proofs = plant.proofs })
        ≡ record { op = op_of ns b; backward = back_rule (mark_for n d up); forward = fore_rule (mark_for n d up); child_proofs = plant.proofs } →
        Adjoins a (marked_term ns (mark_for n d up) b) (explain_by enodes rounds ns (rule n) forward a b)
    unfolding flatten_proof flats
    by-mark n d up forward e =
        record {
          tree = record { op = op_of ns b; backward = back_rule (mark_for n d up); forward = fore_rule (mark_for n d up); child_proofs = plant.proofs };
          is = on _ plant.is ∙ ap some e;
          folds = λ sofar q rest.
              on _ plant.children ∙ on _ (planted-flat ns nodes b (back_rule (mark_for n d up)) (fore_rule (mark_for n d up)))
              ∙ on _ (added sofar (op_of ns b) n d up (term_of ns b).kids);
        }

    -- walked up it keeps its direction, and walked down it is turned
    rule-up : (n : ℕ) (d : Direction) → Adjoins a (marked_term ns (mark_for n d true) b) (explain_by enodes rounds ns (rule n) (is_forward d) a b)
    rule-up n Forward = by-mark n Forward true true refl
    rule-up n Backward = by-mark n Backward true false refl

    rule-down : (n : ℕ) (d : Direction) → Adjoins a (marked_term ns (mark_for n d false) b) (explain_by enodes rounds ns (rule n) (not (is_forward d)) a b)
    rule-down n Forward = by-mark n Forward false false refl
    rule-down n Backward = by-mark n Backward false true refl

  -- a congruence, if the flat proofs of its children are known
  module _ (os : List TableConnection) (acc : AcceptedConnections ns os) (enodes : ℕ → ℕ → Option Trees)
      (known : (x y : ℕ) → x < length ns → y < length ns → root os x ≡ root os y → Explained ns os x y (enodes x y)) where
    leading : (xs ys : List ℕ) → Paired os xs ys → Leading ns (later ns os) xs ys
    leading [] [] p = tt
    leading [] (y ∷ ys) p = absurd p
    leading (x ∷ xs) [] p = absurd p
    leading (x ∷ xs) (y ∷ ys) p = ((way ns nodes os acc x y p.0).arrives, leading xs ys p.1)

    record Subs (xs ys : List ℕ) : Type 0 where
      proofs : Proofs
      is : subproofs enodes xs ys ≡ some proofs
      flat : flatten_children proofs ≡ some (child_flats ns (later ns os) xs ys)

    subs : (xs ys : List ℕ) → Paired os xs ys → Kids (length ns) xs → Kids (length ns) ys → Subs xs ys
    unfolding subproofs flatten_proof flat_proof
    subs [] [] p u v = record { proofs = no_proofs; is = refl; flat = refl }
    subs [] (y ∷ ys) p u v = absurd p
    subs (x ∷ xs) [] p u v = absurd p
    subs (x ∷ xs) (y ∷ ys) p u v =
        let e = known x y u.0 v.0 p.0 in
        let s = subs xs ys p.1 u.1 v.1 in
        record { proofs = proof_of e.trees s.proofs; is = on _ e.is ∙ on _ s.is; flat = on _ e.flat ∙ on _ s.flat }

    module _ (rounds a b : ℕ) (a_in : a < length ns) (b-in : b < length ns) (t : Twins ns os a b) (forward : Bool) where
      abbrev xs : List ℕ
      xs = kids_of ns a

      abbrev ys : List ℕ
      ys = kids_of ns b

      congruent : Adjoins a (runs ns (later ns os) (op_of ns a) no_terms xs ys) (explain_by enodes rounds ns congruence forward a b)
      unfolding flatten_proof
      congruent =
          let s = subs xs ys t.kids (kids-inside ns nodes a a_in) (kids-inside ns nodes b b-in) in
          record {
            tree = record { op = op_of ns a; backward = none; forward = none; child_proofs = s.proofs };
            is = on _ (elem-default ns a no_node a_in) ∙ on _ (elem-default ns b no_node b-in)
                ∙ rw (eq-eqb (op_of ns a) (op_of ns b) t.ops, eq-eqb (length xs) (length ys) (paired-length os xs ys t.kids)) (on _ s.is);
            folds = λ sofar q rest.
                on _ s.flat ∙ on _ (explanation ns (later ns os) (op_of ns a) none none xs ys (leading xs ys t.kids))
                ∙ on _ (merged sofar (op_of ns a) (row (term_of ns) xs) (runs ns (later ns os) (op_of ns a) no_terms xs ys) (q ∙ ap one (term_is ns nodes a)));
          }

    -- any connection, walked up from its current node or down from its next one
    module _ (rounds : ℕ) (room : length ns ≤ rounds) (a b : ℕ) (a_in : a < length ns) (b-in : b < length ns) where
      pub adjoins-up : (w : TableJustification) → (w ≡ Congruence → Twins ns os a b) →
          Adjoins a (appends ns (later ns os) w true a b) (explain_by enodes rounds ns (justified w) (goes_forward w) a b)
      unfolding appends
      adjoins-up (by_rule n d) t = rule-up enodes rounds room a b b-in n.0 d
      adjoins-up Congruence t = congruent rounds a b a_in b-in (t refl) true

      pub adjoins-down : (w : TableJustification) → (w ≡ Congruence → Twins ns os a b) →
          Adjoins a (appends ns (later ns os) w false a b) (explain_by enodes rounds ns (justified w) (not (goes_forward w)) a b)
      unfolding appends
      adjoins-down (by_rule n d) t = rule-down enodes rounds room a b b-in n.0 d
      adjoins-down Congruence t = congruent rounds a b a_in b-in (t refl) false
