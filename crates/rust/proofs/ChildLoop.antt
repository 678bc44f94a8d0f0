-- The Rust's loop over the flat proofs of a term's children appends document 01's runs.
use Prim.Native.Nat.{ℕ, suc}
use mathlib.Core.Path.{◌≡◌, refl, sym, ap, ap₂, ◌∙◌}
use mathlib.Core.List.{List, [], ◌∷◌}
use mathlib.Core.Option.{Option, some}
use native.Mathlib.Omega.{arith}
use Rattle.model.specs.Term.{Mark, unmarked, Terms, no_terms, tree, count, join, put, one}
use Rattle.model.specs.Node.{Node, row, term_of}
use Rattle.model.specs.Flat.{within, runs}
use Rattle.terms.proofs.Rows.{join-assoc, join-none, count-join}
use Rattle.flat.specs.Ends.{last_or, last, Leads}
use Rattle.flat.proofs.NodeTerms.{term-strip}
use Rattle.flat.proofs.Within.{last-join}
use Rattle.rust.specs.Flatten.{Flats, flat_term, last_of, drop_last, extend, remove_rewrites}
use Rattle.rust.specs.Flatten.{set_term, set_child, representatives, pushed, child_loop, flatten_explanation}
use Rattle.rust.proofs.Vectors.{on}
use Rattle.rust.proofs.Flats.{flats, extend-flats, remove-flats, front, front-last, drop-flats, last-flats, set-flats, pushed-flats}

-- the last term written has as many children as were replaced, and behind them those still to come
record LoopHolds (before behind proof : Terms) : Type 0 where
  op : ℕ
  mark : Mark
  done : Terms
  as_many : count done ≡ count before
  shape : last proof ≡ tree op mark (join done behind) no_terms

-- the last term of a child's run
record Ending (o : ℕ) (before behind t f : Terms) : Type 0 where
  op : ℕ
  mark : Mark
  kids : Terms
  is : last_or t (within o before behind f) ≡ tree o unmarked (join before (tree op mark kids behind)) no_terms

ending : (o : ℕ) (before behind t : Terms) (q : ℕ) (n : Mark) (j s : Terms) → Ending o before behind t (tree q n j s)
unfolding last_or within
ending o before behind t q n j no_terms = record { op = q; mark = n; kids = j; is = refl }
ending o before behind t q n j (tree q' n' j' s) =
    let e = ending o before behind (tree o unmarked (join before (tree q n j behind)) no_terms) q' n' j' s in
    record { op = e.op; mark = e.mark; kids = e.kids; is = e.is }

module _ (o p : ℕ) (m : Mark) (k before next behind : Terms) (more : count next ≡ suc (count before)) where
  holds-next : (f proof : Terms) → LoopHolds before (tree p m k behind) proof → LoopHolds next behind (join proof (within o before behind f))
  unfolding within last count join
  holds-next no_terms proof h =
      record {
        op = h.op;
        mark = h.mark;
        done = join h.done (tree p m k no_terms);
        as_many = omega (arith, count-join h.done (tree p m k no_terms), h.as_many);
        shape = ap last (join-none proof) ∙ h.shape
            ∙ ap (λ (x : Terms). tree h.op h.mark x no_terms) (sym (join-assoc h.done (tree p m k no_terms) behind));
      }
  holds-next (tree q n j s) proof h =
      let e = ending o before behind (last proof) q n j s in
      let t = tree e.op e.mark e.kids no_terms in
      record {
        op = o;
        mark = unmarked;
        done = join before t;
        as_many = omega (arith, count-join before t);
        shape = last-join no_terms proof (within o before behind (tree q n j s)) ∙ e.is
            ∙ ap (λ (x : Terms). tree o unmarked x no_terms) (sym (join-assoc before t behind));
      }

-- there is a last term
no_last : {before behind : Terms} → LoopHolds before behind no_terms → ⊥
unfolding count last last_or
no_last {behind = behind} h =
    let z : count no_terms ≡ count (tree h.op h.mark (join h.done behind) no_terms) = ap count h.shape in omega arith

last-is : {before behind : Terms} (proof : Terms) → LoopHolds before behind proof → last_of (flats proof) ≡ some (flats (last proof))
last-is no_terms h = absurd (no_last h)
last-is (tree o m k s) h = last-flats o m k s

whole : {before behind : Terms} (proof : Terms) → LoopHolds before behind proof → join (front proof) (last proof) ≡ proof
whole no_terms h = absurd (no_last h)
whole (tree o m k s) h = front-last o m k s

-- a round writes to the last term what stands there already
module _ (before behind : Terms) (o : ℕ) (m : Mark) (k : Terms) where
  same-child : (proof : Terms) → LoopHolds before (tree o m k behind) proof →
      set_child (count before) (flats (tree o m k no_terms)) (flats (last proof)) ≡ some (flats (last proof))
  unfolding flats join
  same-child proof h =
      ap (λ (x : Terms). set_child (count before) (flats (tree o m k no_terms)) (flats x)) h.shape
      ∙ on _ (ap (λ (x : ℕ). set_term x (flats (tree o m k no_terms)) (flats (join h.done (tree o m k behind)))) (sym h.as_many)
      ∙ set-flats h.done (tree o m k no_terms) behind o m k)
      ∙ ap (λ (x : Terms). some (flats x)) (sym h.shape)

module _ (ns : List Node) (later : ℕ → ℕ → Terms) where
  -- the children's flat proofs, in pairs that they lead between
  abbrev pub Leading : List ℕ → List ℕ → Type 0
  Leading [] [] = Unit {0}
  Leading [] (y ∷ ys) = ⊥
  Leading (x ∷ xs) [] = ⊥
  Leading (x ∷ xs) (y ∷ ys) = Leads ns x y (later x y) × Leading xs ys

  abbrev pub child_flats : List ℕ → List ℕ → List Flats
  child_flats [] ys = []
  child_flats (x ∷ xs) [] = []
  child_flats (x ∷ xs) (y ∷ ys) = flats (put (term_of ns x) (later x y)) ∷ child_flats xs ys

  reps : (xs ys : List ℕ) → Leading xs ys → representatives (child_flats xs ys) ≡ some (flats (row (term_of ns) xs))
  unfolding representatives row flats join
  reps [] [] p = refl
  reps [] (y ∷ ys) p = absurd p
  reps (x ∷ xs) [] p = absurd p
  reps (x ∷ xs) (y ∷ ys) p =
      on _ (reps xs ys p.1)
      ∙ ap (λ (z : Flats). some (extend z (flats (row (term_of ns) xs)))) (remove-flats (one (term_of ns x)) ∙ ap flats (term-strip ns x))
      ∙ ap some (extend-flats (one (term_of ns x)) (row (term_of ns) xs))

  -- what a round leaves: the proof with the child's run behind it
  written : (o : ℕ) (before behind : Terms) (p : ℕ) (n : Mark) (j : Terms) (f proof : Terms) → LoopHolds before (tree p n j behind) proof →
      extend (extend (drop_last (flats proof)) (flats (last proof))) (pushed o (count before) (flats (join before (tree p n j behind))) (flats f))
      ≡ flats (join proof (within o before behind f))
  written o before behind p n j f proof h =
      ap₂ extend (ap (λ (x : Flats). extend x (flats (last proof))) (drop-flats proof) ∙ extend-flats (front proof) (last proof) ∙ ap flats (whole proof h))
      (pushed-flats o before behind p n j f)
      ∙ extend-flats proof (within o before behind f)

  -- and what it holds of the children from then on: the one that was rewritten
  next-reps : (x y : ℕ) (before behind : Terms) → Leads ns x y (later x y) →
      set_term (count before) (remove_rewrites (flats (last (put (term_of ns x) (later x y))))) (flats (join before (put (term_of ns x) behind)))
      ≡ some (flats (join (join before (one (term_of ns y))) behind))
  unfolding last last_or
  next-reps x y before behind v =
      let t = term_of ns x in
      ap (λ (z : Flats). set_term (count before) z (flats (join before (put t behind))))
      (remove-flats (last (put t (later x y))) ∙ ap flats (v ∙ term-strip ns y))
      ∙ set-flats before (one (term_of ns y)) behind t.op t.mark t.kids
      ∙ ap (λ (z : Terms). some (flats z)) (sym (join-assoc before (one (term_of ns y)) behind))

  children : (o : ℕ) (before : Terms) (xs ys : List ℕ) → Leading xs ys → (proof : Terms) → LoopHolds before (row (term_of ns) xs) proof →
      child_loop o (count before) (flats (join before (row (term_of ns) xs))) (child_flats xs ys) (flats proof)
      ≡ some (flats (join proof (runs ns later o before xs ys)))
  unfolding child_loop runs row flats count
  children o before [] [] p proof h = ap (λ (x : Terms). some (flats x)) (sym (join-none proof))
  children o before [] (y ∷ ys) p proof h = absurd p
  children o before (x ∷ xs) [] p proof h = absurd p
  children o before (x ∷ xs) (y ∷ ys) p proof h =
      let t = term_of ns x in
      let f = later x y in
      let behind = row (term_of ns) xs in
      let next = join before (one (term_of ns y)) in
      let run = within o before behind f in
      let more : count next ≡ suc (count before) = omega (arith, count-join before (one (term_of ns y))) in
      on _ (last-is proof h)
      ∙ on _ (same-child before behind t.op t.mark t.kids proof h)
      ∙ on _ (last-flats t.op t.mark t.kids f)
      ∙ on _ (next-reps x y before behind p.0)
      ∙ ap₂ (λ (i : ℕ) (z : Flats). child_loop o i (flats (join next behind)) (child_flats xs ys) z) (sym more)
      (written o before behind t.op t.mark t.kids f proof h)
      ∙ children o next xs ys p.1 (join proof run) (holds-next o t.op t.mark t.kids before next behind more f proof h)
      ∙ ap (λ (z : Terms). some (flats z)) (join-assoc proof run (runs ns later o next xs ys))

  -- the whole explanation of a term, from its children's flat proofs
  pub explanation : (o : ℕ) (b f : Option ℕ) (xs ys : List ℕ) → Leading xs ys →
      flatten_explanation o b f (child_flats xs ys) ≡ some (flat_term o b f (flats (row (term_of ns) xs)) (flats (runs ns later o no_terms xs ys)))
  unfolding flatten_explanation flats join count last last_or
  explanation o b f xs ys p =
      let proof = tree o unmarked (row (term_of ns) xs) no_terms in
      on _ (reps xs ys p)
      ∙ on _ (children o no_terms xs ys p proof (record { op = o; mark = unmarked; done = no_terms; as_many = refl; shape = refl }))
