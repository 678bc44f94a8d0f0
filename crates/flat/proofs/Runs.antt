-- What a congruence appends, child by child: the laws of `runs`. `proof` is what older connections give between two nodes.
use Prim.Native.Nat.{ℕ, suc, ◌+◌, ◌≤◌}
use mathlib.Core.Path.{◌≡◌, refl, sym, ap, ap₂, ◌∙◌}
use mathlib.Core.List.{List, [], ◌∷◌}
use native.Mathlib.Omega.{arith}
use lib.ListN.{length}
use Rattle.model.specs.declared.Connection.{Connection}
use Rattle.model.specs.Limits.{child_limit}
use Rattle.model.specs.Term.{unmarked, Terms, no_terms, tree, count, join, one, strip, Narrow, size, marks}
use Rattle.model.specs.Node.{Node, row, term_of}
use Rattle.model.specs.Forest.{root, sum_pairs}
use Rattle.model.specs.Flat.{within, runs, size_of, runs_size}
use Rattle.terms.proofs.Rows.{join-assoc, count-join, narrow-join, size-join}
use Rattle.terms.proofs.Marks.{marks-join}
use Rattle.paths.specs.Hangs.{Paired}
use Rattle.flat.specs.Marks.{OneMarkEach}
use Rattle.flat.specs.Ends.{last_or, Leads}
use Rattle.flat.specs.Nodes.{AcceptedNodes}
use Rattle.flat.proofs.Rows.{one-mark-join}
use Rattle.flat.proofs.NodeTerms.{row_count, term-unmarked, term-size, term-narrow, terms-unmarked, terms-size, terms-narrow}
use Rattle.flat.proofs.Within.{last-join, within_count, within-size, within-narrow, within-one-mark, within-arrives}

-- something holds of each pair that connections join
abbrev pub Known : List Connection → (ℕ → ℕ → Type 0) → Type 0
Known cs P = (x y : ℕ) → root cs x ≡ root cs y → P x y

-- a term, marks aside, is the unmarked node with these children
abbrev pub Like : ℕ → Terms → Terms → Type 0
Like o k t = strip t ≡ strip (tree o unmarked k no_terms)

module _ (ns : List Node) where
  pub held-unmarked : (before : Terms) → marks before ≡ 0 → (y : ℕ) → marks (join before (one (term_of ns y))) ≡ 0
  held-unmarked before e y = omega (arith, marks-join before (one (term_of ns y)), term-unmarked ns y)

  -- after a child's run the node has the new child before those still to come
  pub after_run : (o : ℕ) (before : Terms) → marks before ≡ 0 → (x y : ℕ) (xs : List ℕ) (f t : Terms) → Leads ns x y f →
      Like o (join before (row (term_of ns) (x ∷ xs))) t →
      Like o (join (join before (one (term_of ns y))) (row (term_of ns) xs)) (last_or t (within o before (row (term_of ns) xs) f))
  unfolding within row join
  after_run o before e x y xs f t h q =
      let behind = row (term_of ns) xs in
      let new = one (term_of ns y) in
      within-arrives o before behind e (terms-unmarked ns xs) t (one (term_of ns x)) f new q h
      ∙ ap (λ k. strip (tree o unmarked k no_terms)) (sym (join-assoc before new behind))

module _ (ns : List Node) (cs : List Connection) (proof : ℕ → ℕ → Terms) where
  pub runs-count : (d : ℕ → ℕ → ℕ) → Known cs (λ x y. count (proof x y) ≡ d x y) → (o : ℕ) (before : Terms) (xs ys : List ℕ) →
      Paired cs xs ys → count (runs ns proof o before xs ys) ≡ sum_pairs d xs ys
  unfolding runs sum_pairs count
  runs-count d h o before [] ys p = refl
  runs-count d h o before (x ∷ xs) [] p = refl
  runs-count d h o before (x ∷ xs) (y ∷ ys) p =
      count-join (within o before (row (term_of ns) xs) (proof x y)) (runs ns proof o (join before (one (term_of ns y))) xs ys)
      ∙ ap₂ ◌+◌ (within_count o before (row (term_of ns) xs) (proof x y) ∙ h x y p.0)
      (runs-count d h o (join before (one (term_of ns y))) xs ys p.1)

  pub runs-size : (d rec : ℕ → ℕ → ℕ) → Known cs (λ x y. count (proof x y) ≡ d x y) → Known cs (λ x y. size (proof x y) ≡ rec x y) →
      (o : ℕ) (before : Terms) (w : ℕ) → suc (size before) ≡ w → (xs ys : List ℕ) → Paired cs xs ys →
      size (runs ns proof o before xs ys) ≡ runs_size ns d rec w xs ys
  unfolding runs runs_size size
  runs-size d rec h i o before w e [] ys p = refl
  runs-size d rec h i o before w e (x ∷ xs) [] p = refl
  runs-size d rec h i o before w e (x ∷ xs) (y ∷ ys) p =
      let next = join before (one (term_of ns y)) in
      size-join (within o before (row (term_of ns) xs) (proof x y)) (runs ns proof o next xs ys)
      ∙ ap₂ ◌+◌
      (within-size o before (row (term_of ns) xs) (proof x y) ∙ rw (h x y p.0, i x y p.0, e, terms-size ns xs))
      (runs-size d rec h i o next (w + size_of ns y) (omega (arith, size-join before (one (term_of ns y)), term-size ns y))
      xs ys p.1)

  pub runs-one-mark : Known cs (λ x y. OneMarkEach (proof x y)) → (o : ℕ) (before : Terms) → marks before ≡ 0 → (xs ys : List ℕ) →
      Paired cs xs ys → OneMarkEach (runs ns proof o before xs ys)
  unfolding runs OneMarkEach
  runs-one-mark h o before e [] ys p = tt
  runs-one-mark h o before e (x ∷ xs) [] p = tt
  runs-one-mark h o before e (x ∷ xs) (y ∷ ys) p =
      let next = join before (one (term_of ns y)) in
      one-mark-join (within o before (row (term_of ns) xs) (proof x y)) (runs ns proof o next xs ys)
      (within-one-mark o before (row (term_of ns) xs) e (terms-unmarked ns xs) (proof x y) (h x y p.0))
      (runs-one-mark h o next (held-unmarked ns before e y) xs ys p.1)

  pub runs-narrow : AcceptedNodes ns → Known cs (λ x y. Narrow (proof x y)) → (o : ℕ) (before : Terms) → Narrow before →
      (xs ys : List ℕ) →
      count before + length xs ≤ child_limit → Paired cs xs ys → Narrow (runs ns proof o before xs ys)
  unfolding runs Narrow count
  runs-narrow nodes h o before e [] ys c p = tt
  runs-narrow nodes h o before e (x ∷ xs) [] c p = tt
  runs-narrow nodes h o before e (x ∷ xs) (y ∷ ys) c p =
      let next = join before (one (term_of ns y)) in
      narrow-join (within o before (row (term_of ns) xs) (proof x y)) (runs ns proof o next xs ys)
      (within-narrow o before (row (term_of ns) xs) e (terms-narrow ns nodes xs)
      (omega (arith, row_count (term_of ns) xs)) (proof x y)
      (h x y p.0))
      (runs-narrow nodes h o next (narrow-join before (one (term_of ns y)) e (term-narrow ns nodes y)) xs ys
      (omega (arith, count-join before (one (term_of ns y)))) p.1)

  pub runs-arrive : Known cs (λ x y. Leads ns x y (proof x y)) → (o : ℕ) (before : Terms) →
      marks before ≡ 0 → (xs ys : List ℕ) → Paired cs xs ys → (t : Terms) → Like o (join before (row (term_of ns) xs)) t →
      Like o (join before (row (term_of ns) ys)) (last_or t (runs ns proof o before xs ys))
  unfolding runs last_or row join
  runs-arrive h o before e [] [] p t q = q
  runs-arrive h o before e [] (y ∷ ys) p t q = absurd p
  runs-arrive h o before e (x ∷ xs) [] p t q = absurd p
  runs-arrive h o before e (x ∷ xs) (y ∷ ys) p t q =
      let next = join before (one (term_of ns y)) in
      let run = within o before (row (term_of ns) xs) (proof x y) in
      ap strip (last-join t run (runs ns proof o next xs ys))
      ∙ runs-arrive h o next (held-unmarked ns before e y) xs ys p.1 (last_or t run)
      (after_run ns o before e x y xs (proof x y) t (h x y p.0) q)
      ∙ ap (λ k. strip (tree o unmarked k no_terms)) (join-assoc before (one (term_of ns y)) (row (term_of ns) ys))
