-- The step, node by node: nodes that no mark bears agree in operator and count, and what is left behind them steps exactly where the rows do.
-- Assumes nothing.
use Prim.Native.Nat.{ℕ, zero, suc, ◌+◌, ◌*◌}
use mathlib.Core.Bool.{Bool, true, false, ◌&&◌, and_assoc, and-eq-true_iff, true≢false}
use mathlib.Core.List.{List}
use mathlib.Core.Path.{◌≡◌, refl, sym, ◌∙◌, ap, subst, subst₂}
use native.Mathlib.Omega.{arith}
use native.Mathlib.Decide.{ℕ_discrete}
use borrow.Author.Tests.{ne_eqb, eq-eqb}
use Rattle.model.specs.Limits.{flat_words}
use Rattle.model.specs.Term.{Mark, unmarked, marked, mark_word, Terms, no_terms, tree, count, join, size, marks, same_op}
use Rattle.model.specs.Rule.{Rule}
use Rattle.model.specs.Step.{allowed, step}
use Rattle.terms.specs.declared.TreeNode.{TreeNode}
use Rattle.terms.specs.Place.{node_of, same_head, same_at, same_nodes, RowAt}
use Rattle.terms.proofs.Place.{Tree, row-tree}
use Rattle.terms.proofs.Read.{direction-some}
use Rattle.terms.proofs.Rows.{size-join}
use Rattle.terms.proofs.SameWalk.{heads, heads-same}
use Rattle.marks.specs.Marks.{from_mark}
use Rattle.marks.proofs.First.{from-down, from-whole, none-empty}

-- rows that step have as many terms
step_count : (rs : List Rule) (f g : Terms) → step rs f g ≡ true → count f ≡ count g
unfolding step count
step_count rs no_terms no_terms h = refl
step_count rs no_terms (tree o m k s) h = absurd (true≢false (sym h))
step_count rs (tree o m k s) no_terms h = absurd (true≢false (sym h))
step_count rs (tree o m k s) (tree o' unmarked k' s') h =
    let (a, b) = (and-eq-true_iff (same_op o o') _).0 h in let (c, d) = (and-eq-true_iff (step rs k k') _).0 b in ap suc (step_count rs s s' d)
step_count rs (tree o m k s) (tree o' (marked d n) k' s') h =
    let (a, b) = (and-eq-true_iff (allowed rs (marked d n) (tree o m k no_terms) (tree o' (marked d n) k' no_terms)) _).0 h in ap suc (step_count rs s s' b)

uneven : (rs : List Rule) (f g : Terms) → (count f ≡ count g → ⊥) → step rs f g ≡ false
uneven rs f g h = go (step rs f g) refl
  where
    go : (b : Bool) → step rs f g ≡ b → step rs f g ≡ false
    go true e = absurd (h (step_count rs f g e))
    go false e = e

-- rows one behind the other step by parts
step-join : (rs : List Rule) (k k' s s' : Terms) → count k ≡ count k' → step rs (join k s) (join k' s') ≡ (step rs k k' && step rs s s')
unfolding step join count
step-join rs no_terms no_terms s s' e = refl
step-join rs no_terms (tree o m k r) s s' e = absurd (omega arith)
step-join rs (tree o m k r) no_terms s s' e = absurd (omega arith)
step-join rs (tree o m k r) (tree o' unmarked k' r') s s' e =
    ap (λ (b : Bool). same_op o o' && (step rs k k' && b)) (step-join rs r r' s s' (omega arith))
    ∙ (ap (λ (b : Bool). same_op o o' && b) (sym (and_assoc (step rs k k') (step rs r r') (step rs s s')))
    ∙ sym (and_assoc (same_op o o') (step rs k k' && step rs r r') (step rs s s')))
step-join rs (tree o m k r) (tree o' (marked d n) k' r') s s' e =
    let a = allowed rs (marked d n) (tree o m k no_terms) (tree o' (marked d n) k' no_terms) in
    ap (λ (b : Bool). a && b) (step-join rs r r' s s' (omega arith)) ∙ sym (and_assoc a (step rs r r') (step rs s s'))

-- an unmarked node: operator and count agree, and the children go on with the rest; or the rows do not step
plain_down : (rs : List Rule) (o o' : ℕ) (m m' : Mark) (k k' s s' : Terms) → mark_word m' ≡ 0 → o ≡ o' → count k ≡ count k'
    → step rs (join k s) (join k' s') ≡ step rs (tree o m k s) (tree o' m' k' s')
unfolding step
plain_down rs o o' m unmarked k k' s s' z e c = step-join rs k k' s s' c ∙ ap (λ (b : Bool). b && (step rs k k' && step rs s s')) (sym (eq-eqb o o' e))
plain_down rs o o' m (marked d n) k k' s s' z e c = absurd (direction-some d z)

other-op : (rs : List Rule) (o o' : ℕ) (m m' : Mark) (k k' s s' : Terms) → mark_word m' ≡ 0 → (o ≡ o' → ⊥) → step rs (tree o m k s) (tree o' m' k' s') ≡ false
unfolding step
other-op rs o o' m unmarked k k' s s' z e = ap (λ (b : Bool). b && (step rs k k' && step rs s s')) (ne_eqb o o' e)
other-op rs o o' m (marked d n) k k' s s' z e = absurd (direction-some d z)

falls : (a b c : Bool) → b ≡ false → (a && (b && c)) ≡ false
falls true b c e = ap (λ (x : Bool). x && c) e
falls false b c e = refl

other-count : (rs : List Rule) (o o' : ℕ) (m m' : Mark) (k k' s s' : Terms) → mark_word m' ≡ 0 → (count k ≡ count k' → ⊥) → step rs (tree o m k s) (tree o' m' k' s') ≡ false
unfolding step
other-count rs o o' m unmarked k k' s s' z c = falls (same_op o o') (step rs k k') (step rs s s') (uneven rs k k' c)
other-count rs o o' m (marked d n) k k' s s' z c = absurd (direction-some d z)

-- a marked node: what its mark allows, and the rest
pub marked-over : (rs : List Rule) (o o' : ℕ) (m m' : Mark) (k k' s s' : Terms) → (mark_word m' ≡ 0 → ⊥)
    → step rs (tree o m k s) (tree o' m' k' s') ≡ (allowed rs m' (tree o m k no_terms) (tree o' m' k' no_terms) && step rs s s')
unfolding step
marked-over rs o o' m unmarked k k' s s' h = absurd (h refl)
marked-over rs o o' m (marked d n) k k' s s' h = refl

-- where heads differ, operators or counts do
differ : (n : TreeNode) (o c : ℕ) → same_head n o c ≡ false → n.op.0 ≡ o → n.count ≡ c → ⊥
differ n o c e p q = true≢false (sym (heads-same n o c (record { op = p; count = q })) ∙ e)

-- rows f at i₀ and g, of which so many nodes were passed: what is left of g from its first mark on, and of f at i, step where they do
pub record Rests (rs : List Rule) (ws : List ℕ) (i₀ i j : ℕ) (f g : Terms) : Type 0 where
  pub earlier : Terms
  pub is_e : RowAt ws i (count (from_mark g)) earlier
  pub is_l : RowAt ws j (count (from_mark g)) (from_mark g)
  pub same : step rs earlier (from_mark g) ≡ step rs f g
  pub ends : i + flat_words * size earlier ≡ i₀ + flat_words * size f

module _ (rs : List Rule) (ws : List ℕ) where
  -- an unmarked pair whose heads agree: operators and counts do
  record Agree (o o' : ℕ) (k k' : Terms) : Type 0 where
    ops : o ≡ o'
    counts : count k ≡ count k'

  agree : (i j n n' o o' : ℕ) (m m' : Mark) (k k' s s' : Terms) → Tree ws i n o m k s → Tree ws j n' o' m' k' s' → same_at ws i j ≡ true → Agree o o' k k'
  agree i j n n' o o' m m' k k' s s' x y e =
      let h = heads (node_of ws i) (node_of ws j).op.0 (node_of ws j).count e in
      record { ops = sym x.op ∙ (h.op ∙ y.op); counts = sym x.kids ∙ (h.count ∙ y.kids) }

  differs : (i j n n' o o' : ℕ) (m : Mark) (k k' s s' : Terms) → Tree ws i n o m k s → Tree ws j n' o' unmarked k' s'
      → same_at ws i j ≡ false → step rs (tree o m k s) (tree o' unmarked k' s') ≡ false
  differs i j n n' o o' m k k' s s' x y e =
      elim (ℕ_discrete o o') [
        | yes p ↦
            other-count rs o o' m unmarked k k' s s' refl
            (λ c. differ (node_of ws i) (node_of ws j).op.0 (node_of ws j).count e (x.op ∙ (p ∙ sym y.op)) (x.kids ∙ (c ∙ sym y.kids)))
        | no p ↦ other-op rs o o' m unmarked k k' s s' refl p
      ]

  -- what is left of rows behind their first nodes is what is left of the rows
  carry : {i₀ i₁ i j : ℕ} (f' f g' g : Terms) → from_mark g' ≡ from_mark g → step rs f' g' ≡ step rs f g → i₁ + flat_words * size f' ≡ i₀ + flat_words * size f
      → Rests rs ws i₁ i j f' g' → Rests rs ws i₀ i j f g
  carry {i₀} {i₁} {i} {j} f' f g' g down s z r =
      record {
        earlier = r.earlier;
        is_e = subst (λ (x : Terms). RowAt ws i (count x) r.earlier) down r.is_e;
        is_l = subst (λ (x : Terms). RowAt ws j (count x) x) down r.is_l;
        same = ap (step rs r.earlier) (sym down) ∙ r.same ∙ s;
        ends = r.ends ∙ z;
      }

  -- one node more that is unmarked, and where the nodes behind it lead
  passed : (q i j n o o' : ℕ) (m : Mark) (k k' s s' : Terms) → RowAt ws i (suc n) (tree o m k s) → RowAt ws j (suc n) (tree o' unmarked k' s')
      → suc q + size (from_mark (tree o' unmarked k' s')) ≡ size (tree o' unmarked k' s') → same_nodes ws i j (suc q) ≡ true
      → (RowAt ws (i + flat_words) (count k' + n) (join k s) → RowAt ws (j + flat_words) (count k' + n) (join k' s')
      → q + size (from_mark (join k' s')) ≡ size (join k' s') → same_nodes ws (i + flat_words) (j + flat_words) q ≡ true
      → Rests rs ws (i + flat_words) (i + flat_words + flat_words * q) (j + flat_words + flat_words * q) (join k s) (join k' s'))
      → Rests rs ws i (i + flat_words * suc q) (j + flat_words * suc q) (tree o m k s) (tree o' unmarked k' s')
  unfolding size same_nodes
  passed q i j n o o' m k k' s s' hf hg w e again =
      let both = (and-eq-true_iff (same_at ws i j) (same_nodes ws (i + flat_words) (j + flat_words) q)).0 e in
      let x = row-tree ws i n o m k s hf in
      let y = row-tree ws j n o' unmarked k' s' hg in
      let h = agree i j n n o o' m unmarked k k' s s' x y both.0 in
      let v : q + size (from_mark (join k' s')) ≡ size (join k' s') = omega (arith, w, ap size (from-down o' unmarked k' s' refl), size-join k' s') in
      let a : i + flat_words + flat_words * q ≡ i + flat_words * suc q = omega arith in
      let b : j + flat_words + flat_words * q ≡ j + flat_words * suc q = omega arith in
      subst₂ (λ (p p' : ℕ). Rests rs ws i p p' (tree o m k s) (tree o' unmarked k' s')) a b
      (carry (join k s) (tree o m k s) (join k' s') (tree o' unmarked k' s') (from-down o' unmarked k' s' refl)
      (plain_down rs o o' m unmarked k k' s s' refl h.ops h.counts) (omega (arith, size-join k s))
      (again (subst (λ (c : ℕ). RowAt ws (i + flat_words) (c + n) (join k s)) h.counts x.below) y.below v both.1))

  sized : {g : Terms} → g ≡ no_terms → size g ≡ 0
  unfolding size
  sized e = ap size e

  over : (f g : Terms) → count f ≡ count g → g ≡ no_terms → step rs f g ≡ true
  unfolding step count
  over no_terms g c e = ap (step rs no_terms) e
  over (tree o m k s) g c e = absurd (omega (arith, c, ap count e))

  -- so many nodes agree, up to the first mark
  pub front-on : (q i j n : ℕ) (f g : Terms) → RowAt ws i n f → RowAt ws j n g → q + size (from_mark g) ≡ size g → same_nodes ws i j q ≡ true
      → Rests rs ws i (i + flat_words * q) (j + flat_words * q) f g
  unfolding count size same_nodes from_mark
  front-on zero i j n f g hf hg w e =
      let whole = from-whole g (omega (arith, w)) in
      let c : count (from_mark g) ≡ n = ap count whole ∙ hg.counted in
      let a : i + flat_words * 0 ≡ i = omega arith in
      let b : j + flat_words * 0 ≡ j = omega arith in
      record { earlier = f; is_e = rw (a, c) hf; is_l = rw (b, c, whole) hg; same = ap (step rs f) whole; ends = omega arith }
  front-on (suc q) i j n f no_terms hf hg w e = absurd (omega (arith, w))
  front-on (suc q) i j n f (tree o' (marked d r) k' s') hf hg w e = absurd (omega (arith, w))
  front-on (suc q) i j zero f (tree o' unmarked k' s') hf hg w e = absurd (omega (arith, hg.counted))
  front-on (suc q) i j (suc n) no_terms (tree o' unmarked k' s') hf hg w e = absurd (omega (arith, hf.counted))
  front-on (suc q) i j (suc n) (tree o m k s) (tree o' unmarked k' s') hf hg w e =
      passed q i j n o o' m k k' s s' hf hg w e (front-on q (i + flat_words) (j + flat_words) (count k' + n) (join k s) (join k' s'))

  -- or one does not
  pub front-off : (q i j n : ℕ) (f g : Terms) → RowAt ws i n f → RowAt ws j n g → q + size (from_mark g) ≡ size g → same_nodes ws i j q ≡ false
      → step rs f g ≡ false
  unfolding count size same_nodes from_mark
  front-off zero i j n f g hf hg w e = absurd (true≢false e)
  front-off (suc q) i j n f no_terms hf hg w e = absurd (omega (arith, w))
  front-off (suc q) i j n f (tree o' (marked d r) k' s') hf hg w e = absurd (omega (arith, w))
  front-off (suc q) i j zero f (tree o' unmarked k' s') hf hg w e = absurd (omega (arith, hg.counted))
  front-off (suc q) i j (suc n) no_terms (tree o' unmarked k' s') hf hg w e = absurd (omega (arith, hf.counted))
  front-off (suc q) i j (suc n) (tree o m k s) (tree o' unmarked k' s') hf hg w e = by (same_at ws i j) refl (front-off q (i + flat_words) (j + flat_words) (count k' + n) (join k s) (join k' s'))
    where
      x : Tree ws i n o m k s
      x = row-tree ws i n o m k s hf

      y : Tree ws j n o' unmarked k' s'
      y = row-tree ws j n o' unmarked k' s' hg

      v : q + size (from_mark (join k' s')) ≡ size (join k' s')
      v = omega (arith, w, ap size (from-down o' unmarked k' s' refl), size-join k' s')

      by : (b : Bool) → same_at ws i j ≡ b
          → (RowAt ws (i + flat_words) (count k' + n) (join k s) → RowAt ws (j + flat_words) (count k' + n) (join k' s')
          → q + size (from_mark (join k' s')) ≡ size (join k' s') → same_nodes ws (i + flat_words) (j + flat_words) q ≡ false → step rs (join k s) (join k' s') ≡ false)
          → step rs (tree o m k s) (tree o' unmarked k' s') ≡ false
      by false p again = differs i j n n o o' m k k' s s' x y p
      by true p again =
          let h = agree i j n n o o' m unmarked k k' s s' x y p in
          sym (plain_down rs o o' m unmarked k k' s s' refl h.ops h.counts) ∙ again (rw h.counts at x.below) y.below v (rw p at e)

  -- rows of which the later one bears no mark step exactly where all its nodes agree
  pub plain_step : (i j n : ℕ) (f g : Terms) → RowAt ws i n f → RowAt ws j n g → marks g ≡ 0 → same_nodes ws i j (size g) ≡ step rs f g
  plain_step i j n f g hf hg z = by (same_nodes ws i j (size g)) refl
    where
      none : from_mark g ≡ no_terms
      none = none-empty g z

      whole : size g + size (from_mark g) ≡ size g
      whole = omega (arith, sized none)

      ended : Rests rs ws i (i + flat_words * size g) (j + flat_words * size g) f g → true ≡ step rs f g
      ended r = sym (over r.earlier (from_mark g) r.is_e.counted none) ∙ r.same

      by : (b : Bool) → same_nodes ws i j (size g) ≡ b → b ≡ step rs f g
      by true e = ended (front-on (size g) i j n f g hf hg whole e)
      by false e = sym (front-off (size g) i j n f g hf hg whole e)
