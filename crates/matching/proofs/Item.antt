-- What one item says of every substitution.
-- Assumes nothing.
use Prim.Native.Nat.{ℕ, ◌+◌}
use mathlib.Core.List.{List}
use mathlib.Core.Bool.{Bool, true, false, false≢true}
use mathlib.Core.Path.{◌≡◌, refl, ap, sym, ◌∙◌}
use mathlib.Core.Logic.{◌↔◌}
use native.Mathlib.Omega.{arith}
use Rattle.model.specs.Limits.{flat_words}
use Rattle.model.specs.Tables.{item_words}
use Rattle.model.specs.declared.OpNo.{OpNo}
use Rattle.model.specs.declared.Bindings.{Bindings}
use Rattle.model.specs.Term.{Mark, unmarked, Terms, no_terms, tree, Term, put, count, join, strip, stripped}
use Rattle.model.specs.Pattern.{Patterns, no_patterns, var, app, count_p, Substitution, inst}
use Rattle.terms.specs.Place.{node_of, same_head, RowAt}
use Rattle.terms.proofs.Rows.{strip-join, count-strip, join-inj}
use Rattle.terms.proofs.Place.{Tree, row-tree}
use Rattle.terms.proofs.SameWalk.{heads, heads-same}
use Rattle.std.specs.Prelude.{Option, Some, None}
use Rattle.matching.specs.declared.ItemFit.{ItemFit}
use Rattle.rule_table.specs.declared.Item.TheVariants.{Variable, Operator}
use Rattle.rule_table.specs.Slots.{item_at, slot_of, PatternsAt}
use Rattle.rule_table.proofs.Patterns.{join_p}
use Rattle.matching.specs.Match.{fit_if, Valid, Means, BindBy, BindIs, op_step, ItemMeans, ItemBy, ItemIs}
use Rattle.matching.proofs.Patterns.{inst-join, count-inst, row-var, App, row-app}

-- a variable in front: the term is the variable's, and the rows behind are matched
pub var-means : (σ : Substitution) (x : ℕ) (s : Patterns) (t : Term) (f : Terms)
    → (strip (put t f) ≡ inst σ (var x s)) ↔ ((stripped t ≡ σ x) × (strip f ≡ inst σ s))
unfolding strip inst
var-means σ x s t f = (
  (λ e.
      let p : t.op ≡ (σ x).op = cc in
      let q : unmarked ≡ (σ x).mark = cc in
      let r : strip t.kids ≡ (σ x).kids = cc in
      let z : strip f ≡ inst σ s = cc in
      ((λ i. record { op = p i; mark = q i; kids = r i }), z)),
  λ p. rw (← p.0, p.1),
)

-- an operator in front: the children with the rows behind are matched
app-means : (σ : Substitution) (o : ℕ) (k s : Patterns) (m : Mark) (k' s' : Terms) → count_p k ≡ count k'
    → (strip (tree o m k' s') ≡ inst σ (app o k s)) ↔ (strip (join k' s') ≡ inst σ (join_p k s))
unfolding strip inst
app-means σ o k s m k' s' c = (
  (λ e.
      let p : strip k' ≡ inst σ k = cc in
      let q : strip s' ≡ inst σ s = cc in
      rw (strip-join, inst-join, p, q)),
  λ e.
      let p = join-inj (strip k') (inst σ k) (strip s') (inst σ s) (count-strip k' ∙ sym c ∙ sym (count-inst σ k)) (sym (strip-join k' s') ∙ e ∙ inst-join σ k s) in
      rw (p.front, p.back),
)

module _ (ps : List ℕ) (item : ℕ) (ws : List ℕ) (at : ℕ) (b : Bindings) where
  -- a variable's item
  bind-at : (n x : ℕ) (s : Patterns) (t : Term) (f : Terms) (e : ℕ) (r : Option ItemFit) → PatternsAt ps (item + item_words) n s
      → RowAt ws e n f → BindBy r ws x b e t → ItemBy r ps item ws b n (var x s) (put t f)
  bind-at n x s t f e (Some r) p h d =
      let m : n ≡ r.more + n = omega (arith, d.leaf) in
      record {
        valid = d.valid;
        rows = record { patterns = s; terms = f; is_p = rw m at p; is_t = rw d.ends (rw m at h) };
        same = λ σ. (
          (λ w.
              let a = (d.same σ).0 w.agrees in
              record { agrees = a.0; makes = (var-means σ x s t f).1 (a.1, w.makes) }),
          λ w.
              let v = (var-means σ x s t f).0 w.makes in
              record { agrees = (d.same σ).1 (w.agrees, v.0); makes = v.1 },
        );
      }
  bind-at n x s t f e None p h d = λ σ w. d σ w.agrees ((var-means σ x s t f).0 w.makes).0

  pub bind-step : (r : Option ItemFit) (x : ℕ) → slot_of (item_at ps item) ≡ Some (Variable x) → BindIs ws x at b r → ItemIs ps item ws at b r
  unfolding count_p count
  bind-step r y i d n no_patterns f hp hf = absurd (omega (arith, hp.counted))
  bind-step r y i d n (app o k s) f hp hf = let p = (row-app ps item n o k s hp).slot in let z : ◌≡◌ {A = ℕ} 0 1 = cc in absurd (omega arith)
  bind-step r y i d n (var x s) no_terms hp hf = absurd (omega (arith, hf.counted))
  bind-step r y i d n (var x s) (tree o m k s') hp hf =
      let v = row-var ps item n x s hp in
      let h = row-tree ws at n o m k s' hf in
      let t : Term = record { op = o; mark = m; kids = k } in
      let p = v.slot in
      let e : y ≡ x = cc in
      bind-at n x s t s' h.stop r v.behind h.behind (rw e at (d h.stop t h.term))

  -- an item is a variable or an operator
  pub other_step : (r : Option ItemFit) → slot_of (item_at ps item) ≡ None → ItemIs ps item ws at b r
  unfolding count_p
  other_step r i n no_patterns f hp hf = absurd (omega (arith, hp.counted))
  other_step r i n (var x s) f hp hf = let p = (row-var ps item n x s hp).slot in let z : ◌≡◌ {A = ℕ} 0 1 = cc in absurd (omega arith)
  other_step r i n (app o k s) f hp hf = let p = (row-app ps item n o k s hp).slot in let z : ◌≡◌ {A = ℕ} 0 1 = cc in absurd (omega arith)

-- an operator's item: its node differs
op-off : (ws : List ℕ) (b : Bindings) (o : ℕ) (k s : Patterns) (o' : ℕ) (m : Mark) (k' s' : Terms) → (o' ≡ o → count k' ≡ count_p k → ⊥)
    → (σ : Substitution) → Means ws b (tree o' m k' s') (app o k s) σ → ⊥
unfolding strip inst
op-off ws b o k s o' m k' s' d σ w =
    let e = w.makes in
    let p : o' ≡ o = cc in
    let q : strip k' ≡ inst σ k = cc in
    d p (sym (count-strip k') ∙ ap count q ∙ count-inst σ k)

module _ (ps : List ℕ) (item : ℕ) (ws : List ℕ) (at : ℕ) (b : Bindings) (v : Valid ws b) where
  -- or its children follow
  op-on : (n o : ℕ) (k s : Patterns) (m : Mark) (k' s' : Terms) → count_p k ≡ count k'
      → PatternsAt ps (item + item_words) (count_p k + n) (join_p k s) → RowAt ws (at + flat_words) (count k' + n) (join k' s')
      → ItemMeans ps item ws b (record { at = at + flat_words; more = count_p k; bound = b }) n (app o k s) (tree o m k' s')
  op-on n o k s m k' s' c hp hf =
      record {
        valid = v;
        rows = record { patterns = join_p k s; terms = join k' s'; is_p = hp; is_t = rw (← c) at hf };
        same = λ σ. (
          (λ w. record { agrees = w.agrees; makes = (app-means σ o k s m k' s' c).1 w.makes }),
          λ w. record { agrees = w.agrees; makes = (app-means σ o k s m k' s' c).0 w.makes },
        );
      }

  op-go : (n o : ℕ) (k s : Patterns) (o' : ℕ) (m : Mark) (k' s' : Terms) → Tree ws at n o' m k' s' → App ps item n o k s
      → (r : Bool) → same_head (node_of ws at) o (count_p k) ≡ r
      → ItemBy (fit_if r (record { at = at + flat_words; more = count_p k; bound = b })) ps item ws b n (app o k s) (tree o' m k' s')
  op-go n o k s o' m k' s' h w false e =
      op-off ws b o k s o' m k' s'
      (λ p c. false≢true (sym e ∙ heads-same (node_of ws at) o (count_p k) (record { op = h.op ∙ p; count = h.kids ∙ c })))
  op-go n o k s o' m k' s' h w true e =
      let d = heads (node_of ws at) o (count_p k) e in
      let p : o' ≡ o = sym h.op ∙ d.op in
      let c : count_p k ≡ count k' = sym d.count ∙ h.kids in
      rw p (op-on n o k s m k' s' c w.below h.below)

  pub op-step : (r : Option ItemFit) (x : OpNo) (y : ℕ) → slot_of (item_at ps item) ≡ Some (Operator x y) → r ≡ op_step ws x.0 y at b
      → ItemIs ps item ws at b r
  unfolding count_p count
  op-step r x y i e n no_patterns f hp hf = absurd (omega (arith, hp.counted))
  op-step r x y i e n (var v s) f hp hf = let p = (row-var ps item n v s hp).slot in let z : ◌≡◌ {A = ℕ} 0 1 = cc in absurd (omega arith)
  op-step r x y i e n (app o k s) no_terms hp hf = absurd (omega (arith, hf.counted))
  op-step r x y i e n (app o k s) (tree o' m k' s') hp hf =
      let w = row-app ps item n o k s hp in
      let d = w.slot in
      let p : x ≡ record { 0 = o } = cc in
      let q : y ≡ count_p k = cc in
      rw (e, p, q)
      (op-go n o k s o' m k' s' (row-tree ws at n o' m k' s' hf) w (same_head (node_of ws at) o (count_p k)) refl)
