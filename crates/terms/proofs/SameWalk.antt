-- Two terms walked at once, marks aside: what is left of them is the same exactly when the whole terms are.
-- Assumes nothing.
use Prim.Native.Nat.{ℕ, zero, suc, ◌+◌, ◌-◌, ◌*◌, ◌≤◌, ◌<◌}
use mathlib.Core.List.{List}
use mathlib.Core.Bool.{true, false, false≢true, and-eq-true_iff}
use mathlib.Core.Path.{◌≡◌, refl, ap, sym, ◌∙◌}
use mathlib.Core.Logic.{◌↔◌}
use native.Mathlib.Omega.{arith}
use borrow.Author.Tests.{eq-eqb, eqb-true}
use lib.Dec.{eqb}
use lib.ListN.{length}
use Rattle.model.specs.Limits.{flat_words}
use Rattle.model.specs.Term.{Terms, no_terms, tree, Term, one, count, join, strip, stripped, same_op}
use Rattle.terms.specs.declared.TreeNode.{TreeNode}
use Rattle.terms.specs.Place.{node_of, same_head, same_at, TermAt, RowAt, Well, SameIs}
use Rattle.terms.proofs.Rows.{strip-join, count-strip, join-inj, strip-one}
use Rattle.terms.proofs.Place.{row-tree, row_room, row_fits, term-row}

-- a node that agrees, by its words
pub record Heads (n : TreeNode) (o c : ℕ) : Type 0 where
  pub op : n.op.0 ≡ o
  pub count : n.count ≡ c

pub heads : (n : TreeNode) (o c : ℕ) → same_head n o c ≡ true → Heads n o c
heads n o c e =
    let p = (and-eq-true_iff (same_op n.op.0 o) (eqb n.count c)).0 e in
    record { op = eqb-true _ _ p.0; count = eqb-true _ _ p.1 }

pub heads-same : (n : TreeNode) (o c : ℕ) → Heads n o c → same_head n o c ≡ true
heads-same n o c h = rw (eq-eqb _ _ h.op, eq-eqb _ _ h.count)

-- what is left of the terms t and u, n rows from i and from j on
record TwoRests (ws : List ℕ) (i j n : ℕ) (t u : Term) : Type 0 where
  f : Terms
  g : Terms
  is_f : RowAt ws i n f
  is_g : RowAt ws j n g
  same : (strip f ≡ strip g) ↔ (stripped t ≡ stripped u)

-- where a walk over both terms is
pub SameHere : List ℕ → ℕ → ℕ → ℕ → ℕ → ℕ → Type 0
SameHere ws a b i j n = (e e' : ℕ) (t u : Term) → TermAt ws a e t → TermAt ws b e' u → TwoRests ws i j n t u

pub same_first : (ws : List ℕ) (a b : ℕ) → SameHere ws a b a b 1
unfolding SameHere strip
same_first ws a b e e' t u ht hu =
    record {
      f = one t;
      g = one u;
      is_f = term-row ws a e t ht;
      is_g = term-row ws b e' u hu;
      same = (strip-one t u, λ p. ap one p);
    }

module _ (ws : List ℕ) (a b i j : ℕ) where
  done : (f g : Terms) → RowAt ws i 0 f → RowAt ws j 0 g → strip f ≡ strip g
  unfolding strip count
  done no_terms no_terms hf hg = refl
  done no_terms (tree o m k s) hf hg = absurd (omega (arith, hg.counted))
  done (tree o m k s) g hf hg = absurd (omega (arith, hf.counted))

  pub same-done : SameHere ws a b i j 0 → SameIs ws a b true
  unfolding SameHere
  same-done h e e' t u ht hu = let x = h e e' t u ht hu in x.same.0 (done x.f x.g x.is_f x.is_g)

  agree : (n : ℕ) (f g : Terms) → RowAt ws i (suc n) f → RowAt ws j (suc n) g → strip f ≡ strip g
      → same_at ws i j ≡ true
  unfolding strip count
  agree n no_terms g hf hg p = absurd (omega (arith, hf.counted))
  agree n (tree o m k s) no_terms hf hg p = absurd (omega (arith, hg.counted))
  agree n (tree o m k s) (tree o' m' k' s') hf hg p =
      let x = row-tree ws i n o m k s hf in
      let y = row-tree ws j n o' m' k' s' hg in
      let q : o ≡ o' = cc in
      let r : strip k ≡ strip k' = cc in
      heads-same (node_of ws i) (node_of ws j).op.0 (node_of ws j).count
      (record {
        op = x.op ∙ q ∙ sym y.op;
        count = x.kids ∙ sym (count-strip k) ∙ ap count r ∙ count-strip k' ∙ sym y.kids;
      })

  pub same-off : (n : ℕ) → 0 < n → same_at ws i j ≡ false → SameHere ws a b i j n → SameIs ws a b false
  unfolding SameHere
  same-off zero l d h e e' t u ht hu = absurd (omega arith)
  same-off (suc n) l d h e e' t u ht hu = λ p.
      let x = h e e' t u ht hu in
      false≢true (sym d ∙ agree n x.f x.g x.is_f x.is_g (x.same.1 p))

  next : (n : ℕ) → Heads (node_of ws i) (node_of ws j).op.0 (node_of ws j).count → (t u : Term) (f g : Terms) → RowAt ws i (suc n) f
      → RowAt ws j (suc n) g
      → (strip f ≡ strip g) ↔ (stripped t ≡ stripped u) → TwoRests ws (i + flat_words) (j + flat_words) ((node_of ws i).count + n) t u
  unfolding strip count
  next n q t u no_terms g hf hg w = absurd (omega (arith, hf.counted))
  next n q t u (tree o m k s) no_terms hf hg w = absurd (omega (arith, hg.counted))
  next n q t u (tree o m k s) (tree o' m' k' s') hf hg w =
      let x = row-tree ws i n o m k s hf in
      let y = row-tree ws j n o' m' k' s' hg in
      let z : o ≡ o' = sym x.op ∙ q.op ∙ y.op in
      let d : count k ≡ (node_of ws i).count = sym x.kids in
      let d' : count k' ≡ (node_of ws i).count = sym y.kids ∙ sym q.count in
      record {
        f = join k s;
        g = join k' s';
        is_f = rw d at x.below;
        is_g = rw d' at y.below;
        same = (
          (λ e.
              let h = join-inj (strip k) (strip k') (strip s) (strip s') (count-strip k ∙ d ∙ sym d' ∙ sym (count-strip k')) (sym (strip-join k s) ∙ e ∙ strip-join k' s') in
              w.0 (rw (z, h.front, h.back))),
          λ e.
              let h = w.1 e in
              let p : strip k ≡ strip k' = cc in
              let p' : strip s ≡ strip s' = cc in
              rw (strip-join k s, strip-join k' s', p, p'),
        );
      }

  pub same_next : (n : ℕ) → 0 < n → same_at ws i j ≡ true → SameHere ws a b i j n
      → SameHere ws a b (i + flat_words) (j + flat_words) (n - 1 + (node_of ws i).count)
  unfolding SameHere
  same_next zero l q h e e' t u ht hu = absurd (omega arith)
  same_next (suc n) l q h e e' t u ht hu =
      let x = h e e' t u ht hu in
      let m : suc n - 1 + (node_of ws i).count ≡ (node_of ws i).count + n = omega arith in
      rw m (next n (heads (node_of ws i) (node_of ws j).op.0 (node_of ws j).count q) t u x.f x.g x.is_f x.is_g x.same)

  -- room for what is left, and for the next two nodes
  pub record Room (n : ℕ) : Type 0 where
    pub few : flat_words * n ≤ length ws
    pub first : 0 < n → i + flat_words ≤ length ws
    pub second : 0 < n → j + flat_words ≤ length ws

  pub same-room : (n : ℕ) → SameHere ws a b i j n → Well ws a → Well ws b → Room n
  unfolding SameHere
  same-room zero h v w = record { few = omega arith; first = λ l. absurd (omega arith); second = λ l. absurd (omega arith) }
  same-room (suc n) h v w =
      let x = h v.end w.end v.term w.term v.is w.is in
      record {
        few = row_fits ws i (suc n) x.f x.is_f;
        first = λ l. row_room ws i n x.f x.is_f;
        second = λ l. row_room ws j n x.g x.is_g;
      }
