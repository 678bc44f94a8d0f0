-- The walk by pending counts ends where a row of terms ends, and nowhere else.
-- Assumes nothing.
use Prim.Native.Nat.{ℕ, zero, suc, ◌+◌, ◌-◌, ◌*◌, ◌≤◌, ◌<◌}
use mathlib.Core.List.{List, [], ◌∷◌, ◌++◌, append_assoc}
use mathlib.Core.Bool.{Bool, true, false, and-eq-true_iff}
use mathlib.Core.Option.{Option as Maybe, none, some}
use mathlib.Core.Path.{◌≡◌, refl, ap, sym, ◌∙◌}
use native.Mathlib.Nat.{zero-add, add-zero, suc-add}
use native.Mathlib.Numerals.{add-one}
use native.Mathlib.Omega.{arith}
use borrow.Author.Tests.{le-leb, leb-true}
use lib.Dec.{leb}
use lib.ListN.{length, get_or, drop, length-append, length-drop}
use lib.Seq.{drop-cons}
use Rattle.std.specs.Prelude.{Option, Some, None}
use Rattle.model.specs.Limits.{child_limit, flat_words}
use Rattle.model.specs.Term.{Mark, Terms, no_terms, tree, count, Narrow, mark_word, rule_word, words, mark_of, Cut}
use Rattle.terms.specs.declared.TreeNode.{TreeNode}
use Rattle.terms.specs.Place.{node_of, is_some, ok_words, ok_node}
use Rattle.terms.proofs.Rows.{count-join, words-join, narrow-parts}
use Rattle.terms.proofs.Read.{mark-words, mark-of, CutIs, has-cut}

abbrev pub end_if : Bool → Option ℕ → Option ℕ
end_if true e = e
end_if false e = None

abbrev pub stop : ℕ → ℕ → Option ℕ
stop zero at = Some at
stop (suc n) at = None

-- the walk: from these words on, which stand at the place `at`, n terms are still to be read
unfoldable pub scan : List ℕ → ℕ → ℕ → Option ℕ
scan [] n at = stop n at
scan (o ∷ []) n at = stop n at
scan (o ∷ c ∷ []) n at = stop n at
scan (o ∷ c ∷ m ∷ []) n at = stop n at
scan (o ∷ c ∷ m ∷ r ∷ ws) zero at = Some at
scan (o ∷ c ∷ m ∷ r ∷ ws) (suc n) at = end_if (ok_words c m r) (scan ws (c + n) (at + flat_words))

pub scan-zero : (ws : List ℕ) (at : ℕ) → scan ws 0 at ≡ Some at
unfolding scan
scan-zero [] at = refl
scan-zero (o ∷ []) at = refl
scan-zero (o ∷ c ∷ []) at = refl
scan-zero (o ∷ c ∷ m ∷ []) at = refl
scan-zero (o ∷ c ∷ m ∷ r ∷ ws) at = refl

-- a row of terms is walked over
pub scan-words : (f : Terms) → Narrow f → (rest : List ℕ) (n at : ℕ)
    → scan (words f ++ rest) (count f + n) at ≡ scan rest n (at + length (words f))
unfolding scan words count Narrow
scan-words no_terms h rest n at = rw (zero-add, add-zero)
scan-words (tree o m k s) h rest n at =
    rw (suc-add, le-leb _ _ h.0, mark-words m, append_assoc, scan-words k h.1, scan-words s h.2)
    (ap (scan rest n) (omega (arith, length-append (words k) (words s))))

-- n terms stand at the front of these words, whose place is `at`, and end at e
pub record RowFront (ws : List ℕ) (n at e : ℕ) : Type 0 where
  pub terms : Terms
  pub narrow : Narrow terms
  pub counted : count terms ≡ n
  pub rest : List ℕ
  pub spelled : ws ≡ words terms ++ rest
  pub end : e ≡ at + length (words terms)

at-stop : (ws : List ℕ) (n at e : ℕ) → stop n at ≡ Some e → RowFront ws n at e
unfolding words Narrow count
at-stop ws zero at e p =
    let q : at ≡ e = cc in
    record { terms = no_terms; narrow = tt; counted = refl; rest = ws; spelled = refl; end = omega arith }
at-stop ws (suc n) at e p = let z : ◌≡◌ {A = ℕ} 0 1 = cc in absurd (omega arith)

-- the mark of a node that is right
record Marked (m r : ℕ) : Type 0 where
  mark : Mark
  first : mark_word mark ≡ m
  second : rule_word mark ≡ r

marked : (m r : ℕ) (k : Maybe Mark) → mark_of m r ≡ k → is_some k ≡ true → Marked m r
marked m r none e i = let z : ◌≡◌ {A = ℕ} 0 1 = cc in absurd (omega arith)
marked m r (some k) e i = let w = mark-of m r k e in record { mark = k; first = w.0; second = w.1 }

-- a node in front of c + n terms, of which the first c are its children
node-front : (o c m r n at e : ℕ) (ws : List ℕ) → c ≤ child_limit → Marked m r → (f : RowFront ws (c + n) (at + flat_words) e) (p : Cut)
    → CutIs c f.terms p
    → RowFront (o ∷ c ∷ m ∷ r ∷ ws) (suc n) at e
unfolding words Narrow count
node-front o c m r n at e ws l k f p d =
    let h = narrow-parts p.front p.back (rw d.joined at f.narrow) in
    let w : words f.terms ≡ words p.front ++ words p.back = ap words d.joined ∙ words-join p.front p.back in
    record {
      terms = tree o k.mark p.front p.back;
      narrow = (omega (arith, d.counted), h.0, h.1);
      counted = omega (arith, d.counted, f.counted, ap count d.joined, count-join p.front p.back);
      rest = f.rest;
      spelled = rw (d.counted, k.first, k.second, ← w, f.spelled);
      end = omega (arith, f.end, ap length w);
    }

at-node : (o c m r n at e : ℕ) (ws : List ℕ) (b : Bool) → ok_words c m r ≡ b → end_if b (scan ws (c + n) (at + flat_words)) ≡ Some e
    → (scan ws (c + n) (at + flat_words) ≡ Some e → RowFront ws (c + n) (at + flat_words) e) → RowFront (o ∷ c ∷ m ∷ r ∷ ws) (suc n) at e
at-node o c m r n at e ws false ok p rec = let z : ◌≡◌ {A = ℕ} 0 1 = cc in absurd (omega arith)
at-node o c m r n at e ws true ok p rec =
    let f = rec p in
    let h = has-cut c f.terms (omega (arith, f.counted)) in
    let both = (and-eq-true_iff (leb c child_limit) (is_some (mark_of m r))).0 ok in
    node-front o c m r n at e ws (leb-true c child_limit both.0) (marked m r (mark_of m r) refl both.1) f h.parts h.is

pub scan-front : (ws : List ℕ) (n at e : ℕ) → scan ws n at ≡ Some e → RowFront ws n at e
unfolding scan
scan-front [] n at e p = at-stop [] n at e p
scan-front (o ∷ []) n at e p = at-stop (o ∷ []) n at e p
scan-front (o ∷ c ∷ []) n at e p = at-stop (o ∷ c ∷ []) n at e p
scan-front (o ∷ c ∷ m ∷ []) n at e p = at-stop (o ∷ c ∷ m ∷ []) n at e p
scan-front (o ∷ c ∷ m ∷ r ∷ ws) zero at e p = at-stop (o ∷ c ∷ m ∷ r ∷ ws) zero at e p
scan-front (o ∷ c ∷ m ∷ r ∷ ws) (suc n) at e p =
    at-node o c m r n at e ws (ok_words c m r) refl p (scan-front ws (c + n) (at + flat_words) e)

-- the words at a place, one by one
pub drop-word : (ws : List ℕ) (p q : ℕ) → q ≡ p + 1 → p < length ws → drop p ws ≡ get_or ws p 0 ∷ drop q ws
drop-word ws p q e h = rw (e, add-one) (drop-cons ws p 0 h)

pub drop-node : (ws : List ℕ) (p : ℕ) → p + flat_words ≤ length ws
    → drop p ws ≡ (node_of ws p).op.0 ∷ (node_of ws p).count ∷ (node_of ws p).mark ∷ (node_of ws p).rule.0 ∷ drop (p + flat_words) ws
drop-node ws p h =
    rw (
      drop-word ws p (p + 1) refl (omega arith),
      drop-word ws (p + 1) (p + 2) (omega arith) (omega arith),
      drop-word ws (p + 2) (p + 3) (omega arith) (omega arith),
      drop-word ws (p + 3) (p + flat_words) (omega arith) (omega arith),
    )

-- one turn of the walk, in the code's terms: the node that was read, and what was found of it
scan_step : (ws : List ℕ) (p n : ℕ) → p + flat_words ≤ length ws → 0 < n
    → scan (drop p ws) n p ≡ end_if (ok_node (node_of ws p)) (scan (drop (p + flat_words) ws) (n - 1 + (node_of ws p).count) (p + flat_words))
unfolding scan
scan_step ws p zero h k = absurd (omega arith)
scan_step ws p (suc n) h k =
    let e : (node_of ws p).count + n ≡ suc n - 1 + (node_of ws p).count = omega arith in
    rw (drop-node ws p h, e)

turn : (ws : List ℕ) (p n : ℕ) (d : TreeNode) (b : Bool) → p + flat_words ≤ length ws → 0 < n → d ≡ node_of ws p → b ≡ ok_node d
    → scan (drop p ws) n p ≡ end_if b (scan (drop (p + flat_words) ws) (n - 1 + d.count) (p + flat_words))
turn ws p n d b h k e f = rw (f, e) (scan_step ws p n h k)

-- a node that is right has at most 8 children
pub ok-count : (d : TreeNode) → ok_node d ≡ true → d.count ≤ child_limit
ok-count d e =
    leb-true d.count child_limit
    ((and-eq-true_iff (leb d.count child_limit) (is_some (mark_of d.mark d.rule.0))).0 e).0

-- no node where there is no room for one
short : (l : List ℕ) (n at : ℕ) → length l < flat_words → 0 < n → scan l n at ≡ None
unfolding scan
short l zero at h k = absurd (omega arith)
short [] (suc n) at h k = refl
short (o ∷ []) (suc n) at h k = refl
short (o ∷ c ∷ []) (suc n) at h k = refl
short (o ∷ c ∷ m ∷ []) (suc n) at h k = refl
short (o ∷ c ∷ m ∷ r ∷ ws) (suc n) at h k = absurd (omega arith)

pub scan-short : (ws : List ℕ) (p n : ℕ) → length ws - p < flat_words → 0 < n → scan (drop p ws) n p ≡ None
scan-short ws p n h k = short (drop p ws) n p (omega (arith, length-drop p ws)) k

-- where a walk from `at` is: n terms are still to be read from pos on, and it finds what the whole walk finds
pub record Walking (ws : List ℕ) (at pos n : ℕ) : Type 0 where
  pub inside : pos ≤ length ws
  pub few : n + 2 * at ≤ 1 + 2 * pos
  pub finds : scan (drop pos ws) n pos ≡ scan (drop at ws) 1 at

module _ (ws : List ℕ) (at pos n : ℕ) (d : TreeNode) (room : pos + flat_words ≤ length ws) (more : 0 < n) (is : d ≡ node_of ws pos) (h : Walking ws at pos n) where
  pub walk-next : ok_node d ≡ true → Walking ws at (pos + flat_words) (n - 1 + d.count)
  walk-next e =
      record {
        inside = omega arith;
        few = omega (arith, h.few, ok-count d e);
        finds = sym (turn ws pos n d true room more is (sym e)) ∙ h.finds;
      }

  pub walk-off : ok_node d ≡ false → scan (drop at ws) 1 at ≡ None
  walk-off e = sym h.finds ∙ turn ws pos n d false room more is (sym e)

pub walk-done : (ws : List ℕ) (at pos n : ℕ) → n ≡ 0 → Walking ws at pos n → scan (drop at ws) 1 at ≡ Some pos
walk-done ws at pos n e h = sym h.finds ∙ rw e (scan-zero (drop pos ws) pos)
