-- The last term of the area, marks aside: its words cut around a spot, and what stands there once more terms are written behind it.
use Prim.Native.Nat.{ℕ, ◌+◌, ◌-◌, ◌≤◌}
use mathlib.Core.List.{List, [], ◌++◌, append_assoc, append-nil}
use mathlib.Core.Path.{◌≡◌, refl, sym, ap, ap₂, subst₂, ◌∙◌}
use native.Mathlib.Omega.{arith}
use native.Mathlib.Nat.{add-zero}
use lib.ListN.{length, length-append}
use Rattle.model.specs.Node.{Node, term_of}
use Rattle.model.specs.Term.{Terms, no_terms, tree, one, strip, words, join}
use Rattle.flat.specs.Ends.{last_or, Leads}
use Rattle.flat.proofs.NodeTerms.{term-strip}
use Rattle.laws.specs.Area.{splice, part}
use Rattle.trees.specs.Area.{bare, around, WholeNodes}
use Rattle.trees.specs.declared.Spot.{Spot}
use Rattle.laws.proofs.Area.{length-splice, length_part, part-more, part-part, part-middle, part-written, splice-none, splice-more}
use Rattle.trees.proofs.Bare.{length-bare, bare-bare, bare-append, bare-part, bare-words, whole_words}
use Rattle.trees.proofs.Around.{around-join}
use Rattle.writer.specs.Written.{pre_of, post_of, Stood, Ran}
use Rattle.writer.specs.Appends.{term_words}

-- the words ws stand before `end`, marks aside
pub record Stands (area : List ℕ) (end : ℕ) (ws : List ℕ) : Type 0 where
  pub fits : end ≤ length area
  pub long : length ws ≤ end
  pub plain : bare (part area (end - length ws) (length ws)) ≡ ws

-- whole nodes without marks
pub record Plain (ws : List ℕ) : Type 0 where
  pub whole : WholeNodes (length ws)
  pub is : bare ws ≡ ws

pub plain-append : {u v : List ℕ} → Plain u → Plain v → Plain (u ++ v)
plain-append {u} {v} p q =
    record { whole = omega (arith, length-append u v, p.whole, q.whole); is = bare-append u v p.whole ∙ ap₂ ◌++◌ p.is q.is }

-- A term cut in three around a spot.
module _ {area : List ℕ} {s : Spot} {w : List ℕ} (k : Stood area s w) where
  abbrev start : ℕ
  start = s.end - s.post - length w - s.place

  pub length-pre : length (pre_of area s (length w)) ≡ s.place
  length-pre = length-bare (part area start s.place) ∙ length_part area start s.place (omega (arith, k.room, k.fits))

  pub length-post : length (post_of area s) ≡ s.post
  length-post = length-bare (part area (s.end - s.post) s.post) ∙ length_part area (s.end - s.post) s.post (omega (arith, k.room, k.fits))

  pub pre-plain : Plain (pre_of area s (length w))
  pre-plain = record { whole = rw length-pre k.whole.0; is = bare-bare (part area start s.place) }

  pub post-plain : Plain (post_of area s)
  post-plain = record { whole = rw length-post k.whole.2; is = bare-bare (part area (s.end - s.post) s.post) }

  pub cut : Stands area s.end (pre_of area s (length w) ++ (w ++ post_of area s))
  cut =
      let p = part area start s.place in
      let q = part area (s.end - s.post - length w) (length w) in
      let r = part area (s.end - s.post) s.post in
      let room = k.room in
      let fits = k.fits in
      let at-w : start + s.place ≡ s.end - s.post - length w = omega arith in
      let at-post : s.end - s.post - length w + length w ≡ s.end - s.post = omega arith in
      let total : length (pre_of area s (length w) ++ (w ++ post_of area s)) ≡ s.place + (length w + s.post) =
      length-append (pre_of area s (length w)) (w ++ post_of area s) ∙ ap₂ ◌+◌ length-pre (length-append w (post_of area s) ∙ ap (λ (n : ℕ). length w + n) length-post) in
      let from : s.end - length (pre_of area s (length w) ++ (w ++ post_of area s)) ≡ start = omega arith in
      let three : part area start (s.place + (length w + s.post)) ≡ p ++ (q ++ r) =
      part-more area start s.place (length w + s.post)
      ∙ ap (λ (i : ℕ). p ++ part area i (length w + s.post)) at-w
      ∙ ap (λ (l : List ℕ). p ++ l) (part-more area (s.end - s.post - length w) (length w) s.post ∙ ap (λ (i : ℕ). q ++ part area i s.post) at-post) in
      let lp : length p ≡ s.place = length_part area start s.place (omega arith) in
      let lq : length q ≡ length w = length_part area (s.end - s.post - length w) (length w) (omega arith) in
      record {
        fits = fits;
        long = omega arith;
        plain = ap₂ (λ (i n : ℕ). bare (part area i n)) from total
            ∙ ap bare three
            ∙ bare-append p (q ++ r) (rw lp k.whole.0)
            ∙ ap (λ (l : List ℕ). bare p ++ l) (bare-append q r (rw lq k.whole.1) ∙ ap (λ (l : List ℕ). l ++ bare r) k.here);
      }

stands-part : {area : List ℕ} {end : ℕ} {ws : List ℕ} → Stands area end ws → (o n : ℕ) → o + n ≤ length ws → WholeNodes o → WholeNodes n →
    bare (part area (end - length ws + o) n) ≡ part ws o n
stands-part {area} {end} {ws} k o n h wo wn =
    let fits = k.fits in
    let long = k.long in
    let i = end - length ws in
    ap bare (sym (part-part area i (length ws) o n (omega arith) h))
    ∙ bare-part (part area i (length ws)) o n (omega (arith, length_part area i (length ws) (omega arith))) wo wn
    ∙ ap (λ (l : List ℕ). part l o n) k.plain

-- words that stand before `end`, cut where a spot says
module _ {area : List ℕ} (s : Spot) (p w q : List ℕ) (k : Stands area s.end (p ++ (w ++ q))) (lp : length p ≡ s.place)
    (lq : length q ≡ s.post) (wp : WholeNodes (length p)) (ww : WholeNodes (length w)) (wq : WholeNodes (length q)) where
  total : length (p ++ (w ++ q)) ≡ s.place + (length w + s.post)
  total = length-append p (w ++ q) ∙ ap₂ ◌+◌ lp (length-append w q ∙ ap (λ (n : ℕ). length w + n) lq)

  pub pre_is : pre_of area s (length w) ≡ p
  pre_is =
      let long = k.long in
      let e : s.end - s.post - length w - s.place ≡ s.end - length (p ++ (w ++ q)) + 0 = omega (arith, total) in
      ap (λ (i : ℕ). bare (part area i s.place)) e
      ∙ stands-part k 0 s.place (omega (arith, total)) refl (rw (← lp) wp)
      ∙ part-middle [] p (w ++ q) 0 s.place refl lp

  pub post_is : post_of area s ≡ q
  post_is =
      let long = k.long in
      let o = length p + length w in
      let e : s.end - s.post ≡ s.end - length (p ++ (w ++ q)) + o = omega (arith, total, lp) in
      ap (λ (i : ℕ). bare (part area i s.post)) e
      ∙ stands-part k o s.post (omega (arith, total, lp)) (omega arith) (rw (← lq) wq)
      ∙ ap (λ (l : List ℕ). part l o s.post) (sym (append_assoc p w q) ∙ ap (λ (l : List ℕ). (p ++ w) ++ l) (sym (append-nil q)))
      ∙ part-middle (p ++ w) q [] o s.post (length-append p w) lq

  pub stood : Stood area s w
  stood =
      let long = k.long in
      let e : s.end - s.post - length w ≡ s.end - length (p ++ (w ++ q)) + length p = omega (arith, total, lp) in
      record {
        whole = (rw (← lp) wp, ww, rw (← lq) wq);
        room = omega (arith, total);
        fits = k.fits;
        here = ap (λ (i : ℕ). bare (part area i (length w))) e
            ∙ stands-part k (length p) (length w) (omega (arith, total, lp)) wp ww
            ∙ part-middle p w q (length p) (length w) refl refl;
      }

-- Terms written behind the last one.
module _ {p q : List ℕ} (a : Plain p) (b : Plain q) where
  stands_one : (t : Terms) (area : List ℕ) (end : ℕ) → end + length (p ++ (words t ++ q)) ≤ length area →
      Stands (splice area end (p ++ (words t ++ q))) (end + length (p ++ (words t ++ q))) (p ++ (words (strip t) ++ q))
  stands_one t area end h =
      let u = p ++ (words t ++ q) in
      let e : bare u ≡ p ++ (words (strip t) ++ q) =
      bare-append p (words t ++ q) a.whole
      ∙ ap₂ ◌++◌ a.is (bare-append (words t) q (whole_words t) ∙ ap₂ ◌++◌ (bare-words t) b.is) in
      let l : length (p ++ (words (strip t) ++ q)) ≡ length u = ap length (sym e) ∙ length-bare u in
      let i : end + length u - length (p ++ (words (strip t) ++ q)) ≡ end = omega arith in
      record {
        fits = omega (arith, length-splice area end u h);
        long = omega arith;
        plain = ap₂ (λ (x n : ℕ). bare (part (splice area end u) x n)) i l ∙ ap bare (part-written area end u h) ∙ e;
      }

  pub stands_after : (f t : Terms) (area : List ℕ) (end : ℕ) → Stands area end (p ++ (words (strip t) ++ q)) →
      end + length (around p q f) ≤ length area →
      Stands (splice area end (around p q f)) (end + length (around p q f)) (p ++ (words (strip (last_or t f)) ++ q))
  unfolding around last_or
  stands_after no_terms t area end k h = rw (splice-none area end, add-zero end) k
  stands_after (tree o m c g) t area end k h =
      let u = p ++ (words (tree o m c no_terms) ++ q) in
      let rest = around p q g in
      let e : u ++ rest ≡ p ++ (words (tree o m c no_terms) ++ (q ++ rest)) = simp append_assoc in
      let l : length u + length rest ≡ length (p ++ (words (tree o m c no_terms) ++ (q ++ rest))) = sym (length-append u rest) ∙ ap length e in
      let n : end + length u + length rest ≡ end + length (p ++ (words (tree o m c no_terms) ++ (q ++ rest))) = omega arith in
      subst₂ (λ (x : List ℕ) (y : ℕ). Stands x y (p ++ (words (strip (last_or (tree o m c no_terms) g)) ++ q)))
      (splice-more area end u rest (omega arith) ∙ ap (splice area end) e) n
      (stands_after g (tree o m c no_terms) (splice area end u) (end + length u) (stands_one (tree o m c no_terms) area end (omega arith))
      (omega (arith, length-splice area end u (omega arith))))

  -- from one node's term to another's
  pub stands-next : (ns : List Node) (l r : ℕ) {f : Terms} {area after : List ℕ} {end new : ℕ} → Leads ns l r f →
      Stands area end (p ++ (term_words ns l ++ q)) → Ran p q area end f after new → new ≤ length area → Stands after new (p ++ (term_words ns r ++ q))
  stands-next ns l r {f} {area} {after} {end} {new} d k w h =
      let t = one (term_of ns l) in
      let e = w.end_is in
      let before : Stands area end (p ++ (words (strip t) ++ q)) = rw (term-strip ns l) k in
      let s = stands_after f t area end before (omega arith) in
      subst₂ (λ (x : List ℕ) (y : ℕ). Stands x y (p ++ (term_words ns r ++ q))) (sym w.area-is) (sym e)
      (rw (d ∙ term-strip ns r) at s)

-- One row behind another.
pub ran-none : (p q area : List ℕ) (end : ℕ) → Ran p q area end no_terms area end
unfolding around
ran-none p q area end = record { area-is = sym (splice-none area end); end_is = sym (add-zero end) }

pub ran-more : {p q area b c : List ℕ} {end m n : ℕ} {f g : Terms} → Ran p q area end f b m → Ran p q b m g c n → m ≤ length area →
    Ran p q area end (join f g) c n
ran-more {p} {q} {area} {end = end} {f = f} {g = g} v w h =
    let u = around p q f in
    let x = around p q g in
    let e = around-join p q f g in
    let i = v.end_is in
    record {
      area-is = w.area-is
          ∙ ap₂ (λ (s : List ℕ) (y : ℕ). splice s y x) v.area-is i
          ∙ splice-more area end u x (omega arith)
          ∙ ap (splice area end) (sym e);
      end_is = w.end_is ∙ omega (arith, ap length e, length-append u x);
    }

pub ran-long : {p q area after : List ℕ} {end r : ℕ} {f : Terms} → Ran p q area end f after r → end + length (around p q f) ≤ length area →
    length after ≡ length area
ran-long {p} {q} {area} {end = end} {f = f} w h = ap length w.area-is ∙ length-splice area end (around p q f) h
