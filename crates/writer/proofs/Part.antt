-- A run within another: what its writer asks for, and what the whole run has then. Both loops of the cycle go by it.
use Prim.Native.Nat.{ℕ, ◌+◌, ◌≤◌}
use mathlib.Core.List.{List, ◌++◌}
use mathlib.Core.Path.{◌≡◌, sym, ap, ap₂, ◌∙◌}
use native.Mathlib.Omega.{arith}
use lib.ListN.{length, length-append}
use Rattle.model.specs.Limits.{distance_limit, term_limit, word_limit}
use Rattle.model.specs.Node.{Node}
use Rattle.model.specs.Term.{Terms, count, join}
use Rattle.flat.specs.Ends.{Leads}
use Rattle.trees.specs.Area.{around, WholeNodes}
use Rattle.trees.specs.declared.Spot.{Spot}
use Rattle.laws.proofs.Area.{length-splice}
use Rattle.trees.proofs.Around.{around-join}
use Rattle.writer.specs.Appends.{term_words}
use Rattle.writer.specs.Written.{pre_of, post_of, Ran, Wrote, WriterAsks}
use Rattle.writer.proofs.Stands.{Stands, Plain, pre_is, post_is, stood, stands-next, ran-more}

-- a run of terms f between p and q, behind `from`, fits into the area
pub record Whole (p q area : List ℕ) (from : ℕ) (f : Terms) : Type 0 where
  pub room : from + length (around p q f) ≤ length area
  pub small : length area ≤ word_limit

-- what is done of it, and the part g that comes next: the terms h at a spot, between p' and q'
pub record Part (p q area : List ℕ) (from : ℕ) (f : Terms) (now : List ℕ) (s : Spot) (p' w q' : List ℕ) (g h : Terms) : Type 0 where
  pub done : Terms
  pub rest : Terms
  pub ran : Ran p q area from done now s.end
  pub whole : join done (join g rest) ≡ f
  pub stands : Stands now s.end (p' ++ (w ++ q'))
  pub place_is : length p' ≡ s.place
  pub post_is : length q' ≡ s.post
  pub pre-plain : Plain p'
  pub here : WholeNodes (length w)
  pub post-plain : Plain q'
  pub same : around p' q' h ≡ around p q g

module _ {p q area : List ℕ} {from : ℕ} {f : Terms} {now : List ℕ} {s : Spot} {p' w q' : List ℕ} {g h : Terms}
    (k : Part p q area from f now s p' w q' g h) (a : Whole p q area from f) where
  total : length (around p q f) ≡ length (around p q k.done) + (length (around p q g) + length (around p q k.rest))
  total =
      let d = k.done in
      let r = k.rest in
      ap (λ (x : Terms). length (around p q x)) (sym k.whole)
      ∙ ap length (around-join p q d (join g r) ∙ ap (λ (l : List ℕ). around p q d ++ l) (around-join p q g r))
      ∙ omega (arith, length-append (around p q d) (around p q g ++ around p q r), length-append (around p q g) (around p q r))

  -- the area is as long as before
  pub part-long : length now ≡ length area
  part-long =
      let e = k.ran.end_is in
      let t = total in
      let r = a.room in
      ap length k.ran.area-is ∙ length-splice area from (around p q k.done) (omega arith)

  abbrev pre : pre_of now s (length w) ≡ p'
  pre = pre_is s p' w q' k.stands k.place_is k.post_is k.pre-plain.whole k.here k.post-plain.whole

  abbrev post : post_of now s ≡ q'
  post = post_is s p' w q' k.stands k.place_is k.post_is k.pre-plain.whole k.here k.post-plain.whole

  -- what the part's writer writes
  both : around (pre_of now s (length w)) (post_of now s) h ≡ around p q g
  both = ap₂ (λ (x y : List ℕ). around x y h) pre post ∙ k.same

  pub part-asked : {trail : List ℕ} → length trail ≡ term_limit → (used : ℕ) → used + count h ≤ distance_limit → WriterAsks trail now s w h used
  part-asked long used c =
      let e = k.ran.end_is in
      let t = total in
      let r = a.room in
      let m = a.small in
      let l = part-long in
      let b = ap length both in
      record {
        long = long;
        stood = stood s p' w q' k.stands k.place_is k.post_is k.pre-plain.whole k.here k.post-plain.whole;
        small = omega arith;
        room = omega arith;
        few = c;
      }

  module _ {after : List ℕ} {r : ℕ} (d : Wrote now s w h after r) where
    pub part_end : r ≤ length now
    part_end =
        let e = k.ran.end_is in
        let t = total in
        let m = a.room in
        let l = part-long in
        omega (arith, d.end_is, ap length both)

    -- the whole run is one part further
    pub part-ran : Ran p q area from (join k.done g) after r
    part-ran =
        let e = k.ran.end_is in
        let t = total in
        let m = a.room in
        ran-more k.ran (record { area-is = rw both at d.area-is; end_is = rw both at d.end_is }) (omega arith)

    -- and the term that the part leads to stands there
    pub part-stands : (ns : List Node) (l n : ℕ) → w ≡ term_words ns l → Leads ns l n h → Stands after r (p' ++ (term_words ns n ++ q'))
    part-stands ns l n e leads =
        stands-next k.pre-plain k.post-plain ns l n leads (rw e at k.stands)
        (record { area-is = rw (pre, post) at d.area-is; end_is = rw (pre, post) at d.end_is }) part_end
