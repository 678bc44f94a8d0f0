-- The flat proof's first term in the area, and the whole proof once the later terms are written behind it.
use Prim.Native.Nat.{ℕ, ◌+◌, ◌-◌, ◌*◌, ◌/◌, ◌≤◌}
use mathlib.Core.List.{List, [], ◌++◌, append-nil}
use mathlib.Core.Path.{◌≡◌, refl, sym, ap, ap₂, ◌∙◌}
use native.Mathlib.Nat.{zero-add}
use native.Mathlib.Omega.{arith}
use lib.ListN.{length, length-append}
use Rattle.forest.specs.declared.Row.{Row}
use Rattle.model.specs.Limits.{distance_limit, flat_words, term_limit, word_limit}
use Rattle.model.specs.Tables.{connection_words}
use Rattle.model.specs.Forest.{dist}
use Rattle.model.specs.Node.{Node, term_of}
use Rattle.model.specs.Term.{Terms, one, count, words}
use Rattle.model.specs.Flat.{flat_proof, later, size_of}
use Rattle.terms.proofs.Rows.{length-words, put-words}
use Rattle.entries.specs.Nodes.{nodes_of}
use Rattle.forest.specs.Rows.{connections_of}
use Rattle.costs.specs.Costs.{Between}
use Rattle.flat.proofs.NodeTerms.{term-size}
use Rattle.flat.proofs.Way.{way}
use Rattle.laws.specs.Area.{part, splice}
use Rattle.trees.specs.Area.{around, bare}
use Rattle.trees.specs.declared.Spot.{Spot}
use Rattle.laws.proofs.Area.{length-splice, part-written, splice_all, splice-more}
use Rattle.trees.proofs.Around.{around-none}
use Rattle.trees.proofs.Bare.{bare-term, whole_words}
use Rattle.writer.specs.Appends.{term_words}
use Rattle.needs.specs.Needs.{Counts}
use Rattle.writer.specs.Written.{post_of, pre_of, WriterAsks, Reached, Wrote}
use Rattle.writer.proofs.Begun.{accepted-below, accepted-nodes}
use Rattle.writer.proofs.Stands.{Stands, post_is, pre_is, stood}

-- a spot with nothing around it
abbrev bare_spot : ℕ → Spot
bare_spot end = record { place = 0; post = 0; end = end }

module _ {nodes conns : List ℕ} {rows : List Row} {sizes : List ℕ} (k : Counts nodes conns rows sizes) {l r : ℕ} (b : Between nodes conns l r) where
  pub reached : Reached nodes conns (length conns / connection_words) l r
  reached = record { few = omega arith; left_in = b.left_in; right-in = b.right-in; same = b.same }

  -- as many later terms as the distance
  pub counted : count (later (nodes_of nodes) (connections_of conns) l r) ≡ dist (nodes_of nodes) (connections_of conns) l r
  counted = (way (nodes_of nodes) (accepted-nodes k) (connections_of conns) (accepted-below k (length conns / connection_words) (omega arith)) l r b.same).counted

module _ (ns : List Node) (l : ℕ) (f : Terms) (old : List ℕ) {area : List ℕ} {end : ℕ} (room : length (term_words ns l) + length (words f) ≡ length old)
    (first : area ≡ splice old 0 (term_words ns l)) (behind : end ≡ length (term_words ns l)) where
  stands : Stands area end ([] ++ (term_words ns l ++ []))
  stands =
      let w = term_words ns l in
      let fits : 0 + length w ≤ length old = omega arith in
      let none = append-nil w in
      let zero : end - length (w ++ []) ≡ 0 = omega (arith, ap length none) in
      record {
        fits = omega (arith, ap length first, length-splice old 0 w fits);
        long = omega (arith, ap length none);
        plain = ap₂ (λ (i n : ℕ). bare (part area i n)) zero (ap length none)
            ∙ ap (λ (x : List ℕ). bare (part x 0 (length w))) first
            ∙ ap bare (part-written old 0 w fits)
            ∙ bare-term ns l
            ∙ sym none;
      }

  around-is : around (pre_of area (bare_spot end) (length (term_words ns l))) (post_of area (bare_spot end)) f ≡ words f
  around-is =
      let ww = whole_words (one (term_of ns l)) in
      ap₂ (λ (x y : List ℕ). around x y f) (pre_is (bare_spot end) [] (term_words ns l) [] stands refl refl refl ww refl)
      (post_is (bare_spot end) [] (term_words ns l) [] stands refl refl refl ww refl)
      ∙ around-none f

  pub first-asked : {trail : List ℕ} → length trail ≡ term_limit → length old ≤ word_limit → count f ≤ distance_limit →
      WriterAsks trail area (bare_spot end) (term_words ns l) f 0
  first-asked long small few =
      let e = ap length first ∙ length-splice old 0 (term_words ns l) (omega arith) in
      record {
        long = long;
        stood = stood (bare_spot end) [] (term_words ns l) [] stands refl refl refl (whole_words (one (term_of ns l))) refl;
        small = omega arith;
        room = omega (arith, ap length around-is);
        few = omega arith;
      }

  -- the first term and the later ones
  pub all-written : {after : List ℕ} {to : ℕ} → Wrote area (bare_spot end) (term_words ns l) f after to → after ≡ term_words ns l ++ words f
  all-written {after} w =
      let t = term_words ns l in
      w.area-is
      ∙ ap (splice area end) around-is
      ∙ ap₂ (λ (x : List ℕ) (i : ℕ). splice x i (words f)) first (behind ∙ sym (zero-add (length t)))
      ∙ splice-more old 0 t (words f) (omega arith)
      ∙ splice_all old (t ++ words f) (length-append t (words f) ∙ room)

pub proof-words : (nodes conns : List ℕ) (l r : ℕ) →
    words (flat_proof (nodes_of nodes) (connections_of conns) l r) ≡ term_words (nodes_of nodes) l ++ words (later (nodes_of nodes) (connections_of conns) l r)
unfolding flat_proof
proof-words nodes conns l r = put-words (term_of (nodes_of nodes) l) (later (nodes_of nodes) (connections_of conns) l r)

pub first-long : (ns : List Node) (l : ℕ) → length (term_words ns l) ≡ flat_words * size_of ns l
first-long ns l = omega (arith, length-words (one (term_of ns l)), term-size ns l)
