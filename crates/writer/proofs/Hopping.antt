-- The path writer's loop: what lies on the trail is still to be walked, what was taken from it is written.
use Prim.Native.Nat.{ℕ, ◌+◌, ◌-◌, ◌≤◌, ◌<◌}
use mathlib.Core.Bool.{Bool, not}
use mathlib.Core.List.{List, [], ◌∷◌, ◌++◌}
use mathlib.Core.Path.{◌≡◌, refl, sym, ap, subst, ◌∙◌}
use native.Mathlib.Omega.{arith}
use lib.Dec.{leb}
use lib.ListN.{length, get_or, take}
use Rattle.model.specs.Limits.{distance_limit, term_limit}
use Rattle.model.specs.Node.{Node, term_of}
use Rattle.model.specs.Term.{Terms, Term, no_terms, one, words, count, join}
use Rattle.terms.proofs.Rows.{count-join, join-assoc, join-none}
use Rattle.model.specs.Flat.{later}
use Rattle.paths.specs.Hangs.{AcceptedConnections}
use Rattle.entries.specs.Connections.{connection_in, oldest}
use Rattle.flat.specs.Nodes.{AcceptedNodes}
use Rattle.trees.specs.declared.Spot.{Spot}
use Rattle.trees.proofs.Bare.{whole_words}
use Rattle.trail.specs.Legs.{Leg}
use Rattle.writer.specs.Appends.{start_of, leg_terms, term_words}
use Rattle.writer.specs.Written.{pre_of, post_of, Ran, Wrote, WriterAsks}
use Rattle.writer.proofs.Legs.{Chain, Trip, chain-long, leg-way, row_of}
use Rattle.writer.proofs.Part.{Part, Whole, part-asked, part-ran, part-stands}
use Rattle.writer.proofs.Stands.{Stands, Plain, cut, length-post, length-pre, post-plain, pre-plain, ran-none}
use Rattle.trail.proofs.Lies.{Lies, lies-kept, lies-long}

-- the run of terms f, from the start, whose legs below a bound lead to node r
module _ (ns : List Node) (conns : List ℕ) (bound r : ℕ) (f : Terms) (p q area : List ℕ) (start turn used : ℕ) where
  pub record Hopping (new now : List ℕ) (top end : ℕ) : Type 0 where
    pub todo : List Leg
    pub at : ℕ
    pub done : Terms
    pub ran : Ran p q area start done now end
    pub stands : Stands now end (p ++ (term_words ns at ++ q))
    pub chain : Chain ns conns bound at r todo
    pub whole : join done (row_of ns conns todo) ≡ f
    pub lies : Lies new turn used todo top

  -- the next leg, by its age and the way it is walked
  pub record Next (new now : List ℕ) (top end age : ℕ) (up : Bool) : Type 0 where
    pub todo : List Leg
    pub done : Terms
    pub ran : Ran p q area start done now end
    pub stands : Stands now end (p ++ (term_words ns (start_of (connection_in conns age) up).0 ++ q))
    pub below : age < bound
    pub chain : Chain ns conns bound (start_of (connection_in conns age) (not up)).0 r todo
    pub whole : join done (join (leg_terms ns conns age up) (row_of ns conns todo)) ≡ f
    pub lies : Lies new turn used todo (top - 1)

module _ {ns : List Node} {conns : List ℕ} {bound r : ℕ} {f : Terms} {p q area : List ℕ} {start turn used : ℕ} {new now : List ℕ} {top end : ℕ}
    (h : Hopping ns conns bound r f p q area start turn used new now top end) where
  pub next : {age : ℕ} {up : Bool} → used < top → age ≡ get_or new (top - 1) 0 → up ≡ leb turn (top - 1) →
      Next ns conns bound r f p q area start turn used new now top end age up
  next {age} {up} lt a u = go h.todo h.lies h.chain h.whole
    where
      go : (hs : List Leg) → Lies new turn used hs top → Chain ns conns bound h.at r hs → join h.done (row_of ns conns hs) ≡ f →
          Next ns conns bound r f p q area start turn used new now top end age up
      go [] l c w = absurd (omega arith)
      go (g ∷ hs) l c w =
          let e : g ≡ record { age = age; up = up } = λ i. record { age = sym (a ∙ l.1) i; up = sym (u ∙ l.2) i } in
          let d : Chain ns conns bound h.at r (record { age = age; up = up } ∷ hs) = subst (λ (x : Leg). Chain ns conns bound h.at r (x ∷ hs)) e c in
          record {
            todo = hs;
            done = h.done;
            ran = h.ran;
            stands = subst (λ (t : Term). Stands now end (p ++ (words (one t) ++ q))) d.2 h.stands;
            below = d.0;
            chain = d.3;
            whole = ap (λ (x : Leg). join h.done (row_of ns conns (x ∷ hs))) (sym e) ∙ w;
            lies = l.3;
          }

  -- nothing lies on the trail: all is written
  pub hopped : top ≤ used → Ran p q area start f now end
  hopped le = go h.todo h.lies h.whole
    where
      go : (hs : List Leg) → Lies new turn used hs top → join h.done (row_of ns conns hs) ≡ f → Ran p q area start f now end
      go [] l w = subst (λ (g : Terms). Ran p q area start g now end) (sym (join-none h.done) ∙ w) h.ran
      go (g ∷ hs) l w = let lt = l.0 in absurd (omega arith)

module _ {ns : List Node} {conns : List ℕ} {bound r : ℕ} {f : Terms} {p q area : List ℕ} {start turn used : ℕ} {new now : List ℕ} {top end : ℕ} {age : ℕ} {up : Bool}
    (n : Next ns conns bound r f p q area start turn used new now top end age up) where
  -- the next leg is a part of the run, at a spot
  pub part : Plain p → Plain q → (s : Spot) → length p ≡ s.place → length q ≡ s.post → s.end ≡ end →
      Part p q area start f now s p (term_words ns (start_of (connection_in conns age) up).0) q (leg_terms ns conns age up) (leg_terms ns conns age up)
  part a b s lp lq e =
      record {
        done = n.done;
        rest = row_of ns conns n.todo;
        ran = rw e n.ran;
        whole = n.whole;
        stands = rw e n.stands;
        place_is = lp;
        post_is = lq;
        pre-plain = a;
        here = whole_words (one (term_of ns (start_of (connection_in conns age) up).0));
        post-plain = b;
        same = refl;
      }

  -- what lies on the trail, and the leg's own terms, are within the limit
  pub few : used < top → used + count f ≤ distance_limit → top - 1 + count (leg_terms ns conns age up) ≤ distance_limit
  few lt c =
      let g = leg_terms ns conns age up in
      let rest = row_of ns conns n.todo in
      omega (
        arith,
        lies-long new turn used n.todo (top - 1) n.lies,
        chain-long ns conns bound _ r n.todo n.chain,
        ap count n.whole,
        count-join n.done (join g rest),
        count-join g rest,
      )

-- What a path writer starts with: what it was asked, and the path on the trail.
pub record Begun (ns : List Node) (conns : List ℕ) (bound : ℕ) (s : Spot) (area trail : List ℕ) (used turn top l r : ℕ) : Type 0 where
  pub nodes : AcceptedNodes ns
  pub accepted : AcceptedConnections ns (oldest bound conns)
  pub asked : WriterAsks trail area s (term_words ns l) (later ns (oldest bound conns) l r) used
  pub legs : List Leg
  pub trip : Trip ns conns bound l r legs (later ns (oldest bound conns) l r)
  pub lies : Lies trail turn used legs top

module _ {ns : List Node} {conns : List ℕ} {bound : ℕ} {s : Spot} {area trail : List ℕ} {used turn top₀ l r : ℕ}
    (b : Begun ns conns bound s area trail used turn top₀ l r) where
  abbrev f : Terms
  f = later ns (oldest bound conns) l r

  abbrev p : List ℕ
  p = pre_of area s (length (term_words ns l))

  abbrev q : List ℕ
  q = post_of area s

  pub hopping-none : Hopping ns conns bound r f p q area s.end turn used trail area top₀ s.end
  unfolding join
  hopping-none =
      record {
        todo = b.legs;
        at = l;
        done = no_terms;
        ran = ran-none p q area s.end;
        stands = cut b.asked.stood;
        chain = b.trip.chain;
        whole = b.trip.row;
        lies = b.lies;
      }

  abbrev whole : Whole p q area s.end f
  whole = record { room = b.asked.room; small = b.asked.small }

  module _ {new now : List ℕ} {top end age : ℕ} {up : Bool} (lt : used < top) (n : Next ns conns bound r f p q area s.end turn used new now top end age up) where
    abbrev at : Spot
    at = record { place = s.place; post = s.post; end = end }

    abbrev this : Part p q area s.end f now at p (term_words ns (start_of (connection_in conns age) up).0) q (leg_terms ns conns age up) (leg_terms ns conns age up)
    this =
        part n (pre-plain b.asked.stood) (post-plain b.asked.stood) at (length-pre b.asked.stood) (length-post b.asked.stood) refl

    pub hopping-asked : {old : List ℕ} → length old ≡ term_limit →
        WriterAsks old now at (term_words ns (start_of (connection_in conns age) up).0) (leg_terms ns conns age up) (top - 1)
    hopping-asked long =
        part-asked this whole long (top - 1) (few n lt b.asked.few)

    pub hopping-next : {later-trail after : List ℕ} {to : ℕ} → take (top - 1) later-trail ≡ take (top - 1) new →
        Wrote now at (term_words ns (start_of (connection_in conns age) up).0) (leg_terms ns conns age up) after to →
        Hopping ns conns bound r f p q area s.end turn used later-trail after (top - 1) to
    unfolding part
    hopping-next {later-trail} e w =
        let arrives = (leg-way ns conns bound b.nodes b.accepted age up n.below).arrives in
        record {
          todo = n.todo;
          at = (start_of (connection_in conns age) (not up)).0;
          done = join n.done (leg_terms ns conns age up);
          ran = part-ran this whole w;
          stands = part-stands this whole w ns (start_of (connection_in conns age) up).0 (start_of (connection_in conns age) (not up)).0 refl arrives;
          chain = n.chain;
          whole = join-assoc n.done (leg_terms ns conns age up) (row_of ns conns n.todo) ∙ n.whole;
          lies = lies-kept new later-trail turn used n.todo (top - 1) (top - 1) (omega arith) e n.lies;
        }
