-- What one connection appends: a rule the marked term of the node it leads to, a congruence its children's runs.
use Prim.Native.Nat.{ℕ, ◌+◌, ◌*◌, ◌/◌, ◌<◌}
use mathlib.Core.Bool.{Bool, true, false, not}
use mathlib.Core.List.{List, ◌++◌, append-nil}
use mathlib.Core.Path.{◌≡◌, refl, sym, ap, ◌∙◌}
use native.Mathlib.Omega.{arith}
use lib.ListN.{length, length-append}
use Rattle.model.specs.declared.Direction.{Direction}
use Rattle.model.specs.declared.Justification.TheVariants.{Rule as by_rule, Congruence}
use Rattle.model.specs.declared.RuleNo.{RuleNo}
use Rattle.model.specs.Limits.{flat_words}
use Rattle.model.specs.Tables.{connection_words}
use Rattle.model.specs.Node.{Node}
use Rattle.model.specs.Term.{Mark, words, size}
use Rattle.model.specs.Flat.{appended, mark_for, marked_term, size_of}
use Rattle.terms.proofs.Rows.{length-words}
use Rattle.entries.specs.Connections.{connection_in, Supported}
use Rattle.entries.proofs.Support.{current-here, next_here, twins}
use Rattle.costs.specs.Costs.{nodes_in}
use Rattle.flat.proofs.NodeTerms.{term-size}
use Rattle.laws.specs.Area.{splice}
use Rattle.trees.specs.Area.{around}
use Rattle.trees.specs.declared.Spot.{Spot}
use Rattle.writer.specs.Appends.{start_of, leg_terms, twin_terms}
use Rattle.writer.specs.Written.{pre_of, post_of, Stood, Wrote, Matched}
use Rattle.writer.proofs.Stands.{length-pre, length-post}

module _ (ns : List Node) (conns : List ℕ) (age : ℕ) where
  pub leg-rule : (up : Bool) {r : RuleNo} {d : Direction} → (connection_in conns age).why ≡ by_rule r d →
      leg_terms ns conns age up ≡ marked_term ns (mark_for r.0 d up) (start_of (connection_in conns age) (not up)).0
  unfolding leg_terms appended
  leg-rule true w = rw w refl
  leg-rule false w = rw w refl

  pub leg-twin : (up : Bool) → (connection_in conns age).why ≡ Congruence →
      leg_terms ns conns age up ≡ twin_terms ns conns age (start_of (connection_in conns age) up).0 (start_of (connection_in conns age) (not up)).0
  unfolding leg_terms appended twin_terms
  leg-twin true w = rw w refl
  leg-twin false w = rw w refl

-- its two nodes, and the support of a congruence, either way
module _ {nodes conns : List ℕ} (k : Supported nodes (nodes_in nodes) conns (length conns / connection_words)) (age : ℕ)
    (h : age < length conns / connection_words) where
  pub start-in : (up : Bool) → (start_of (connection_in conns age) up).0 < nodes_in nodes
  start-in true = current-here k age h
  start-in false = next_here k age h

  pub matched : (up : Bool) → (connection_in conns age).why ≡ Congruence →
      Matched nodes conns age (start_of (connection_in conns age) up).0 (start_of (connection_in conns age) (not up)).0
  matched true w = record { few = omega arith; left_in = current-here k age h; right-in = next_here k age h; twins = twins k age h w }
  matched false w =
      let t = twins k age h w in
      record {
        few = omega arith;
        left_in = next_here k age h;
        right-in = current-here k age h;
        twins = record {
          left-known = t.right-known;
          right-known = t.left-known;
          even = sym t.even;
          joins = λ i q. sym (t.joins i (omega (arith, t.even)));
        };
      }

module _ (ns : List Node) (b : ℕ) where
  around-marked : (p q : List ℕ) (m : Mark) → around p q (marked_term ns m b) ≡ p ++ (words (marked_term ns m b) ++ q)
  unfolding around
  around-marked p q m = ap (λ (l : List ℕ). p ++ (words (marked_term ns m b) ++ l)) (append-nil q)

  marked-long : (m : Mark) → length (words (marked_term ns m b)) ≡ flat_words * size_of ns b
  unfolding size
  marked-long m = length-words (marked_term ns m b) ∙ ap (λ (n : ℕ). flat_words * n) (term-size ns b)

  module _ {area : List ℕ} {s : Spot} {w : List ℕ} (k : Stood area s w) (m : Mark) where
    -- how long the appended term is
    pub marked-room : length (around (pre_of area s (length w)) (post_of area s) (marked_term ns m b)) ≡ s.place + flat_words * size_of ns b + s.post
    marked-room =
        let p = pre_of area s (length w) in
        let q = post_of area s in
        let t = words (marked_term ns m b) in
        ap length (around-marked p q m)
        ∙ omega (arith, length-append p (t ++ q), length-append t q, length-pre k, length-post k, marked-long m)

    pub marked-wrote : {after : List ℕ} {r : ℕ} → r ≡ s.end + s.place + flat_words * size_of ns b + s.post →
        after ≡ splice area s.end (pre_of area s (length w) ++ (words (marked_term ns m b) ++ post_of area s)) → Wrote area s w (marked_term ns m b) after r
    marked-wrote e u =
        record {
          area-is = u ∙ ap (splice area s.end) (sym (around-marked (pre_of area s (length w)) (post_of area s) m));
          end_is = e ∙ omega (arith, marked-room);
        }
