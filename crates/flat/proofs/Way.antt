-- The later terms between two joined nodes: as many as the distance, one mark in each, and from the left node's term to the
-- right node's. Both tables are accepted.
use Prim.Native.Nat.{ℕ, ◌+◌}
use mathlib.Core.Path.{◌≡◌, refl, ap₂, subst, ◌∙◌}
use mathlib.Core.Bool.{Bool, true, false}
use mathlib.Core.List.{List, [], ◌∷◌}
use Rattle.model.specs.declared.Connection.{Connection}
use Rattle.model.specs.declared.Justification.{Justification}
use Rattle.model.specs.declared.Justification.TheVariants.{Rule as by_rule, Congruence}
use Rattle.model.specs.Term.{Terms, no_terms, count, join, Narrow}
use Rattle.model.specs.Node.{Node, kids_of}
use Rattle.model.specs.Forest.{cur, nxt, sum_pairs, cost_by, dist}
use Rattle.model.specs.Flat.{appended, later_step, later}
use Rattle.paths.specs.Hangs.{Loose, AcceptedConnections, Paired}
use Rattle.paths.proofs.Accept.{accepted-loose}
use Rattle.paths.proofs.Joined.{dist-sym}
use Rattle.flat.specs.Marks.{OneMarkEach}
use Rattle.flat.specs.Ends.{last_or, Leads}
use Rattle.flat.specs.Nodes.{AcceptedNodes}
use Rattle.terms.proofs.Rows.{count-join, narrow-join, count_none}
use Rattle.flat.proofs.Rows.{one-mark-join}
use Rattle.flat.proofs.Within.{leads-join}
use Rattle.flat.proofs.Runs.{Known}
use Rattle.flat.proofs.Twins.{Twins, twins, twins-back}
use Rattle.flat.proofs.Appended.{appended-narrow, appended-count, appended-one-mark, appended-arrive}
use Rattle.flat.proofs.Walked.{walked}

-- the later terms f lead from node l to node r, in d steps
pub record Way (ns : List Node) (l r : ℕ) (f : Terms) (d : ℕ) : Type 0 where
  pub counted : count f ≡ d
  pub narrow : Narrow f
  pub marked : OneMarkEach f
  pub arrives : Leads ns l r f

module _ (ns : List Node) where
  pub way-none : (n : ℕ) → Way ns n n no_terms 0
  unfolding count Narrow OneMarkEach last_or
  way-none n = record { counted = refl; narrow = tt; marked = tt; arrives = refl }

  pub way-two : (l m r : ℕ) (f g : Terms) (d e : ℕ) → Way ns l m f d → Way ns m r g e → Way ns l r (join f g) (d + e)
  way-two l m r f g d e v w =
      record {
        counted = count-join f g ∙ ap₂ ◌+◌ v.counted w.counted;
        narrow = narrow-join f g v.narrow w.narrow;
        marked = one-mark-join f g v.marked w.marked;
        arrives = leads-join ns l m r f g v.arrives w.arrives;
      }

  -- a connection costs the same both ways
  pairs-turned : (cs : List Connection) (xs ys : List ℕ) → Loose cs → Paired cs xs ys →
      sum_pairs (dist ns cs) ys xs ≡ sum_pairs (dist ns cs) xs ys
  unfolding sum_pairs
  pairs-turned cs [] [] f p = refl
  pairs-turned cs [] (y ∷ ys) f p = absurd p
  pairs-turned cs (x ∷ xs) [] f p = absurd p
  pairs-turned cs (x ∷ xs) (y ∷ ys) f p = ap₂ ◌+◌ (dist-sym ns cs x y f p.0) (pairs-turned cs xs ys f p.1)

  pub cost-turned : (cs : List Connection) (w : Justification) (a b : ℕ) → Loose cs → (w ≡ Congruence → Twins ns cs a b) →
      cost_by ns (dist ns cs) w b a ≡ cost_by ns (dist ns cs) w a b
  unfolding cost_by
  cost-turned cs (by_rule n f) a b l t = refl
  cost-turned cs Congruence a b l t = pairs-turned cs (kids_of ns a) (kids_of ns b) l (t refl).kids

  abbrev cost : List Connection → (ℕ → ℕ → ℕ) → Connection → Bool → ℕ
  cost _ d c u = cost_by ns d c.why (cur c) (nxt c)

  -- between any two nodes that connections join
  abbrev pub Ways : List Connection → Type 0
  Ways cs = Known cs (λ l r. Way ns l r (later ns cs l r) (dist ns cs l r))

  module _ (nodes : AcceptedNodes ns) where
    own : (c : Connection) (cs : List Connection) → Ways cs → (up : Bool) (a b : ℕ) → (c.why ≡ Congruence → Twins ns cs a b) →
        Way ns a b (appended ns (later ns cs) c.why up a b) (cost_by ns (dist ns cs) c.why a b)
    own c cs known up a b s =
        let proof = later ns cs in
        record {
          counted = appended-count ns cs proof (dist ns cs) (λ x y j. (known x y j).counted) c.why up a b s;
          narrow = appended-narrow ns cs proof nodes (λ x y j. (known x y j).narrow) c.why up a b s;
          marked = appended-one-mark ns cs proof (λ x y j. (known x y j).marked) c.why up a b s;
          arrives = appended-arrive ns cs proof nodes (λ x y j. (known x y j).arrives) c.why up a b s;
        }

    own-up : (c : Connection) (cs : List Connection) → AcceptedConnections ns (c ∷ cs) → Ways cs →
        Way ns (cur c) (nxt c) (later_step ns cs (later ns cs) c true) (cost cs (dist ns cs) c true)
    own-up c cs a known = own c cs known true (cur c) (nxt c) (twins a)

    own-down : (c : Connection) (cs : List Connection) → AcceptedConnections ns (c ∷ cs) → Ways cs →
        Way ns (nxt c) (cur c) (later_step ns cs (later ns cs) c false) (cost cs (dist ns cs) c false)
    own-down c cs a known =
        subst (Way ns (nxt c) (cur c) (later_step ns cs (later ns cs) c false))
        (cost-turned cs c.why (cur c) (nxt c) (accepted-loose ns cs a.1) (twins a))
        (own c cs known false (nxt c) (cur c) (twins-back a))

    pub way : (cs : List Connection) → AcceptedConnections ns cs → Ways cs
    unfolding later dist
    way =
        walked no_terms join (later_step ns) 0 ◌+◌ cost (Way ns) way-none way-two (AcceptedConnections ns) (λ c cs a. a.1) (accepted-loose ns)
        own-up own-down

    -- the same of what one connection appends, walked up and walked down
    pub way_up : (c : Connection) (cs : List Connection) → AcceptedConnections ns (c ∷ cs) →
        Way ns (cur c) (nxt c) (later_step ns cs (later ns cs) c true) (cost_by ns (dist ns cs) c.why (cur c) (nxt c))
    way_up c cs a = own-up c cs a (way cs a.1)

    pub way_down : (c : Connection) (cs : List Connection) → AcceptedConnections ns (c ∷ cs) →
        Way ns (nxt c) (cur c) (later_step ns cs (later ns cs) c false) (cost_by ns (dist ns cs) c.why (cur c) (nxt c))
    way_down c cs a = own-down c cs a (way cs a.1)

-- where nothing is to pay there is nothing to write
pub way-free : {ns : List Node} {l r : ℕ} {f : Terms} {d : ℕ} → Way ns l r f d → d ≡ 0 → f ≡ no_terms
way-free {f = f} w z = count_none f (w.counted ∙ z)
