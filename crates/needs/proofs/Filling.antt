-- The tables of needs, filled in the order of age: what is written for a connection is what it appends, both ways.
use Prim.Native.Nat.{ℕ, suc, ◌+◌, ◌*◌, ◌/◌, ◌≤◌, ◌<◌}
use mathlib.Core.Path.{◌≡◌, refl, sym, ap, ap₂, ◌∙◌}
use mathlib.Core.Bool.{Bool, true, false}
use mathlib.Core.List.{List, ◌∷◌}
use native.Mathlib.Decide.{ℕ_discrete}
use native.Mathlib.Omega.{arith}
use lib.ListN.{get_or, length, set}
use lib.Seq.{get_or-set_other, get_or-set_same}
use Rattle.forest.specs.declared.Row.{Row}
use Rattle.model.specs.declared.Connection.{Connection}
use Rattle.model.specs.declared.Justification.{Justification}
use Rattle.model.specs.declared.Justification.TheVariants.{Rule as by_rule, Congruence}
use Rattle.model.specs.Limits.{distance_limit}
use Rattle.model.specs.Node.{Node, kids_of}
use Rattle.model.specs.Tables.{children_at, connection_words, node_words}
use Rattle.model.specs.Term.{Terms, size}
use Rattle.model.specs.Forest.{cost_by, cur, dist, nxt}
use Rattle.model.specs.Flat.{appended, appended_size, later, later_size}
use Rattle.paths.specs.Hangs.{AcceptedConnections, Paired}
use Rattle.paths.proofs.Accept.{accepted-loose}
use Rattle.entries.specs.Connections.{connection_in, oldest}
use Rattle.entries.specs.Nodes.{count_in, nodes_of}
use Rattle.entries.proofs.Children.{length-words, words-at}
use Rattle.entries.proofs.Nodes.{children-in}
use Rattle.entries.proofs.Support.{accepted-older, current-here, next_here}
use Rattle.flat.specs.Nodes.{AcceptedNodes}
use Rattle.flat.proofs.Appended.{appended-size}
use Rattle.flat.proofs.Needed.{later-size}
use Rattle.flat.proofs.Tables.{table-nodes}
use Rattle.flat.proofs.Twins.{Twins, twins, twins-back}
use Rattle.flat.proofs.Way.{cost-turned, way, way_down, way-free, way_up}
use Rattle.forest.specs.Rows.{cost_in, connections_of}
use Rattle.costs.specs.Costs.{Alike, Filled, cost_at, nodes_in, weigh}
use Rattle.costs.proofs.Payable.{payable}
use Rattle.trees.specs.Sizes.{held_nodes}
use Rattle.needs.specs.Needs.{Appends, Counts, Led, Needs, appended_by, need_at, path_nodes, pick, runs_by}
use Rattle.needs.proofs.Held.{Same}
use Rattle.needs.proofs.Exact.{Under, runs-exact, size_exact}

-- the node that a connection is walked from, and the one that it leads to
abbrev pub from : Bool → Connection → ℕ
from true c = cur c
from false c = nxt c

abbrev pub to : Bool → Connection → ℕ
to true c = nxt c
to false c = cur c

alike_turned : {nodes : List ℕ} {rows : List Row} {a b : ℕ} → Alike nodes rows a b → Alike nodes rows b a
alike_turned p =
    record {
      conns = p.conns;
      charged = p.charged;
      left-known = p.right-known;
      right-known = p.left-known;
      even = sym p.even;
      left_in = λ i h. p.right-in i (omega (arith, p.even));
      right-in = λ i h. p.left_in i (omega (arith, p.even));
      joins = λ i h. sym (p.joins i (omega (arith, p.even)));
    }

-- one connection, over accepted tables and the needs of those before it
module _ {nodes conns : List ℕ} {rows : List Row} {sizes : List ℕ} (w : Counts nodes conns rows sizes) (k : ℕ) (h : k < length conns / connection_words) where
  abbrev ns : List Node
  ns = nodes_of nodes

  abbrev older : List Connection
  older = oldest k conns

  abbrev c : Connection
  c = connection_in conns k

  accepted : AcceptedConnections ns (c ∷ older)
  unfolding oldest
  accepted = accepted-older ns conns (suc k) (length conns / connection_words) h w.support.accepted

  ends-in : (up : Bool) → (from up c < nodes_in nodes) × (to up c < nodes_in nodes)
  ends-in true = (current-here w.support k h, next_here w.support k h)
  ends-in false = (next_here w.support k h, current-here w.support k h)

  kin : (up : Bool) → c.why ≡ Congruence → Twins ns older (from up c) (to up c)
  kin true = twins accepted
  kin false = twins-back accepted

  pub led : (up : Bool) → Led nodes rows sizes c.why (from up c) (to up c)
  led up =
      record {
        few = w.support.table;
        sized = w.sized;
        left_in = (ends-in up).0;
        right-in = (ends-in up).1;
        alike = go up;
      }
    where
      go : (up : Bool) → c.why ≡ Congruence → Alike nodes rows (from up c) (to up c)
      go true e = (payable w.support k h rows w.charged).alike e
      go false e = alike_turned ((payable w.support k h rows w.charged).alike e)

  -- WHAT COSTS NOTHING APPENDS NOTHING
  need-size : (up : Bool) → need_at ns conns k up ≡ size (appended ns (later ns older) c.why up (from up c) (to up c))
  unfolding need_at
  need-size up = go up
    where
      a : AcceptedNodes ns
      a = table-nodes nodes ns w.whole.is

      own : (up : Bool) → size (appended ns (later ns older) c.why up (from up c) (to up c)) ≡
          appended_size ns (dist ns older) (later_size ns older) c.why (from up c) (to up c)
      own up =
          appended-size ns older (later ns older) (dist ns older) (later_size ns older) (λ x y j. (way ns a older accepted.1 x y j).counted)
          (later-size ns a older accepted.1) c.why up (from up c) (to up c) (kin up)

      go : (up : Bool) → need_at ns conns k up ≡ size (appended ns (later ns older) c.why up (from up c) (to up c))
      go true = sym (own true)
      go false = sym (own false)

  need-free : (up : Bool) → cost_at ns conns k ≡ 0 → need_at ns conns k up ≡ 0
  unfolding cost_at size
  need-free true z =
      need-size true ∙ ap (λ (f : Terms). size f) (way-free (way_up ns (table-nodes nodes ns w.whole.is) c older accepted) z)
  need-free false z =
      need-size false ∙ ap (λ (f : Terms). size f) (way-free (way_down ns (table-nodes nodes ns w.whole.is) c older accepted) z)

  -- WHAT IS COUNTED FOR A CONNECTION IS WHAT IT APPENDS, by the needs of those before it
  module _ (ups downs : List ℕ) (before : Needs ns conns ups downs k) where
    abbrev sized : ℕ → ℕ
    sized n = get_or sizes n 0

    abbrev counted : Justification → ℕ → ℕ → ℕ
    counted why a b = appended_by sized (weigh rows (connections_of conns)) (path_nodes ups downs (connections_of conns)) nodes why a b

    filled : Filled ns conns rows k
    filled = record { each = λ b q. w.filled.each b (omega arith) }

    under : (a : ℕ) → a < nodes_in nodes → Under (nodes_in nodes) (kids_of ns a)
    under a p =
        let at = a * node_words + children_at in
        rw (children-in (nodes_in nodes) nodes a p)
        (λ i q.
        let r : i < count_in nodes a = omega (arith, length-words nodes at (count_in nodes a)) in
        omega (arith, words-at nodes at (count_in nodes a) i r, w.support.table.lower a i p r))

    by-why : (why : Justification) (a b : ℕ) → a < nodes_in nodes → b < nodes_in nodes →
        (why ≡ Congruence → Paired older (kids_of ns a) (kids_of ns b)) → cost_by ns (dist ns older) why a b ≤ distance_limit →
        Same (counted why a b) (appended_size ns (dist ns older) (later_size ns older) why a b)
    unfolding appended_by appended_size cost_by
    by-why (by_rule n d) a b p q t l = size_exact ns conns rows ups downs sizes (nodes_in nodes) w.sized b q
    by-why Congruence a b p q t l =
        let d = weigh rows (connections_of conns) in
        let m = path_nodes ups downs (connections_of conns) in
        ap₂ (λ (xs ys : List ℕ). held_nodes (runs_by sized d m 1 xs ys)) (sym (children-in (nodes_in nodes) nodes a p))
        (sym (children-in (nodes_in nodes) nodes b q))
        ∙ runs-exact ns conns rows ups downs sizes (nodes_in nodes) w.sized k (length conns / connection_words) filled before (omega arith) 1 1 refl
        (kids_of ns a) (kids_of ns b) (t refl) (under a p) (under b q) l

    cost-either : (up : Bool) → cost_by ns (dist ns older) c.why (from up c) (to up c) ≡ cost_at ns conns k
    unfolding cost_at
    cost-either true = refl
    cost-either false =
        cost-turned ns older c.why (cur c) (nxt c) (accepted-loose ns older accepted.1) (twins accepted)

    counts : (up : Bool) → cost_at ns conns k ≤ distance_limit → Same (counted c.why (from up c) (to up c)) (need_at ns conns k up)
    unfolding need_at
    counts true l =
        by-why c.why (cur c) (nxt c) (ends-in true).0 (ends-in true).1 (λ e. (kin true e).kids) (omega (arith, cost-either true))
    counts false l =
        by-why c.why (nxt c) (cur c) (ends-in false).0 (ends-in false).1 (λ e. (kin false e).kids) (omega (arith, cost-either false))

    pub counted-exact : (up : Bool) (r : ℕ) → Appends (cost_in rows (cur c)) (counted c.why (from up c) (to up c)) r →
        cost_at ns conns k ≤ distance_limit → r ≡ held_nodes (need_at ns conns k up)
    counted-exact up r p l =
        let e : cost_in rows (cur c) ≡ cost_at ns conns k = omega (arith, w.filled.each k h) in
        elim (ℕ_discrete (cost_at ns conns k) 0) [
          | yes z ↦ omega (arith, p.free (e ∙ z), need-free up z)
          | no z ↦ p.exact (omega arith) (omega arith) ∙ counts up l
        ]

-- one more connection
pub needs-none : (ns : List Node) (ws ups downs : List ℕ) → Needs ns ws ups downs 0
needs-none ns ws ups downs = record { each = λ b up q. absurd (omega arith) }

pub needs-more : {ns : List Node} {ws ups downs : List ℕ} {k : ℕ} (u d : ℕ) → Needs ns ws ups downs k → k < length ups → k < length downs →
    (cost_at ns ws k ≤ distance_limit → u ≡ held_nodes (need_at ns ws k true)) → (cost_at ns ws k ≤ distance_limit → d ≡ held_nodes (need_at ns ws k false)) →
    Needs ns ws (set ups k u) (set downs k d) (k + 1)
needs-more {ns} {ws} {ups} {downs} {k} u d w p q s t =
    record {
      each = λ b up h l. elim (ℕ_discrete b k) [ yes e ↦ here b up e l | no e ↦ there b up e h l ];
    }
  where
    here : (b : ℕ) (up : Bool) → b ≡ k → cost_at ns ws b ≤ distance_limit → get_or (pick up (set ups k u) (set downs k d)) b 0 ≡ held_nodes (need_at ns ws b up)
    here b true e l = rw e (get_or-set_same ups k u 0 p ∙ s (rw e at l))
    here b false e l = rw e (get_or-set_same downs k d 0 q ∙ t (rw e at l))

    there : (b : ℕ) (up : Bool) → (b ≡ k → ⊥) → b < k + 1 → cost_at ns ws b ≤ distance_limit →
        get_or (pick up (set ups k u) (set downs k d)) b 0 ≡ held_nodes (need_at ns ws b up)
    there b true e h l = get_or-set_other ups k b u 0 e ∙ w.each b true (omega arith) l
    there b false e h l = get_or-set_other downs k b d 0 e ∙ w.each b false (omega arith) l
