-- What the tables give to the writers: accepted nodes and connections, paths that can be laid, and what lies on the trail then.
use Prim.Native.Nat.{ℕ, ◌+◌, ◌/◌, ◌≤◌}
use mathlib.Core.List.{List, [], ◌++◌}
use mathlib.Core.Path.{◌≡◌, ap, subst}
use native.Mathlib.Omega.{arith}
use lib.ListN.{length}
use Rattle.forest.specs.declared.Row.{Row}
use Rattle.model.specs.Forest.{cur, root}
use Rattle.model.specs.Limits.{distance_limit, term_limit}
use Rattle.model.specs.Tables.{connection_words}
use Rattle.model.specs.Term.{count}
use Rattle.model.specs.Flat.{later}
use Rattle.paths.specs.Hangs.{AcceptedConnections}
use Rattle.paths.specs.Meet.{top_of}
use Rattle.entries.specs.Connections.{oldest}
use Rattle.entries.proofs.Support.{accepted-older}
use Rattle.entries.specs.Nodes.{nodes_of}
use Rattle.forest.specs.Rows.{cost_in, connections_of}
use Rattle.forest.proofs.Older.{kept, walk-older}
use Rattle.costs.specs.Costs.{Filled}
use Rattle.flat.specs.Ends.{Leads}
use Rattle.flat.specs.Nodes.{AcceptedNodes}
use Rattle.flat.proofs.Tables.{table-nodes}
use Rattle.flat.proofs.Way.{way}
use Rattle.trail.specs.Legs.{Leg, ages, costly, legs}
use Rattle.trail.specs.Laid.{Layable, LaidOut}
use Rattle.needs.specs.Needs.{Counts}
use Rattle.writer.specs.Written.{Reached}
use Rattle.writer.proofs.Legs.{Trip, chain-long, trip}
use Rattle.trail.proofs.Lies.{Lies, legs-long, lies}

module _ {nodes conns : List ℕ} {rows : List Row} {sizes : List ℕ} (k : Counts nodes conns rows sizes) where
  pub accepted-nodes : AcceptedNodes (nodes_of nodes)
  accepted-nodes = table-nodes nodes (nodes_of nodes) k.whole.is

  pub accepted-below : (bound : ℕ) → bound ≤ length conns / connection_words → AcceptedConnections (nodes_of nodes) (oldest bound conns)
  accepted-below bound h = accepted-older (nodes_of nodes) conns bound (length conns / connection_words) h k.support.accepted

  module _ {bound l r : ℕ} (h : Reached nodes conns bound l r) where
    -- a path leads from the one node's term to the other's
    pub leads : Leads (nodes_of nodes) l r (later (nodes_of nodes) (oldest bound conns) l r)
    leads = (way (nodes_of nodes) accepted-nodes (oldest bound conns) (accepted-below bound h.few) l r h.same).arrives

    pub path-trip : Trip (nodes_of nodes) conns bound l r (legs rows (oldest bound conns) l r) (later (nodes_of nodes) (oldest bound conns) l r)
    path-trip =
        let few = h.few in
        let filled : Filled (nodes_of nodes) conns rows bound = record { each = λ b q. k.filled.each b (omega arith) } in
        trip (nodes_of nodes) conns bound accepted-nodes (accepted-below bound few) filled l r h.same

    joined-all : root (connections_of conns) l ≡ root (connections_of conns) r
    joined-all = (kept bound (length conns / connection_words) conns l r h.few h.same).joins

    -- by all connections it is the path by those below the bound
    same-legs : legs rows (connections_of conns) l r ≡ legs rows (oldest bound conns) l r
    unfolding legs
    same-legs =
        walk-older [] ◌++◌ (λ older _ c u. costly (cost_in rows (cur c)) (record { age = length older; up = u }))
        bound (length conns / connection_words) conns l r h.few h.same

    module _ (used : ℕ) (few : used + count (later (nodes_of nodes) (oldest bound conns) l r) ≤ distance_limit) where
      fits : used + length (legs rows (connections_of conns) l r) ≤ distance_limit
      fits =
          let t = path-trip in
          let long = chain-long (nodes_of nodes) conns bound l r (legs rows (oldest bound conns) l r) t.chain in
          omega (arith, long, ap count t.row, ap length same-legs)

      -- there is room on the trail
      pub path_room : used + length (ages rows (connections_of conns) r (top_of (connections_of conns) l r)) + length (ages rows (connections_of conns) l (top_of (connections_of conns) l r)) ≤ term_limit
      path_room = omega (arith, fits, legs-long rows (connections_of conns) l r k.charged.climbs.rooted.forest joined-all)

      pub layable : Layable rows used l r
      layable =
          record {
            conns = connections_of conns;
            nodes = _;
            climbs = k.charged.climbs;
            left_in = h.left_in;
            right-in = h.right-in;
            same = joined-all;
            few = path_room;
          }

      pub path-lies : {trail after : List ℕ} {turn top : ℕ} → length trail ≡ term_limit → LaidOut rows (connections_of conns) trail used l r after turn top →
          Lies after turn used (legs rows (oldest bound conns) l r) top
      path-lies {after = after} {turn = turn} {top = top} e w =
          subst (λ (hs : List Leg). Lies after turn used hs top) same-legs
          (lies rows (connections_of conns) l r k.charged.climbs.rooted.forest joined-all w (omega (arith, fits)))
