-- The distance of a pair, refusal by refusal.
-- Assumes nothing.
use Prim.Native.Nat.{ℕ, ◌/◌, ◌≤◌, ◌<◌}
use mathlib.Core.Bool.{true, false}
use mathlib.Core.List.{List}
use mathlib.Core.Path.{◌≡◌}
use native.Mathlib.Omega.{arith}
use borrow.Author.Tests.{lt-ltb, le-ltb}
use lib.ListN.{length}
use Rattle.std.proofs.Common.{Ok, Err}
use Rattle.forest.specs.declared.Row.{Row}
use Rattle.model.specs.declared.Refusal.TheVariants.{NoNode, NotJoined, TooFar}
use Rattle.model.specs.Limits.{distance_limit}
use Rattle.model.specs.Forest.{joined, dist}
use Rattle.model.specs.Query.{Tables, measure}
use Rattle.model.specs.Tables.{connection_words}
use Rattle.entries.specs.Nodes.{nodes_of}
use Rattle.entries.specs.Connections.{Supported}
use Rattle.forest.specs.Rows.{connections_of}
use Rattle.forest.proofs.Rooted.{rooted}
use Rattle.costs.specs.Costs.{nodes_in, priced, Charged, Between}
use Rattle.costs.proofs.Priced.{charged-priced, filled-priced}
use Rattle.explanation.specs.Measure.{Ways}

module _ (t : Tables) (l r : ℕ) where
  pub no-left : length t.nodes ≤ l → Err NoNode ≡ measure t l r
  unfolding measure
  no-left h = rw (le-ltb l (length t.nodes) h)

  module _ (in_left : l < length t.nodes) where
    pub no-right : length t.nodes ≤ r → Err NoNode ≡ measure t l r
    unfolding measure
    no-right h = rw (lt-ltb l (length t.nodes) in_left, le-ltb r (length t.nodes) h)

    module _ (in_right : r < length t.nodes) where
      pub apart : joined t.conns l r ≡ false → Err NotJoined ≡ measure t l r
      unfolding measure
      apart e = rw (lt-ltb l (length t.nodes) in_left, lt-ltb r (length t.nodes) in_right, e)

      pub long : joined t.conns l r ≡ true → distance_limit < dist t.nodes t.conns l r → Err TooFar ≡ measure t l r
      unfolding measure
      long e h =
          rw
          (lt-ltb l (length t.nodes) in_left, lt-ltb r (length t.nodes) in_right, e, lt-ltb distance_limit (dist t.nodes t.conns l r) h)

      pub near : joined t.conns l r ≡ true → dist t.nodes t.conns l r ≤ distance_limit → Ok (dist t.nodes t.conns l r) ≡ measure t l r
      unfolding measure
      near e h =
          rw
          (lt-ltb l (length t.nodes) in_left, lt-ltb r (length t.nodes) in_right, e, le-ltb distance_limit (dist t.nodes t.conns l r) h)

-- what is there once a distance was found
pub ways : {nws cws : List ℕ} {rows rows' : List Row} {l r : ℕ} → Supported nws (nodes_in nws) cws (length cws / connection_words) → Between nws cws l r →
    dist (nodes_of nws) (connections_of cws) l r ≤ distance_limit → Charged (connections_of cws) (nodes_in nws) rows → rows' ≡ priced (nodes_of nws) cws (length cws / connection_words) rows → Ways nws cws l r rows'
ways {nws} {cws} {rows} s b h c e =
    let k = length cws / connection_words in
    let r = rooted s in
    rw e
    record {
      between = b;
      near = h;
      charged = charged-priced (nodes_of nws) cws c k r.within r.forest k (omega arith);
      filled = filled-priced (nodes_of nws) cws c k r.within r.forest k (omega arith);
    }
