-- Accepted connections can be climbed, and the rows that are filled from them stand for them, with no cost.
use Prim.Native.Nat.{ℕ, ◌<◌, ◌≤◌}
use mathlib.Core.List.{List, [], ◌++◌, ◌∷◌}
use mathlib.Core.Path.{◌∙◌, ◌≡◌, ap}
use native.Mathlib.Omega.{arith}
use lib.ListN.{get_or-append, drop, length, length-append, length-drop}
use Rattle.model.specs.Limits.{node_limit}
use Rattle.model.specs.declared.Connection.{Connection}
use Rattle.paths.proofs.Accept.{accepted-forest, accepted-within}
use Rattle.paths.proofs.Count.{connections-few}
use Rattle.paths.specs.Hangs.{Within}
use Rattle.entries.proofs.Nodes.{length-nodes}
use Rattle.entries.specs.Connections.{Supported, oldest}
use Rattle.entries.specs.Nodes.{first_nodes}
use Rattle.forest.specs.Rows.{Climbs, Rooted, cost_in, no_row, row_in, row_of, rows_of}
use Rattle.forest.specs.declared.Row.{Row}
use Rattle.forest.proofs.Filled.{age_part, cost_part, depth_part, length-rows, next_part, row-at}

widen : (n m : ℕ) (cs : List Connection) → n ≤ m → Within n cs → Within m cs
widen n m [] h w = tt
widen n m (c ∷ cs) h w = (omega (arith, w.0), omega (arith, w.1), widen n m cs h w.2)

pub rooted : {nodes : List ℕ} {n : ℕ} {conns : List ℕ} {count : ℕ} → Supported nodes n conns count → Rooted n (oldest count conns)
rooted {nodes} {n} {conns} {count} s =
    let ns = first_nodes n nodes in
    let f = accepted-forest ns (oldest count conns) s.accepted in
    let w = accepted-within ns n (oldest count conns) (omega (arith, length-nodes n nodes)) s.accepted in
    record {
      few = s.table.few;
      short = connections-few (oldest count conns) node_limit (omega arith) f (widen n node_limit (oldest count conns) s.table.few w);
      within = w;
      forest = f;
    }

module _ {cs : List Connection} {n : ℕ} (r : Rooted n cs) (old : List Row) (size : length old ≡ node_limit) where
  abbrev full : List Row
  full = rows_of cs n ++ drop n old

  row : (a : ℕ) → a < n → row_in full a ≡ row_of cs a
  row a p = get_or-append (rows_of cs n) (drop n old) no_row a (omega (arith, length-rows cs n)) ∙ row-at cs n a p

  pub full-climbs : Climbs cs n full
  full-climbs =
      record {
        rooted = r;
        size = rw (length-append, length-rows cs n, length-drop, size) (omega (arith, r.few));
        next = λ a p. ap next_part (row a p);
        age = λ a p. ap age_part (row a p);
        deep = λ a p. ap depth_part (row a p);
      }

  pub full-free : (a : ℕ) → a < n → cost_in full a ≡ 0
  full-free a p = ap cost_part (row a p)
