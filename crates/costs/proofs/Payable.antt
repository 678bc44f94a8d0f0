-- What accepted tables give to whoever pays: each connection's nodes, and a congruence's children, joined by the older connections.
use Prim.Native.Nat.{ℕ, ◌<◌}
use mathlib.Core.Path.{◌≡◌, refl, ◌∙◌, ap, sym}
use mathlib.Core.List.{List, ◌++◌}
use lib.ListN.{drop, length}
use native.Mathlib.Omega.{arith}
use Rattle.model.specs.Limits.{node_limit}
use Rattle.forest.specs.declared.Row.{Row}
use Rattle.model.specs.declared.Connection.{Connection}
use Rattle.model.specs.declared.Direction.{Direction}
use Rattle.model.specs.declared.RuleNo.{RuleNo}
use Rattle.model.specs.declared.Justification.{Justification}
use Rattle.model.specs.declared.Justification.TheVariants.{Rule as by_rule, Congruence}
use Rattle.model.specs.Node.{Node, kids_of}
use Rattle.model.specs.Forest.{cur, nxt, root, cost_by, sum_pairs}
use Rattle.paths.specs.Hangs.{Paired}
use Rattle.paths.proofs.Accept.{kin}
use Rattle.entries.specs.Connections.{Supported, connection_in, oldest}
use Rattle.entries.specs.Nodes.{child_in, children_in, count_in, first_nodes}
use Rattle.entries.proofs.Nodes.{children-in}
use Rattle.entries.proofs.Support.{current-here, next_here, sound-here, twins}
use Rattle.forest.specs.Rows.{Rooted, rows_of}
use Rattle.forest.proofs.Older.{kept}
use Rattle.forest.proofs.Rooted.{full-climbs, full-free}
use Rattle.costs.specs.Costs.{Alike, Charged, Joins, Payable, held, nodes_in}

module _ {nodes conns : List ℕ} {count : ℕ} (s : Supported nodes (nodes_in nodes) conns count) (a : ℕ) (h : a < count) where
  abbrev c : Connection
  c = connection_in conns a

  alike : (rows : List Row) → Charged (oldest count conns) (nodes_in nodes) rows → (connection_in conns a).why ≡ Congruence → Alike nodes rows (cur c) (nxt c)
  alike rows k w =
      let t = twins s a h w in
      record {
        conns = oldest count conns;
        charged = k;
        left-known = t.left-known;
        right-known = t.right-known;
        even = t.even;
        left_in = λ i q. omega (arith, s.table.lower (cur c) i (current-here s a h) q, current-here s a h);
        right-in = λ i q. omega (arith, s.table.lower (nxt c) i (next_here s a h) (omega (arith, t.even)), next_here s a h);
        joins = λ i q. (kept a count conns _ _ (omega arith) (t.joins i q)).joins;
      }

  pub payable : (rows : List Row) → Charged (oldest count conns) (nodes_in nodes) rows → Payable nodes rows (connection_in conns a)
  payable rows k = record { current-in = current-here s a h; next-in = next_here s a h; alike = alike rows k }

  pub pairs : (connection_in conns a).why ≡ Congruence →
      Paired (oldest a conns) (kids_of (first_nodes (nodes_in nodes) nodes) (cur (connection_in conns a)))
      (kids_of (first_nodes (nodes_in nodes) nodes) (nxt (connection_in conns a)))
  pairs w = kin (sound-here s a h) w

-- what a connection costs, by its justification
module _ (ns : List Node) (d : ℕ → ℕ → ℕ) (why : Justification) (l r : ℕ) where
  pub by-rule : {n : RuleNo} {f : Direction} → why ≡ by_rule n f → 1 ≡ held (cost_by ns d why l r)
  unfolding cost_by
  by-rule w = rw w refl

  by-kids : why ≡ Congruence → cost_by ns d why l r ≡ sum_pairs d (kids_of ns l) (kids_of ns r)
  unfolding cost_by
  by-kids w = rw w refl

pub by-children : (nodes : List ℕ) (d : ℕ → ℕ → ℕ) (why : Justification) (l r : ℕ) → l < nodes_in nodes → r < nodes_in nodes → why ≡ Congruence →
    sum_pairs d (children_in nodes l) (children_in nodes r) ≡ cost_by (first_nodes (nodes_in nodes) nodes) d why l r
by-children nodes d why l r p q w =
    sym (by-kids (first_nodes (nodes_in nodes) nodes) d why l r w
    ∙ rw (children-in (nodes_in nodes) nodes l p, children-in (nodes_in nodes) nodes r q) refl)

-- rows that were filled from accepted connections
pub charged-full : {cs : List Connection} {n : ℕ} (old : List Row) {rows : List Row} → Rooted n cs → length old ≡ node_limit →
    rows ≡ rows_of cs n ++ drop n old → Charged cs n rows
charged-full old r s e = rw e record { climbs = full-climbs r old s; small = λ a p. omega (arith, full-free r old s a p) }

-- a pair of children of two nodes that are alike: joined, so that their path is measured
pub pair-joins : {nodes : List ℕ} {rows : List Row} {a b i x y : ℕ} (p : Alike nodes rows a b) → i < count_in nodes a → x ≡ child_in nodes a i → y ≡ child_in nodes b i →
    Joins rows x y
pair-joins {i = i} p h x y =
    record {
      conns = p.conns;
      nodes = _;
      charged = p.charged;
      left_in = omega (arith, x, p.left_in i h);
      right-in = omega (arith, y, p.right-in i h);
      same = ap (root p.conns) x ∙ p.joins i h ∙ ap (root p.conns) (sym y);
    }
