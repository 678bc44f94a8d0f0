-- `explanation::measure` meets its contract: 8, 9, 10, each where it is the first to hold; else the distance, with rows to climb by.
-- Assumes nothing.
use borrow.Author.Tests.{not-true, not-false}
use native.Mathlib.Omega.{arith}
use Prim.Native.Nat.{ℕ, ◌/◌, ◌≤◌, ◌<◌}
use mathlib.Core.Bool.{true}
use mathlib.Core.List.{List}
use mathlib.Core.Path.{◌≡◌, sym, ap, subst, ◌∙◌}
use lib.ListN.{length}
use Rattle.std.proofs.Common.{Ok}
use Rattle.model.specs.Limits.{distance_limit}
use Rattle.model.specs.Forest.{joined, dist}
use Rattle.model.specs.Query.{Tables}
use Rattle.model.specs.Tables.{node_words}
use Rattle.entries.specs.Nodes.{nodes_of}
use Rattle.entries.proofs.Nodes.{length-nodes}
use Rattle.paths.proofs.Joined.{joined-root}
use Rattle.forest.specs.Rows.{connections_of}
use Rattle.forest.proofs.Rooted.{rooted}
use Rattle.costs.specs.Costs.{Charged, Between}
use Rattle.costs.proofs.Payable.{charged-full}
use Rattle.explanation.proofs.Measures.{no-left, no-right, apart, long, near, ways}
use Rattle.explanation.proofs.measure.Goals as goal
use Rattle.explanation.proofs.measure.Goals.{After-fill_rows, After-joined, Else-n-from-2, Else-not-joined}

-- how many nodes there are
many : (nws : List ℕ) (t : Tables) → t.nodes ≡ nodes_of nws → length t.nodes ≡ length nws / node_words
many nws t e = ap length e ∙ length-nodes (length nws / node_words) nws

-- both nodes are in the table
record Inside (n l r : ℕ) : Type 0 where
  left : l < n
  right : r < n

inside : (c : Else-n-from-2) → let a = c.args in Inside (length a.tables.nodes.now / node_words) a.left.0 a.right.0
inside c = record { left = omega (arith, c.from.ensures); right = omega (arith, c.from-2.ensures) }

charged : (c : After-fill_rows) → let a = c.args in
    Charged (connections_of a.tables.conns.now) (length a.tables.nodes.now / node_words) c.fill_rows.new.rows
charged c = charged-full _ (rooted c.args.tables.supported) c.told-rows c.fill_rows.ensures

told : (c : After-joined) → let a = c.args in
    c.joined.result ≡ joined (connections_of a.tables.conns.now) a.left.0 a.right.0
told c =
    let above = goal.at.After-joined c in
    let b = inside above.Else-n-from-2 in
    c.joined.ensures _ _ (charged above.After-fill_rows).climbs b.left b.right

same : (c : Else-not-joined) → let a = c.args in
    joined (connections_of a.tables.conns.now) a.left.0 a.right.0 ≡ true
same c =
    let above = goal.at.Else-not-joined c in
    sym (told above.After-joined) ∙ not-false _ c.if-not-joined.false-raw

between : (c : Else-not-joined) → let a = c.args in
    Between a.tables.nodes.now a.tables.conns.now a.left.0 a.right.0
between c =
    let above = goal.at.Else-not-joined c in
    let b = inside above.Else-n-from-2 in
    record { left_in = b.left; right-in = b.right; same = joined-root _ _ _ (same c) }

pub returns-then-n-from : goal.returns-then-n-from
returns-then-n-from c =
    let a = c.args in record {
      measures = λ t ns cs. no-left t a.left.0 a.right.0 (omega (arith, many a.tables.nodes.now t ns, c.from.ensures));
      routed = tt;
    }

pub returns-then-n-from-2 : goal.returns-then-n-from-2
returns-then-n-from-2 c =
    let a = c.args in record {
      measures = λ t ns cs.
          let m = many a.tables.nodes.now t ns in
          no-right t a.left.0 a.right.0 (omega (arith, m, c.from.ensures)) (omega (arith, m, c.from-2.ensures));
      routed = tt;
    }

pub fill_rows-requires : goal.fill_rows-requires
fill_rows-requires c = rooted c.args.tables.supported

pub joined-requires : goal.joined-requires
joined-requires c =
    let above = goal.at.joined-requires c in
    let b = inside above.Else-n-from-2 in
    record { conns = _; nodes = _; climbs = (charged above.After-fill_rows).climbs; left_in = b.left; right-in = b.right }

pub returns-then-not-joined : goal.returns-then-not-joined
returns-then-not-joined c =
    let above = goal.at.returns-then-not-joined c in
    let a = c.args in record {
      measures = λ t ns cs.
          let m = many a.tables.nodes.now t ns in
          apart t a.left.0 a.right.0 (omega (arith, m, (inside above.Else-n-from-2).left)) (omega (arith, m, (inside above.Else-n-from-2).right))
          (rw cs (sym (told above.After-joined) ∙ not-true _ c.if-not-joined.true-raw));
      routed = tt;
    }

pub distance-d-requires : goal.distance-d-requires
distance-d-requires c =
    let above = goal.at.distance-d-requires c in
    record { charged = (charged above.After-fill_rows); between = (between above.Else-not-joined) }

pub returns-then-d-gt-DISTANCE_LIMIT : goal.returns-then-d-gt-DISTANCE_LIMIT
returns-then-d-gt-DISTANCE_LIMIT c =
    let above = goal.at.returns-then-d-gt-DISTANCE_LIMIT c in
    let a = c.args in record {
      measures = λ t ns cs.
          let m = many a.tables.nodes.now t ns in
          long t a.left.0 a.right.0 (omega (arith, m, (inside above.Else-n-from-2).left)) (omega (arith, m, (inside above.Else-n-from-2).right)) (rw cs (same above.Else-not-joined))
          (rw (ns, cs) (omega (arith, c.distance-d.ensures.value)));
      routed = tt;
    }

pub returns : goal.returns
returns c =
    let above = goal.at.returns c in
    let a = c.args in record {
      measures = λ t ns cs.
          let m = many a.tables.nodes.now t ns in
          let d : c.distance-d.result ≡ dist t.nodes t.conns a.left.0 a.right.0 =
          rw (ns, cs) (omega (arith, c.distance-d.ensures.value)) in
          ap Ok d
          ∙ near t a.left.0 a.right.0 (omega (arith, m, (inside above.Else-n-from-2).left)) (omega (arith, m, (inside above.Else-n-from-2).right)) (rw cs (same above.Else-not-joined))
          (subst (λ (x : ℕ). x ≤ distance_limit) d c.if-d-gt-DISTANCE_LIMIT.false);
      routed = ways c.args.tables.supported (between above.Else-not-joined) (omega (arith, c.distance-d.ensures.value)) (charged above.After-fill_rows) c.distance-d.ensures.rows_after;
    }
