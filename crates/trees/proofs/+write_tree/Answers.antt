use native.Mathlib.Omega.{arith}
use Prim.Native.Nat.{ℕ, ◌+◌, ◌*◌, ◌≤◌}
use mathlib.Core.Path.{◌≡◌, sym}
use lib.ListN.{length}
use Rattle.model.specs.Limits.{flat_words}
use Rattle.model.specs.Flat.{size_of}
use Rattle.entries.specs.Nodes.{nodes_of}
use Rattle.entries.proofs.Nodes.{known}
use Rattle.trees.proofs.Grown.{grown-none, grown-room, grown-more, grown-all}
use Rattle.trees.proofs.Planted.{term-long}
use Rattle.trees.proofs.+write_tree.Goals as goal
use Rattle.trees.proofs.+write_tree.Goals.{After-put_root}

same : (t : ℕ) (c : After-put_root t) → length c.put_root.new.area ≡ length c.args.area.now
same t c =
    c.put_root.auto.area

room : (t : ℕ) (c : After-put_root t) → c.args.at + flat_words * size_of (nodes_of c.args.nodes.words.now) c.args.n.0 ≤ length c.put_root.new.area
room t c =
    omega (arith, (same t c), c.requires.n_in_bounds)

pub put_root-requires : goal.put_root-requires
put_root-requires t c =
    (known c.args.n.0 c.args.nodes.whole.stand c.requires.n_listed, omega (arith, term-long c.args.nodes.words.now c.args.nodes.whole c.args.n.0 c.requires.n_listed, c.requires.n_in_bounds))

pub loop-i-init : goal.loop-i-init
loop-i-init t c = (c.count_of-count.ensures, grown-none _ _ _ _)

pub loop-i-preserved : goal.loop-i-preserved
loop-i-preserved t c =
    let above = goal.at.loop-i-preserved t c in (
      c.loop-i.invariant.0,
      grown-more c.args.nodes.whole c.requires.n_listed (room t above.After-put_root) c.loop-i.invariant.1 (omega (arith, c.loop-i.invariant.0)) c.child_of.ensures c.write_tree-end.ensures.value c.write_tree-end.ensures.area_after,
    )

pub returns : goal.returns
returns t c =
    let above = goal.at.returns t c in
    record { value = (grown-all c.args.nodes.whole c.requires.n_listed (room t above.After-put_root) c.loop-i.invariant.1 c.args.area.now (omega (arith, c.loop-i.invariant.0)) (sym (same t above.After-put_root)) c.put_root.ensures).0; area_after = (grown-all c.args.nodes.whole c.requires.n_listed (room t above.After-put_root) c.loop-i.invariant.1 c.args.area.now (omega (arith, c.loop-i.invariant.0)) (sym (same t above.After-put_root)) c.put_root.ensures).1 }

pub write_tree-end-requires : goal.write_tree-end-requires
write_tree-end-requires t c =
    let above = goal.at.write_tree-end-requires t c in
    let low = c.args.nodes.whole.stand.lower c.args.n.0 c.loop-i.i c.requires.n_listed (omega (arith, c.loop-i.invariant.0)) in (
      omega (arith, low, c.child_of.ensures),
      (
        omega (arith, c.requires.n_listed, low, c.child_of.ensures),
        grown-room c.args.nodes.whole c.requires.n_listed (room t above.After-put_root) c.loop-i.invariant.1 (omega (arith, c.loop-i.invariant.0)) c.child_of.ensures,
      ),
    )
