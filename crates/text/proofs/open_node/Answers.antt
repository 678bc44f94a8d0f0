-- `text::open_node` meets its contract: what the room holds behind each call.
use native.Mathlib.Omega.{arith}
use Prim.Native.Nat.{ℕ, ◌+◌, ◌≤◌}
use mathlib.Core.Path.{refl, subst}
use mathlib.Core.List.{List, ◌++◌, append_assoc}
use lib.ListN.{length, take, drop}
use Rattle.text.specs.Nodes.{head_of, pushed, opened}
use Rattle.text.specs.Writing.{space, less, Holds}
use Rattle.text.proofs.Heads.{opened-length}
use Rattle.text.proofs.Stacked.{less-length, holds-now, holds-less, holds-write, holds-push, stack-length}
use Rattle.text.proofs.open_node.Goals.{Start, After-next_term-begun, After-push-outer, After-push-inner}
use Rattle.text.proofs.open_node.Goals as goal

-- the text with the space before the node
abbrev text : List ℕ → ℕ → ℕ → List ℕ
text room at top = take at room ++ space (drop top room)

now : (c : Start) → Holds c.args.room.now c.args.at c.args.top (take c.args.at c.args.room.now) (drop c.args.top c.args.room.now)
now c = let r = c.requires.at_le_top in holds-now c.args.room.now c.args.at c.args.top r.0 r.1

-- all of it fits
fits : (c : Start) →
    c.args.at + length (space (drop c.args.top c.args.room.now)) + length (head_of c.args.n) + length (pushed c.args.n.count c.args.n.count)
    + length (pushed c.args.n.mark 0) ≤ c.args.top
fits c =
    let stack : List ℕ = drop c.args.top c.args.room.now in
    let n = c.args.n in
    omega (arith, c.requires.room_in_bounds, opened-length n.count n.mark (less stack), less-length stack, stack-length (now c))

pub next_term-begun-requires : goal.next_term-begun-requires
next_term-begun-requires c =
    let r = c.requires.at_le_top in (omega (arith, fits (goal.at.next_term-begun-requires c).Start), r.1, r.2)

begun : (c : After-next_term-begun) →
    Holds c.next_term-begun.new.room c.next_term-begun.result c.args.top (text c.args.room.now c.args.at c.args.top)
    (less (drop c.args.top c.args.room.now))
begun c =
    let s = (goal.at.After-next_term-begun c).Start in
    holds-write (holds-less (now s) refl) (space (drop c.args.top c.args.room.now)) (omega (arith, fits s)) c.next_term-begun.ensures.value
    c.next_term-begun.ensures.room_after

pub push-outer-requires : goal.push-outer-requires
push-outer-requires c =
    let g = goal.at.push-outer-requires c in (omega (arith, fits g.Start), (begun g.After-next_term-begun).inside, omega arith)

outer : (c : After-push-outer) →
    Holds c.push-outer.new.room c.next_term-begun.result c.push-outer.result (text c.args.room.now c.args.at c.args.top)
    (pushed c.args.n.mark 0 ++ less (drop c.args.top c.args.room.now))
outer c =
    let g = goal.at.After-push-outer c in
    holds-push (begun g.After-next_term-begun) (pushed c.args.n.mark 0) (omega (arith, fits g.Start, c.next_term-begun.ensures.value))
    c.push-outer.ensures.count_value c.push-outer.ensures.room_after

pub push-inner-requires : goal.push-inner-requires
push-inner-requires c =
    let g = goal.at.push-inner-requires c in (
      omega (arith, fits g.Start, c.push-outer.ensures.count_value),
      (outer g.After-push-outer).inside,
      c.requires.at_le_top.3,
    )

inner : (c : After-push-inner) →
    Holds c.push-inner.new.room c.next_term-begun.result c.push-inner.result (text c.args.room.now c.args.at c.args.top)
    (opened c.args.n.count c.args.n.mark (less (drop c.args.top c.args.room.now)))
inner c =
    let g = goal.at.After-push-inner c in
    holds-push (outer g.After-push-outer) (pushed c.args.n.count c.args.n.count)
    (omega (arith, fits g.Start, c.next_term-begun.ensures.value, c.push-outer.ensures.count_value)) c.push-inner.ensures.count_value
    c.push-inner.ensures.room_after

pub put_head-end-requires : goal.put_head-end-requires
put_head-end-requires c =
    let g = goal.at.put_head-end-requires c in
    omega (
      arith,
      fits g.Start,
      (inner g.After-push-inner).inside,
      c.push-inner.ensures.count_value,
      c.push-outer.ensures.count_value,
      c.next_term-begun.ensures.value,
    )

pub returns : goal.returns
returns c =
    let g = goal.at.returns c in
    subst (λ (l : List ℕ). Holds c.put_head-end.new.room c.put_head-end.result c.push-inner.result l (opened c.args.n.count c.args.n.mark (less (drop c.args.top c.args.room.now))))
    (append_assoc (take c.args.at c.args.room.now) (space (drop c.args.top c.args.room.now)) (head_of c.args.n))
    (holds-write (inner g.After-push-inner) (head_of c.args.n)
    (omega (arith, fits g.Start, c.push-inner.ensures.count_value, c.push-outer.ensures.count_value, c.next_term-begun.ensures.value))
    c.put_head-end.ensures.value c.put_head-end.ensures.room_after)
