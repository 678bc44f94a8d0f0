-- `marks::one_mark` meets its contract: a walk to the first mark, and one from behind it on.
-- Assumes nothing.
use native.Mathlib.Omega.{arith}
use Prim.Native.Nat.{◌+◌, ◌-◌, ◌*◌, ◌≤◌}
use mathlib.Core.Path.{◌≡◌}
use lib.ListN.{length}
use Rattle.model.specs.Limits.{flat_words}
use Rattle.model.specs.Term.{Terms, one}
use Rattle.terms.specs.Place.{RowAt, node_of}
use Rattle.terms.proofs.Place.{term-row, row_fits}
use Rattle.marks.specs.Marks.{HasRow, RestOf, OneIs}
use Rattle.std.specs.Prelude.{Some}
use Rattle.marks.proofs.Single.{none_left, AtMark, first_mark, two-marks, one_at}
use Rattle.marks.proofs.one_mark.Goals as goal
use Rattle.marks.proofs.one_mark.Goals.{Else-first-eq0, After-from, After-to_mark-behind, Else-behind-ne0}

-- the first mark; the row below and behind it; the walk over that; where it ends
found : (c : Else-first-eq0) → AtMark c.args.words.now c.args.at c.to_mark-first.result.nodes c.to_mark-first.result.pending (one c.requires.term)
found c =
    let w = c.requires in
    first_mark c.args.words.now c.args.at w.end w.term c.to_mark-first.result w.is c.to_mark-first.ensures (omega (arith, c.if-first-eq0.false))

pub to_mark-first-requires : goal.to_mark-first-requires
to_mark-first-requires c =
    let w = c.requires in
    record { terms = one w.term; is = term-row c.args.words.now c.args.at w.end w.term w.is }

pub returns-then-first-eq0 : goal.returns-then-first-eq0
returns-then-first-eq0 c = λ e t h q.
    omega (arith, q, none_left _ _ _ _ (one t) (c.to_mark-first.ensures (one t) (term-row c.args.words.now c.args.at e t h)) c.if-first-eq0.true)

pub overflow_mul-place : goal.overflow_mul-place
overflow_mul-place c = omega (arith, (found (goal.at.overflow_mul-place c).Else-first-eq0).room, c.well_formed.0)

pub overflow_add-place : goal.overflow_add-place
overflow_add-place c = omega (arith, (found (goal.at.overflow_add-place c).Else-first-eq0).room, c.well_formed.0)

pub node_at-n-requires : goal.node_at-n-requires
node_at-n-requires c = (found (goal.at.node_at-n-requires c).Else-first-eq0).room

pub overflow_add-below : goal.overflow_add-below
overflow_add-below c = omega (arith, (found (goal.at.overflow_add-below c).Else-first-eq0).room, c.well_formed.0)

behind : (c : After-from) → HasRow c.args.words.now (c.args.at + flat_words * c.to_mark-first.result.nodes + flat_words) (c.to_mark-first.result.pending - 1 + c.from.result)
behind c =
    let a = c.args in
    let f = found (goal.at.After-from c).Else-first-eq0 in
    let k : (node_of a.words.now (a.at + flat_words * c.to_mark-first.result.nodes)).count ≡ c.from.result = cc in
    record { terms = f.below; is = rw k at f.row }

second : (c : After-to_mark-behind) → let a = c.args in
    let p = a.at + flat_words * c.to_mark-first.result.nodes in (g : Terms)
    → RowAt a.words.now (p + flat_words) (c.to_mark-first.result.pending - 1 + (node_of a.words.now p).count) g
    → RestOf a.words.now (p + flat_words) c.to_mark-behind.result.nodes c.to_mark-behind.result.pending g
second c = λ g h.
    let a = c.args in
    let k : (node_of a.words.now (a.at + flat_words * c.to_mark-first.result.nodes)).count ≡ c.from.result = cc in
    c.to_mark-behind.ensures g (rw k at h)

one_here : (c : Else-behind-ne0) → OneIs c.args.words.now c.args.at
    (Some (record { nodes = c.to_mark-first.result.nodes; end = c.args.at + flat_words * c.to_mark-first.result.nodes + flat_words + flat_words * c.to_mark-behind.result.nodes }))
one_here c = λ e t h.
    one_at _ _ _ _ (omega (arith, c.if-first-eq0.false)) e _ _ t h (c.to_mark-first.ensures (one t) (term-row c.args.words.now c.args.at e t h))
    (second (goal.at.Else-behind-ne0 c).After-to_mark-behind) c.if-behind-ne0.false

inside : (c : Else-behind-ne0) → c.args.at + flat_words * c.to_mark-first.result.nodes + flat_words + flat_words * c.to_mark-behind.result.nodes ≤ length c.args.words.now
inside c = let w = c.requires in let o = one_here c w.end w.term w.is in omega (arith, o.ends, w.is.within)

pub overflow_add-first : goal.overflow_add-first
overflow_add-first c = let b = behind c in omega (arith, row_fits _ _ _ _ b.is, c.well_formed.0)

pub to_mark-behind-requires : goal.to_mark-behind-requires
to_mark-behind-requires c = behind c

pub returns-then-behind-ne0 : goal.returns-then-behind-ne0
returns-then-behind-ne0 c = λ e t h q.
    two-marks _ _ _ _ (omega (arith, c.if-first-eq0.false)) _ _ (one t) (c.to_mark-first.ensures (one t) (term-row c.args.words.now c.args.at e t h))
    (second (goal.at.returns-then-behind-ne0 c).After-to_mark-behind) c.if-behind-ne0.true q

pub overflow_mul-result : goal.overflow_mul-result
overflow_mul-result c = omega (arith, inside (goal.at.overflow_mul-result c).Else-behind-ne0, c.well_formed.0)

pub overflow_add-result : goal.overflow_add-result
overflow_add-result c = omega (arith, inside (goal.at.overflow_add-result c).Else-behind-ne0, c.well_formed.0)

pub returns : goal.returns
returns c = one_here (goal.at.returns c).Else-behind-ne0
