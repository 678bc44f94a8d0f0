use native.Mathlib.Omega.{arith}
use Prim.Native.Nat.{ℕ, ◌+◌, ◌≤◌}
use lib.ListN.{length}
use Rattle.model.specs.Tables.{item_words}
use Rattle.terms.proofs.Place.{row_fits}
use Rattle.matching.proofs.Patterns.{row_room}
use Rattle.matching.proofs.Match.{match_none, some-rows, step-off, Next, next-rows, next-match}
use Rattle.matching.proofs.+match_side.Goals as goal
use Rattle.matching.proofs.+match_side.Goals.{In_ok-s, Else-pending-eq0}

pub returns-then-pending-eq0 : goal.returns-then-pending-eq0
returns-then-pending-eq0 t c =
    let a = c.args in
    match_none a.side.now a.item a.pending a.words.now a.at a.b c.requires.valid c.if-pending-eq0.true

pub item_step-requires-clause-some_rows : goal.item_step-requires-clause-some_rows
item_step-requires-clause-some_rows t c =
    let a = c.args in
    some-rows a.side.now a.item a.pending a.words.now a.at c.requires.rows c.if-pending-eq0.false

next : (t : ℕ) (c : In_ok-s t) → Next c.args.side.now c.args.item c.args.words.now c.args.at c.args.b c.in_ok-s.s c.in_ok-s.ensures c.args.pending
next t c =
    let a = c.args in
    next-rows a.side.now a.item a.words.now a.at a.b c.in_ok-s.s c.in_ok-s.ensures a.pending c.if-pending-eq0.false c.requires.rows

room : (t : ℕ) (c : Else-pending-eq0 t) → c.args.item + item_words ≤ length c.args.side.now
room t c =
    let s = c.args in
    let r = some-rows s.side.now s.item s.pending s.words.now s.at c.requires.rows c.if-pending-eq0.false in
    row_room s.side.now s.item r.left r.rows.patterns r.rows.is_p

pub returns-in_err-s : goal.returns-in_err-s
returns-in_err-s t c =
    let a = c.args in
    rw c.from_residual.ensures
    (step-off a.side.now a.item a.words.now a.at a.b c.in_err-s.ensures a.pending c.if-pending-eq0.false)

pub overflow_add-pending : goal.overflow_add-pending
overflow_add-pending t c =
    let n = next t (goal.at.overflow_add-pending t c).In_ok-s in
    omega (arith, row_fits _ _ _ n.rows.terms n.rows.is_t, c.well_formed)

pub match_side-requires : goal.match_side-requires
match_side-requires t c =
    let n = next t (goal.at.match_side-requires t c).In_ok-s in
    (omega (arith, c.decreases, room t (goal.at.match_side-requires t c).Else-pending-eq0), (n.valid, n.rows))

pub returns : goal.returns
returns t c =
    let a = c.args in
    next-match a.side.now a.item a.words.now a.at a.b c.in_ok-s.s c.in_ok-s.ensures a.pending
    c.if-pending-eq0.false c.match_side.result c.match_side.ensures
