use native.Mathlib.Omega.{arith}
use mathlib.Core.Path.{sym, ◌∙◌}
use Rattle.std.specs.Prelude.{Some, None}
use Rattle.terms.proofs.Walk.{scan-short, walk-next, walk-off, walk-done}
use Rattle.terms.proofs.Place.{end-go}
use Rattle.terms.proofs.subterm_end.Goals as goal

pub returns-then-len-at : goal.returns-then-len-at
returns-then-len-at c =
    let a = c.args in
    end-go a.words.now a.at None (scan-short a.words.now a.at 1 (omega arith) (omega arith))

pub returns-then-len-pos-lt-FLAT_WORDS : goal.returns-then-len-pos-lt-FLAT_WORDS
returns-then-len-pos-lt-FLAT_WORDS c =
    let l = c.loop-pending in
    let a = c.args in
    end-go a.words.now a.at None (sym l.invariant.finds ∙ scan-short a.words.now l.pos l.pending (omega arith) (omega arith))

pub returns-then-not-node_ok : goal.returns-then-not-node_ok
returns-then-not-node_ok c =
    let l = c.loop-pending in
    let a = c.args in
    end-go a.words.now a.at None
    (walk-off a.words.now a.at l.pos l.pending c.node_at-n.result (omega arith) (omega arith) c.node_at-n.ensures l.invariant (cc))

pub loop-pending-preserved : goal.loop-pending-preserved
loop-pending-preserved c =
    let l = c.loop-pending in
    let a = c.args in
    rw c.from.ensures
    (walk-next a.words.now a.at l.pos l.pending c.node_at-n.result (omega arith) (omega arith) c.node_at-n.ensures l.invariant (cc))

pub returns : goal.returns
returns c =
    let l = c.loop-pending in
    let a = c.args in
    end-go a.words.now a.at (Some l.pos) (walk-done a.words.now a.at l.pos l.pending (omega arith) l.invariant)
