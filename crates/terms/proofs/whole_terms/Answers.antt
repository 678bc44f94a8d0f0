use native.Mathlib.Omega.{arith}
use Rattle.terms.proofs.Rows.{one-long}
use Rattle.terms.proofs.Place.{term-length}
use Rattle.terms.proofs.Counted.{whole-next, whole-broken, whole-done}
use Rattle.terms.proofs.whole_terms.Goals as goal

pub returns-in-None : goal.returns-in-None
returns-in-None c =
    let l = c.loop-pos in
    whole-broken c.args.words.now l.pos l.n c.in-None.ensures (omega arith) l.invariant

pub loop-pos-smaller : goal.loop-pos-smaller
loop-pos-smaller c =
    let f = c.in-Some.ensures in
    omega (arith, term-length _ _ _ f.term f.is, one-long f.term, f.is.within)

pub loop-pos-preserved : goal.loop-pos-preserved
loop-pos-preserved c =
    let l = c.loop-pos in
    let f = c.in-Some.ensures in
    whole-next c.args.words.now l.pos l.n c.in-Some.end f.term f.is l.invariant

pub returns : goal.returns
returns c =
    let l = c.loop-pos in
    whole-done c.args.words.now l.pos l.n (omega arith) l.invariant
