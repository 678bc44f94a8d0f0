-- `decode::put_six` meets its contract: four stores are one writing of four words.
use native.Mathlib.Omega.{arith}
use lib.ListN.{length-set}
use Rattle.decode.proofs.Asked.{six-put}
use Rattle.decode.proofs.put_six.Goals as goal

pub bounds-area-j-2 : goal.bounds-area-j-2
bounds-area-j-2 c = simp length-set (omega arith)

pub bounds-area-j-3 : goal.bounds-area-j-3
bounds-area-j-3 c = simp length-set (omega arith)

pub bounds-area-j-4 : goal.bounds-area-j-4
bounds-area-j-4 c = simp length-set (omega arith)

pub returns : goal.returns
returns c =
    let args = c.args in
    six-put args.bytes.now _ args.i _ _ _ _ _ (omega arith)
    c.word_at.ensures
    c.from.ensures
    c.from-2.ensures
    c.word_at-2.ensures
