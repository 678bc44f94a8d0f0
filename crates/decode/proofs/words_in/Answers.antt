-- `decode::words_in` meets its contract: whole sixes of bytes, and not none of them.
use Rattle.decode.proofs.Asked.{no_byte, no-sixes, words-offered}
use Rattle.decode.proofs.words_in.Goals as goal

pub returns-then-n-eq0 : goal.returns-then-n-eq0
returns-then-n-eq0 c = no_byte _ c.if-n-eq0.true

pub returns-then-n-ne0 : goal.returns-then-n-ne0
returns-then-n-ne0 c = no-sixes _ c.if-n-ne0.true

pub returns : goal.returns
returns c = words-offered _ c.if-n-eq0.false c.if-n-ne0.false
