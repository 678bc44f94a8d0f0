-- `decode::pair_of` meets its contract: four bytes are two words.
use native.Mathlib.Omega.{arith}
use Rattle.decode.proofs.Asked.{no-pair, a_pair}
use Rattle.decode.proofs.pair_of.Goals as goal

pub returns-then-bytes-ne-QUERY_BYTES : goal.returns-then-bytes-ne-QUERY_BYTES
returns-then-bytes-ne-QUERY_BYTES c = no-pair _ c.if-bytes-ne-QUERY_BYTES.true

pub returns : goal.returns
returns c = a_pair _ _ _ (omega arith) c.word_at.ensures c.word_at-2.ensures
