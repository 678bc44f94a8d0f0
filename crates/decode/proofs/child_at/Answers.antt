-- `decode::child_at` meets its contract: bytes behind the end count as zero.
use Rattle.decode.proofs.Nodes.{behind-end}
use Rattle.decode.proofs.child_at.Goals as goal

pub word_at-requires : goal.word_at-requires
word_at-requires c = c.requires c.if-at-bytes.true

pub returns-else-at-bytes : goal.returns-else-at-bytes
returns-else-at-bytes c = let a = c.args in behind-end a.bytes.now a.at c.if-at-bytes.false
