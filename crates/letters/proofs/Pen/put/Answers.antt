-- `letters::Pen::put` meets its contract: what was lent comes back with the bytes.
use mathlib.Core.Path.{ap, ◌∙◌}
use lib.ListN.{length}
use Rattle.laws.specs.Area.{splice}
use Rattle.laws.proofs.Lent.{lent_back}
use Rattle.letters.proofs.Pen.put.Goals as goal

pub returns-clause-room_after : goal.returns-clause-room_after
returns-clause-room_after c =
    let there = c.copy_from_slice.ensures.after in
    lent_back c.args.self.now.room.now _ c.args.self.now.at _ (ap length there) ∙ ap (splice c.args.self.now.room.now c.args.self.now.at) there
