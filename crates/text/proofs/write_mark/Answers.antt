-- `text::write_mark` meets its contract, by the cases of the mark.
use Prim.Native.Nat.{ℕ, ◌+◌, ◌≤◌}
use mathlib.Core.Path.{refl, sym, subst}
use mathlib.Core.List.{List}
use lib.ListN.{length}
use Rattle.model.specs.Text.{bytes}
use Rattle.text.proofs.Heads.{mark-none, mark-forward, mark-backward}
use Rattle.text.proofs.Filled.{put-none, put_as}
use Rattle.text.proofs.write_mark.Goals as goal

pub write_marked-requires : goal.write_marked-requires
unfolding bytes
write_marked-requires c =
    subst (λ (l : List ℕ). c.args.pen.now.at + length l ≤ length c.args.pen.now.room.now) (mark-forward c.args.rule.0 c.in-1.is) c.requires

pub write_marked-requires-in_default : goal.write_marked-requires-in_default
unfolding bytes
write_marked-requires-in_default c =
    subst (λ (l : List ℕ). c.args.pen.now.at + length l ≤ length c.args.pen.now.room.now)
    (mark-backward c.args.mark c.args.rule.0 c.in_default.in_default-own.rest.0.1 c.in_default.in_default-own.rest.1) c.requires

pub returns-in-0 : goal.returns-in-0
returns-in-0 c =
    let p = c.args.pen.now in
    let said = put-none p.room.now p.at (mark-none c.args.rule.0 c.in-0.is) in
    record { same_reference = refl; at_after = said.0; room_after = said.1 }

pub returns-in-1 : goal.returns-in-1
unfolding bytes
returns-in-1 c =
    let p = c.args.pen.now in
    let e = c.write_marked.ensures in
    let said = put_as p.room.now p.at (sym (mark-forward c.args.rule.0 c.in-1.is)) e.at_after e.room_after in
    record { same_reference = e.same_reference; at_after = said.0; room_after = said.1 }

pub returns-in_default : goal.returns-in_default
unfolding bytes
returns-in_default c =
    let p = c.args.pen.now in
    let e = c.write_marked-in_default.ensures in
    let other = c.in_default.in_default-own.rest in
    let said = put_as p.room.now p.at (sym (mark-backward c.args.mark c.args.rule.0 other.0.1 other.1)) e.at_after e.room_after in
    record { same_reference = e.same_reference; at_after = said.0; room_after = said.1 }
