use native.Mathlib.Omega.{arith}
use mathlib.Core.Path.{sym, ap, ◌∙◌}
use Rattle.model.specs.declared.Connection.{Connection}
use Rattle.model.specs.Judged.{judgement_of}
use Rattle.model.specs.Forest.{cur, nxt}
use Rattle.laws.proofs.Handed.{handed_on}
use Rattle.connections.specs.Classes.{up_to, classes_joined}
use Rattle.connections.proofs.Whole.{sofar-none, sofar-forest, sofar-few, sofar-bad, Onward, sofar-onward, sofar-more, sofar-done}
use Rattle.connections.proofs.judge_ages.Goals.{In_ok-judge_entry}
use Rattle.connections.proofs.judge_ages.Goals as goal

pub part-requires : goal.part-requires
part-requires c = omega (arith, c.requires, c.args.nodes.whole.stand.few)

pub loop-age-init : goal.loop-age-init
loop-age-init c = sofar-none _ _ _ (c.part.ensures ∙ ap up_to c.requires)

pub judge_entry-requires : goal.judge_entry-requires
judge_entry-requires c = record {
  forest = (sofar-forest c.args.nodes.whole c.loop-age.invariant, omega (arith, sofar-few c.args.nodes.whole c.loop-age.invariant));
  classes = c.loop-age.invariant.theirs;
}

pub returns-in_err-judge_entry : goal.returns-in_err-judge_entry
returns-in_err-judge_entry c =
    handed_on c.from_residual.result _ c.from_residual.ensures.1
    ∙ ap judgement_of (sym (sofar-bad c.args.nodes.whole c.loop-age.invariant _ (omega (arith, c.div_ceil-age-end.ensures)) c.in_err-judge_entry.ensures))

-- the entry was taken
onward : (c : In_ok-judge_entry) → Onward c.args.nodes.whole c.loop-age.invariant
onward c = sofar-onward c.args.nodes.whole c.loop-age.invariant (sym c.in_ok-judge_entry.was ∙ c.judge_entry.ensures)

pub connection_at-c-requires : goal.connection_at-c-requires
connection_at-c-requires c = (onward (goal.at.connection_at-c-requires c).In_ok-judge_entry).room

pub join-requires : goal.join-requires
join-requires c =
    let a = onward (goal.at.join-requires c).In_ok-judge_entry in
    (omega (arith, a.current, ap cur c.connection_at-c.ensures), omega (arith, a.next, ap nxt c.connection_at-c.ensures))

pub loop-age-preserved : goal.loop-age-preserved
loop-age-preserved c =
    sofar-more c.args.nodes.whole c.loop-age.invariant (sym c.in_ok-judge_entry.was ∙ c.judge_entry.ensures)
    (c.join.ensures ∙ ap (λ (x : Connection). classes_joined c.loop-age.classes (cur x) (nxt x)) c.connection_at-c.ensures)

pub shape_of-classes : goal.shape_of-classes
shape_of-classes c = c.loop-age.invariant.theirs.size ∙ sym c.requires

pub returns : goal.returns
returns c =
    ap judgement_of (sym (sofar-done c.args.nodes.whole c.loop-age.invariant (omega (arith, c.div_ceil-age-end.ensures))))
