-- `text::term_text` meets its contract, by what the words say.
use mathlib.Core.Path.{◌≡◌, sym, ◌∙◌}
use lib.ListN.{length}
use Rattle.std.proofs.Common.{Err}
use Rattle.model.specs.declared.Refusal.TheVariants.{NoTerms}
use Rattle.model.specs.Text.{term_text}
use Rattle.text.proofs.Printed.{room-refused, print-broken, print-empty, print-several, print-one}
use Rattle.text.proofs.term_text.Goals.{in_default-via-in-Some+in_default, in_default-via-in_default}
use Rattle.text.proofs.term_text.Goals as goal

pub print_term-requires : goal.print_term-requires
print_term-requires c = print-one _ 0 c.in-Some-eq1.ensures c.in-Some-eq1.field-0-test

pub returns-in-Some-eq0 : goal.returns-in-Some-eq0
returns-in-Some-eq0 c =
    let e = print-empty _ _ c.in-Some-eq0.ensures c.in-Some-eq0.field-0-test in record {
      value = c.refuse.ensures.value ∙ e;
      room_after = c.refuse.ensures.room_after ∙ room-refused _ _ _ e;
    }

pub returns-in_default : goal.returns-in_default
returns-in_default c = record { value = c.refuse-in_default.ensures.value ∙ unsaid; room_after = c.refuse-in_default.ensures.room_after ∙ room-refused _ _ _ unsaid }
  where
    unsaid : Err NoTerms ≡ term_text c.args.words.now (length c.args.room.now)
    unsaid =
        elim c.in_default.branch [
          | in_default-via-in-Some+in_default w ↦ print-several _ _ w.in_default.ensures w.in_default.field-0-test.0.1 w.in_default.field-0-test.1
          | in_default-via-in_default w ↦ print-broken _ _ (sym w.in_default.is ∙ c.whole_terms.ensures)
        ]
