-- `matching::rule_fits` meets its contract: the left side is matched with nothing bound, and the right side with what that bound.
-- Assumes nothing.
use Rattle.terms.proofs.Single.{well-of}
use Rattle.matching.proofs.BothSides.{none-valid, side-rows, fit-off, left-valid, fit_on}
use Rattle.matching.proofs.rule_fits.Goals as goal

pub match_side-l-requires : goal.match_side-l-requires
match_side-l-requires c = record {
  valid = none-valid c.args.both.words.now;
  rows = side-rows _ _ _ c.requires.side (well-of c.args.both.well_a);
}

pub returns-in_default : goal.returns-in_default
returns-in_default c = let a = c.args in fit-off a.left.now a.right.now a.both.words.now a.both.a a.both.b c.in_default.ensures

pub match_side-r-requires : goal.match_side-r-requires
match_side-r-requires c =
    let a = c.args in record {
      valid = left-valid a.left.now a.right.now a.both.words.now a.both.a a.both.b c.in-Some.bound c.in-Some.ensures c.requires.side (well-of c.args.both.well_a);
      rows = side-rows _ _ _ c.requires.side_2 (well-of c.args.both.well_b);
    }

pub returns : goal.returns
returns c =
    let a = c.args in
    rw c.is_some.ensures
    (fit_on a.left.now a.right.now a.both.words.now a.both.a a.both.b c.in-Some.bound c.in-Some.ensures c.match_side-r.result c.match_side-r.ensures)
