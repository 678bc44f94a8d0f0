-- `pieces::gather` meets its contract: up to a line feed, or to the piece's end.
use native.Mathlib.Omega.{arith}
use mathlib.Core.Path.{sym, ap, ◌∙◌}
use lib.ListN.{length, length-drop}
use Rattle.pieces.proofs.Gathering.{feed-found, feed-none, gathered-is, rest-is}
use Rattle.pieces.proofs.gather.Goals as goal

pub returns-in-Some : goal.returns-in-Some
returns-in-Some c =
    let f = feed-found _ (sym c.find_feed.ensures ∙ c.in-Some.is) in
    let x = gathered-is _ _ c.args.from c.args.held c.args.line.now (rest-is c.args.piece.now c.args.from) (f.0, f.1) (omega (arith, f.2)) c.keep.ensures.value c.keep.ensures.line_after in
    record { value = x.0; line_after = x.1 }

pub returns-in-None : goal.returns-in-None
returns-in-None c =
    let f = feed-none _ (sym c.find_feed.ensures ∙ c.in-None.is) in
    let x = gathered-is _ _ c.args.from c.args.held c.args.line.now (rest-is c.args.piece.now c.args.from) f (omega (arith, ap length (rest-is c.args.piece.now c.args.from), length-drop c.args.from c.args.piece.now)) c.keep-in-None.ensures.value c.keep-in-None.ensures.line_after in
    record { value = x.0; line_after = x.1 }
