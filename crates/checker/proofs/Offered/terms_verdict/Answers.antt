-- `checker::Offered::terms_verdict` meets its contract: 19 for terms, 14, then the later terms.
-- Assumes nothing.
use native.Mathlib.Omega.{arith}
use Prim.Native.Nat.{ℕ, zero, suc, ◌<◌}
use mathlib.Core.List.{List}
use mathlib.Core.Path.{subst, ◌∙◌}
use Rattle.model.specs.Term.{one}
use Rattle.terms.proofs.Place.{row-well, term-row}
use Rattle.marks.specs.Marks.{HasRow, MarkedIs}
use Rattle.checker.proofs.Later.{terms-many, terms-marked, terms-later}
use Rattle.checker.proofs.Offered.terms_verdict.Goals as goal

pub returns-then-n-gt-TERM_LIMIT : goal.returns-then-n-gt-TERM_LIMIT
returns-then-n-gt-TERM_LIMIT c = λ rs are f h. let a = c.args in let p = terms-many rs a.self.words.now a.n f h (omega arith) in cc

-- the first of some terms is a row of one
first : (ws : List ℕ) (n : ℕ) → 0 < n → HasRow ws 0 n → HasRow ws 0 1
first ws zero l r = absurd (omega arith)
first ws (suc n) l r =
    let w = row-well ws 0 n r.terms r.is in
    record { terms = one w.term; is = term-row ws 0 w.end w.term w.is }

pub marked-requires : goal.marked-requires
marked-requires c = first c.args.self.words.now c.args.n c.requires.n_nonzero c.requires.has_row

pub returns-then-marked : goal.returns-then-marked
returns-then-marked c = λ rs are f h.
    let m = subst (MarkedIs c.args.self.words.now 0 1) c.if-marked.true c.marked.ensures in
    let p = terms-marked rs c.args.self.words.now c.args.n f h c.requires.n_nonzero (omega arith) m in cc

pub returns : goal.returns
returns c = λ rs are f h.
    c.later_terms.ensures rs are f h
    ∙ terms-later rs c.args.self.words.now c.args.n f h c.requires.n_nonzero (omega arith) (subst (MarkedIs c.args.self.words.now 0 1) c.if-marked.false c.marked.ensures)
