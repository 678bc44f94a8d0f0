-- `checker::check` meets its contract: 19 for words, 12, 13, then the terms.
-- Assumes nothing.
use native.Mathlib.Omega.{arith}
use mathlib.Core.Path.{sym, ◌∙◌}
use borrow.Author.Tests.{eqb-true, eqb-false}
use Rattle.laws.proofs.Handed.{handed_on}
use Rattle.checker.proofs.Later.{words-many, words-none, words-read, CountedTerms, counted, counted-some, broken, ok-some, err-none}
use Rattle.checker.proofs.check.Goals as goal
use Rattle.checker.proofs.check.Goals.{In_ok-n}

terms : (c : In_ok-n) → CountedTerms c.args.words.now c.in_ok-n.n
terms c = counted c.args.words.now _ (sym c.whole_terms.ensures ∙ ok-some _ _ _ (sym c.ok_or.ensures.value ∙ c.in_ok-n.was))

pub returns-then-words-gt-WORD_LIMIT : goal.returns-then-words-gt-WORD_LIMIT
returns-then-words-gt-WORD_LIMIT c = λ rs are. rw c.into.ensures (words-many rs c.args.words.now (omega arith))

pub returns-then-is_empty : goal.returns-then-is_empty
returns-then-is_empty c = λ rs are.
    rw c.into-then-is_empty.ensures (words-none rs c.args.words.now (eqb-true _ _ (sym c.if-is_empty.ensures)))

pub terms_verdict-requires : goal.terms_verdict-requires
terms_verdict-requires c =
    let t = terms (goal.at.terms_verdict-requires c).In_ok-n in
    record {
      has_row = record { terms = t.terms; is = t.row };
      n_nonzero = counted-some c.args.words.now _ t (eqb-false _ _ (sym c.if-is_empty.ensures));
    }

pub returns-in_err-n : goal.returns-in_err-n
returns-in_err-n c = λ rs are.
    let (z, q) = err-none _ _ _ (sym c.ok_or.ensures.value ∙ c.in_err-n.was) in
    handed_on c.from_residual.result _ c.from_residual.ensures.1
    ∙ rw (← q) (broken rs c.args.words.now c.if-words-gt-WORD_LIMIT.false (sym c.whole_terms.ensures ∙ z))

pub returns : goal.returns
returns c = λ rs are.
    let t = terms (goal.at.returns c).In_ok-n in
    c.terms_verdict.ensures rs are t.terms t.row ∙ words-read rs c.args.words.now _ c.if-words-gt-WORD_LIMIT.false t.was
