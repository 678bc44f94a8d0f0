use native.Mathlib.Omega.{arith}
use Prim.Native.Nat.{ℕ, zero, suc, ◌<◌}
use mathlib.Core.List.{List}
use mathlib.Core.Bool.{true, false}
use mathlib.Core.Path.{◌≡◌, refl, sym, subst}
use Rattle.std.proofs.Common.{rules}
use Rattle.std.specs.Prelude.{Result, Ok, Err}
use Rattle.std.specs.Result.{MatchResult, is_ok}
use Rattle.model.specs.declared.Refusal.{Refusal}
use Rattle.model.specs.declared.Rejection.{Rejection}
use Rattle.model.specs.Verdict.{rejection}
use Rattle.laws.proofs.Handed.{handed_on}
use Rattle.checker.specs.Check.{FollowsIs, ChainIs}
use Rattle.terms.specs.Place.{Well}
use Rattle.terms.proofs.Place.{row-well}
use Rattle.marks.specs.Marks.{HasRow}
use Rattle.checker.proofs.Later.{later_first, later-next, later-found, later-done, later-before, later-at}
use Rattle.checker.proofs.Offered.later_terms.Goals as goal

-- the first of some terms
first : (ws : List ℕ) (n : ℕ) → 0 < n → HasRow ws 0 n → Well ws 0
first ws zero l r = absurd (omega arith)
first ws (suc n) l r = row-well ws 0 n r.terms r.is

pub end_of-at-requires : goal.end_of-at-requires
end_of-at-requires c = first c.args.self.words.now c.args.n c.requires.n_nonzero c.requires.has_row

pub loop-k-init : goal.loop-k-init
loop-k-init c =
    later_first c.args.self.rules.now c.args.self.words.now c.args.n c.requires.n_nonzero c.end_of-at.result c.end_of-at.ensures

pub later_fault-judged-requires : goal.later_fault-judged-requires
later_fault-judged-requires c =
    let l = c.loop-k in
    let a = c.args in record {
      ends_at = later-before a.self.rules.now a.self.words.now a.n l.before l.at l.k-counter l.invariant c.args.self.accepted c.requires.has_row;
      well = later-at a.self.rules.now a.self.words.now a.n l.before l.at l.k-counter l.invariant c.args.self.accepted c.requires.has_row (omega arith);
    }

-- what map_err hands on of a fault's result: the end where there is one, and else there was a refusal
ok-kept : (rws ws : List ℕ) (before at : ℕ) (r : Result ℕ Refusal) (e : ℕ) (Q : Refusal → Type 0)
    → MatchResult r (λ x. ◌≡◌ {A = Result ℕ Rejection} (Ok e) (Ok x)) Q → FollowsIs rws ws before at r → true ≡ is_ok r → FollowsIs rws ws before at (Ok e)
ok-kept rws ws before at (Ok x) e Q h f v = let z : x ≡ e = cc in subst (λ (y : ℕ). FollowsIs rws ws before at (Ok y)) z f
ok-kept rws ws before at (Err q) e Q h f v = let z : ◌≡◌ {A = ℕ} 0 1 = cc in absurd (omega arith)

an-err : (r : Result ℕ Refusal) → false ≡ is_ok r → (q : Refusal) × (r ≡ Err q)
an-err (Ok x) v = let z : ◌≡◌ {A = ℕ} 0 1 = cc in absurd (omega arith)
an-err (Err q) v = (q, refl)

pub loop-k-preserved : goal.loop-k-preserved
loop-k-preserved c =
    let l = c.loop-k in
    let a = c.args in
    let f = ok-kept a.self.rules.now a.self.words.now l.before l.at _ _ _ c.in_ok-e.ensures.cases c.later_fault-judged.ensures c.in_ok-e.ensures.variant in
    later-next a.self.rules.now a.self.words.now a.n l.before l.at l.k-counter l.invariant (omega arith) f.1 _ f.0

pub returns-in_err-e : goal.returns-in_err-e
returns-in_err-e c =
    let l = c.loop-k in
    let a = c.args in
    let (q, p) = an-err c.later_fault-judged.result c.in_err-e.ensures.variant in
    let f = subst (FollowsIs a.self.rules.now a.self.words.now l.before l.at) p c.later_fault-judged.ensures in
    let x = rw p at c.in_err-e.ensures.cases in
    let e : c.in_err-e.field-0.0 ≡ rejection q l.k-counter = search rules in
    subst (ChainIs a.self.rules.now a.self.words.now a.n) (sym (handed_on c.from_residual.result _ c.from_residual.ensures.1))
    (rw e (later-found a.self.rules.now a.self.words.now a.n l.before l.at l.k-counter l.invariant (omega arith) q f))

pub returns : goal.returns
returns c =
    let l = c.loop-k in
    let a = c.args in
    later-done a.self.rules.now a.self.words.now a.n l.before l.at l.k-counter l.invariant (omega arith)
