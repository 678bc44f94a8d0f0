-- FROM THE CONTRACTS TO THE CUSTOMER'S SENTENCES, in one step each. Whatever meets the contract of `query`, on arguments a, with result r
-- and what s leaves with the caller, keeps demands 1 and 3, whatever meets that of `check` demands 1 and 2; and what the one wrote, the other
-- accepts. Whatever meets the contract of `term_text` (crate text) keeps demand 1.
-- The arguments stand in their order: a.0 nodes, a.1.0 rules, a.1.1.0 connections, then left, right and the area; so do those of
-- `check`, with the words last.
-- Assumes nothing.
use Prim.Native.Nat.{ℕ, suc}
use mathlib.Core.List.{List}
use mathlib.Core.Logic.{◌↔◌}
use mathlib.Core.Path.{◌≡◌, refl, sym, ap, subst, ◌∙◌}
use contract.Lifetimes.{Lfts}
use lib.ListN.{length, take}
use lib.Seq.{take_at}
use Rattle.std.proofs.Common.{Ok, Err}
use Rattle.model.specs.declared.Written.{Written}
use Rattle.laws.proofs.Handed.{same_ok}
use Rattle.model.specs.Query.{written}
use Rattle.model.specs.Verdict.{rejection}
use Rattle.model.specs.declared.Refusal.{Refusal}
use Rattle.model.specs.Query.{Answer}
use Rattle.model.specs.Query.{Measured}
use Rattle.model.specs.Text.{Printed}
use Rattle.model.specs.Verdict.{Verdict}
use Rattle.model.specs.Judged.{good, bad}
use Rattle.model.specs.Premise.{Premise}
use Rattle.model.specs.Query.{Tables, distance_in, proof_words}
use Rattle.model.specs.Book.{Rewriting}
use Rattle.model.specs.Verdict.{Proves}
use Rattle.model.specs.Tables.{judge_tables, measure_by, answer_by, area_of, verdict_by}
use Rattle.checker.proofs.Faults.{demand-1 as first-fault}
use Rattle.explanation.specs.Demand.{FirstToHold, FirstMeasured, FirstRejected, FirstPrinted, Asked, Granted}
use Rattle.explanation.proofs.Answers.{unmeasured-8, unmeasured-9, unmeasured-10}
use Rattle.explanation.proofs.DemandThree.{answered, area-kept, bad-tables, demand-3 as grants, refused-10, refused-11, refused-8, refused-9, refused-zero}
use Rattle.explanation.proofs.DemandTwo.{demand-2 as strict, demand-2-book as in-the-book}
use Rattle.text.proofs.term_text.Reads as term-text
use Rattle.explanation.proofs.Texts.{first-printed}
use Rattle.explanation.proofs.distance.Reads as distance
use Rattle.explanation.proofs.query.Reads as query
use Rattle.explanation.proofs.check.Reads as check

module _ (nws rws cws : List ℕ) (area l r : ℕ) where
  -- the answer and the area are the definitions': then each number is the first to hold
  first-to-hold : (a : Answer) (after : List ℕ) → a ≡ answer_by (judge_tables nws rws cws) area l r → after ≡ area_of (judge_tables nws rws cws) area l r →
      FirstToHold (judge_tables nws rws cws) area l r a after
  first-to-hold a after p q =
      rw (p, q) record {
        tables = λ n e. (bad-tables nws rws cws n e area l r cws).0;
        is-8 = λ t e. refused-8 nws rws cws t e area l r;
        is-9 = λ t e. refused-9 nws rws cws t e area l r;
        is-10 = λ t e. refused-10 nws rws cws t e area l r;
        is-11 = λ t e. refused-11 nws rws cws t e area l r;
        zero = λ n e. refused-zero (judge_tables nws rws cws) area l r n e;
        kept = area-kept nws rws cws area l r;
      }

  -- what was written, the strict checker accepts
  accepted-back : (t : Tables) → judge_tables nws rws cws ≡ good t → Premise t.rules t.nodes t.conns → (d w : ℕ) →
      Ok (written d w) ≡ answer_by (judge_tables nws rws cws) area l r →
      verdict_by (judge_tables nws rws cws) (take w (area_of (judge_tables nws rws cws) area l r)) ≡ Ok (suc d)
  accepted-back t e p d w k =
      let g = grants nws rws cws t e area l r (answered nws rws cws t e area l r d w (sym k)) in
      let f : written d w ≡ written (distance_in t l r) (length (proof_words t l r)) = same_ok (k ∙ g.answers) in
      let n : length (proof_words t l r) ≡ w = sym (ap (λ (x : Written). x.words) f) in
      let m : suc (distance_in t l r) ≡ suc d = ap (λ (x : Written). suc x.distance) (sym f) in
      ap (verdict_by (judge_tables nws rws cws)) (ap (take w) g.lent ∙ take_at (proof_words t l r) _ w n) ∙ (g.accepted p ∙ ap Ok m)

-- DEMAND 1 of `query`
pub demand-1 : (κs : Lfts 4) (a s : _) (r : Answer) → query.Post κs a r s →
    FirstToHold (judge_tables a.0.now a.1.0.now a.1.1.0.now) (length a.1.1.1.1.1.0.now) a.1.1.1.0.0 a.1.1.1.1.0.0
    r s.1.1.1.1.1.0.now
demand-1 κs a s r p = first-to-hold a.0.now a.1.0.now a.1.1.0.now _ _ _ r _ p.0 p.1

-- DEMAND 1 of `check`
first-rejected : (nws rws cws ws : List ℕ) → FirstRejected (judge_tables nws rws cws) ws (verdict_by (judge_tables nws rws cws) ws)
first-rejected nws rws cws ws =
    record {
      tables = λ n e. rw e refl;
      rejected = λ t e n k. rw e (first-fault t.rules ws n k);
    }

pub demand-1-check : (κs : Lfts 4) (a s : _) (v : Verdict) → check.Post κs a v s →
    FirstRejected (judge_tables a.0.now a.1.0.now a.1.1.0.now) a.1.1.1.0.now v
demand-1-check κs a s v p =
    subst (FirstRejected (judge_tables a.0.now a.1.0.now a.1.1.0.now) a.1.1.1.0.now) (sym p)
    (first-rejected a.0.now a.1.0.now a.1.1.0.now a.1.1.1.0.now)

-- bad tables come before all else in it too
pub bad-first : (κs : Lfts 4) (a s : _) (v : Verdict) → check.Post κs a v s → (n : Refusal) →
    judge_tables a.0.now a.1.0.now a.1.1.0.now ≡ bad n → v ≡ Err (rejection n 0)
bad-first κs a s v p = (demand-1-check κs a s v p).tables

-- DEMAND 1 of `distance`
first-measured : (nws rws cws : List ℕ) (l r : ℕ) → FirstMeasured (judge_tables nws rws cws) l r (measure_by (judge_tables nws rws cws) l r)
first-measured nws rws cws l r =
    record {
      tables = λ n e. rw e refl;
      is-8 = λ t e. rw e (unmeasured-8 t l r);
      is-9 = λ t e. rw e (unmeasured-9 t l r);
      is-10 = λ t e. rw e (unmeasured-10 t l r);
    }

pub demand-1-distance : (κs : Lfts 3) (a s : _) (m : Measured) → distance.Post κs a m s →
    FirstMeasured (judge_tables a.0.now a.1.0.now a.1.1.0.now) a.1.1.1.0.0 a.1.1.1.1.0.0 m
demand-1-distance κs a s m p =
    subst (FirstMeasured (judge_tables a.0.now a.1.0.now a.1.1.0.now) a.1.1.1.0.0 a.1.1.1.1.0.0) (sym p)
    (first-measured a.0.now a.1.0.now a.1.1.0.now a.1.1.1.0.0 a.1.1.1.1.0.0)

-- DEMAND 1 of `term_text`: a.0 the words, a.1.0 the room
pub demand-1-text : (κs : Lfts 2) (a s : _) (r : Printed) → term-text.Post κs a r s →
    FirstPrinted a.0.now (length a.1.0.now) r s.1.0.now
demand-1-text κs a s r p = rw (p.0, p.1) (first-printed a.0.now (length a.1.0.now))

-- DEMAND 2 of `check`: n terms are accepted exactly where the words are a strict proof of n terms within the limits
pub demand-2 : (κs : Lfts 4) (a s : _) (v : Verdict) → check.Post κs a v s → (t : Tables) →
    judge_tables a.0.now a.1.0.now a.1.1.0.now ≡ good t → (n : ℕ) →
    (v ≡ Ok n) ↔ Proves t.rules a.1.1.1.0.now n
demand-2 κs a s v p t e n =
    subst (λ (x : Verdict). (x ≡ Ok n) ↔ Proves t.rules a.1.1.1.0.now n) (sym p)
    (strict a.0.now a.1.0.now a.1.1.0.now t e a.1.1.1.0.now n)

-- and, in the words of Baader and Nipkow, exactly where they are a chain of n - 1 rewrites by listed rules, one a later term, each read off
-- its term's one mark
pub demand-2-book : (κs : Lfts 4) (a s : _) (v : Verdict) → check.Post κs a v s → (t : Tables) →
    judge_tables a.0.now a.1.0.now a.1.1.0.now ≡ good t → (n : ℕ) →
    (v ≡ Ok n) ↔ Rewriting t.rules a.1.1.1.0.now n
demand-2-book κs a s v p t e n =
    subst (λ (x : Verdict). (x ≡ Ok n) ↔ Rewriting t.rules a.1.1.1.0.now n) (sym p)
    (in-the-book a.0.now a.1.0.now a.1.1.0.now t e a.1.1.1.0.now n)

-- DEMAND 3 of `query`: what is granted, of the result and of the lent area
pub demand-3 : (κs : Lfts 4) (a s : _) (r : Answer) → query.Post κs a r s → (t : Tables) →
    judge_tables a.0.now a.1.0.now a.1.1.0.now ≡ good t →
    Asked t (length a.1.1.1.1.1.0.now) a.1.1.1.0.0 a.1.1.1.1.0.0 →
    (r ≡ answer_by (judge_tables a.0.now a.1.0.now a.1.1.0.now) (length a.1.1.1.1.1.0.now) a.1.1.1.0.0 a.1.1.1.1.0.0)
    × (s.1.1.1.1.1.0.now
    ≡ area_of (judge_tables a.0.now a.1.0.now a.1.1.0.now) (length a.1.1.1.1.1.0.now) a.1.1.1.0.0 a.1.1.1.1.0.0)
    × Granted (judge_tables a.0.now a.1.0.now a.1.1.0.now) t (length a.1.1.1.1.1.0.now) a.1.1.1.0.0 a.1.1.1.1.0.0
demand-3 κs a s r p t e k = (p.0, p.1, grants a.0.now a.1.0.now a.1.1.0.now t e _ _ _ k)

-- THE ROUND TRIP: over the same tables, whose rule connections are instances of their listed rules, `check` accepts what `query` wrote, with
-- distance + 1 terms
pub round_trip : (κs κs' : Lfts 4) (a s b s' : _) (r : Answer) (v : Verdict) → query.Post κs a r s → check.Post κs' b v s' → (t : Tables) →
    judge_tables a.0.now a.1.0.now a.1.1.0.now ≡ good t → Premise t.rules t.nodes t.conns →
    b.0.now ≡ a.0.now → b.1.0.now ≡ a.1.0.now → b.1.1.0.now ≡ a.1.1.0.now → (d w : ℕ) → r ≡ Ok (written d w) →
    b.1.1.1.0.now ≡ take w s.1.1.1.1.1.0.now → v ≡ Ok (suc d)
round_trip κs κs' a s b s' r v p q t e i n m c d w f ws =
    q
    ∙ again b.0.now a.0.now n b.1.0.now a.1.0.now m b.1.1.0.now a.1.1.0.now c b.1.1.1.0.now _ (ws ∙ ap (take w) p.1)
    ∙ accepted-back a.0.now a.1.0.now a.1.1.0.now _ _ _ t e i d w (sym f ∙ p.0)
  where
    again : (x x' : List ℕ) → x ≡ x' → (y y' : List ℕ) → y ≡ y' → (z z' : List ℕ) → z ≡ z' → (u u' : List ℕ) → u ≡ u' →
        verdict_by (judge_tables x y z) u ≡ verdict_by (judge_tables x' y' z') u'
    again x x' e y y' f z z' g u u' h = rw (e, f, g, h) refl
