-- The later terms, one behind the other: why one is refused, and the verdict on what is left.
-- Assumes nothing.
use Prim.Native.Nat.{ℕ, zero, suc, ◌+◌, ◌-◌, ◌≤◌, ◌<◌}
use mathlib.Core.Bool.{Bool, true, false, not}
use mathlib.Core.List.{List, [], ◌∷◌}
use mathlib.Core.Option.{Option as Maybe, none, some}
use mathlib.Core.Path.{◌≡◌, refl, sym, ◌∙◌, ap}
use native.Mathlib.Numerals.{add-one}
use native.Mathlib.Omega.{arith}
use borrow.Author.Tests.{eq-eqb, ne_eqb, lt-ltb, le-ltb}
use lib.Dec.{eqb}
use lib.ListN.{length}
use Rattle.model.specs.Tables.{rule_table}
use Rattle.std.specs.Prelude.{Option, Some, None, Ok, Err, ok_or}
use Rattle.model.specs.declared.Refusal.{Refusal}
use Rattle.model.specs.declared.Refusal.TheVariants.{NoWords, NoTerms, FirstMarked, NotOneMark, RuleUnlisted, NoStep, TooLong}
use Rattle.model.specs.Judged.{good, Judgement}
use Rattle.model.specs.Limits.{term_limit, word_limit}
use Rattle.model.specs.Term.{Terms, no_terms, tree, Term, one, count, marks, words, read}
use Rattle.model.specs.Rule.{Rule}
use Rattle.model.specs.Step.{step, unlisted}
use Rattle.model.specs.Verdict.{Verdict, rejection, reject_if, later_verdict, chain_verdict, terms_verdict, verdict}
use Rattle.terms.specs.Place.{TermAt, RowAt, Well, EndsAt}
use Rattle.terms.proofs.Place.{row-tree, row-well, end_same, term-row, read-row}
use Rattle.terms.specs.Whole.{whole_of}
use Rattle.terms.proofs.Read.{read-words}
use Rattle.marks.specs.Marks.{HasRow, MarkedIs}
use Rattle.rule_table.specs.Entries.{AcceptedRules}
use Rattle.checker.specs.Check.{fault_if, fault_of, FaultIs, chain_of, ChainIs}

-- the first fault that holds
module _ (rs : List Rule) (s t : Terms) where
  pub fault-marks : (marks t ≡ 1 → ⊥) → Err NotOneMark ≡ fault_of rs s t
  unfolding fault_of
  fault-marks a = rw (ne_eqb (marks t) 1 a)

  pub fault-unlisted : marks t ≡ 1 → unlisted rs t ≡ true → Err RuleUnlisted ≡ fault_of rs s t
  unfolding fault_of
  fault-unlisted a b = rw (eq-eqb (marks t) 1 a, b)

  pub fault-step : marks t ≡ 1 → unlisted rs t ≡ false → step rs s t ≡ false → Err NoStep ≡ fault_of rs s t
  unfolding fault_of
  fault-step a b c = rw (eq-eqb (marks t) 1 a, b, c)

  pub fault-none : marks t ≡ 1 → unlisted rs t ≡ false → step rs s t ≡ true → Ok tt ≡ fault_of rs s t
  unfolding fault_of
  fault-none a b c = rw (eq-eqb (marks t) 1 a, b, c)

-- a fault is the verdict, and where there is none the terms behind decide
after_fault : Judgement → ℕ → Verdict → Verdict
after_fault (Ok u) k v = v
after_fault (Err r) k v = Err (rejection r k)

by-fault : (a b c : Bool) (k : ℕ) (v : Verdict)
    → reject_if a NotOneMark k (reject_if b RuleUnlisted k (reject_if c NoStep k v))
    ≡ after_fault (fault_if a NotOneMark (fault_if b RuleUnlisted (fault_if c NoStep (Ok tt)))) k v
unfolding after_fault
by-fault true b c k v = refl
by-fault false true c k v = refl
by-fault false false true k v = refl
by-fault false false false k v = refl

later-by-fault : (rs : List Rule) (k : ℕ) (s t : Terms) (v : Verdict) → later_verdict rs k s t v ≡ after_fault (fault_of rs s t) k v
unfolding later_verdict fault_of
later-by-fault rs k s t v = by-fault (not (eqb (marks t) 1)) (unlisted rs t) (not (step rs s t)) k v

-- where the walk over the later terms is: the verdict on what is left behind the term at `before` is that on the whole row
pub record LaterRest (rs : List Rule) (ws : List ℕ) (n before at k : ℕ) (f : Terms) : Type 0 where
  pub term : Term
  pub is : TermAt ws before at term
  pub rest : Terms
  pub row : RowAt ws at (n - k) rest
  pub same : chain_verdict rs k (one term) rest ≡ chain_of rs f

pub record LaterHere (rws ws : List ℕ) (n before at k : ℕ) : Type 0 where
  pub low : 0 < k
  pub high : k ≤ n
  pub here : (rs : List Rule) → rule_table rws ≡ good rs → (f : Terms) → RowAt ws 0 n f → LaterRest rs ws n before at k f

first-behind : (rs : List Rule) (ws : List ℕ) (n e : ℕ) → EndsAt ws 0 e → (f : Terms) → RowAt ws 0 (suc n) f → LaterRest rs ws (suc n) 0 e 1 f
unfolding count
first-behind rs ws n e x no_terms h = absurd (omega (arith, h.counted))
first-behind rs ws n e x (tree o m k s) h =
    let t = row-tree ws 0 n o m k s h in
    let q = end_same ws 0 t.stop e _ x.term t.term x.is in
    let c : suc n - 1 ≡ n = omega arith in
    record { term = record { op = o; mark = m; kids = k }; is = rw q at t.term; rest = s; row = rw c (rw q at t.behind); same = refl }

module _ (rws ws : List ℕ) (n : ℕ) where
  by_one : (m : ℕ) → 0 < m → (e : ℕ) → EndsAt ws 0 e → (rs : List Rule) → rule_table rws ≡ good rs → (f : Terms) → RowAt ws 0 m f → LaterRest rs ws m 0 e 1 f
  by_one zero l e x rs are f h = absurd (omega arith)
  by_one (suc m) l e x rs are f h = first-behind rs ws m e x f h

  pub later_first : 0 < n → (e : ℕ) → EndsAt ws 0 e → LaterHere rws ws n 0 e 1
  later_first l e x = record { low = omega arith; high = omega arith; here = by_one n l e x }

  module _ (before at k : ℕ) (w : LaterHere rws ws n before at k) where
    next-behind : (rs : List Rule) (f : Terms) (s : Term) (m : ℕ) → n - k ≡ suc m → (g : Terms) → RowAt ws at (suc m) g
        → chain_verdict rs k (one s) g ≡ chain_of rs f → ((e : ℕ) (t : Term) → TermAt ws at e t → Ok tt ≡ fault_of rs (one s) (one t))
        → (stop : ℕ) → EndsAt ws at stop → LaterRest rs ws n at stop (k + 1) f
    unfolding count chain_verdict after_fault
    next-behind rs f s m e no_terms h same fault stop x = absurd (omega (arith, h.counted))
    next-behind rs f s m e (tree o mk ks r) h same fault stop x =
        let t = row-tree ws at m o mk ks r h in
        let q = end_same ws at t.stop stop _ x.term t.term x.is in
        let d : n - suc k ≡ m = omega arith in
        let later = tree o mk ks no_terms in
        rw add-one
        (record {
          term = record { op = o; mark = mk; kids = ks };
          is = rw q at t.term;
          rest = r;
          row = rw d (rw q at t.behind);
          same =
              ap (λ (j : Judgement). after_fault j k (chain_verdict rs (suc k) later r)) (fault t.stop _ t.term)
              ∙ (sym (later-by-fault rs k (one s) later (chain_verdict rs (suc k) later r)) ∙ same);
        })

    pub later-next : k < n → FaultIs rws ws before at (Ok tt) → (stop : ℕ) → EndsAt ws at stop → LaterHere rws ws n at stop (k + 1)
    later-next l fault stop x =
        record {
          low = omega arith;
          high = omega arith;
          here = λ rs are f h.
              let b = w.here rs are f h in
              let e : n - k ≡ suc (n - suc k) = omega arith in
              next-behind rs f b.term (n - suc k) e b.rest (rw e at b.row) b.same
              (λ d t i. fault rs are at d b.term t b.is i) stop x;
        }

    found-behind : (rs : List Rule) (f : Terms) (s : Term) (fault : Refusal) (m : ℕ) (g : Terms) → RowAt ws at (suc m) g
        → chain_verdict rs k (one s) g ≡ chain_of rs f → ((e : ℕ) (t : Term) → TermAt ws at e t → Err fault ≡ fault_of rs (one s) (one t))
        → Err (rejection fault k) ≡ chain_of rs f
    unfolding count chain_verdict after_fault
    found-behind rs f s fault m no_terms h same is = absurd (omega (arith, h.counted))
    found-behind rs f s fault m (tree o mk ks r) h same is =
        let t = row-tree ws at m o mk ks r h in
        let later = tree o mk ks no_terms in
        let v = chain_verdict rs (suc k) later r in
        ap (λ (j : Judgement). after_fault j k v) (is t.stop _ t.term) ∙ (sym (later-by-fault rs k (one s) later v) ∙ same)

    pub later-found : k < n → (fault : Refusal) → FaultIs rws ws before at (Err fault) → ChainIs rws ws n (Err (rejection fault k))
    later-found l fault is rs are f h =
        let b = w.here rs are f h in
        let e : n - k ≡ suc (n - suc k) = omega arith in
        found-behind rs f b.term fault (n - suc k) b.rest (rw e at b.row) b.same (λ d t i. is rs are at d b.term t b.is i)

    done-behind : (rs : List Rule) (f : Terms) (s : Term) (g : Terms) → RowAt ws at 0 g → chain_verdict rs k (one s) g ≡ chain_of rs f → Ok k ≡ chain_of rs f
    unfolding count chain_verdict
    done-behind rs f s no_terms h same = same
    done-behind rs f s (tree o m ks r) h same = absurd (omega (arith, h.counted))

    pub later-done : n ≤ k → ChainIs rws ws n (Ok n)
    later-done l rs are f h =
        let b = w.here rs are f h in
        let e : n - k ≡ 0 = omega arith in
        let q : n ≡ k = omega (arith, w.high) in
        ap Ok q ∙ done-behind rs f b.term b.rest (rw e at b.row) b.same

    -- terms stand at both places
    pub later-before : AcceptedRules rws → HasRow ws 0 n → EndsAt ws before at
    later-before a r =
        let b = w.here a.rules a.are r.terms r.is in
        record { term = b.term; is = b.is }

    pub later-at : AcceptedRules rws → HasRow ws 0 n → k < n → Well ws at
    later-at a r l =
        let b = w.here a.rules a.are r.terms r.is in
        let e : n - k ≡ suc (n - suc k) = omega arith in
        row-well ws at (n - suc k) b.rest (rw e at b.row)

-- the verdict on a row of terms: 19 for terms, 14, then the later ones
module _ (rs : List Rule) (ws : List ℕ) where
  pub terms-many : (n : ℕ) (f : Terms) → RowAt ws 0 n f → term_limit < n → Err (rejection TooLong 0) ≡ terms_verdict rs (some f)
  unfolding terms_verdict count
  terms-many n no_terms h l = absurd (omega (arith, h.counted))
  terms-many n (tree o m k f) h l = rw (lt-ltb term_limit (suc (count f)) (omega (arith, h.counted)))

  pub terms-marked : (n : ℕ) (f : Terms) → RowAt ws 0 n f → 0 < n → n ≤ term_limit → MarkedIs ws 0 1 true → Err (rejection FirstMarked 0) ≡ terms_verdict rs (some f)
  unfolding terms_verdict count
  terms-marked zero f h p l m = absurd (omega arith)
  terms-marked (suc n) no_terms h p l m = absurd (omega (arith, h.counted))
  terms-marked (suc n) (tree o mk k f) h p l m =
      let t = row-tree ws 0 n o mk k f h in
      rw (le-ltb term_limit (suc (count f)) (omega (arith, h.counted)), ← m (tree o mk k no_terms) (term-row ws 0 t.stop _ t.term))

  pub terms-later : (n : ℕ) (f : Terms) → RowAt ws 0 n f → 0 < n → n ≤ term_limit → MarkedIs ws 0 1 false → chain_of rs f ≡ terms_verdict rs (some f)
  unfolding terms_verdict count
  terms-later zero f h p l m = absurd (omega arith)
  terms-later (suc n) no_terms h p l m = absurd (omega (arith, h.counted))
  terms-later (suc n) (tree o mk k f) h p l m =
      let t = row-tree ws 0 n o mk k f h in
      rw (le-ltb term_limit (suc (count f)) (omega (arith, h.counted)), ← m (tree o mk k no_terms) (term-row ws 0 t.stop _ t.term))

-- the verdict on words: 19 for words, 12, 13, then the terms
pub words-many : (rs : List Rule) (ws : List ℕ) → word_limit < length ws → Err (rejection TooLong 0) ≡ verdict rs ws
unfolding verdict
words-many rs ws l = rw (lt-ltb word_limit (length ws) l)

pub words-none : (rs : List Rule) (ws : List ℕ) → length ws ≡ 0 → Err (rejection NoWords 0) ≡ verdict rs ws
unfolding verdict terms_verdict read
words-none rs [] e = refl
words-none rs (w ∷ ws) e = absurd (omega arith)

pub words-read : (rs : List Rule) (ws : List ℕ) (o : Maybe Terms) → length ws ≤ word_limit → read ws ≡ o → terms_verdict rs o ≡ verdict rs ws
unfolding verdict
words-read rs ws o l e = rw (le-ltb word_limit (length ws) l) (ap (terms_verdict rs) (sym e))

-- what was counted
pub record CountedTerms (ws : List ℕ) (n : ℕ) : Type 0 where
  pub terms : Terms
  pub was : read ws ≡ some terms
  pub row : RowAt ws 0 n terms

counted-by : (ws : List ℕ) (n : ℕ) (o : Maybe Terms) → read ws ≡ o → whole_of o ≡ Some n → CountedTerms ws n
counted-by ws n none p e = let z : ◌≡◌ {A = ℕ} 0 1 = cc in absurd (omega arith)
counted-by ws n (some f) p e =
    let c : count f ≡ n = cc in
    record { terms = f; was = p; row = rw c at (read-row ws f p) }

pub counted : (ws : List ℕ) (n : ℕ) → whole_of (read ws) ≡ Some n → CountedTerms ws n
counted ws n e = counted-by ws n (read ws) refl e

broken-by : (o : Maybe Terms) → whole_of o ≡ None → o ≡ none
broken-by none e = refl
broken-by (some f) e = let z : ◌≡◌ {A = ℕ} 0 1 = cc in absurd (omega arith)

pub broken : (rs : List Rule) (ws : List ℕ) → length ws ≤ word_limit → whole_of (read ws) ≡ None → Err (rejection NoTerms 0) ≡ verdict rs ws
unfolding terms_verdict
broken rs ws l e = words-read rs ws none l (broken-by (read ws) e)

-- words that are some are some terms
pub counted-some : (ws : List ℕ) (n : ℕ) → CountedTerms ws n → (length ws ≡ 0 → ⊥) → 0 < n
unfolding count words
counted-some ws zero c h = go c.terms c.was c.row
  where
    go : (f : Terms) → read ws ≡ some f → RowAt ws 0 0 f → 0 < zero
    go no_terms e r = absurd (h (ap length (read-words ws no_terms e).spelled))
    go (tree o m k s) e r = absurd (omega (arith, r.counted))
counted-some ws (suc n) c h = omega arith

-- what was asked for, and what was not there
pub ok-some : {A : Type 0} (o : Option A) (r : Refusal) (n : A) → ok_or o r ≡ Ok n → o ≡ Some n
ok-some (Some m) r n e = cc
ok-some None r n e = let z : ◌≡◌ {A = ℕ} 0 1 = cc in absurd (omega arith)

pub err-none : {A : Type 0} (o : Option A) (r q : Refusal) → ok_or o r ≡ Err q → (o ≡ None) × (r ≡ q)
err-none (Some m) r q e = let z : ◌≡◌ {A = ℕ} 0 1 = cc in absurd (omega arith)
err-none None r q e = (refl, cc)
