-- Demand 1 of the strict checker, over accepted rules: `verdict` rejects by a refusal at a place exactly where that fault is the first.
-- Assumes nothing.
use Prim.Native.Nat.{ℕ, zero, suc, ◌+◌, ◌≤◌, ◌<◌}
use mathlib.Core.Bool.{Bool, true, false, not}
use mathlib.Core.List.{List, []}
use mathlib.Core.Logic.{◌⊎◌, inl, inr, ◌↔◌}
use mathlib.Core.Option.{Option, none, some, none-ne-some}
use mathlib.Core.Path.{◌≡◌, refl, sym, ◌∙◌, ap, subst}
use native.Mathlib.Omega.{arith}
use borrow.Author.Tests.{ltb-false, ltb-true, le-ltb, lt-ltb}
use lib.Dec.{eqb, ltb}
use lib.ListN.{length}
use Rattle.std.specs.Prelude.{Ok, Err}
use Rattle.model.specs.declared.Refusal.{Refusal}
use Rattle.model.specs.declared.Rejection.{Rejection}
use Rattle.model.specs.declared.Refusal.TheVariants.{NoLine, NoEntry, TableFull, ChildNotBelow, RuleUnfit, EndsUnfit, NoSupport, NoNode, NotJoined, TooFar, NoRoom, NoWords, NoTerms, FirstMarked as IsMarked, NotOneMark, RuleUnlisted, NoStep, TooLong}
use Rattle.model.specs.Refusal.{number}
use Rattle.model.specs.Limits.{term_limit, word_limit}
use Rattle.model.specs.Term.{Mark, Terms, no_terms, tree, Term, one, put, count, marks, Reads, words, read}
use Rattle.model.specs.Rule.{Rule}
use Rattle.model.specs.Step.{Step, step, some_mark, is_mark, unlisted}
use Rattle.model.specs.Verdict.{Verdict, rejection, reject_if, later_verdict, chain_verdict, terms_verdict, verdict}
use Rattle.terms.specs.Place.{Decides}
use Rattle.terms.proofs.Only.{one_answer}
use Rattle.terms.proofs.Read.{read-words, reads-read}
use Rattle.checker.specs.Fault.{Somewhere, Marks, Unknown, NotOne, LaterFault, is-15, is-16, is-17, At, FirstLater, Formed, FirstMarked, FirstFault, words-19, words-12, words-13, terms-19, first-14, later-by}
use Rattle.checker.proofs.Tests.{not-one, is-unlisted, is-step, is-marked, opposite}

-- rejections that are the same
same-said : {n n' : Refusal} {k k' : ℕ} → ◌≡◌ {A = Verdict} (Err (rejection n k)) (Err (rejection n' k')) → (n ≡ n') × (k ≡ k')
same-said {n} {n'} {k} {k'} e =
    let p : rejection n k ≡ rejection n' k' = cc in
    (ap (λ (x : Rejection). x.refusal) p, ap (λ (x : Rejection). x.place) p)

-- ONE LATER TERM
module _ (rs : List Rule) (s t : Terms) where
  abbrev Clean : Type 0
  Clean = (n : Refusal) → LaterFault rs s t n → ⊥

  no-15 : (NotOne t → ⊥) → not (eqb (marks t) 1) ≡ false
  no-15 = one_answer (not (eqb (marks t) 1)) false _ (not-one t)

  no-16 : (Somewhere (Unknown rs) t → ⊥) → unlisted rs t ≡ false
  no-16 = one_answer (unlisted rs t) false _ (is-unlisted rs t)

  -- where it has a fault, that number is given, whatever comes behind it
  fails : (n : Refusal) (k : ℕ) (v : Verdict) → LaterFault rs s t n → later_verdict rs k s t v ≡ Err (rejection n k)
  unfolding later_verdict
  fails n k v (is-15 a) = rw (one_answer (not (eqb (marks t) 1)) true _ (not-one t) a) refl
  fails n k v (is-16 a b) = rw (no-15 a, one_answer (unlisted rs t) true _ (is-unlisted rs t) b) refl
  fails n k v (is-17 a b c) = rw (no-15 a, no-16 b, one_answer (step rs s t) false _ (is-step rs s t) c) refl

  -- and where it has none, what comes behind it decides
  passes : (k : ℕ) (v : Verdict) → Clean → later_verdict rs k s t v ≡ v
  unfolding later_verdict
  passes k v f =
      let a : NotOne t → ⊥ = λ x. f NotOneMark (is-15 x) in
      let b : Somewhere (Unknown rs) t → ⊥ = λ x. f RuleUnlisted (is-16 a x) in
      let c : (Step rs s t → ⊥) → ⊥ = λ x. f NoStep (is-17 a b x) in
      rw (no-15 a, no-16 b, one_answer (not (step rs s t)) false _ (opposite (step rs s t) _ (is-step rs s t)) c) refl

  decided : ((n : Refusal) × LaterFault rs s t n) ⊎ Clean
  decided = by (not (eqb (marks t) 1)) (unlisted rs t) (step rs s t) (not-one t) (is-unlisted rs t) (is-step rs s t)
    where
      by : (a b c : Bool) → Decides a (NotOne t) → Decides b (Somewhere (Unknown rs) t) → Decides c (Step rs s t) →
          ((n : Refusal) × LaterFault rs s t n) ⊎ Clean
      by true b c p q r = inl (NotOneMark, is-15 p)
      by false true c p q r = inl (RuleUnlisted, is-16 p q)
      by false false false p q r = inl (NoStep, is-17 p q r)
      by false false true p q r = inr clean
        where
          clean : Clean
          clean n (is-15 x) = p x
          clean n (is-16 a x) = q x
          clean n (is-17 a b x) = x r

-- THE LATER TERMS of a row whose first is s; p is the place of the next
no-accepted : {n : Refusal} {k m : ℕ} {A : Type 0} → Ok m ≡ Err (rejection n k) → A
no-accepted h = let z : ◌≡◌ {A = ℕ} 0 1 = cc in absurd (omega arith)

first-later : (rs : List Rule) (p : ℕ) (s : Term) (f : Terms) (n : Refusal) (q : ℕ) → chain_verdict rs p (one s) f ≡ Err (rejection n q) →
    (k : ℕ) × (q ≡ p + k) × FirstLater rs (put s f) n k
unfolding chain_verdict At
first-later rs p s no_terms n q h = no-accepted h
first-later rs p s (tree o m ks f) n q h = by (first-later rs (suc p) t f n q) (decided rs (one s) (one t))
  where
    t : Term
    t = record { op = o; mark = m; kids = ks }

    v : Verdict
    v = chain_verdict rs (suc p) (one t) f

    by : (v ≡ Err (rejection n q) → (k : ℕ) × (q ≡ suc p + k) × FirstLater rs (put t f) n k) →
        ((i : Refusal) × LaterFault rs (one s) (one t) i) ⊎ Clean rs (one s) (one t) → (k : ℕ) × (q ≡ p + k) × FirstLater rs (put s (put t f)) n k
    by again (inl (i, x)) =
        let e = fails rs (one s) (one t) i p v x in
        let (number, place) = same-said (sym e ∙ h) in (
          0,
          omega arith,
          record {
            earlier = s;
            later = t;
            is_e = refl;
            is_l = refl;
            before = λ j a b l. absurd (omega (arith, l));
            fault = subst (LaterFault rs (one s) (one t)) number x;
          },
        )
    by again (inr c) =
        let (k, e, x) = again (sym (passes rs (one s) (one t) p v c) ∙ h) in (
          suc k,
          omega arith,
          record {
            earlier = x.earlier;
            later = x.later;
            is_e = x.is_e;
            is_l = x.is_l;
            before = none_before k x.before;
            fault = x.fault;
          },
        )
      where
        none_before : (k : ℕ) → ((j : ℕ) (a b : Term) → j < k → At (put t f) j a → At (put t f) (suc j) b → Clean rs (one a) (one b)) →
            (j : ℕ) (a b : Term) → j < suc k → At (put s (put t f)) j a → At (put s (put t f)) (suc j) b → Clean rs (one a) (one b)
        none_before k x zero a b l ea eb = rw (ea, eb) c
        none_before k x (suc j) a b l ea eb = x j a b (omega (arith, l)) ea eb

later_first : (rs : List Rule) (p : ℕ) (s : Term) (f : Terms) (n : Refusal) (k : ℕ) → FirstLater rs (put s f) n k →
    chain_verdict rs p (one s) f ≡ Err (rejection n (p + k))
unfolding chain_verdict At
later_first rs p s no_terms n zero x = absurd x.is_l
later_first rs p s no_terms n (suc k) x = absurd x.is_e
later_first rs p s (tree o m ks f) n zero x =
    fails rs (one s) (tree o m ks no_terms) n p _ (rw (x.is_e, x.is_l) at x.fault) ∙ ap (λ (i : ℕ). Err (rejection n i)) (omega arith)
later_first rs p s (tree o m ks f) n (suc k) x =
    passes rs _ _ p _ (x.before 0 s t (omega arith) refl refl)
    ∙ (later_first rs (suc p) t f n k behind ∙ ap (λ (i : ℕ). Err (rejection n i)) (omega arith))
  where
    t : Term
    t = record { op = o; mark = m; kids = ks }

    behind : FirstLater rs (put t f) n k
    behind =
        record {
          earlier = x.earlier;
          later = x.later;
          is_e = x.is_e;
          is_l = x.is_l;
          before = λ j a b l ea eb. x.before (suc j) a b (omega (arith, l)) ea eb;
          fault = x.fault;
        }

-- FROM THE VERDICT TO THE FIRST FAULT
module _ (rs : List Rule) (ws : List ℕ) where
  as_said : {n n' : Refusal} {k k' : ℕ} → ◌≡◌ {A = Verdict} (Err (rejection n k)) (Err (rejection n' k')) → FirstFault rs ws n k → FirstFault rs ws n' k'
  as_said e x = let (a, b) = same-said e in rw (← a, ← b) x

  some_words_lem : {o : ℕ} {m : Mark} {c f : Terms} → read ws ≡ some (tree o m c f) → ws ≡ [] → ⊥
  unfolding read
  some_words_lem r e = let z : some no_terms ≡ some (tree _ _ _ _) = sym (ap read e) ∙ r in let y : ◌≡◌ {A = ℕ} 0 1 = cc in omega arith

  of-terms : {n : Refusal} {k : ℕ} → length ws ≤ word_limit → (r : Option Terms) → read ws ≡ r → terms_verdict rs r ≡ Err (rejection n k) → FirstFault rs ws n k
  unfolding terms_verdict read words At count
  of-terms few none r h =
      as_said h (words-13 few (λ e. none-ne-some no_terms (sym r ∙ ap read e)) (λ f x. none-ne-some f (sym r ∙ reads-read ws f x)))
  of-terms few (some no_terms) r h = as_said h (words-12 few (read-words ws no_terms r).spelled)
  of-terms {n} {k} few (some (tree o m c f)) r h = by (ltb term_limit (suc (count f))) refl
    where
      t : Term
      t = record { op = o; mark = m; kids = c }

      formed : ltb term_limit (suc (count f)) ≡ false → Formed ws (put t f)
      formed e =
          record {
            few_words = few;
            some_words = some_words_lem r;
            form = read-words ws (put t f) r;
            few_terms = ltb-false _ _ e;
          }

      unmarked-first : Decides false (Somewhere Marks (one t)) → FirstMarked (put t f) → ⊥
      unmarked-first d x = d (rw x.is_at at x.has_mark)

      later : ltb term_limit (suc (count f)) ≡ false → some_mark is_mark (one t) ≡ false → FirstFault rs ws n k
      later e g =
          let (j, p, x) = first-later rs 1 t f n k (rw (e, g) at h) in
          let q : suc j ≡ k = omega arith in
          subst (FirstFault rs ws n) q (later-by (put t f) (formed e) (unmarked-first (rw g at (is-marked (one t)))) n j x)

      first : ltb term_limit (suc (count f)) ≡ false → (b : Bool) → some_mark is_mark (one t) ≡ b → FirstFault rs ws n k
      first e true g =
          as_said (rw (e, g) at h)
          (first-14 (put t f) (formed e) (record { term = t; is_at = refl; has_mark = rw g at (is-marked (one t)) }))
      first e false g = later e g

      by : (b : Bool) → ltb term_limit (suc (count f)) ≡ b → FirstFault rs ws n k
      by true e = as_said (rw e at h) (terms-19 few (some_words_lem r) (put t f) (read-words ws (put t f) r) (ltb-true _ _ e))
      by false e = first e (some_mark is_mark (one t)) refl

  pub rejected-first : (n : Refusal) (k : ℕ) → verdict rs ws ≡ Err (rejection n k) → FirstFault rs ws n k
  unfolding verdict
  rejected-first n k h = by (ltb word_limit (length ws)) refl
    where
      by : (b : Bool) → ltb word_limit (length ws) ≡ b → FirstFault rs ws n k
      by true e = as_said (rw e at h) (words-19 (ltb-true _ _ e))
      by false e = of-terms (ltb-false _ _ e) (read ws) refl (rw e at h)

  -- AND BACK
  unread : ((f : Terms) → Reads ws f → ⊥) → read ws ≡ none
  unread u = by (read ws) refl
    where
      by : (r : Option Terms) → read ws ≡ r → r ≡ none
      by none e = refl
      by (some f) e = absurd (u f (read-words ws f e))

  by-terms : {n : Refusal} {k : ℕ} (f : Terms) → length ws ≤ word_limit → Reads ws f → terms_verdict rs (some f) ≡ Err (rejection n k) → verdict rs ws ≡ Err (rejection n k)
  unfolding verdict
  by-terms f few r h = rw (le-ltb _ _ few, reads-read ws f r) h

  formed-terms : {n : Refusal} {k : ℕ} (f : Terms) → Formed ws f →
      ((o : ℕ) (m : Mark) (c g : Terms) → f ≡ tree o m c g →
      reject_if (some_mark is_mark (tree o m c no_terms)) IsMarked 0 (chain_verdict rs 1 (tree o m c no_terms) g) ≡ Err (rejection n k)) → verdict rs ws ≡ Err (rejection n k)
  unfolding terms_verdict count words
  formed-terms no_terms w h = absurd (w.some_words w.form.spelled)
  formed-terms (tree o m c g) w h = by-terms (tree o m c g) w.few_words w.form (rw (le-ltb _ _ w.few_terms) (h o m c g refl))

  pub first-rejected : (n : Refusal) (k : ℕ) → FirstFault rs ws n k → verdict rs ws ≡ Err (rejection n k)
  unfolding verdict terms_verdict read count words At
  first-rejected n k (words-19 l) = rw (lt-ltb _ _ l) refl
  first-rejected n k (words-12 l e) = rw (le-ltb _ _ l, ap read e) refl
  first-rejected n k (words-13 l e u) = rw (le-ltb _ _ l, unread u) refl
  first-rejected n k (terms-19 l e no_terms r c) = absurd (e r.spelled)
  first-rejected n k (terms-19 l e (tree o m c' f) r c) = by-terms (tree o m c' f) l r (rw (lt-ltb _ _ c) refl)
  first-rejected n k (first-14 f w x) =
      formed-terms f w (λ o m c g e. rw (one_answer (some_mark is_mark (tree o m c no_terms)) true _ (is-marked (tree o m c no_terms)) (marked-first x e)) refl)
    where
      marked-first : {o : ℕ} {m : Mark} {c g : Terms} → FirstMarked f → f ≡ tree o m c g → Somewhere Marks (tree o m c no_terms)
      marked-first x e = rw (rw e at x.is_at) at x.has_mark
  first-rejected n k (later-by f w u n' k' x) = formed-terms f w behind
    where
      behind : (o : ℕ) (m : Mark) (c g : Terms) → f ≡ tree o m c g →
          reject_if (some_mark is_mark (tree o m c no_terms)) IsMarked 0 (chain_verdict rs 1 (tree o m c no_terms) g) ≡ Err (rejection n' (suc k'))
      behind o m c g e =
          let t : Term = record { op = o; mark = m; kids = c } in
          rw (one_answer (some_mark is_mark (one t)) false _ (is-marked (one t)) (λ y. u (rw e (record { term = t; is_at = refl; has_mark = y }))))
          (later_first rs 1 t g n' k' (rw e at x) ∙ ap (λ (i : ℕ). Err (rejection n' i)) (omega arith))

-- DEMAND 1 of the checker
pub demand-1 : (rs : List Rule) (ws : List ℕ) (n : Refusal) (k : ℕ) → (verdict rs ws ≡ Err (rejection n k)) ↔ FirstFault rs ws n k
demand-1 rs ws n k = (rejected-first rs ws n k, first-rejected rs ws n k)

-- 18 is nobody's number: no refusal has it, so that no words are rejected by it
not-18 : (n : Refusal) → number n ≡ 18 → ⊥
not-18 NoLine e = omega arith
not-18 NoEntry e = omega arith
not-18 TableFull e = omega arith
not-18 ChildNotBelow e = omega arith
not-18 RuleUnfit e = omega arith
not-18 EndsUnfit e = omega arith
not-18 NoSupport e = omega arith
not-18 NoNode e = omega arith
not-18 NotJoined e = omega arith
not-18 TooFar e = omega arith
not-18 NoRoom e = omega arith
not-18 NoWords e = omega arith
not-18 NoTerms e = omega arith
not-18 IsMarked e = omega arith
not-18 NotOneMark e = omega arith
not-18 RuleUnlisted e = omega arith
not-18 NoStep e = omega arith
not-18 TooLong e = omega arith

pub never-18 : (rs : List Rule) (ws : List ℕ) (n : Refusal) (k : ℕ) → verdict rs ws ≡ Err (rejection n k) → number n ≡ 18 → ⊥
never-18 rs ws n k h e = not-18 n e
