-- The verdict on terms: later terms are accepted exactly where they are a chain of steps.
use Prim.Native.Nat.{ℕ, suc, ◌+◌, ◌≤◌}
use mathlib.Core.Bool.{Bool, true, false, not}
use mathlib.Core.List.{List}
use mathlib.Core.Option.{Option, none, some}
use mathlib.Core.Path.{◌≡◌, refl, sym, ◌∙◌, ap}
use native.Mathlib.Omega.{arith}
use borrow.Author.Tests.{eqb-true, eq-eqb, ltb-false, le-ltb, not-false}
use lib.Dec.{eqb, ltb}
use lib.ListN.{length}
use Rattle.std.specs.Prelude.{Ok}
use Rattle.model.specs.declared.Refusal.{Refusal}
use Rattle.model.specs.declared.Refusal.TheVariants.{FirstMarked, NotOneMark, RuleUnlisted, NoStep, TooLong}
use Rattle.model.specs.Limits.{term_limit, word_limit}
use Rattle.model.specs.Term.{Terms, no_terms, tree, count, marks, read}
use Rattle.model.specs.Rule.{Rule}
use Rattle.model.specs.Step.{step, some_mark, is_mark, unlisted}
use Rattle.model.specs.Verdict.{Verdict, Later, Chain, Strict, Proves, reject_if, later_verdict, chain_verdict, terms_verdict, verdict}
use Rattle.terms.proofs.Read.{read-words, reads-read}
use Rattle.checker.proofs.Steps.{step-sound, step-complete, step-listed}

-- what was not rejected comes from behind the test
pub passed : (t : Bool) (r : Refusal) (k : ℕ) (v : Verdict) (m : ℕ) → reject_if t r k v ≡ Ok m → (t ≡ false) × (v ≡ Ok m)
passed true r k v m h = let z : ◌≡◌ {A = ℕ} 0 1 = cc in absurd (omega arith)
passed false r k v m h = (refl, h)

pub later-sound : (rs : List Rule) (k : ℕ) (s t : Terms) (v : Verdict) (n : ℕ) → later_verdict rs k s t v ≡ Ok n
    → Later rs s t × (v ≡ Ok n)
unfolding later_verdict
later-sound rs k s t v n h =
    let (a, h₁) = passed (not (eqb (marks t) 1)) NotOneMark k _ n h in
    let (b, h₂) = passed (unlisted rs t) RuleUnlisted k _ n h₁ in
    let (c, h₃) = passed (not (step rs s t)) NoStep k v n h₂ in
    (record { one_mark = eqb-true _ _ (not-false _ a); arises = step-sound rs s t (not-false _ c) }, h₃)

pub later-complete : (rs : List Rule) (k : ℕ) (s t : Terms) (v : Verdict) → Later rs s t → later_verdict rs k s t v ≡ v
unfolding later_verdict
later-complete rs k s t v l =
    rw (eq-eqb _ _ l.one_mark, step-listed rs s t l.arises (omega (arith, l.one_mark)), step-complete rs s t l.arises)

pub chain-sound : (rs : List Rule) (k : ℕ) (s f : Terms) (n : ℕ) → chain_verdict rs k s f ≡ Ok n → Chain rs s f × (n ≡ k + count f)
unfolding chain_verdict Chain count
chain-sound rs k s no_terms n h = let e : k ≡ n = cc in (tt, omega arith)
chain-sound rs k s (tree o m ks f) n h =
    let (l, rest) = later-sound rs k s (tree o m ks no_terms) _ n h in
    let (c, e) = chain-sound rs (suc k) (tree o m ks no_terms) f n rest in
    ((l, c), omega arith)

pub chain-complete : (rs : List Rule) (k : ℕ) (s f : Terms) → Chain rs s f → chain_verdict rs k s f ≡ Ok (k + count f)
unfolding chain_verdict Chain count
chain-complete rs k s no_terms c = ap Ok (omega arith)
chain-complete rs k s (tree o m ks f) c =
    later-complete rs k s (tree o m ks no_terms) _ c.0
    ∙ (chain-complete rs (suc k) (tree o m ks no_terms) f c.1 ∙ ap Ok (omega arith))

pub terms-sound : (rs : List Rule) (f : Terms) (n : ℕ) → terms_verdict rs (some f) ≡ Ok n → Strict rs f × (count f ≡ n) × (n ≤ term_limit)
unfolding terms_verdict Strict count
terms-sound rs no_terms n h = let z : ◌≡◌ {A = ℕ} 0 1 = cc in absurd (omega arith)
terms-sound rs (tree o m k f) n h =
    let (few, h₁) = passed (ltb term_limit (suc (count f))) TooLong 0 _ n h in
    let (first, h₂) = passed (some_mark is_mark (tree o m k no_terms)) FirstMarked 0 _ n h₁ in
    let (c, e) = chain-sound rs 1 (tree o m k no_terms) f n h₂ in
    let limit : suc (count f) ≤ term_limit = ltb-false _ _ few in
    ((first, c), omega arith, omega arith)

pub terms-complete : (rs : List Rule) (f : Terms) → Strict rs f → count f ≤ term_limit → terms_verdict rs (some f) ≡ Ok (count f)
unfolding terms_verdict Strict count
terms-complete rs no_terms s few = absurd s
terms-complete rs (tree o m k f) s few =
    rw (le-ltb _ _ few, s.0) (chain-complete rs 1 (tree o m k no_terms) f s.1 ∙ ap Ok (omega arith))

-- from words to terms
read-accepted : (rs : List Rule) (o : Option Terms) (n : ℕ) → terms_verdict rs o ≡ Ok n → (f : Terms) × (o ≡ some f)
unfolding terms_verdict
read-accepted rs none n h = let z : ◌≡◌ {A = ℕ} 0 1 = cc in absurd (omega arith)
read-accepted rs (some f) n h = (f, refl)

pub verdict-sound : (rs : List Rule) (ws : List ℕ) (n : ℕ) → verdict rs ws ≡ Ok n → Proves rs ws n
unfolding verdict
verdict-sound rs ws n h =
    let (few, h₁) = passed (ltb word_limit (length ws)) TooLong 0 _ n h in
    let (f, e) = read-accepted rs (read ws) n h₁ in
    let (strict, counted, limit) = terms-sound rs f n (ap (terms_verdict rs) (sym e) ∙ h₁) in
    record {
      terms = f;
      form = read-words ws f e;
      counted = counted;
      few_words = ltb-false _ _ few;
      few_terms = limit;
      strict = strict;
    }

pub verdict-complete : (rs : List Rule) (ws : List ℕ) (n : ℕ) → Proves rs ws n → verdict rs ws ≡ Ok n
unfolding verdict
verdict-complete rs ws n p =
    let few : count p.terms ≤ term_limit = omega (arith, p.counted, p.few_terms) in
    rw (le-ltb _ _ p.few_words)
    (ap (terms_verdict rs) (reads-read ws p.terms p.form) ∙ (terms-complete rs p.terms p.strict few ∙ ap Ok p.counted))
