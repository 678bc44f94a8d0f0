-- What a query over accepted tables answers, case by case, in the words of document 01: 8, 9, 10, 11, and else the distance and
-- the words written. The conditions are said with `Linked`, the distance and the words of the flat proof.
-- Assumes nothing.
use Prim.Native.Nat.{ℕ, ◌≤◌, ◌<◌}
use mathlib.Core.Bool.{Bool, true, false, ◌||◌, or-true, false≢true}
use mathlib.Core.Path.{◌≡◌, refl, sym, ap, ◌∙◌}
use mathlib.Core.Logic.{◌⊎◌, inl, inr, ⊎_elim, ◌↔◌}
use native.Mathlib.Omega.{arith}
use borrow.Author.Tests.{leb-true, leb-false, lt-ltb, le-ltb}
use lib.Dec.{leb, ltb}
use lib.ListN.{length}
use Rattle.std.proofs.Common.{Ok, Err}
use Rattle.model.specs.Query.{written}
use Rattle.model.specs.declared.Refusal.{Refusal}
use Rattle.model.specs.Refusal.{number}
use Rattle.laws.proofs.Handed.{same_err, ok_err}
use Rattle.model.specs.declared.Refusal.TheVariants.{NoNode, NotJoined, TooFar, NoRoom}
use Rattle.model.specs.Limits.{distance_limit, word_limit}
use Rattle.model.specs.Forest.{Linked, joined}
use Rattle.model.specs.Flat.{needed}
use Rattle.model.specs.Query.{Tables, distance_in, proof_words, measure, written_if, answer}
use Rattle.paths.proofs.Joined.{joined-linked}
use Rattle.flat.specs.Accepted.{AcceptedTables}
use Rattle.flat.proofs.Delivered.{delivered}
use Rattle.explanation.specs.Demand.{Missing, Known, Unlinked, Exceeds, Asked}
use Rattle.explanation.proofs.Measures.{no-left, no-right, apart, long, near}

order : (a b : ℕ) → (a ≤ b) ⊎ (b < a)
order a b = by (leb a b) refl
  where
    by : (s : Bool) → leb a b ≡ s → (a ≤ b) ⊎ (b < a)
    by true e = inl (leb-true a b e)
    by false e = inr (leb-false a b e)

module _ (t : Tables) (l r : ℕ) where
  joins : Linked t.conns l r → joined t.conns l r ≡ true
  joins k = (joined-linked t.conns l r).1 k

  parts : Unlinked t l r → joined t.conns l r ≡ false
  parts a = by (joined t.conns l r) refl
    where
      by : (b : Bool) → joined t.conns l r ≡ b → b ≡ false
      by true e = absurd (a ((joined-linked t.conns l r).0 e))
      by false e = refl

  by_refusal : (area : ℕ) (e : Refusal) → Err e ≡ measure t l r → answer t area l r ≡ Err e
  unfolding answer
  by_refusal area e p = rw (← p) refl

  by-distance : (area d : ℕ) → Ok d ≡ measure t l r
      → let w = needed t.nodes t.conns l r in answer t area l r ≡ written_if (ltb area w || ltb word_limit w) d w
  unfolding answer
  by-distance area d e = rw (← e) refl

  pub is-8 : (area : ℕ) → Missing t l r → answer t area l r ≡ Err NoNode
  is-8 area (inl h) = by_refusal area NoNode (no-left t l r h)
  is-8 area (inr h) =
      ⊎_elim
      (λ out. by_refusal area NoNode (no-left t l r out))
      (λ within. by_refusal area NoNode (no-right t l r within h))
      (order (length t.nodes) l)

  module _ (k : Known t l r) where
    pub is-9 : (area : ℕ) → Unlinked t l r → answer t area l r ≡ Err NotJoined
    is-9 area a = by_refusal area NotJoined (apart t l r k.left k.right (parts a))

    module _ (j : Linked t.conns l r) where
      pub is-10 : (area : ℕ) → distance_limit < distance_in t l r → answer t area l r ≡ Err TooFar
      is-10 area h = by_refusal area TooFar (long t l r k.left k.right (joins j) h)

      module _ (ok : AcceptedTables t) (h : distance_in t l r ≤ distance_limit) (area : ℕ) where
        abbrev w : ℕ
        w = length (proof_words t l r)

        distance : answer t area l r ≡ written_if (ltb area w || ltb word_limit w) (distance_in t l r) w
        distance =
            rw (delivered t ok l r j).written
            (by-distance area (distance_in t l r) (near t l r k.left k.right (joins j) h))

        pub is-11 : Exceeds t area l r → answer t area l r ≡ Err NoRoom
        is-11 (inl o) = distance ∙ rw (lt-ltb area w o) refl
        is-11 (inr o) = distance ∙ rw (lt-ltb word_limit w o, or-true (ltb area w)) refl

        pub is-written : length (proof_words t l r) ≤ area → length (proof_words t l r) ≤ word_limit
            → answer t area l r ≡ Ok (written (distance_in t l r) (length (proof_words t l r)))
        is-written f b = distance ∙ rw (le-ltb area w f, le-ltb word_limit w b) refl

-- one of the five cases holds
pub data Case (t : Tables) (area l r : ℕ) : Type 0 where
  by_8 : Missing t l r → Case t area l r
  by-9 : Known t l r → Unlinked t l r → Case t area l r
  by-10 : Known t l r → Linked t.conns l r → distance_limit < distance_in t l r → Case t area l r
  by-11 : Known t l r → Linked t.conns l r → distance_in t l r ≤ distance_limit → Exceeds t area l r → Case t area l r
  fit : Asked t area l r → Case t area l r

pub cases : (t : Tables) (area l r : ℕ) → Case t area l r
cases t area l r =
    ⊎_elim (λ o. by_8 (inl o)) (λ a. ⊎_elim (λ o. by_8 (inr o)) (λ b. known (record { left = a; right = b })) (order n r)) (order n l)
  where
    n : ℕ
    n = length t.nodes

    w : ℕ
    w = length (proof_words t l r)

    linked : Known t l r → Linked t.conns l r → distance_in t l r ≤ distance_limit → Case t area l r
    linked k j d =
        ⊎_elim
        (λ f. ⊎_elim (λ b. fit (record { known = k; linked = j; near = d; fits = f; few = b })) (λ o. by-11 k j d (inr o)) (order w word_limit))
        (λ o. by-11 k j d (inl o))
        (order w area)

    known : Known t l r → Case t area l r
    known k = by (joined t.conns l r) refl
      where
        by : (b : Bool) → joined t.conns l r ≡ b → Case t area l r
        by true e =
            let j = (joined-linked t.conns l r).0 e in
            ⊎_elim (λ d. linked k j d) (λ far. by-10 k j far) (order (distance_in t l r) distance_limit)
        by false e = by-9 k (λ j. false≢true (sym e ∙ joins t l r j))

-- 8, 9, 10 OF A DISTANCE, EACH EXACTLY WHERE ITS CONDITION IS THE FIRST TO HOLD
module _ (t : Tables) (l r : ℕ) where
  measured-8 : Missing t l r → measure t l r ≡ Err NoNode
  measured-8 (inl h) = sym (no-left t l r h)
  measured-8 (inr h) = ⊎_elim (λ out. sym (no-left t l r out)) (λ within. sym (no-right t l r within h)) (order (length t.nodes) l)

  measured-9 : Known t l r → Unlinked t l r → measure t l r ≡ Err NotJoined
  measured-9 k a = sym (apart t l r k.left k.right (parts t l r a))

  measured-10 : Known t l r → Linked t.conns l r → distance_limit < distance_in t l r → measure t l r ≡ Err TooFar
  measured-10 k j h = sym (long t l r k.left k.right (joins t l r j) h)

  measured : Known t l r → Linked t.conns l r → distance_in t l r ≤ distance_limit → measure t l r ≡ Ok (distance_in t l r)
  measured k j h = sym (near t l r k.left k.right (joins t l r j) h)

  -- the number that a case gives
  abbrev unmeasured : Case t 0 l r → ℕ
  unmeasured (by_8 u) = 8
  unmeasured (by-9 k a) = 9
  unmeasured (by-10 k j d) = 10
  unmeasured (by-11 k j d o) = 0
  unmeasured (fit a) = 0

  tells : (e : Refusal) → measure t l r ≡ Err e → (c : Case t 0 l r) → unmeasured c ≡ number e
  tells e p (by_8 u) = ap number (same_err (sym (measured-8 u) ∙ p))
  tells e p (by-9 k a) = ap number (same_err (sym (measured-9 k a) ∙ p))
  tells e p (by-10 k j d) = ap number (same_err (sym (measured-10 k j d) ∙ p))
  tells e p (by-11 k j d o) = absurd (ok_err (sym (measured k j d) ∙ p))
  tells e p (fit a) = absurd (ok_err (sym (measured a.known a.linked a.near) ∙ p))

  pub unmeasured-8 : (measure t l r ≡ Err NoNode) ↔ Missing t l r
  unmeasured-8 = (λ e. pick (cases t 0 l r) (tells NoNode e (cases t 0 l r)), measured-8)
    where
      pick : (c : Case t 0 l r) → unmeasured c ≡ 8 → Missing t l r
      pick (by_8 u) e = u
      pick (by-9 k a) e = absurd (omega arith)
      pick (by-10 k j d) e = absurd (omega arith)
      pick (by-11 k j d o) e = absurd (omega arith)
      pick (fit a) e = absurd (omega arith)

  pub unmeasured-9 : (measure t l r ≡ Err NotJoined) ↔ (Known t l r × Unlinked t l r)
  unmeasured-9 = (λ e. pick (cases t 0 l r) (tells NotJoined e (cases t 0 l r)), λ h. measured-9 h.0 h.1)
    where
      pick : (c : Case t 0 l r) → unmeasured c ≡ 9 → Known t l r × Unlinked t l r
      pick (by_8 u) e = absurd (omega arith)
      pick (by-9 k a) e = (k, a)
      pick (by-10 k j d) e = absurd (omega arith)
      pick (by-11 k j d o) e = absurd (omega arith)
      pick (fit a) e = absurd (omega arith)

  pub unmeasured-10 : (measure t l r ≡ Err TooFar) ↔ (Known t l r × Linked t.conns l r × (distance_limit < distance_in t l r))
  unmeasured-10 = (λ e. pick (cases t 0 l r) (tells TooFar e (cases t 0 l r)), λ h. measured-10 h.0 h.1 h.2)
    where
      pick : (c : Case t 0 l r) → unmeasured c ≡ 10 → Known t l r × Linked t.conns l r × (distance_limit < distance_in t l r)
      pick (by_8 u) e = absurd (omega arith)
      pick (by-9 k a) e = absurd (omega arith)
      pick (by-10 k j d) e = (k, j, d)
      pick (by-11 k j d o) e = absurd (omega arith)
      pick (fit a) e = absurd (omega arith)

-- THE REFUSALS OF A QUERY, EACH EXACTLY WHERE ITS CONDITION IS THE FIRST TO HOLD
module _ (t : Tables) (ok : AcceptedTables t) (area l r : ℕ) where
  -- the number that a case gives
  abbrev refused : Case t area l r → ℕ
  refused (by_8 u) = 8
  refused (by-9 k a) = 9
  refused (by-10 k j d) = 10
  refused (by-11 k j d o) = 11
  refused (fit a) = 0

  told : (e : Refusal) → answer t area l r ≡ Err e → (c : Case t area l r) → refused c ≡ number e
  told e p (by_8 u) = ap number (same_err (sym (is-8 t l r area u) ∙ p))
  told e p (by-9 k a) = ap number (same_err (sym (is-9 t l r k area a) ∙ p))
  told e p (by-10 k j d) = ap number (same_err (sym (is-10 t l r k j area d) ∙ p))
  told e p (by-11 k j d o) = ap number (same_err (sym (is-11 t l r k j ok d area o) ∙ p))
  told e p (fit a) = absurd (ok_err (sym (is-written t l r a.known a.linked ok a.near area a.fits a.few) ∙ p))

  pub refused-8 : (answer t area l r ≡ Err NoNode) ↔ Missing t l r
  refused-8 = (λ e. pick (cases t area l r) (told NoNode e (cases t area l r)), is-8 t l r area)
    where
      pick : (c : Case t area l r) → refused c ≡ 8 → Missing t l r
      pick (by_8 u) e = u
      pick (by-9 k a) e = absurd (omega arith)
      pick (by-10 k j d) e = absurd (omega arith)
      pick (by-11 k j d o) e = absurd (omega arith)
      pick (fit a) e = absurd (omega arith)

  pub refused-9 : (answer t area l r ≡ Err NotJoined) ↔ (Known t l r × Unlinked t l r)
  refused-9 = (λ e. pick (cases t area l r) (told NotJoined e (cases t area l r)), λ h. is-9 t l r h.0 area h.1)
    where
      pick : (c : Case t area l r) → refused c ≡ 9 → Known t l r × Unlinked t l r
      pick (by_8 u) e = absurd (omega arith)
      pick (by-9 k a) e = (k, a)
      pick (by-10 k j d) e = absurd (omega arith)
      pick (by-11 k j d o) e = absurd (omega arith)
      pick (fit a) e = absurd (omega arith)

  pub refused-10 : (answer t area l r ≡ Err TooFar) ↔ (Known t l r × Linked t.conns l r × (distance_limit < distance_in t l r))
  refused-10 = (λ e. pick (cases t area l r) (told TooFar e (cases t area l r)), λ h. is-10 t l r h.0 h.1 area h.2)
    where
      pick : (c : Case t area l r) → refused c ≡ 10 → Known t l r × Linked t.conns l r × (distance_limit < distance_in t l r)
      pick (by_8 u) e = absurd (omega arith)
      pick (by-9 k a) e = absurd (omega arith)
      pick (by-10 k j d) e = (k, j, d)
      pick (by-11 k j d o) e = absurd (omega arith)
      pick (fit a) e = absurd (omega arith)

  pub refused-11 : (answer t area l r ≡ Err NoRoom)
      ↔ (Known t l r × Linked t.conns l r × (distance_in t l r ≤ distance_limit) × Exceeds t area l r)
  refused-11 = (λ e. pick (cases t area l r) (told NoRoom e (cases t area l r)), λ h. is-11 t l r h.0 h.1 ok h.2 area h.3)
    where
      pick : (c : Case t area l r) → refused c ≡ 11
          → Known t l r × Linked t.conns l r × (distance_in t l r ≤ distance_limit) × Exceeds t area l r
      pick (by_8 u) e = absurd (omega arith)
      pick (by-9 k a) e = absurd (omega arith)
      pick (by-10 k j d) e = absurd (omega arith)
      pick (by-11 k j d o) e = (k, j, d, o)
      pick (fit a) e = absurd (omega arith)

  -- and an answer is given only where none of them holds
  pub answered : (d w : ℕ) → answer t area l r ≡ Ok (written d w) → Asked t area l r
  answered d w e = by (cases t area l r)
    where
      never : (f : Refusal) → answer t area l r ≡ Err f → ⊥
      never f p = ok_err (sym e ∙ p)

      by : Case t area l r → Asked t area l r
      by (by_8 u) = absurd (never NoNode (is-8 t l r area u))
      by (by-9 k a) = absurd (never NotJoined (is-9 t l r k area a))
      by (by-10 k j d) = absurd (never TooFar (is-10 t l r k j area d))
      by (by-11 k j d o) = absurd (never NoRoom (is-11 t l r k j ok d area o))
      by (fit a) = a
