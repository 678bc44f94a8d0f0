-- Whole words, term by term.
-- Assumes nothing.
use Prim.Native.Nat.{ℕ, ◌+◌, ◌*◌, ◌≤◌, ◌<◌}
use mathlib.Core.List.{List}
use mathlib.Core.Option.{Option as Maybe, none, some}
use mathlib.Core.Path.{◌≡◌, refl, ap, sym, ◌∙◌}
use native.Mathlib.Omega.{arith}
use lib.ListN.{length, drop, length-drop, drop_of_length-le}
use Rattle.std.specs.Prelude.{Option, Some, None}
use Rattle.model.specs.Limits.{flat_words}
use Rattle.model.specs.Term.{Terms, no_terms, tree, Term, one, count, join, Narrow, words, Reads, read}
use Rattle.terms.specs.Place.{TermAt}
use Rattle.terms.specs.Whole.{whole_of}
use Rattle.terms.proofs.Rows.{put-words, one-long}
use Rattle.terms.proofs.Read.{join_to, read-front, read-words}
use Rattle.terms.proofs.Place.{term-at, term-drop, term-length}

-- n terms, and those that were read behind them
abbrev pub count_from : ℕ → Maybe Terms → Option ℕ
count_from n none = None
count_from n (some f) = Some (n + count f)

one_more : (n : ℕ) (t : Term) (r : Maybe Terms) → count_from (n + 1) r ≡ count_from n (join_to (one t) r)
unfolding join count
one_more n t none = refl
one_more n t (some g) = ap Some (omega arith)

-- where a walk over the terms is: n are passed, and with those from p on they are what the whole words say
pub record Counting (ws : List ℕ) (p n : ℕ) : Type 0 where
  pub inside : p ≤ length ws
  pub few : flat_words * n ≤ p
  pub finds : count_from n (read (drop p ws)) ≡ whole_of (read ws)

-- a term that is passed over is counted
pub whole-next : (ws : List ℕ) (p n e : ℕ) (t : Term) → TermAt ws p e t → Counting ws p n → Counting ws e (n + 1)
whole-next ws p n e t h c =
    record {
      inside = h.within;
      few = omega (arith, c.few, term-length ws p e t h, one-long t);
      finds = one_more n t (read (drop e ws))
          ∙ ap (count_from n) (sym (ap read (term-drop ws p e t h) ∙ read-front (one t) h.narrow (drop e ws)))
          ∙ c.finds;
    }

-- where no term stands, nothing is read
no-reading : (ws : List ℕ) (p : ℕ) → ((e : ℕ) (t : Term) → TermAt ws p e t → ⊥) → p < length ws → (f : Terms) → Reads (drop p ws) f → ⊥
unfolding words Narrow
no-reading ws p d l no_terms r = omega (arith, length-drop p ws, ap length r.spelled)
no-reading ws p d l (tree o m k s) r =
    let t : Term = record { op = o; mark = m; kids = k } in
    d _ t (term-at ws p t (words s) (r.narrow.0, r.narrow.1, tt) (r.spelled ∙ put-words t s))

pub whole-broken : (ws : List ℕ) (p n : ℕ) → ((e : ℕ) (t : Term) → TermAt ws p e t → ⊥) → p < length ws → Counting ws p n
    → None ≡ whole_of (read ws)
whole-broken ws p n d l c = go (read (drop p ws)) refl ∙ c.finds
  where
    go : (r : Maybe Terms) → read (drop p ws) ≡ r → None ≡ count_from n r
    go none e = refl
    go (some f) e = absurd (no-reading ws p d l f (read-words (drop p ws) f e))

-- at the end all are counted
pub whole-done : (ws : List ℕ) (p n : ℕ) → length ws ≤ p → Counting ws p n → Some n ≡ whole_of (read ws)
unfolding read count
whole-done ws p n l c = ap Some (omega arith) ∙ sym (ap (λ (x : List ℕ). count_from n (read x)) (drop_of_length-le ws l)) ∙ c.finds
