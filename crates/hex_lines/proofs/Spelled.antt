-- A line's bytes, written pair by pair.
use Prim.Native.Nat.{ℕ, ◌+◌, ◌*◌, ◌/◌, ◌≤◌, ◌<◌}
use mathlib.Core.Bool.{Bool, true, false, ◌&&◌}
use mathlib.Core.List.{List, [], ◌∷◌, ◌++◌, append_assoc, append-nil}
use mathlib.Core.Option.{Option, none, some}
use mathlib.Core.Path.{◌≡◌, refl, sym, ap, ap₂, ◌∙◌}
use native.Mathlib.Omega.{arith}
use native.Mathlib.Decide.{ℕ_discrete}
use lib.Dec.{leb}
use lib.ListN.{length, get_or, set, drop, length-append, length-drop, drop_of_length-le}
use Rattle.model.specs.Limits.{digit_limit}
use Rattle.model.specs.Tables.{only_if}
use Rattle.model.specs.Frame.{hex_digit, byte_front, hex_pairs, line_bytes}
use Rattle.laws.specs.Area.{splice}
use Rattle.laws.proofs.Area.{splice-none, splice-push}
use Rattle.laws.specs.Present.{present}
use Rattle.hex_lines.specs.Line.{decoded}
use Rattle.hex_lines.proofs.Digits.{digit_of, small, pair-at}

-- a line spells its bytes
pub line-pairs : (ds : List ℕ) → present (line_bytes ds) ≡ true → (hex_pairs ds ≡ some (decoded ds)) × (line_bytes ds ≡ some (decoded ds))
unfolding line_bytes
line-pairs ds h = by (leb 1 (length ds) && leb (length ds) digit_limit) (hex_pairs ds) refl h
  where
    by : (b : Bool) (o : Option (List ℕ)) → hex_pairs ds ≡ o → present (only_if b o) ≡ true → (o ≡ some (decoded ds)) × (only_if b o ≡ some (decoded ds))
    by true none e h = let z : ◌≡◌ {A = ℕ} 0 1 = cc in absurd (omega arith)
    by true (some bs) e h = let d : some bs ≡ some (decoded ds) = rw e refl in (d, d)
    by false o e h = let z : ◌≡◌ {A = ℕ} 0 1 = cc in absurd (omega arith)

-- bytes in front of others, if there are others
abbrev joined : List ℕ → Option (List ℕ) → Option (List ℕ)
joined front none = none
joined front (some bs) = some (front ++ bs)

one-digit : (l : List ℕ) → length l ≡ 1 → hex_pairs l ≡ none
unfolding hex_pairs
one-digit [] h = absurd (omega arith)
one-digit (a ∷ []) h = refl
one-digit (a ∷ b ∷ l) h = absurd (omega arith)

-- a pair of digits in front is a byte
record Byte (front : List ℕ) (x y : Option ℕ) (r : Option (List ℕ)) (bs : List ℕ) : Type 0 where
  high : x ≡ some (digit_of x)
  low : y ≡ some (digit_of y)
  rest : joined (front ++ ((digit_of x * 16 + digit_of y) ∷ [])) r ≡ some bs

join-byte : (front : List ℕ) (x y : Option ℕ) (r : Option (List ℕ)) (bs : List ℕ) → joined front (byte_front x y r) ≡ some bs → Byte front x y r bs
join-byte front none y r bs e = let z : ◌≡◌ {A = ℕ} 0 1 = cc in absurd (omega arith)
join-byte front (some h) none r bs e = let z : ◌≡◌ {A = ℕ} 0 1 = cc in absurd (omega arith)
join-byte front (some h) (some l) none bs e = let z : ◌≡◌ {A = ℕ} 0 1 = cc in absurd (omega arith)
join-byte front (some h) (some l) (some r) bs e = record { high = refl; low = refl; rest = ap some (append_assoc front ((h * 16 + l) ∷ []) r) ∙ e }

-- The bytes written so far, and those still to come.
pub record Spelling (ds old new : List ℕ) (i j : ℕ) : Type 0 where
  pub front : List ℕ
  pub twice : i ≡ 2 * j
  pub long : length front ≡ j
  pub within : i ≤ length ds
  pub written : new ≡ splice old 0 front
  pub goes : joined front (hex_pairs (drop i ds)) ≡ some (decoded ds)

module _ (ds old : List ℕ) (line : present (line_bytes ds) ≡ true) where
  pub spelling-start : Spelling ds old old 0 0
  spelling-start = record {
    front = [];
    twice = refl;
    long = refl;
    within = omega arith;
    written = sym (splice-none old 0);
    goes = nothing (hex_pairs ds) (line-pairs ds line).0;
  }
    where
      nothing : (o : Option (List ℕ)) → o ≡ some (decoded ds) → joined [] o ≡ some (decoded ds)
      nothing none e = e
      nothing (some bs) e = e

-- what is known of the digits at a place that is passed
pub record Pair (ds front : List ℕ) (i : ℕ) : Type 0 where
  pub room : i + 2 ≤ length ds
  pub high-there : present (hex_digit (get_or ds i 0)) ≡ true
  pub low-there : present (hex_digit (get_or ds (i + 1) 0)) ≡ true
  pub high : digit_of (hex_digit (get_or ds i 0)) < 16
  pub low : digit_of (hex_digit (get_or ds (i + 1) 0)) < 16
  pub rest : joined (front ++ ((digit_of (hex_digit (get_or ds i 0)) * 16 + digit_of (hex_digit (get_or ds (i + 1) 0))) ∷ [])) (hex_pairs (drop (i + 2) ds)) ≡ some (decoded ds)

module _ {ds old new : List ℕ} {i j : ℕ} (room : length ds ≤ 2 * length old) (s : Spelling ds old new i j) where
  pub spelling-pair : i < length ds → Pair ds s.front i
  spelling-pair h =
      let two : i + 2 ≤ length ds = elim (ℕ_discrete (i + 1) (length ds)) [
        | yes e ↦
            let none-there = one-digit (drop i ds) (omega (arith, length-drop i ds)) in
            let no : none ≡ some (decoded ds) = ap (joined s.front) (sym none-there) ∙ s.goes in
            let z : ◌≡◌ {A = ℕ} 0 1 = cc in
            absurd (omega arith)
        | no e ↦ omega arith
      ] in
      let b = join-byte s.front _ _ _ _ (ap (joined s.front) (sym (pair-at ds i two)) ∙ s.goes) in
      record { room = two; high-there = ap present b.high; low-there = ap present b.low; high = small _ _ b.high; low = small _ _ b.low; rest = b.rest }

  pub spelling-more : i < length ds → (h l : ℕ) → h ≡ digit_of (hex_digit (get_or ds i 0)) → l ≡ digit_of (hex_digit (get_or ds (i + 1) 0)) →
      Spelling ds old (set new j (h * 16 + l)) (i + 2) (j + 1)
  spelling-more here h l h-is l-is =
      let p = spelling-pair here in
      let there : j ≡ 0 + length s.front = omega (arith, s.long) in
      record {
        front = s.front ++ ((h * 16 + l) ∷ []);
        twice = omega (arith, s.twice);
        long = omega (arith, length-append s.front ((h * 16 + l) ∷ []), s.long);
        within = p.room;
        written =
            ap₂ (λ (n : List ℕ) (k : ℕ). set n k (h * 16 + l)) s.written there
            ∙ splice-push old 0 s.front (h * 16 + l) (omega (arith, s.long, s.twice, p.room));
        goes = rw (h-is, l-is) p.rest;
      }

  spelling-done : length ds ≤ i → new ≡ splice old 0 (decoded ds)
  unfolding hex_pairs
  spelling-done h =
      let none_left : drop i ds ≡ [] = drop_of_length-le ds {i = i} h in
      let e : some (s.front ++ []) ≡ some (decoded ds) = ap (λ (l : List ℕ). joined s.front (hex_pairs l)) (sym none_left) ∙ s.goes in
      let d : s.front ++ [] ≡ decoded ds = cc in
      s.written ∙ ap (splice old 0) (sym (append-nil s.front) ∙ d)

  -- no pair of digits is left
  pub spelling-last : length ds / 2 ≤ j → new ≡ splice old 0 (decoded ds)
  spelling-last h = elim (ℕ_discrete (i + 1) (length ds)) [
    | yes e ↦ absurd (omega (arith, (spelling-pair (omega arith)).room, s.twice))
    | no e ↦ spelling-done (omega (arith, s.twice, s.within))
  ]
