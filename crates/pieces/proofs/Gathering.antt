-- A piece's bytes up to its first line feed, and what a line has room for of them.
use Prim.Native.Nat.{ℕ, suc, min, ◌+◌, ◌-◌, ◌<◌}
use mathlib.Core.Bool.{Bool, true, false}
use mathlib.Core.List.{List, [], ◌∷◌}
use mathlib.Core.Logic.{◌⊎◌, ⊎_elim, inl, inr}
use mathlib.Core.Path.{◌≡◌, refl, sym, ap, ◌∙◌}
use native.Mathlib.Omega.{arith}
use borrow.Author.Tests.{lt-ltb, le-ltb, leb-true, leb-false}
use lib.Dec.{leb, eqb}
use lib.ListN.{length, take, drop, length-drop}
use lib.Seq.{take_all, length-take-le}
use Rattle.std.specs.Prelude.{Some, None, ◌==◌, position}
use Rattle.std.specs.List.{position_or_len}
use Rattle.model.specs.Run.{line_feed}
use Rattle.laws.specs.Area.{splice}
use Rattle.pieces.specs.declared.Gathered.{Gathered}
use Rattle.pieces.specs.Line.{up_to_feed, has_feed, kept_limit, fitting, line_end, gathered}

-- how many bytes stand before the first line feed
abbrev before : List ℕ → ℕ
before bs = position_or_len (λ b. b == line_feed) bs

abbrev Before : List ℕ → Type 0
Before bs =
    (up_to_feed bs ≡ take (before bs) bs)
    × (((has_feed bs ≡ true) × (before bs < length bs)) ⊎ ((has_feed bs ≡ false) × (before bs ≡ length bs)))

before-feed : (bs : List ℕ) → Before bs
unfolding up_to_feed has_feed
before-feed [] = (refl, inr (refl, refl))
before-feed (b ∷ bs) = by (before-feed bs) (eqb b line_feed) refl
  where
    by : Before bs → (t : Bool) → eqb b line_feed ≡ t → Before (b ∷ bs)
    by f true e = rw e (refl, inl (refl, omega arith))
    by f false e =
        let next : suc (before bs) ≡ 1 + before bs = omega arith in
        rw e (
          ap (λ (l : List ℕ). b ∷ l) f.0 ∙ ap (λ (k : ℕ). take k (b ∷ bs)) next,
          ⊎_elim (λ x. inl (x.0, omega (arith, x.1))) (λ x. inr (x.0, omega (arith, x.1))) f.1,
        )

-- a line feed is found, or none
pub feed-found : (bs : List ℕ) {at : ℕ} → position (λ b. b == line_feed) bs ≡ Some at →
    (has_feed bs ≡ true) × (up_to_feed bs ≡ take at bs) × (length (take at bs) ≡ at)
feed-found bs {at} e =
    let f = before-feed bs in
    ⊎_elim (λ x. there f.0 x.0 x.1) (λ x. absurd (nowhere x.1)) f.1
  where
    there : up_to_feed bs ≡ take (before bs) bs → has_feed bs ≡ true → before bs < length bs →
        (has_feed bs ≡ true) × (up_to_feed bs ≡ take at bs) × (length (take at bs) ≡ at)
    there u h l =
        let z : Some (before bs) ≡ Some at = rw (lt-ltb (before bs) (length bs) l) at e in
        let same : before bs ≡ at = cc in
        (h, u ∙ ap (λ (n : ℕ). take n bs) same, length-take-le at bs (omega (arith, same)))

    nowhere : before bs ≡ length bs → ⊥
    nowhere q =
        let z : None ≡ Some at = rw (le-ltb (before bs) (length bs) (omega (arith, q))) at e in
        let zero-one : ◌≡◌ {A = ℕ} 0 1 = cc in
        omega (arith, zero-one)

pub feed-none : (bs : List ℕ) → position (λ b. b == line_feed) bs ≡ None → (has_feed bs ≡ false) × (up_to_feed bs ≡ bs)
feed-none bs e =
    let f = before-feed bs in
    ⊎_elim (λ x. absurd (somewhere x.1)) (λ x. (x.0, f.0 ∙ take_all (before bs) bs (omega (arith, x.1)))) f.1
  where
    somewhere : before bs < length bs → ⊥
    somewhere l =
        let z : Some (before bs) ≡ None = rw (lt-ltb (before bs) (length bs) l) at e in
        let zero-one : ◌≡◌ {A = ℕ} 0 1 = cc in
        omega (arith, zero-one)

-- a piece from a place on, as it is lent
pub rest-is : (piece : List ℕ) (from : ℕ) → take (length piece - from) (drop from piece) ≡ drop from piece
rest-is piece from = take_all (length piece - from) (drop from piece) (omega (arith, length-drop from piece))

-- what a line has room for
pub fitting-front : (held : ℕ) (more : List ℕ) → take (min (length more) (kept_limit - held)) more ≡ fitting held more
fitting-front held more = by (leb (length more) (kept_limit - held)) refl
  where
    by : (b : Bool) → leb (length more) (kept_limit - held) ≡ b → take (min (length more) (kept_limit - held)) more ≡ fitting held more
    by true e =
        let h = leb-true (length more) (kept_limit - held) e in
        take_all _ more (omega arith) ∙ sym (take_all (kept_limit - held) more (omega arith))
    by false e =
        let h = leb-false (length more) (kept_limit - held) e in
        ap (λ (n : ℕ). take n more) (omega arith)

pub gathered-is : (rest bs : List ℕ) (from held : ℕ) (old : List ℕ) {new : List ℕ} {w : Bool} {up : List ℕ} {next kept : ℕ} → rest ≡ bs →
    (has_feed rest ≡ w) × (up_to_feed rest ≡ up) →
    next ≡ line_end w (from + length up) → kept ≡ held + length (fitting held up) → new ≡ splice old held (fitting held up) →
    (◌≡◌ {A = Gathered} (record { next = next; held = kept; whole = w }) (gathered bs from held))
    × (new ≡ splice old held (fitting held (up_to_feed bs)))
gathered-is rest bs from held old e (f, u) n k l =
    let f' : has_feed bs ≡ _ = ap has_feed (sym e) ∙ f in
    let u' : up_to_feed bs ≡ _ = ap up_to_feed (sym e) ∙ u in
    (rw (f', u', n, k) refl, rw u' l)
