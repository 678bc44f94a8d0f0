-- One call of `gather` is what the reader does up to the next line feed: a program that calls it again and again finds the reader's
-- lines.
use Prim.Native.Nat.{ℕ, suc, ◌+◌, ◌-◌, ◌≤◌, ◌<◌}
use mathlib.Core.Bool.{Bool, true, false}
use mathlib.Core.List.{List, [], ◌∷◌, ◌++◌, append_assoc, append-nil}
use mathlib.Core.Path.{◌≡◌, refl, sym, ap, ◌∙◌}
use native.Mathlib.Omega.{arith}
use lib.Dec.{eqb}
use lib.ListN.{length, take, drop, length-append, length-take, length-drop}
use lib.Seq.{length-take-le, take_all, take-append-add, take_at, drop-drop}
use Rattle.model.specs.Run.{line_feed}
use Rattle.laws.specs.Area.{splice}
use Rattle.laws.proofs.Area.{length-splice}
use Rattle.pieces.specs.declared.Gathered.{Gathered}
use Rattle.pieces.specs.Line.{up_to_feed, has_feed, kept_limit, cut, fitting, line_end, gathered}
use Rattle.pieces.specs.Pieces.{feed, line_then}
use Rattle.pieces.proofs.Pieces.{cut-front}

-- the reader up to the next line feed
feed-line : (line bs : List ℕ) → feed (cut line) bs ≡ line_then (has_feed bs) (cut (line ++ up_to_feed bs)) (drop (suc (length (up_to_feed bs))) bs)
unfolding feed has_feed up_to_feed
feed-line line [] = ap (λ (l : List ℕ). line_then false (cut l) []) (sym (append-nil line))
feed-line line (b ∷ bs) = by (feed-line (line ++ (b ∷ [])) bs) (eqb b line_feed) refl
  where
    by : feed (cut (line ++ (b ∷ []))) bs
        ≡ line_then (has_feed bs) (cut ((line ++ (b ∷ [])) ++ up_to_feed bs)) (drop (suc (length (up_to_feed bs))) bs) →
        (t : Bool) → eqb b line_feed ≡ t →
        feed (cut line) (b ∷ bs)
        ≡ line_then (has_feed (b ∷ bs)) (cut (line ++ up_to_feed (b ∷ bs))) (drop (suc (length (up_to_feed (b ∷ bs)))) (b ∷ bs))
    by behind true e = rw e (ap (λ (l : List ℕ). line_then true (cut l) bs) (sym (append-nil line)))
    by behind false e =
        rw e
        (ap (λ (l : List ℕ). feed l bs) (cut-front line (b ∷ []))
        ∙ behind
        ∙ ap (λ (l : List ℕ). line_then (has_feed bs) (cut l) (drop (suc (length (up_to_feed bs))) bs)) (append_assoc line (b ∷ []) (up_to_feed bs)))

-- a line with further bytes, cut: the line, and of the bytes those that fit
cut-more : (held : ℕ) (line more : List ℕ) → length line ≡ held → held ≤ kept_limit → cut (line ++ more) ≡ line ++ fitting held more
cut-more held line more e h =
    let n : kept_limit ≡ length line + (kept_limit - held) = omega arith in
    ap (λ (k : ℕ). take k (line ++ more)) n ∙ take-append-add line more (kept_limit - held)

-- bytes written, with what stands before them
take-written : (old : List ℕ) (at : ℕ) (ws : List ℕ) → at ≤ length old → take (at + length ws) (splice old at ws) ≡ take at old ++ ws
unfolding splice
take-written old at ws h =
    ap (take (at + length ws)) (sym (append_assoc (take at old) ws (drop (at + length ws) old)))
    ∙ take_at (take at old ++ ws) (drop (at + length ws) old) (at + length ws)
    (omega (arith, length-append (take at old) ws, length-take-le at old h))

-- how far a line goes: never behind the bytes, and on where there are any
line-within : (bs : List ℕ) → line_end (has_feed bs) (length (up_to_feed bs)) ≤ length bs
unfolding has_feed up_to_feed
line-within [] = omega arith
line-within (b ∷ bs) = by (line-within bs) (eqb b line_feed) refl
  where
    more : (w : Bool) (n k : ℕ) → line_end w n ≤ k → line_end w (suc n) ≤ suc k
    more true n k h = omega arith
    more false n k h = omega arith

    by : line_end (has_feed bs) (length (up_to_feed bs)) ≤ length bs → (t : Bool) → eqb b line_feed ≡ t →
        line_end (has_feed (b ∷ bs)) (length (up_to_feed (b ∷ bs))) ≤ length (b ∷ bs)
    by behind true e = rw e (omega arith)
    by behind false e = rw e (more (has_feed bs) (length (up_to_feed bs)) (length bs) behind)

line_on : (bs : List ℕ) → 0 < length bs → 0 < line_end (has_feed bs) (length (up_to_feed bs))
unfolding has_feed up_to_feed
line_on [] h = absurd (omega arith)
line_on (b ∷ bs) h = by (eqb b line_feed) refl
  where
    more : (w : Bool) (n : ℕ) → 0 < line_end w (suc n)
    more true n = omega arith
    more false n = omega arith

    by : (t : Bool) → eqb b line_feed ≡ t → 0 < line_end (has_feed (b ∷ bs)) (length (up_to_feed (b ∷ bs)))
    by true e = rw e (omega arith)
    by false e = rw e (more (has_feed bs) (length (up_to_feed bs)))

end-from : (w : Bool) (from n : ℕ) → line_end w (from + n) ≡ from + line_end w n
end-from true from n = omega arith
end-from false from n = refl

-- the bytes behind a line feed, counted from the piece's start
behind-feed : (w : Bool) (line piece : List ℕ) (from n : ℕ) →
    line_then w line (drop (suc n) (drop from piece)) ≡ line_then w line (drop (line_end w (from + n)) piece)
behind-feed true line piece from n =
    let e : from + suc n ≡ from + n + 1 = omega arith in
    ap (line_then true line) (drop-drop (suc n) from piece ∙ ap (λ (k : ℕ). drop k piece) e)
behind-feed false line piece from n = refl

-- What a call gives that meets the contract of `gather`.
module _ (piece old new : List ℕ) (from held : ℕ) (g : Gathered) (room : held ≤ kept_limit) (long : length old ≡ kept_limit)
    (result : g ≡ gathered (drop from piece) from held)
    (line : new ≡ splice old held (fitting held (up_to_feed (drop from piece)))) where
  abbrev bs : List ℕ
  bs = drop from piece

  -- the line's bytes, the bytes left, and how the reader goes on
  pub gather-feeds : feed (take held old) bs ≡ line_then g.whole (take g.held new) (drop g.next piece)
  gather-feeds =
      let up = up_to_feed bs in
      let kept = take held old in
      let count : length kept ≡ held = length-take-le held old (omega arith) in
      let uncut : cut kept ≡ kept = take_all kept_limit kept (omega arith) in
      let all : cut (kept ++ up) ≡ take (held + length (fitting held up)) (splice old held (fitting held up)) =
      cut-more held kept up count room ∙ sym (take-written old held (fitting held up) (omega arith)) in
      rw (result, line)
      (ap (λ (l : List ℕ). feed l bs) (sym uncut)
      ∙ feed-line kept bs
      ∙ ap (λ (l : List ℕ). line_then (has_feed bs) l (drop (suc (length up)) bs)) all
      ∙ behind-feed (has_feed bs) (take (held + length (fitting held up)) (splice old held (fitting held up))) piece from (length up))

  pub gather-held : g.held ≤ kept_limit
  gather-held = omega (arith, ap (λ (x : Gathered). x.held) result, length-take (kept_limit - held) (up_to_feed bs))

  pub gather-length : length new ≡ kept_limit
  gather-length = ap length line ∙ length-splice old held (fitting held (up_to_feed bs)) (omega (arith, length-take (kept_limit - held) (up_to_feed bs))) ∙ long

  next-is : g.next ≡ from + line_end (has_feed bs) (length (up_to_feed bs))
  next-is = ap (λ (x : Gathered). x.next) result ∙ end-from (has_feed bs) from (length (up_to_feed bs))

  pub gather-within : from ≤ length piece → g.next ≤ length piece
  gather-within h = omega (arith, next-is, line-within bs, length-drop from piece)

  pub gather-on : from < length piece → from < g.next
  gather-on h = omega (arith, next-is, line_on bs (omega (arith, length-drop from piece)))
