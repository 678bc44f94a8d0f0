-- THE PROGRAM PRINTS THE OUTPUT OF ITS INPUT: whatever meets the contracts of `read_on` and of the end, called again and again over the
-- pieces that the input comes in, prints exactly `output` of the input and comes to its `outcome`.
use Rattle.std.specs.declared.ops.ControlFlow.TheVariants.{Continue, Break}
use Prim.Native.Nat.{ℕ, suc, ◌+◌, ◌≤◌, ◌<◌}
use mathlib.Core.Bool.{Bool, true, false, ◌||◌, true≢false}
use mathlib.Core.List.{List, [], ◌∷◌, ◌++◌}
use mathlib.Core.Path.{◌≡◌, refl, sym, ap, ap₂, subst, ◌∙◌}
use native.Mathlib.Omega.{arith}
use lib.ListN.{length, take, drop, length-append}
use lib.Seq.{length-take-le}
use Rattle.model.specs.Frame.{line_bytes}
use Rattle.model.specs.Run.{State, start, line_turn, at_end, run, output, InputLines}
use Rattle.pieces.specs.declared.Gathered.{Gathered}
use Rattle.pieces.specs.Line.{kept_limit, up_to_feed, line_end, gathered}
use Rattle.pieces.specs.Pieces.{lines_then, feed, feed_all, together}
use Rattle.pieces.proofs.Pieces.{any-split}
use Rattle.frames.specs.declared.Counts.{Counts}
use Rattle.frames.specs.declared.Store.{Store}
use Rattle.frames.specs.Step.{end_text}
use Rattle.frames.specs.State.{Stands}
use Rattle.frames.proofs.Runs.{at-start, end_is, stopped, gone}
use Rattle.reader.specs.declared.Place.{Place}
use Rattle.reader.specs.Reading.{Advance}
use Rattle.reader.specs.Reading.{last_line, kept_line, within_line, says_no, AdvanceIs}
use Rattle.reader.specs.Fold.{Prints, ends, piece-on, stops, goes, at_first, came_to, end_status}
use Rattle.reader.specs.Status.{status, outcome}
use Rattle.reader.proofs.Left.{left, no_more, feed-here, Few, within, still, left-line, left_open, place_in, next_of, count_of}
use Rattle.reader.proofs.Status.{status-none, status-stopped, status-gone, any-status}

-- what is printed, and what the run comes to
pub record Came : Type 0 where
  pub out : List ℕ
  pub digit : ℕ

abbrev both : List ℕ → ℕ → Came
both out digit = record { out = out; digit = digit }

abbrev came : State → ℕ → Bool → InputLines → Came
came s line bad p = both (run s line p.whole p.rest) (status s line bad p.whole p.rest)

run_none : (s : State) (line : ℕ) (rest : List ℕ) → at_end s line rest ≡ run s line [] rest
unfolding run
run_none s line rest = refl

abbrev is_stop : Advance → Bool
is_stop (Continue (q, next, n)) = false
is_stop (Break n) = true

-- one call of `read_on`, in all that
module _ (p : Place) (line piece : List ℕ) (from : ℕ) (room : p.held ≤ kept_limit) (long : length line ≡ kept_limit) (more : List (List ℕ)) (s : State)
    (u : Store) where
  abbrev k : Gathered
  k = gathered (drop from piece) from p.held

  abbrev new : List ℕ
  new = kept_line line p.held piece from

  abbrev Is : Bool → Advance → Type 0
  Is b r = AdvanceIs b k p s r new u

  abbrev all : Came
  all = came s p.line p.refused (left line p.held piece from more)

  -- this line, and those behind it
  abbrev first : List ℕ
  first = take k.held new

  abbrev others : InputLines
  others = left new 0 piece k.next more

  by-line : k.whole ≡ true → {x : Came} → x ≡ came s p.line p.refused (lines_then (first ∷ []) others) → x ≡ all
  by-line e z = z ∙ ap (came s p.line p.refused) (sym (left-line line piece from p.held room long more e))

  pub on-stop : (n : ℕ) (b : Bool) → k.whole ≡ b → Is b (Break n) → both (take n u.room) 2 ≡ all
  on-stop n false e z = absurd (true≢false (ap is_stop z.0))
  on-stop n true e z =
      let t = line_turn s p.line (line_bytes first) in
      by-line e (ap₂ both (stopped s p.line first _ _ n u t refl z) (status-stopped s p.line p.refused first _ _ n u t refl z))

  -- what the lines behind this one are to give
  abbrev Behind : Counts → ℕ → Bool → Came → Type 0
  Behind c at bad x = (s' : State) → Stands c u s' → x ≡ came s' at bad others

  on_line : (q : Place) (next n : ℕ) (out : List ℕ) (to : ℕ) → k.whole ≡ true → Is true (Continue (q, next, n)) →
      Behind q.counts (suc p.line) (p.refused || says_no n u.room) (both out to) → both (take n u.room ++ out) to ≡ all
  on_line q next n out to e z f =
      let t = line_turn s p.line (line_bytes first) in
      by-line e
      (ap₂ both (gone s p.line first _ _ q.counts n u out t refl z.2 (λ s' h. ap (λ (x : Came). x.out) (f s' h)))
      (status-gone s p.line p.refused first _ _ q.counts n u to t refl z.2 (λ s' h. ap (λ (x : Came). x.digit) (f s' h))))

  -- what the rest of the program gives
  abbrev Rest : Place → ℕ → Came → Type 0
  Rest q next x =
      (s' : State) → Stands q.counts u s' → q.held ≤ kept_limit → length new ≡ kept_limit → Few q.line piece next more →
      x ≡ came s' q.line q.refused (left new q.held piece next more)

  pub on-goes : (q : Place) (next n : ℕ) (out : List ℕ) (to : ℕ) → Few p.line piece from more → Rest q next (both out to) → (b : Bool) → k.whole ≡ b →
      Is b (Continue (q, next, n)) → both (take n u.room ++ out) to ≡ all
  on-goes q next n out to few f true e z =
      let here = feed-here piece from e in
      let at : q.line ≡ suc p.line = ap (λ (x : Place). x.line) z.1 ∙ omega arith in
      let none : q.held ≡ 0 = ap (λ (x : Place). x.held) z.1 in
      let bad : q.refused ≡ (p.refused || says_no n u.room) = ap (λ (x : Place). x.refused) z.1 in
      let on : from < next = omega (arith, z.0, ap (λ (b : Bool). line_end b (from + length (up_to_feed (drop from piece)))) e) in
      on_line q next n out to e z
      (λ s' h. f s' h (omega arith) (still line piece from p.held room long more) (omega arith)
      ∙ ap₂ (λ (x y : ℕ). came s' x q.refused (left new y piece next more)) at none
      ∙ ap₂ (λ (b : Bool) (x : ℕ). came s' (suc p.line) b (left new 0 piece x more)) bad z.0)
  on-goes q next n out to few f false e z =
      let same : q ≡ within_line p k.held = ap (λ (r : Advance). place_in r p) z.0 in
      let fits : q.held ≤ kept_limit = omega (arith, ap (λ (x : Place). x.held) same, within line piece from p.held room long more) in
      let text-none : take n u.room ≡ [] = ap (λ (x : ℕ). take x u.room) (ap count_of z.0) in
      let on : from ≤ next = omega (arith, ap next_of z.0, ap (λ (b : Bool). line_end b (from + length (up_to_feed (drop from piece)))) e) in
      let at : q.line ≡ p.line = ap (λ (x : Place). x.line) same in
      ap (λ (l : List ℕ). both (l ++ out) to) text-none
      ∙ f s (subst (λ (x : Place). Stands x.counts u s) (sym same) z.1) fits (still line piece from p.held room long more) (omega arith)
      ∙ ap₂ (λ (x : Place) (y : ℕ). came s x.line x.refused (left new x.held piece y more)) same (ap next_of z.0)
      ∙ ap (came s p.line p.refused) (sym (left_open line piece from p.held room long more e))

-- the end of the input
end-came : (p : Place) (t : Store) (line : List ℕ) (s : State) → Stands p.counts t s → p.held ≤ kept_limit → length line ≡ kept_limit →
    both (end_text p.counts.kind p.line p.held) (end_status p) ≡ both (run s p.line [] (take p.held line)) (status s p.line p.refused [] (take p.held line))
end-came p t line s h held long =
    let rest = take p.held line in
    let n : length rest ≡ p.held = length-take-le p.held line (omega arith) in
    let text : end_text p.counts.kind p.line p.held ≡ at_end s p.line rest =
    ap (λ (k : ℕ). end_text p.counts.kind p.line k) (sym n) ∙ end_is s p.counts.kind p.line rest h.kind in
    ap₂ both (text ∙ run_none s p.line rest) (ap (λ (l : List ℕ). came_to l p.refused) text ∙ status-none s p.line p.refused rest)

pub prints-run : {p : Place} {t : Store} {line piece out : List ℕ} {from to : ℕ} {more : List (List ℕ)} → Prints p t line piece from more out to →
    (s : State) → Stands p.counts t s → p.held ≤ kept_limit → length line ≡ kept_limit → Few p.line piece from more →
    both out to ≡ came s p.line p.refused (left line p.held piece from more)
unfolding feed_all feed together
prints-run {p} {t} {line} {piece} ends s h held long few = rw (no_more piece) (end-came p t line s h held long)
prints-run {p} {t} {line} {piece} (piece-on {next = next} {more = more} r) s h held long few =
    rw (no_more piece) (prints-run r s h held long (omega (arith, length-append next (together more))))
prints-run {p} {t} {line} {piece} {from = from} {more = more} (stops n u a) s h held long few =
    on-stop p line piece from held long more s u n (gathered (drop from piece) from p.held).whole refl (a s h)
prints-run {p} {t} {line} {piece} {from = from} {more = more} (goes q next n u a r) s h held long few =
    on-goes p line piece from held long more s u q next n _ _ few (λ s' h' x y z. prints-run r s' h' x y z)
    (gathered (drop from piece) from p.held).whole refl (a s h)

-- and so over any pieces, from the start
module _ (t : Store) (line : List ℕ) (pieces : List (List ℕ)) {out : List ℕ} {to : ℕ} (long : length line ≡ kept_limit)
    (few : length (together pieces) < last_line) (r : Prints at_first t line [] 0 pieces out to) where
  whole_run : both out to ≡ came start 1 false (feed_all [] pieces)
  unfolding feed_all feed
  whole_run = prints-run r start (at-start t) (omega arith) long (omega arith)

  pub prints-output : out ≡ output (together pieces)
  prints-output = ap (λ (x : Came). x.out) whole_run ∙ any-split pieces

  pub prints-status : to ≡ outcome (together pieces)
  prints-status = ap (λ (x : Came). x.digit) whole_run ∙ any-status pieces
