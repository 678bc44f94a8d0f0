-- The lines that are still to come, from a place in a piece with pieces behind it, before and behind one call of `read_on`; and what its
-- answer says.
use Rattle.std.specs.declared.ops.ControlFlow.TheVariants.{Continue, Break}
use Prim.Native.Nat.{ℕ, suc, ◌+◌, ◌-◌, ◌≤◌, ◌<◌}
use mathlib.Core.Bool.{Bool, true, false, ◌||◌, true≢false}
use mathlib.Core.List.{List, [], ◌∷◌}
use mathlib.Core.Path.{◌≡◌, refl, sym, ap, ◌∙◌}
use native.Mathlib.Omega.{arith}
use lib.Dec.{eqb}
use lib.ListN.{length, take, drop, drop_of_length-le, length-drop}
use Rattle.model.specs.Run.{line_feed, InputLines}
use Rattle.pieces.specs.declared.Gathered.{Gathered}
use Rattle.pieces.specs.Line.{kept_limit, up_to_feed, has_feed, line_end, gathered}
use Rattle.pieces.specs.Pieces.{lines_then, feed, feed_all, line_then, together}
use Rattle.pieces.proofs.Reading.{gather-feeds, gather-held, gather-length}
use Rattle.reader.specs.declared.Place.{Place}
use Rattle.reader.specs.Reading.{Advance}
use Rattle.reader.specs.Reading.{last_line, kept_line}

-- the lines still to come, and what stands behind the last of them
abbrev pub left : List ℕ → ℕ → List ℕ → ℕ → List (List ℕ) → InputLines
left line held piece from more = feed_all (take held line) (drop from piece ∷ more)

-- a piece that is read to its end
pub no_more : (piece : List ℕ) → drop (length piece) piece ≡ []
no_more piece = drop_of_length-le piece {i = length piece} (omega arith)

-- where no line feed stands, all is passed
all-passed : (bs : List ℕ) → has_feed bs ≡ false → length (up_to_feed bs) ≡ length bs
unfolding has_feed up_to_feed
all-passed [] e = refl
all-passed (b ∷ bs) e = by (all-passed bs) (eqb b line_feed) refl e
  where
    by : (has_feed bs ≡ false → length (up_to_feed bs) ≡ length bs) → (t : Bool) → eqb b line_feed ≡ t → has_feed (b ∷ bs) ≡ false →
        length (up_to_feed (b ∷ bs)) ≡ length (b ∷ bs)
    by f true q z = absurd (true≢false (ap (λ (x : Bool). x || has_feed bs) (sym q) ∙ z))
    by f false q z = rw q (ap suc (f (ap (λ (x : Bool). x || has_feed bs) (sym q) ∙ z)))

-- where a line feed stands, something is left of the piece
some_left : (bs : List ℕ) → has_feed bs ≡ true → 0 < length bs
unfolding has_feed
some_left [] e = absurd (true≢false (sym e))
some_left (b ∷ bs) e = omega arith

pub feed-here : (piece : List ℕ) (from : ℕ) → has_feed (drop from piece) ≡ true → from < length piece
feed-here piece from e = omega (arith, some_left (drop from piece) e, length-drop from piece)

-- Every line passes a byte at least, so with no more bytes left than there are numbers every line has its own.
abbrev pub Few : ℕ → List ℕ → ℕ → List (List ℕ) → Type 0
Few at piece from more = at + (length piece - from) + length (together more) ≤ last_line

-- one call of `gather` in the lines still to come
module _ (line piece : List ℕ) (from held : ℕ) (room : held ≤ kept_limit) (long : length line ≡ kept_limit) (more : List (List ℕ)) where
  abbrev g : Gathered
  g = gathered (drop from piece) from held

  abbrev after : List ℕ
  after = kept_line line held piece from

  feeds : feed (take held line) (drop from piece) ≡ line_then g.whole (take g.held after) (drop g.next piece)
  feeds = gather-feeds piece line after from held g room long refl refl

  pub within : g.held ≤ kept_limit
  within = gather-held piece line after from held g room long refl refl

  pub still : length after ≡ kept_limit
  still = gather-length piece line after from held g room long refl refl

  pub left-line : g.whole ≡ true → left line held piece from more ≡ lines_then (take g.held after ∷ []) (left after 0 piece g.next more)
  unfolding feed_all
  left-line e =
      ap (λ (f : InputLines). lines_then f.whole (feed_all f.rest more)) (feeds ∙ ap (λ (b : Bool). line_then b (take g.held after) (drop g.next piece)) e)

  pub left_open : g.whole ≡ false → left line held piece from more ≡ left after g.held piece g.next more
  unfolding feed_all feed
  left_open e =
      let passed : length piece ≤ g.next = omega (arith, all-passed (drop from piece) e, length-drop from piece, ap (λ (b : Bool). line_end b (from + length (up_to_feed (drop from piece)))) e) in
      let none : drop g.next piece ≡ [] = drop_of_length-le piece {i = g.next} passed in
      ap (λ (f : InputLines). lines_then f.whole (feed_all f.rest more)) (feeds ∙ ap (λ (b : Bool). line_then b (take g.held after) (drop g.next piece)) e)
      ∙ ap (λ (l : List ℕ). feed_all (take g.held after) (l ∷ more)) (sym none)

-- what an answer says
abbrev pub place_in : Advance → Place → Place
place_in (Continue (q, next, n)) p = q
place_in (Break n) p = p

abbrev pub next_of : Advance → ℕ
next_of (Continue (q, next, n)) = next
next_of (Break n) = 0

abbrev pub count_of : Advance → ℕ
count_of (Continue (q, next, n)) = n
count_of (Break n) = suc n
