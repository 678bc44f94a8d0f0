-- What the contract of `read_on` says: where to read on, that the tables hold a state again, that the line is no longer than it may be, and
-- that what is printed stands in the room.
use Rattle.std.specs.declared.ops.ControlFlow.TheVariants.{Continue, Break}
use Prim.Native.Nat.{ℕ, suc, ◌≤◌, ◌<◌}
use mathlib.Core.Bool.{Bool, true, false}
use mathlib.Core.List.{List}
use mathlib.Core.Path.{◌≡◌, refl, sym, ap, subst}
use native.Mathlib.Omega.{arith}
use lib.ListN.{length, drop, take, length-take}
use Rattle.model.specs.Frame.{line_bytes}
use Rattle.model.specs.Run.{State, Turn, go, stop, line_turn}
use Rattle.pieces.specs.declared.Gathered.{Gathered}
use Rattle.pieces.specs.Line.{kept_limit, gathered}
use Rattle.pieces.proofs.Reading.{gather-held, gather-length, gather-within, gather-on}
use Rattle.frames.specs.declared.Counts.{Counts}
use Rattle.frames.specs.declared.Store.{Store}
use Rattle.frames.specs.State.{Stands, Running}
use Rattle.frames.specs.Step.{TurnIs}
use Rattle.reader.specs.declared.Place.{Place}
use Rattle.reader.specs.Reading.{Advance}
use Rattle.reader.specs.Reading.{kept_line, AdvanceIs, within_line}
use Rattle.reader.proofs.Left.{place_in, next_of, count_of}

module _ (line : List ℕ) (u : Store) where
  -- a line that was taken: its tables hold the next state, and its text stands in the room
  taken-running : (t : Turn) (at : ℕ) (k : Counts) (n : ℕ) → TurnIs t at (Continue (k, n)) u →
      Running k u × (n ≤ length u.room)
  taken-running (go out s) at k n (l, w, h) = (record { state = s; stands = h }, omega (arith, l, ap length w, length-take n u.room))
  taken-running (stop m) at k n h = absurd h

  ended-within : (t : Turn) (at n : ℕ) → TurnIs t at (Break n) u → n ≤ length u.room
  ended-within (go out s) at n h = absurd h
  ended-within (stop m) at n (l, w) = omega (arith, l, ap length w, length-take n u.room)

  module _ (p : Place) (g : Gathered) (s : State) where
    abbrev Is : Bool → Advance → Type 0
    Is b r = AdvanceIs b g p s r line u

    pub goes-next : (b : Bool) (q : Place) (to n : ℕ) → Is b (Continue (q, to, n)) → to ≡ g.next
    goes-next false q to n z = ap next_of z.0
    goes-next true q to n z = z.0

    pub goes-held : (b : Bool) (q : Place) (to n : ℕ) → g.held ≤ kept_limit → Is b (Continue (q, to, n)) → q.held ≤ kept_limit
    goes-held false q to n h z = omega (arith, ap (λ (x : Place). x.held) (ap (λ (r : Advance). place_in r p) z.0))
    goes-held true q to n h z = omega (arith, ap (λ (x : Place). x.held) z.1)

    pub goes-running : (b : Bool) (q : Place) (to n : ℕ) → Is b (Continue (q, to, n)) → Running q.counts u × (n ≤ length u.room)
    goes-running false q to n z =
        let same : q ≡ within_line p g.held = ap (λ (r : Advance). place_in r p) z.0 in
        let none : n ≡ 0 = ap count_of z.0 in
        (record { state = s; stands = subst (λ (x : Place). Stands x.counts u s) (sym same) z.1 }, omega (arith, none))
    goes-running true q to n z = taken-running (line_turn s p.line (line_bytes (take g.held line))) p.line q.counts n z.2

    pub stops-within : (b : Bool) (n : ℕ) → Is b (Break n) → n ≤ length u.room
    stops-within false n z = let e : suc n ≡ 0 = ap count_of z.0 in absurd (omega arith)
    stops-within true n z = ended-within (line_turn s p.line (line_bytes (take g.held line))) p.line n z

-- what is gathered of a piece
module _ (old piece : List ℕ) (from held : ℕ) (room : held ≤ kept_limit) (long : length old ≡ kept_limit) where
  abbrev g : Gathered
  g = gathered (drop from piece) from held

  pub kept-held : g.held ≤ kept_limit
  kept-held = gather-held piece old (kept_line old held piece from) from held g room long refl refl

  pub kept-length : length (kept_line old held piece from) ≡ kept_limit
  kept-length = gather-length piece old (kept_line old held piece from) from held g room long refl refl

  pub kept-within : from ≤ length piece → g.next ≤ length piece
  kept-within h = gather-within piece old (kept_line old held piece from) from held g room long refl refl h

  pub kept_on : from < length piece → from < g.next
  kept_on h = gather-on piece old (kept_line old held piece from) from held g room long refl refl h
