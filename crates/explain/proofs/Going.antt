-- The program's step: what is printed stands in the room, the tables hold a state again, and the piece is read on behind where it was.
use Prim.Native.Nat.{ℕ, ◌+◌, ◌≤◌, ◌<◌}
use mathlib.Core.List.{List}
use mathlib.Core.Logic.{⊎_elim, inl, inr}
use mathlib.Core.Path.{◌≡◌, refl, sym, ap, subst}
use native.Mathlib.Omega.{arith}
use lib.ListN.{length, drop, length-append}
use Rattle.std.specs.declared.ops.ControlFlow.{ControlFlow}
use Rattle.std.specs.declared.ops.ControlFlow.TheVariants.{Continue, Break}
use Rattle.model.specs.Run.{start}
use Rattle.pieces.specs.declared.Gathered.{Gathered}
use Rattle.pieces.specs.Line.{kept_limit, gathered}
use Rattle.laws.specs.Area.{splice}
use Rattle.frames.specs.State.{text_room}
use Rattle.frames.specs.Step.{end_text}
use Rattle.frames.specs.declared.Store.{Store}
use Rattle.frames.proofs.Runs.{at-start}
use Rattle.reader.specs.declared.Place.{Place}
use Rattle.reader.specs.Reading.{Advance}
use Rattle.reader.specs.Reading.{Advanced}
use Rattle.reader.specs.Fold.{at_first}
use Rattle.reader.proofs.Going.{goes-next, goes-held, goes-running, stops-within, kept-held, kept-within, kept_on}
use Rattle.explain.specs.declared.input.Outcome.{Outcome}
use Rattle.explain.specs.declared.input.Outcome.TheVariants.{Stopped, Trouble}
use Rattle.explain.specs.Reading.{Ready, Fits, Shown, Step}

-- an answer that is written, or not
pub shown-on : {a : Advance} {q : Place} {to n : ℕ} → a ≡ Continue (q, to, n) → Shown a (Continue (q, to))
shown-on {a} {q} {to} {n} e = subst (λ (x : Advance). Shown x (Continue (q, to))) (sym e) (inl refl)

pub shown-end : {a : Advance} {n : ℕ} → a ≡ Break n → Shown a (Break Stopped)
shown-end {a} {n} e = subst (λ (x : Advance). Shown x (Break Stopped)) (sym e) (inl refl)

pub shown-trouble : {a b : Advance} → a ≡ b → Shown a (Break Trouble)
shown-trouble {a} {b} e = by a
  where
    by : (x : Advance) → Shown x (Break Trouble)
    by (Continue (q, to, n)) = inr refl
    by (Break n) = inr refl

-- `read_on` has answered
module _ (p : Place) (t : Store) (piece : List ℕ) (from : ℕ) (line : List ℕ) (u : Store) (r : Ready p t) where
  abbrev Is : Advance → Type 0
  Is a = Advanced p t piece from a line u

  abbrev Then : ControlFlow Outcome (Place × ℕ) → Type 0
  Then x = Step p t piece from x line u

  abbrev g : Gathered
  g = gathered (drop from piece) from p.held

  pub fits : (a : Advance) → Is a → Fits a u.room
  fits (Continue (q, to, n)) h =
      let s = r.running in
      (goes-running line u p g s.state g.whole q to n (h s.state s.stands)).1
  fits (Break n) h =
      let s = r.running in
      stops-within line u p g s.state g.whole n (h s.state s.stands)

  pub stepped : (a : Advance) (x : ControlFlow Outcome (Place × ℕ)) → Is a → Shown a x → Then x
  stepped (Continue (q, to, n)) x h w = ⊎_elim (λ e. subst Then (sym e) (record { count = n; is = h })) (λ e. subst Then (sym e) (inl refl)) w
  stepped (Break n) x h w = ⊎_elim (λ e. subst Then (sym e) (inr (refl, record { count = n; is = h }))) (λ e. subst Then (sym e) (inl refl)) w

  -- it goes on
  module _ (old : List ℕ) (long : length old ≡ kept_limit) (q : Place) (to n : ℕ) (h : Is (Continue (q, to, n))) where
    pub ready_on : Ready q u
    ready_on =
        let s = r.running in
        let z = h s.state s.stands in
        record {
          running = (goes-running line u p g s.state g.whole q to n z).0;
          held = goes-held line u p g s.state g.whole q to n (kept-held old piece from p.held r.held long) z;
        }

    next-is : to ≡ g.next
    next-is =
        let s = r.running in
        goes-next line u p g s.state g.whole q to n (h s.state s.stands)

    pub within_on : from ≤ length piece → to ≤ length piece
    within_on w = omega (arith, next-is, kept-within old piece from p.held r.held long w)

    pub farther-on : from < length piece → from < to
    farther-on w = omega (arith, next-is, kept_on old piece from p.held r.held long w)

-- what the end of the input prints stands in the room
pub end-within : (kind line held : ℕ) (old new : List ℕ) (n : ℕ) → n ≡ length (end_text kind line held) → new ≡ splice old 0 (end_text kind line held) →
    length old ≡ text_room → n ≤ length new
unfolding splice
end-within kind line held old new n e w h =
    let text = end_text kind line held in
    omega (arith, e, ap length w, length-append text (drop (0 + length text) old))

-- before the first byte any store is ready
pub ready-first : (t : Store) (p : Place) → p ≡ at_first → Ready p t
ready-first t p e = subst (λ (x : Place). Ready x t) (sym e) (record { running = record { state = start; stands = at-start t }; held = omega arith })
