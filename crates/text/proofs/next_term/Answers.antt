-- `text::next_term` meets its contract: inside a bracket, and where the term is the whole text.
use native.Mathlib.Omega.{arith}
use Prim.Native.Nat.{ℕ, ◌<◌}
use mathlib.Core.Path.{sym, ap, ◌∙◌}
use mathlib.Core.List.{List}
use lib.ListN.{length, drop, length-set}
use Rattle.model.specs.Text.{bytes}
use Rattle.laws.specs.Area.{splice}
use Rattle.text.specs.Writing.{less}
use Rattle.text.proofs.Filled.{put_as}
use Rattle.text.proofs.Stacked.{next-space, next-ready, next-less, next-none}
use Rattle.text.proofs.next_term.Goals as goal

pub overflow_sub-room : goal.overflow_sub-room
overflow_sub-room c =
    let a = c.args in
    omega (arith, next-ready a.room.now a.at a.top (omega arith) c.requires.2)

pub put-requires : goal.put-requires
unfolding bytes
put-requires c =
    let a = c.args in
    simp length-set (omega (arith, c.requires.0, c.requires.1, ap length (next-space a.room.now a.at a.top (omega arith))))

pub shape_of-room-then-top-room : goal.shape_of-room-then-top-room
shape_of-room-then-top-room c = c.put.auto.room ∙ simp length-set

pub returns-then-top-room : goal.returns-then-top-room
unfolding bytes
returns-then-top-room c =
    let a = c.args in
    let h : a.top < length a.room.now = omega arith in record {
      value = (put_as (splice a.room.now a.top (less (drop a.top a.room.now))) a.at (sym (next-space a.room.now a.at a.top h)) c.put.ensures.value
          (c.put.ensures.room_after ∙ ap (λ (l : List ℕ). splice l a.at (bytes " ")) (next-less a.room.now a.at a.top h))).0;
      room_after = (put_as (splice a.room.now a.top (less (drop a.top a.room.now))) a.at (sym (next-space a.room.now a.at a.top h)) c.put.ensures.value
          (c.put.ensures.room_after ∙ ap (λ (l : List ℕ). splice l a.at (bytes " ")) (next-less a.room.now a.at a.top h))).1;
    }

pub returns : goal.returns
returns c = let a = c.args in record { value = (next-none a.room.now a.at a.top (omega arith)).0; room_after = (next-none a.room.now a.at a.top (omega arith)).1 }
