-- A part of an area lent to a call: what was lent, and the area once the call has written there.
use Prim.Native.Nat.{ℕ, ◌+◌, ◌-◌, ◌<◌}
use mathlib.Core.List.{List, ◌++◌}
use mathlib.Core.Path.{◌≡◌, ap, ◌∙◌}
use native.Mathlib.Omega.{arith}
use borrow.Rule.Slice.PartMut.{mid_of, put_mid}
use lib.ListN.{length, take, drop, get_or}
use lib.Seq.{drop-drop, get_or-take, get_or-drop}
use Rattle.laws.specs.Area.{splice, part}

pub lent-part : (old : List ℕ) (at size : ℕ) → mid_of at (at + size - at) old ≡ part old at size
unfolding part
lent-part old at size = let e : at + size - at ≡ size = omega arith in rw e

pub lent_back : (old new : List ℕ) (at size : ℕ) → length new ≡ size → put_mid at (at + size - at) old new ≡ splice old at new
unfolding splice
lent_back old new at size h =
    let e : at + size - at ≡ length new = omega arith in
    ap (λ (k : ℕ). take at old ++ (new ++ drop k (drop at old))) e ∙ ap (λ (l : List ℕ). take at old ++ (new ++ l)) (drop-drop (length new) at old)

-- what stands at a place of a part
pub lent-at : (old : List ℕ) (at size i : ℕ) → i < size → get_or (mid_of at (at + size - at) old) i 0 ≡ get_or old (at + i) 0
lent-at old at size i h = get_or-take (at + size - at) (drop at old) i 0 (omega arith) ∙ get_or-drop at old i 0
