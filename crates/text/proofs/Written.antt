-- One term written: what stands in front and what is still to be written, by the words left and the stack, is the term's text.
use Prim.Native.Nat.{ℕ, ◌+◌, ◌-◌, ◌≤◌, ◌<◌}
use native.Mathlib.Omega.{arith}
use mathlib.Core.Path.{◌≡◌, sym, ap, ap₂, subst, ◌∙◌}
use mathlib.Core.List.{List, [], ◌++◌, append_assoc}
use lib.ListN.{length, take, drop, replicate, length-append, length-replicate, drop_of_length-le}
use lib.Seq.{length-take-le, drop-length}
use Rattle.model.specs.Limits.{child_limit, flat_words}
use Rattle.terms.specs.declared.TreeNode.{TreeNode}
use Rattle.terms.specs.Place.{node_of}
use Rattle.terms.proofs.Walk.{drop-node}
use Rattle.laws.specs.Area.{splice}
use Rattle.text.specs.Nodes.{head_of, opened, Fine}
use Rattle.text.specs.Writing.{closing, shut, left, space, less, Ready, emit, Holds}
use Rattle.text.proofs.Emitted.{emit-long, left-ready}
use Rattle.text.proofs.Sized.{fine-room, fine-node}
use Rattle.text.proofs.Stacked.{holds-now, holds-close}

pub record Writing (ws text room : List ℕ) (pos at top : ℕ) : Type 0 where
  pub fine : Fine (drop pos ws)
  pub apart : at ≤ top
  pub inside : top ≤ length room
  pub long : length room ≡ length text
  pub is : take at room ++ emit (drop pos ws) (drop top room) ≡ text

pub writing-none : (ws room : List ℕ) → Fine ws → length room ≡ length (emit ws []) → Writing ws (emit ws []) room 0 0 (length room)
writing-none ws room f e =
    record { fine = f; apart = omega arith; inside = omega arith; long = e; is = ap (emit ws) (drop-length room) }

regroup : (a b c d e : List ℕ) → ((a ++ b) ++ (c ++ d)) ++ e ≡ a ++ (b ++ (c ++ (d ++ e)))
regroup a b c d e = simp append_assoc

-- a node: brackets are closed, and it is begun
module _ {ws text room : List ℕ} {pos at top : ℕ} (h : Writing ws text room pos at top) (l : pos < length ws) where
  st : List ℕ
  st = drop top room

  n : TreeNode
  n = node_of ws pos

  rest : List ℕ
  rest = emit (drop (pos + flat_words) ws) (opened n.count n.mark (less (left st)))

  turned : take at room ++ (shut st ++ (space (left st) ++ (head_of n ++ rest))) ≡ text
  unfolding emit st n rest
  turned =
      ap (λ (x : List ℕ). take at room ++ emit x (drop top room)) (sym (drop-node ws pos (fine-room ws pos h.fine l))) ∙ h.is

  sizes : at + length (shut st) + length (space (left st)) + length (head_of n) + length rest ≡ length text
  sizes =
      omega (
        arith,
        ap length turned,
        length-append (take at room) (shut st ++ (space (left st) ++ (head_of n ++ rest))),
        length-append (shut st) (space (left st) ++ (head_of n ++ rest)),
        length-append (space (left st)) (head_of n ++ rest),
        length-append (head_of n) rest,
        length-take-le at room (omega (arith, h.apart, h.inside)),
      )

  module _ {room' : List ℕ} {k : ℕ} (e : k ≡ length (shut (drop top room))) (q : room' ≡ splice room at (shut (drop top room)))
      (kept : length room' ≡ length room) where
    closed : Holds room' (at + k) (top + k) (take at room ++ shut st) (left st)
    unfolding st
    closed = holds-close (holds-now room at top h.apart h.inside) e q

    pub turn-apart : (at + k ≤ top + k) × (top + k ≤ length room')
    turn-apart = (closed.apart, closed.inside)

    pub turn-ready : Ready (drop (top + k) room')
    turn-ready = subst Ready (sym closed.stack) (left-ready st)

    module _ {d : TreeNode} (f : d ≡ node_of ws pos) where
      pub turn-few : d.count ≤ child_limit
      turn-few = subst (λ (x : TreeNode). x.count ≤ child_limit) (sym f) (fine-node ws pos h.fine l).0

      fits : at + k + length (space (left st)) + length (head_of n) + length (opened n.count n.mark (less (left st))) ≤ length room'
      unfolding rest st
      fits =
          omega (arith, sizes, e, kept, h.long, emit-long (drop (pos + flat_words) ws) (opened n.count n.mark (less (left st))))

      pub turn-fits : at + k + length (space (drop (top + k) room')) + length (head_of d) + length (opened d.count d.mark (less (drop (top + k) room'))) ≤ length room'
      unfolding n
      turn-fits =
          subst (λ (s : List ℕ). at + k + length (space s) + length (head_of d) + length (opened d.count d.mark (less s)) ≤ length room')
          (sym closed.stack)
          (subst (λ (x : TreeNode). at + k + length (space (left st)) + length (head_of x) + length (opened x.count x.mark (less (left st))) ≤ length room')
          (sym f) fits)

      pub turn : {room'' : List ℕ} {at'' top'' : ℕ} → length room'' ≡ length room' →
          Holds room'' at'' top'' (take (at + k) room' ++ (space (drop (top + k) room') ++ head_of d)) (opened d.count d.mark (less (drop (top + k) room'))) →
          Writing ws text room'' (pos + flat_words) at'' top''
      unfolding n rest
      turn {room''} {at''} {top''} kept'' g =
          let ws' = drop (pos + flat_words) ws in
          record {
            fine = (fine-node ws pos h.fine l).1;
            apart = g.apart;
            inside = g.inside;
            long = kept'' ∙ kept ∙ h.long;
            is = ap₂ (λ (a b : List ℕ). a ++ emit ws' b) g.front g.stack
                ∙ ap₂ (λ (a s : List ℕ). (a ++ (space s ++ head_of d)) ++ emit ws' (opened d.count d.mark (less s))) closed.front closed.stack
                ∙ ap (λ (x : TreeNode). ((take at room ++ shut st) ++ (space (left st) ++ head_of x)) ++ emit ws' (opened x.count x.mark (less (left st)))) f
                ∙ regroup (take at room) (shut st) (space (left st)) (head_of n) rest
                ∙ turned;
          }

-- the end: the brackets that are still open
pub writing-all : {ws text room : List ℕ} {pos at top : ℕ} → Writing ws text room pos at top → length ws ≤ pos →
    take at room ++ replicate (length room - at) closing ≡ text
unfolding emit
writing-all {ws} {text} {room} {pos} {at} {top} h l =
    let s : take at room ++ replicate (length (drop top room)) closing ≡ text =
    ap (λ (x : List ℕ). take at room ++ emit x (drop top room)) (sym (drop_of_length-le ws l)) ∙ h.is in
    let e : length room - at ≡ length (drop top room) =
    omega (
      arith,
      ap length s,
      length-append (take at room) (replicate (length (drop top room)) closing),
      length-replicate (length (drop top room)) closing,
      length-take-le at room (omega (arith, h.apart, h.inside)),
      h.long,
      h.apart,
      h.inside,
    ) in
    ap (λ (k : ℕ). take at room ++ replicate k closing) e ∙ s
