-- The bytes of a text counted node by node, and held against a limit.
use Prim.Native.Nat.{ℕ, ◌+◌, ◌-◌, ◌≤◌, ◌<◌}
use native.Mathlib.Omega.{arith}
use mathlib.Core.Path.{◌≡◌, refl, sym, ap, ◌∙◌}
use mathlib.Core.Bool.{Bool, true, false}
use mathlib.Core.List.{List, [], ◌∷◌}
use borrow.Author.Tests.{lt-ltb, le-ltb, ltb-true, ltb-false}
use lib.Dec.{ltb}
use lib.ListN.{length, drop, length-drop, drop_of_length-le}
use Rattle.model.specs.Limits.{child_limit, flat_words}
use Rattle.terms.specs.declared.TreeNode.{TreeNode}
use Rattle.terms.specs.Place.{node_of}
use Rattle.terms.proofs.Walk.{drop-node}
use Rattle.std.proofs.Common.{Some, None}
use Rattle.text.specs.Nodes.{node_len, text_len, fit_by, fit_of, Fine}

-- fine words that are not at their end have a node, with few children and fine words behind it
fine-long : (l : List ℕ) → Fine l → 0 < length l → flat_words ≤ length l
unfolding Fine
fine-long [] f h = absurd (omega arith)
fine-long (o ∷ []) f h = absurd f
fine-long (o ∷ c ∷ []) f h = absurd f
fine-long (o ∷ c ∷ m ∷ []) f h = absurd f
fine-long (o ∷ c ∷ m ∷ r ∷ l) f h = omega arith

module _ (ws : List ℕ) (pos : ℕ) (fine : Fine (drop pos ws)) (h : pos < length ws) where
  pub fine-room : pos + flat_words ≤ length ws
  fine-room = omega (arith, fine-long (drop pos ws) fine (omega (arith, length-drop pos ws)), length-drop pos ws)

  pub fine-node : ((node_of ws pos).count ≤ child_limit) × Fine (drop (pos + flat_words) ws)
  unfolding Fine
  fine-node = rw (drop-node ws pos fine-room) at fine

-- behind the last whole node there is nothing
pub fine-end : (ws : List ℕ) (pos : ℕ) → Fine (drop pos ws) → length ws < pos + flat_words → length ws ≤ pos
fine-end ws pos f h = go (ltb pos (length ws)) refl
  where
    go : (b : Bool) → ltb pos (length ws) ≡ b → length ws ≤ pos
    go true e = omega (arith, fine-room ws pos f (ltb-true pos (length ws) e))
    go false e = ltb-false pos (length ws) e

-- the bytes counted so far, and those left
pub record Sizing (ws : List ℕ) (limit used before pos : ℕ) : Type 0 where
  pub held : used ≤ limit
  pub first : before ≤ 1
  pub fine : Fine (drop pos ws)
  pub sum : used + text_len before (drop pos ws) ≡ text_len 0 ws

pub sizing-none : (ws : List ℕ) (limit : ℕ) → Fine ws → Sizing ws limit 0 0 0
sizing-none ws limit f = record { held = omega arith; first = omega arith; fine = f; sum = omega arith }

module _ {ws : List ℕ} {limit used before pos : ℕ} (s : Sizing ws limit used before pos) where
  module _ (h : pos < length ws) where
    counted : text_len before (drop pos ws)
        ≡ before + node_len (node_of ws pos).op.0 (node_of ws pos).count (node_of ws pos).mark (node_of ws pos).rule.0
        + text_len 1 (drop (pos + flat_words) ws)
    unfolding text_len
    counted = ap (text_len before) (drop-node ws pos (fine-room ws pos s.fine h))

    module _ {d : TreeNode} {len : ℕ} (is : d ≡ node_of ws pos) (e : len ≡ node_len d.op.0 d.count d.mark d.rule.0) where
      found : len ≡ node_len (node_of ws pos).op.0 (node_of ws pos).count (node_of ws pos).mark (node_of ws pos).rule.0
      found = e ∙ ap (λ (x : TreeNode). node_len x.op.0 x.count x.mark x.rule.0) is

      pub sizing-more : before + len ≤ limit - used → Sizing ws limit (used + (before + len)) 1 (pos + flat_words)
      sizing-more q =
          record {
            held = omega (arith, s.held);
            first = omega arith;
            fine = (fine-node ws pos s.fine h).1;
            sum = omega (arith, s.sum, counted, found);
          }

      pub sizing-beyond : limit - used < before + len → None ≡ fit_of (text_len 0 ws) limit
      sizing-beyond q =
          sym (ap (λ (b : _). fit_by b (text_len 0 ws)) (lt-ltb limit (text_len 0 ws) (omega (arith, s.sum, s.held, counted, found))))

  pub sizing-all : length ws ≤ pos → Some used ≡ fit_of (text_len 0 ws) limit
  unfolding text_len
  sizing-all h =
      let n : used ≡ text_len 0 ws = omega (arith, s.sum, ap (text_len before) (drop_of_length-le ws h)) in
      ap Some n ∙ sym (ap (λ (b : _). fit_by b (text_len 0 ws)) (le-ltb limit (text_len 0 ws) (omega (arith, s.held))))
