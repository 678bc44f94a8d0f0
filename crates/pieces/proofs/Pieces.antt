-- A reader that is handed the input in pieces finds the input's lines, each cut, whatever the pieces are; and the program prints for
-- these lines what it prints for the input.
use Prim.Native.Nat.{ℕ, suc, ◌≤◌}
use mathlib.Core.Bool.{Bool, true, false}
use mathlib.Core.List.{List, [], ◌∷◌, ◌++◌, map, append_assoc, append-nil}
use mathlib.Core.Path.{◌≡◌, refl, sym, ap, ◌∙◌}
use native.Mathlib.Omega.{arith}
use lib.Dec.{leb, eqb}
use lib.ListN.{length}
use lib.Seq.{take_all, take-append-le, length-take-le, take-take}
use borrow.Author.Tests.{leb-true, leb-false}
use Rattle.model.specs.Frame.{line_bytes}
use Rattle.model.specs.Refusal.{number}
use Rattle.model.specs.Run.{State, start, Turn, go, stop, line_turn, refusal_text, line_feed, InputLines, line_front, split, at_end, run, output}
use Rattle.hex_lines.proofs.Lines.{cut_line}
use Rattle.pieces.specs.Line.{kept_limit, cut}
use Rattle.pieces.specs.Pieces.{lines_then, feed, feed_all, together, cut_lines}

-- a line is cut the same where its front was cut before
pub cut-front : (x y : List ℕ) → cut (cut x ++ y) ≡ cut (x ++ y)
cut-front x y = by (leb (length x) kept_limit) refl
  where
    by : (t : Bool) → leb (length x) kept_limit ≡ t → cut (cut x ++ y) ≡ cut (x ++ y)
    by true e = ap (λ (l : List ℕ). cut (l ++ y)) (take_all kept_limit x (leb-true (length x) kept_limit e))
    by false e =
        let long : kept_limit ≤ length x = omega (arith, leb-false (length x) kept_limit e) in
        take-append-le kept_limit (cut x) y (omega (arith, length-take-le kept_limit x long))
        ∙ take-take kept_limit kept_limit x (omega arith)
        ∙ sym (take-append-le kept_limit x y long)

-- two pieces one after the other are one
pub feed-append : (line p q : List ℕ) → feed line (p ++ q) ≡ lines_then (feed line p).whole (feed (feed line p).rest q)
unfolding feed
feed-append line [] q = refl
feed-append line (b ∷ p) q = by (λ x. feed-append x p q) (eqb b line_feed) refl
  where
    by : ((x : List ℕ) → feed x (p ++ q) ≡ lines_then (feed x p).whole (feed (feed x p).rest q)) → (t : Bool) → eqb b line_feed ≡ t →
        feed line (b ∷ (p ++ q)) ≡ lines_then (feed line (b ∷ p)).whole (feed (feed line (b ∷ p)).rest q)
    by behind true e = rw e (ap (lines_then (line ∷ [])) (behind []))
    by behind false e = rw e (behind (cut (line ++ (b ∷ []))))

pub feed-together : (line : List ℕ) (ps : List (List ℕ)) → feed_all line ps ≡ feed line (together ps)
unfolding feed_all together feed
feed-together line [] = refl
feed-together line (p ∷ ps) =
    let first = feed line p in
    ap (lines_then first.whole) (feed-together first.rest ps) ∙ sym (feed-append line p (together ps))

-- bytes in front of the first line
abbrev onto : List ℕ → List (List ℕ) → List ℕ → InputLines
onto line [] rest = record { whole = []; rest = line ++ rest }
onto line (l ∷ ls) rest = record { whole = (line ++ l) ∷ ls; rest = rest }

onto-none : (ls : List (List ℕ)) (rest : List ℕ) → onto [] ls rest ≡ record { whole = ls; rest = rest }
onto-none [] rest = refl
onto-none (l ∷ ls) rest = refl

onto-byte : (line : List ℕ) (b : ℕ) (ls : List (List ℕ)) (rest : List ℕ) →
    onto (line ++ (b ∷ [])) ls rest ≡ onto line (line_front b ls rest).whole (line_front b ls rest).rest
onto-byte line b [] rest = ap (λ (l : List ℕ). record { whole = []; rest = l }) (append_assoc line (b ∷ []) rest)
onto-byte line b (l ∷ ls) rest = ap (λ (x : List ℕ). record { whole = x ∷ ls; rest = rest }) (append_assoc line (b ∷ []) l)

-- what a piece gives at an open line: the piece's lines, the first of them behind what was open
feed-split : (line bs : List ℕ) → feed (cut line) bs ≡ cut_lines (onto line (split bs).whole (split bs).rest)
unfolding feed split
feed-split line [] = ap (λ (l : List ℕ). record { whole = []; rest = cut l }) (sym (append-nil line))
feed-split line (b ∷ bs) = by (λ x. feed-split x bs) (eqb b line_feed) refl
  where
    by : ((x : List ℕ) → feed (cut x) bs ≡ cut_lines (onto x (split bs).whole (split bs).rest)) → (t : Bool) → eqb b line_feed ≡ t →
        feed (cut line) (b ∷ bs) ≡ cut_lines (onto line (split (b ∷ bs)).whole (split (b ∷ bs)).rest)
    by behind true e =
        let p = split bs in
        rw e
        (ap (lines_then (cut line ∷ [])) (behind [] ∙ ap cut_lines (onto-none p.whole p.rest))
        ∙ ap (λ (l : List ℕ). lines_then (cut l ∷ []) (cut_lines p)) (sym (append-nil line)))
    by behind false e =
        let p = split bs in
        rw e
        (ap (λ (l : List ℕ). feed l bs) (cut-front line (b ∷ []))
        ∙ behind (line ++ (b ∷ []))
        ∙ ap cut_lines (onto-byte line b p.whole p.rest))

-- Whatever the pieces are: their lines are the input's lines, each cut.
pub pieces-split : (pieces : List (List ℕ)) → feed_all [] pieces ≡ cut_lines (split (together pieces))
pieces-split pieces =
    let p = split (together pieces) in
    feed-together [] pieces ∙ feed-split [] (together pieces) ∙ ap cut_lines (onto-none p.whole p.rest)

-- The program looks only at the bytes that a line spells, and behind the last line feed only at whether there is anything.
end-cut : (s : State) (l : ℕ) (rest : List ℕ) → at_end s l (cut rest) ≡ at_end s l rest
unfolding at_end
end-cut s l [] = refl
end-cut s l (b ∷ rest) = refl

pub run-cut : (s : State) (l : ℕ) (lines : List (List ℕ)) (rest : List ℕ) → run s l (map cut lines) (cut rest) ≡ run s l lines rest
unfolding run
run-cut s l [] rest = end-cut s l rest
run-cut s l (x ∷ xs) rest = rw (cut_line x, run) (by (λ s'. run-cut s' (suc l) xs rest) (line_turn s l (line_bytes x)))
  where
    by : ((s' : State) → run s' (suc l) (map cut xs) (cut rest) ≡ run s' (suc l) xs rest) → (t : Turn) →
        ◌≡◌ {A = List ℕ}
        (elim t [ go out s' ↦ out ++ run s' (suc l) (map cut xs) (cut rest) | stop r ↦ refusal_text (number r) l ])
        (elim t [ go out s' ↦ out ++ run s' (suc l) xs rest | stop r ↦ refusal_text (number r) l ])
    by behind (go out s') = ap (λ (o : List ℕ). out ++ o) (behind s')
    by behind (stop r) = refl

-- Whatever pieces the input comes in, the program prints for the lines that the reader finds what it is to print for the input.
pub any-split : (pieces : List (List ℕ)) →
    run start 1 (feed_all [] pieces).whole (feed_all [] pieces).rest ≡ output (together pieces)
unfolding output
any-split pieces =
    let p = split (together pieces) in
    ap (λ (q : InputLines). run start 1 q.whole q.rest) (pieces-split pieces) ∙ run-cut start 1 p.whole p.rest
