-- Words without their marks: those of a row of terms are the words of the row without its marks, and whole nodes of them can be taken apart.
use Prim.Native.Nat.{ℕ, suc, ◌+◌, ◌≤◌}
use native.Mathlib.Omega.{arith}
use mathlib.Core.Path.{◌≡◌, refl, sym, ap, ap₂, ◌∙◌}
use mathlib.Core.List.{List, [], ◌∷◌, ◌++◌}
use lib.ListN.{length, get_or, take, drop}
use lib.Seq.{length-take-le}
use Rattle.model.specs.Limits.{flat_words}
use Rattle.model.specs.Term.{Terms, no_terms, tree, one, strip, words}
use Rattle.model.specs.Node.{Node, row, term_of}
use Rattle.terms.proofs.Rows.{count-strip, length-words}
use Rattle.terms.proofs.Marks.{unmarked-strip}
use Rattle.flat.proofs.NodeTerms.{term-strip, terms-unmarked}
use Rattle.laws.specs.Area.{part}
use Rattle.trees.specs.Area.{WholeNodes, bare}
use Rattle.laws.proofs.Area.{length_part, part_none, part-more, part-cons, cut-part, part-middle}

pub length-bare : (ws : List ℕ) → length (bare ws) ≡ length ws
unfolding bare
length-bare [] = refl
length-bare (o ∷ []) = refl
length-bare (o ∷ c ∷ []) = refl
length-bare (o ∷ c ∷ m ∷ []) = refl
length-bare (o ∷ c ∷ m ∷ r ∷ ws) = ap (λ (n : ℕ). suc (suc (suc (suc n)))) (length-bare ws)

pub bare-bare : (ws : List ℕ) → bare (bare ws) ≡ bare ws
unfolding bare
bare-bare [] = refl
bare-bare (o ∷ []) = refl
bare-bare (o ∷ c ∷ []) = refl
bare-bare (o ∷ c ∷ m ∷ []) = refl
bare-bare (o ∷ c ∷ m ∷ r ∷ ws) = ap (λ (l : List ℕ). o ∷ c ∷ 0 ∷ 0 ∷ l) (bare-bare ws)

-- whole nodes, and what stands behind them
pub bare-append : (u v : List ℕ) → WholeNodes (length u) → bare (u ++ v) ≡ bare u ++ bare v
unfolding bare
bare-append [] v h = refl
bare-append (o ∷ []) v h = absurd (omega arith)
bare-append (o ∷ c ∷ []) v h = absurd (omega arith)
bare-append (o ∷ c ∷ m ∷ []) v h = absurd (omega arith)
bare-append (o ∷ c ∷ m ∷ r ∷ u) v h = ap (λ (l : List ℕ). o ∷ c ∷ 0 ∷ 0 ∷ l) (bare-append u v (omega arith))

-- a row's words are whole nodes
pub whole_words : (f : Terms) → WholeNodes (length (words f))
whole_words f = omega (arith, length-words f)

pub bare-words : (f : Terms) → bare (words f) ≡ words (strip f)
unfolding bare words strip
bare-words no_terms = refl
bare-words (tree o m k s) =
    ap₂ (λ (n : ℕ) (l : List ℕ). o ∷ n ∷ 0 ∷ 0 ∷ l) (sym (count-strip k))
    (bare-append (words k) (words s) (whole_words k) ∙ ap₂ ◌++◌ (bare-words k) (bare-words s))

-- terms of nodes have no marks
pub bare-term : (ns : List Node) (n : ℕ) → bare (words (one (term_of ns n))) ≡ words (one (term_of ns n))
bare-term ns n = bare-words (one (term_of ns n)) ∙ ap words (term-strip ns n)

pub bare-terms : (ns : List Node) (ks : List ℕ) → bare (words (row (term_of ns) ks)) ≡ words (row (term_of ns) ks)
bare-terms ns ks = bare-words (row (term_of ns) ks) ∙ ap words (unmarked-strip (row (term_of ns) ks) (terms-unmarked ns ks))

-- a part of whole nodes
pub bare-part : (ws : List ℕ) (at n : ℕ) → at + n ≤ length ws → WholeNodes at → WholeNodes n → bare (part ws at n) ≡ part (bare ws) at n
bare-part ws at n h wa wn =
    let x = take at ws in
    let y = part ws at n in
    let z = drop (at + n) ws in
    let lx : length x ≡ at = length-take-le at ws (omega arith) in
    let ly : length y ≡ n = length_part ws at n h in
    let e : bare ws ≡ bare x ++ (bare y ++ bare z) =
    ap bare (cut-part ws at n)
    ∙ bare-append x (y ++ z) (omega arith)
    ∙ ap (λ (l : List ℕ). bare x ++ l) (bare-append y z (omega arith)) in
    sym (ap (λ (l : List ℕ). part l at n) e ∙ part-middle (bare x) (bare y) (bare z) at n (length-bare x ∙ lx) (length-bare y ∙ ly))

-- one node more
pub bare-more : (ws : List ℕ) (at n : ℕ) → at + n + flat_words ≤ length ws → WholeNodes n →
    bare (part ws at (n + flat_words)) ≡ bare (part ws at n) ++ (get_or ws (at + n) 0 ∷ get_or ws (at + n + 1) 0 ∷ 0 ∷ 0 ∷ [])
unfolding bare
bare-more ws at n h w =
    let p = at + n in
    let four : part ws p flat_words ≡ get_or ws p 0 ∷ get_or ws (p + 1) 0 ∷ get_or ws (p + 1 + 1) 0 ∷ get_or ws (p + 1 + 1 + 1) 0 ∷ [] =
    part-cons ws p 3 (omega arith)
    ∙ ap (λ (l : List ℕ). get_or ws p 0 ∷ l)
    (part-cons ws (p + 1) 2 (omega arith)
    ∙ ap (λ (l : List ℕ). get_or ws (p + 1) 0 ∷ l)
    (part-cons ws (p + 1 + 1) 1 (omega arith)
    ∙ ap (λ (l : List ℕ). get_or ws (p + 1 + 1) 0 ∷ l)
    (part-cons ws (p + 1 + 1 + 1) 0 (omega arith)
    ∙ ap (λ (l : List ℕ). get_or ws (p + 1 + 1 + 1) 0 ∷ l) (part_none ws (p + 1 + 1 + 1 + 1))))) in
    ap bare (part-more ws at n flat_words)
    ∙ bare-append (part ws at n) (part ws p flat_words) (omega (arith, length_part ws at n (omega arith)))
    ∙ ap (λ (l : List ℕ). bare (part ws at n) ++ bare l) four
