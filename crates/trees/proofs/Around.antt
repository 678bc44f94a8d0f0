-- Rows of terms between the same words: one row behind another, the last of them, nothing around, a child's run within its node, their
-- length, and the same without marks.
use Prim.Native.Nat.{ℕ, suc, ◌+◌, ◌*◌}
use native.Mathlib.Omega.{arith}
use native.Mathlib.Nat.{suc-mul}
use mathlib.Core.List.{List, [], ◌∷◌, ◌++◌, append_assoc, append-nil}
use mathlib.Core.Path.{◌≡◌, refl, ap, ap₂, sym, ◌∙◌}
use lib.ListN.{length, length-append}
use Rattle.model.specs.Limits.{flat_words}
use Rattle.model.specs.Term.{Mark, unmarked, Terms, no_terms, tree, Term, one, count, join, strip, words, size, mark_word, rule_word}
use Rattle.model.specs.Flat.{within}
use Rattle.terms.proofs.Rows.{count-join, words-join, length-words}
use Rattle.trees.specs.Area.{around, WholeNodes, bare}
use Rattle.trees.proofs.Bare.{bare-append, bare-words, whole_words}

assoc4 : (a b c d e : List ℕ) → (a ++ (b ++ (c ++ d))) ++ e ≡ a ++ (b ++ (c ++ (d ++ e)))
assoc4 a b c d e =
    append_assoc a (b ++ (c ++ d)) e
    ∙ ap (λ (x : List ℕ). a ++ x) (append_assoc b (c ++ d) e ∙ ap (λ (x : List ℕ). b ++ x) (append_assoc c d e))

pub around-join : (pre post : List ℕ) (f g : Terms) → around pre post (join f g) ≡ around pre post f ++ around pre post g
unfolding around join
around-join pre post no_terms g = refl
around-join pre post (tree o m k s) g =
    let a = words (tree o m k no_terms) in
    ap (λ (x : List ℕ). pre ++ (a ++ (post ++ x))) (around-join pre post s g)
    ∙ sym (assoc4 pre a post (around pre post s) (around pre post g))

pub around-one : (pre post : List ℕ) (t : Term) → around pre post (one t) ≡ pre ++ (words (one t) ++ post)
unfolding around
around-one pre post t = ap (λ (x : List ℕ). pre ++ (words (one t) ++ x)) (append-nil post)

-- the last term of a row
pub around-last : (pre post : List ℕ) (f : Terms) (t : Term) →
    around pre post (join f (one t)) ≡ around pre post f ++ (pre ++ (words (one t) ++ post))
around-last pre post f t =
    around-join pre post f (one t) ∙ ap (λ (x : List ℕ). around pre post f ++ x) (around-one pre post t)

-- a term's words, and those of the row behind it
head : (o : ℕ) (m : Mark) (k s : Terms) → words (tree o m k no_terms) ++ words s ≡ words (tree o m k s)
unfolding words
head o m k s = ap (λ (x : List ℕ). o ∷ count k ∷ mark_word m ∷ rule_word m ∷ (x ++ words s)) (append-nil (words k))

pub around-none : (f : Terms) → around [] [] f ≡ words f
unfolding around words
around-none no_terms = refl
around-none (tree o m k s) = ap (λ (x : List ℕ). words (tree o m k no_terms) ++ x) (around-none s) ∙ head o m k s

-- the root's four words, and the children before
abbrev pub root_words : ℕ → Terms → Terms → List ℕ
root_words o before behind = o ∷ (count before + suc (count behind)) ∷ 0 ∷ 0 ∷ words before

root-spelled : (o : ℕ) (before behind : Terms) (p : ℕ) (m : Mark) (k : Terms) (rest : List ℕ) →
    words (tree o unmarked (join before (tree p m k behind)) no_terms) ++ rest
    ≡ root_words o before behind ++ (words (tree p m k no_terms) ++ (words behind ++ rest))
unfolding words count
root-spelled o before behind p m k rest =
    let t = tree p m k behind in
    let kids = join before t in
    ap (λ (n : ℕ). o ∷ n ∷ 0 ∷ 0 ∷ ((words kids ++ []) ++ rest)) (count-join before t)
    ∙ ap (λ (x : List ℕ). o ∷ (count before + suc (count behind)) ∷ 0 ∷ 0 ∷ x)
    (ap (λ (x : List ℕ). x ++ rest) (append-nil (words kids) ∙ words-join before t)
    ∙ append_assoc (words before) (words t) rest
    ∙ ap (λ (x : List ℕ). words before ++ x)
    (ap (λ (x : List ℕ). x ++ rest) (sym (head p m k behind)) ∙ append_assoc (words (tree p m k no_terms)) (words behind) rest))

pub around-within : (pre post : List ℕ) (o : ℕ) (before behind f : Terms) →
    around pre post (within o before behind f) ≡ around (pre ++ root_words o before behind) (words behind ++ post) f
unfolding around within
around-within pre post o before behind no_terms = refl
around-within pre post o before behind (tree p m k s) =
    let a = words (tree p m k no_terms) in
    let b = words behind in
    let r = root_words o before behind in
    let x = around (pre ++ r) (b ++ post) s in
    ap (λ (y : List ℕ). pre ++ (words (tree o unmarked (join before (tree p m k behind)) no_terms) ++ (post ++ y))) (around-within pre post o before behind s)
    ∙ ap (λ (y : List ℕ). pre ++ y) (root-spelled o before behind p m k (post ++ x))
    ∙ sym (append_assoc pre r (a ++ (b ++ (post ++ x))))
    ∙ ap (λ (y : List ℕ). (pre ++ r) ++ (a ++ y)) (sym (append_assoc b post x))

pub length-around : (pre post : List ℕ) (f : Terms) →
    length (around pre post f) ≡ count f * (length pre + length post) + flat_words * size f
unfolding around count size
length-around pre post no_terms = omega arith
length-around pre post (tree o m k s) =
    let t = words (tree o m k no_terms) in
    let rest = around pre post s in
    omega (
      arith,
      length-append pre (t ++ (post ++ rest)),
      length-append t (post ++ rest),
      length-append post rest,
      length-words (tree o m k no_terms),
      length-around pre post s,
      suc-mul (count s) (length pre + length post),
    )

-- without marks
pub bare-around : (pre post : List ℕ) (f : Terms) → WholeNodes (length pre) → WholeNodes (length post) →
    bare (around pre post f) ≡ around (bare pre) (bare post) (strip f)
unfolding around strip bare
bare-around pre post no_terms h g = refl
bare-around pre post (tree o m k s) h g =
    let t = tree o m k no_terms in
    bare-append pre (words t ++ (post ++ around pre post s)) h
    ∙ ap (λ (x : List ℕ). bare pre ++ x)
    (bare-append (words t) (post ++ around pre post s) (whole_words t)
    ∙ ap₂ ◌++◌ (bare-words t) (bare-append post (around pre post s) g ∙ ap (λ (x : List ℕ). bare post ++ x) (bare-around pre post s h g)))
