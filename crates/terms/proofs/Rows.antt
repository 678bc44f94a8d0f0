-- Rows of terms one behind the other, and their words.
-- Assumes nothing.
use Prim.Native.Nat.{ℕ, suc, ◌+◌, ◌*◌, ◌≤◌}
use mathlib.Core.List.{List, [], ◌∷◌, ◌++◌, append_assoc, append-nil}
use mathlib.Core.Path.{◌≡◌, refl, ap, sym, ◌∙◌}
use native.Mathlib.Nat.{zero-add, suc-add}
use native.Mathlib.Omega.{arith}
use lib.ListN.{length, length-append}
use Rattle.model.specs.Limits.{flat_words}
use Rattle.model.specs.Term.{Mark, Terms, no_terms, tree, Term, put, one, count, join, strip, stripped, Narrow, words, size, mark_word, rule_word}

pub count-join : (k s : Terms) → count (join k s) ≡ count k + count s
unfolding join count
count-join no_terms s = rw zero-add
count-join (tree o m k r) s = rw (suc-add, count-join r s)

pub count_none : (f : Terms) → count f ≡ 0 → f ≡ no_terms
unfolding count
count_none no_terms h = refl
count_none (tree o m k s) h = absurd (omega arith)

pub size-join : (f g : Terms) → size (join f g) ≡ size f + size g
unfolding size join
size-join no_terms g = omega arith
size-join (tree o m k s) g = omega (arith, size-join s g)

pub words-join : (k s : Terms) → words (join k s) ≡ words k ++ words s
unfolding join words
words-join no_terms s = refl
words-join (tree o m k r) s = rw (words-join r s, append_assoc)

pub narrow-join : (k s : Terms) → Narrow k → Narrow s → Narrow (join k s)
unfolding join Narrow
narrow-join no_terms s g h = h
narrow-join (tree o m k r) s g h = (g.0, g.1, narrow-join r s g.2 h)

pub narrow-parts : (k s : Terms) → Narrow (join k s) → Narrow k × Narrow s
unfolding Narrow join
narrow-parts no_terms s h = (tt, h)
narrow-parts (tree o m k r) s h = let p = narrow-parts r s h.2 in ((h.0, h.1, p.0), p.1)

pub strip-join : (k s : Terms) → strip (join k s) ≡ join (strip k) (strip s)
unfolding join strip
strip-join no_terms s = refl
strip-join (tree o m k r) s = rw (strip-join r s)

pub count-strip : (f : Terms) → count (strip f) ≡ count f
unfolding strip count
count-strip no_terms = refl
count-strip (tree o m k s) = ap suc (count-strip s)

pub strip-strip : (f : Terms) → strip (strip f) ≡ strip f
unfolding strip
strip-strip no_terms = refl
strip-strip (tree o m k s) = rw (strip-strip k, strip-strip s)

pub join-none : (f : Terms) → join f no_terms ≡ f
unfolding join
join-none no_terms = refl
join-none (tree o m k s) = rw (join-none s)

pub join-assoc : (f g h : Terms) → join (join f g) h ≡ join f (join g h)
unfolding join
join-assoc no_terms g h = refl
join-assoc (tree o m k s) g h = rw (join-assoc s g h)

-- rows that begin with as many terms agree in these and in those behind
pub record RowParts (a a' b b' : Terms) : Type 0 where
  pub front : a ≡ a'
  pub back : b ≡ b'

pub join-inj : (a a' b b' : Terms) → count a ≡ count a' → join a b ≡ join a' b' → RowParts a a' b b'
unfolding join count
join-inj no_terms no_terms b b' c e = record { front = refl; back = e }
join-inj no_terms (tree o m k s) b b' c e = absurd (omega arith)
join-inj (tree o m k s) no_terms b b' c e = absurd (omega arith)
join-inj (tree o m k s) (tree o' m' k' s') b b' c e =
    let p : join s b ≡ join s' b' = cc in
    let q = join-inj s s' b b' (omega arith) p in
    let x : o ≡ o' = cc in
    let y : m ≡ m' = cc in
    let z : k ≡ k' = cc in
    record { front = rw (x, y, z, q.front); back = q.back }

-- "four a tree node"
pub length-words : (f : Terms) → length (words f) ≡ flat_words * size f
unfolding words size
length-words no_terms = refl
length-words (tree o m k s) =
    omega (arith, length-append (words k) (words s), length-words k, length-words s)

pub count-size : (f : Terms) → count f ≤ size f
unfolding count size
count-size no_terms = omega arith
count-size (tree o m k s) = omega (arith, count-size s)

pub row_words : (f : Terms) → flat_words * count f ≤ length (words f)
row_words f = omega (arith, count-size f, length-words f)

-- a term has words
pub one-long : (t : Term) → flat_words ≤ length (words (one t))
unfolding words
one-long t = omega arith

-- the first term of a row, and those behind it
pub first-words : (o : ℕ) (m : Mark) (k s : Terms) (rest : List ℕ)
    → words (tree o m k s) ++ rest ≡ words (tree o m k no_terms) ++ (words s ++ rest)
unfolding words
first-words o m k s rest =
    ap (λ (l : List ℕ). o ∷ count k ∷ mark_word m ∷ rule_word m ∷ l)
    (append_assoc (words k) (words s) rest ∙ ap (λ (l : List ℕ). l ++ (words s ++ rest)) (sym (append-nil (words k))))

pub put-words : (t : Term) (s : Terms) → words (put t s) ≡ words (one t) ++ words s
put-words t s =
    sym (append-nil (words (put t s))) ∙ first-words t.op t.mark t.kids s []
    ∙ ap (λ (l : List ℕ). words (one t) ++ l) (append-nil (words s))

-- a row of one is a term
pub record Single (f : Terms) : Type 0 where
  pub term : Term
  pub is : f ≡ one term

pub single : (f : Terms) → count f ≡ 1 → Single f
unfolding count
single no_terms e = absurd (omega arith)
single (tree o m k no_terms) e = record { term = record { op = o; mark = m; kids = k }; is = refl }
single (tree o m k (tree o' m' k' s)) e = absurd (omega arith)

-- terms are equal where their rows of one are
pub one-term : (t u : Term) → one t ≡ one u → t ≡ u
one-term t u e =
    let p : t.op ≡ u.op = cc in
    let q : t.mark ≡ u.mark = cc in
    let r : t.kids ≡ u.kids = cc in
    λ i. record { op = p i; mark = q i; kids = r i }

pub strip-one : (t u : Term) → strip (one t) ≡ strip (one u) → stripped t ≡ stripped u
unfolding strip
strip-one t u e = one-term (stripped t) (stripped u) e
