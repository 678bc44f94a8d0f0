-- The term of a node: unmarked, of the size that size_of says, and with its children's terms for children.
use Prim.Native.Nat.{ℕ, zero, suc, ◌≤◌, ◌<◌}
use mathlib.Core.Path.{◌≡◌, refl, sym, ap, ap₂, ◌∙◌}
use mathlib.Core.Bool.{Bool, true, false, ◌&&◌, false≢true}
use mathlib.Core.List.{List, [], ◌∷◌}
use native.Mathlib.Omega.{arith}
use borrow.Author.Tests.{ltb-true}
use lib.Dec.{ltb}
use lib.ListN.{length}
use Rattle.model.specs.Term.{unmarked, Terms, no_terms, count, Term, put, one, strip, Narrow, size, marks}
use Rattle.model.specs.Node.{Node, op_of, kids_of, all_below, row, term_by, term_of}
use Rattle.model.specs.Flat.{sum, size_by, size_of}
use Rattle.terms.proofs.Marks.{unmarked-strip}
use Rattle.flat.specs.Nodes.{AcceptedNodes}

-- rows made by one function of each number
module _ (f : ℕ → Term) where
  row-unmarked : ((n : ℕ) → marks (one (f n)) ≡ 0) → (ns : List ℕ) → marks (row f ns) ≡ 0
  unfolding marks row
  row-unmarked h [] = refl
  row-unmarked h (n ∷ ns) = omega (arith, h n, row-unmarked h ns)

  row-size : (g : ℕ → ℕ) → ((n : ℕ) → size (one (f n)) ≡ g n) → (ns : List ℕ) → size (row f ns) ≡ sum g ns
  unfolding size row sum
  row-size g h [] = refl
  row-size g h (n ∷ ns) = omega (arith, h n, row-size g h ns)

  row-narrow : ((n : ℕ) → Narrow (one (f n))) → (ns : List ℕ) → Narrow (row f ns)
  unfolding Narrow row
  row-narrow h [] = tt
  row-narrow h (n ∷ ns) = ((h n).0, (h n).1, row-narrow h ns)

  pub row_count : (ns : List ℕ) → count (row f ns) ≡ length ns
  unfolding count row
  row_count [] = refl
  row_count (n ∷ ns) = ap suc (row_count ns)

module _ (ns : List Node) where
  by-unmarked : (d n : ℕ) → marks (one (term_by ns d n)) ≡ 0
  unfolding marks term_by
  by-unmarked zero n = refl
  by-unmarked (suc d) n = omega (arith, row-unmarked (term_by ns d) (by-unmarked d) (kids_of ns n))

  by_size : (d n : ℕ) → size (one (term_by ns d n)) ≡ size_by ns d n
  unfolding size term_by size_by
  by_size zero n = refl
  by_size (suc d) n = omega (arith, row-size (term_by ns d) (size_by ns d) (by_size d) (kids_of ns n))

  by-op : (d n : ℕ) → (term_by ns d n).op ≡ op_of ns n
  unfolding term_by
  by-op zero n = refl
  by-op (suc d) n = refl

  pub term-op : (n : ℕ) → (term_of ns n).op ≡ op_of ns n
  unfolding term_of
  term-op n = by-op n n

  pub term-unmarked : (n : ℕ) → marks (one (term_of ns n)) ≡ 0
  unfolding term_of
  term-unmarked n = by-unmarked n n

  pub term-strip : (n : ℕ) → strip (one (term_of ns n)) ≡ one (term_of ns n)
  term-strip n = unmarked-strip (one (term_of ns n)) (term-unmarked n)

  pub term-size : (n : ℕ) → size (one (term_of ns n)) ≡ size_of ns n
  unfolding term_of size_of
  term-size n = by_size n n

  pub terms-unmarked : (ks : List ℕ) → marks (row (term_of ns) ks) ≡ 0
  terms-unmarked ks = row-unmarked (term_of ns) term-unmarked ks

  pub terms-size : (ks : List ℕ) → size (row (term_of ns) ks) ≡ sum (size_of ns) ks
  terms-size ks = row-size (term_of ns) (size_of ns) term-size ks

-- children below their node: two functions that agree below it make the same row of them, and below 0 there is none
head-below : (n k : ℕ) (b : Bool) → (ltb k n && b) ≡ true → (k < n) × (b ≡ true)
head-below n k b p = go (ltb k n) refl p
  where
    go : (t : Bool) → ltb k n ≡ t → (t && b) ≡ true → (k < n) × (b ≡ true)
    go true q r = (ltb-true k n q, r)
    go false q r = absurd (false≢true r)

row_same : (f g : ℕ → Term) (n : ℕ) → ((k : ℕ) → k < n → f k ≡ g k) → (ks : List ℕ) → all_below n ks ≡ true → row f ks ≡ row g ks
unfolding row all_below
row_same f g n h [] b = refl
row_same f g n h (k ∷ ks) b =
    let p = head-below n k (all_below n ks) b in ap₂ put (h k p.0) (row_same f g n h ks p.1)

none_below : (f : ℕ → Term) (n : ℕ) → n ≤ 0 → (ks : List ℕ) → all_below n ks ≡ true → row f ks ≡ no_terms
unfolding row all_below
none_below f n z [] b = refl
none_below f n z (k ∷ ks) b = absurd (omega (arith, (head-below n k (all_below n ks) b).0))

module _ (ns : List Node) (nodes : AcceptedNodes ns) where
  abbrev above : ℕ → Terms → Term
  above n k = record { op = op_of ns n; mark = unmarked; kids = k }

  -- as many levels as the node's number are enough
  enough : (d e n : ℕ) → n ≤ d → n ≤ e → term_by ns d n ≡ term_by ns e n
  unfolding term_by
  enough zero zero n p q = refl
  enough zero (suc e) n p q = ap (above n) (sym (none_below (term_by ns e) n p (kids_of ns n) (nodes.below n)))
  enough (suc d) zero n p q = ap (above n) (none_below (term_by ns d) n q (kids_of ns n) (nodes.below n))
  enough (suc d) (suc e) n p q =
      ap (above n)
      (row_same (term_by ns d) (term_by ns e) n (λ k h. enough d e k (omega arith) (omega arith)) (kids_of ns n) (nodes.below n))

  -- "Its term is the tree read through its children"
  pub term_is : (n : ℕ) → term_of ns n ≡ record { op = op_of ns n; mark = unmarked; kids = row (term_of ns) (kids_of ns n) }
  unfolding term_of term_by
  term_is n =
      enough n (suc n) n (omega arith) (omega arith)
      ∙ ap (above n)
      (row_same (term_by ns n) (term_of ns) n (λ k h. enough n k k (omega arith) (omega arith)) (kids_of ns n) (nodes.below n))

  by-narrow : (d n : ℕ) → Narrow (one (term_by ns d n))
  unfolding Narrow term_by count
  by-narrow zero n = (omega arith, tt, tt)
  by-narrow (suc d) n =
      (omega (arith, row_count (term_by ns d) (kids_of ns n), nodes.few n), row-narrow (term_by ns d) (by-narrow d) (kids_of ns n), tt)

  pub term-narrow : (n : ℕ) → Narrow (one (term_of ns n))
  unfolding term_of
  term-narrow n = by-narrow n n

  pub terms-narrow : (ks : List ℕ) → Narrow (row (term_of ns) ks)
  terms-narrow ks = row-narrow (term_of ns) term-narrow ks
