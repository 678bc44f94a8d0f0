-- The table of sizes, filled in the order of node numbers, and sums over a node's children by a table.
use Prim.Native.Nat.{ℕ, zero, suc, ◌+◌, ◌-◌, ◌*◌, ◌/◌, ◌≤◌, ◌<◌, min}
use native.Mathlib.Omega.{arith}
use native.Mathlib.Decide.{ℕ_discrete}
use native.Mathlib.Nat.{zero-add, add-zero, suc-mul}
use native.Mathlib.Numerals.{add-one}
use mathlib.Core.Path.{◌≡◌, refl, sym, ap, ap₂, subst, ◌∙◌}
use mathlib.Core.List.{List}
use lib.ListN.{length, get_or, set, drop, length-set}
use lib.Seq.{drop-nil, get_or-set_same, get_or-set_other}
use Rattle.model.specs.Limits.{flat_words, word_limit}
use Rattle.model.specs.Node.{Node}
use Rattle.model.specs.Tables.{words_from, node_words, children_at}
use Rattle.model.specs.Flat.{sum, size_of}
use Rattle.entries.specs.Nodes.{nodes_of, NodesWhole, count_in, children_in}
use Rattle.entries.proofs.Children.{left, left-all, left-next, left-none}
use Rattle.trees.specs.Sizes.{node_cap, held_nodes, table_bound, filled_sizes, Sized}
use Rattle.trees.proofs.Planted.{size_is}

pub length-filled : (ns : List Node) (n : ℕ) (old : List ℕ) → length (filled_sizes ns n old) ≡ length old
unfolding filled_sizes
length-filled ns zero old = refl
length-filled ns (suc n) old = simp length-set (length-filled ns n old)

pub filled-sized : (ns : List Node) (n : ℕ) (old : List ℕ) → n ≤ length old → Sized ns (filled_sizes ns n old) n
unfolding filled_sizes
filled-sized ns zero old h = record { each = λ a q. absurd (omega arith) }
filled-sized ns (suc n) old h =
    record {
      each = λ a q. elim (ℕ_discrete a n) [
        | yes e ↦ rw e (get_or-set_same (filled_sizes ns n old) n (held_nodes (size_of ns n)) 0 (omega (arith, length-filled ns n old)))
        | no e ↦
            get_or-set_other (filled_sizes ns n old) n a (held_nodes (size_of ns n)) 0 e
            ∙ (filled-sized ns n old (omega arith)).each a (omega arith)
      ];
    }

pub filled_none : (ns : List Node) (old : List ℕ) → old ≡ filled_sizes ns 0 old
unfolding filled_sizes
filled_none ns old = refl

pub filled_more : (ns : List Node) (n : ℕ) (old : List ℕ) {v : ℕ} → v ≡ held_nodes (size_of ns n) →
    set (filled_sizes ns n old) n v ≡ filled_sizes ns (n + 1) old
unfolding filled_sizes
filled_more ns n old e = rw (add-one, e) refl

-- what is left of a run of words from the i-th on
pub drop-words : (ws : List ℕ) (at n i : ℕ) → drop i (words_from ws at n) ≡ left ws at n i
unfolding words_from
drop-words ws at n zero = sym (left-all ws at n)
drop-words ws at zero (suc i) = drop-nil (suc i) ∙ sym (left-none ws at 0 (suc i) (omega arith))
drop-words ws at (suc n) (suc i) =
    let p : suc at + i ≡ at + suc i = omega arith in
    let q : n - i ≡ suc n - suc i = omega arith in
    drop-words ws (suc at) n i ∙ ap₂ (words_from ws) p q

-- a sum over the words of a run from the i-th on, of which those before the k-th are added
pub record Summed (f : ℕ → ℕ) (ws : List ℕ) (at n i so_far k : ℕ) : Type 0 where
  pub rest : so_far + sum f (left ws at n k) ≡ sum f (drop i (words_from ws at n))
  pub small : so_far ≤ table_bound * min k n

pub summed-none : (f : ℕ → ℕ) (ws : List ℕ) (at n i : ℕ) → Summed f ws at n i 0 i
summed-none f ws at n i = record { rest = zero-add _ ∙ ap (sum f) (sym (drop-words ws at n i)); small = omega arith }

module _ {f : ℕ → ℕ} {ws : List ℕ} {at n i so_far k : ℕ} (s : Summed f ws at n i so_far k) where
  pub summed-more : {v : ℕ} → k < n → v ≡ f (get_or ws (at + k) 0) → v < table_bound → Summed f ws at n i (so_far + v) (k + 1)
  unfolding sum
  summed-more h e g =
      record { rest = omega (arith, ap (sum f) (left-next ws at n k h), s.rest, e); small = omega (arith, s.small) }

  pub summed-all : n ≤ k → so_far ≡ sum f (drop i (words_from ws at n))
  unfolding sum
  summed-all h = omega (arith, ap (sum f) (left-none ws at n k h), s.rest)

-- sums over children below a node, by the table: each is there, and the sum is held as it would be
sum-held : (f g : ℕ → ℕ) (n : ℕ) → ((a : ℕ) → a < n → f a ≡ held_nodes (g a)) → (ws : List ℕ) (at k : ℕ) →
    ((i : ℕ) → i < k → get_or ws (at + i) 0 < n) → held_nodes (sum f (words_from ws at k)) ≡ held_nodes (sum g (words_from ws at k))
unfolding sum words_from
sum-held f g n h ws at zero b = refl
sum-held f g n h ws at (suc k) b =
    let e : at + 0 ≡ at = add-zero at in
    let low : get_or ws at 0 < n = rw e at (b 0 (omega arith)) in
    let next = sum-held f g n h ws (suc at) k (λ i q. subst (λ (p : ℕ). get_or ws p 0 < n) (omega arith) (b (suc i) (omega arith))) in
    omega (arith, next, h (get_or ws at 0) low)

-- a node's size by the sizes of those before it
pub size-held : (nodes : List ℕ) (good : NodesWhole nodes) (n : ℕ) → n < length nodes / node_words → (sizes : List ℕ) →
    Sized (nodes_of nodes) sizes n →
    held_nodes (1 + sum (λ k. get_or sizes k 0) (drop 0 (children_in nodes n))) ≡ held_nodes (size_of (nodes_of nodes) n)
size-held nodes good n h sizes s =
    omega (
      arith,
      size_is nodes good n h,
      sum-held (λ k. get_or sizes k 0) (size_of (nodes_of nodes)) n s.each nodes (n * node_words + children_at) (count_in nodes n)
          (λ i q. good.stand.lower n i h q),
    )

-- Sizes by the table are exact where the words are within the limit, and nowhere above the cap.
pub sized-exact : {ns : List Node} {sizes : List ℕ} {n : ℕ} → Sized ns sizes n → (a : ℕ) → a < n → flat_words * size_of ns a ≤ word_limit →
    get_or sizes a 0 ≡ size_of ns a
sized-exact s a h l = omega (arith, s.each a h)

pub sized-small : {ns : List Node} {sizes : List ℕ} {n : ℕ} → Sized ns sizes n → (a : ℕ) → a < n → get_or sizes a 0 ≤ node_cap
sized-small s a h = omega (arith, s.each a h)

-- holding first changes no held sum or product
pub held-sum : (a b : ℕ) → held_nodes (held_nodes a + held_nodes b) ≡ held_nodes (a + b)
held-sum a b = omega arith

pub held-times : (d a : ℕ) → held_nodes (d * held_nodes a) ≡ held_nodes (d * a)
held-times zero a = omega arith
held-times (suc d) a = omega (arith, held-times d a, suc-mul d a, suc-mul d (held_nodes a))
