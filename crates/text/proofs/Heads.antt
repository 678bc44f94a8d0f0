-- What a node writes, by the cases that the code goes by.
use Prim.Native.Nat.{ℕ, zero, suc, ◌+◌, ◌≤◌, ◌<◌}
use native.Mathlib.Omega.{arith}
use mathlib.Core.Path.{◌≡◌, refl, ap}
use mathlib.Core.List.{List, [], ◌∷◌, ◌++◌, append_assoc}
use lib.ListN.{length, length-append}
use Rattle.model.specs.declared.Direction.TheVariants.{Forward, Backward}
use Rattle.model.specs.Text.{bytes, digits, mark_name}
use Rattle.letters.proofs.Digits.{few-digits, all_digits}
use Rattle.text.specs.Nodes.{mark_by, mark_head, bracket, operator, head, pushed, opened, node_len}
use Rattle.text.proofs.Counted.{mark-length, operator-length}

-- a mark by its word
pub mark-none : {m : ℕ} (r : ℕ) → m ≡ 0 → mark_head m r ≡ []
mark-none r e = rw e refl

pub mark-forward : {m : ℕ} (r : ℕ) → m ≡ 1 → mark_head m r ≡ mark_by (mark_name Forward) r
mark-forward r e = rw e refl

pub mark-backward : (m r : ℕ) → (m ≡ 0 → ⊥) → (m ≡ 1 → ⊥) → mark_head m r ≡ mark_by (mark_name Backward) r
mark-backward zero r f g = absurd (f refl)
mark-backward (suc zero) r f g = absurd (g refl)
mark-backward (suc (suc m)) r f g = refl

-- a bracket by the count
pub bracket-none : {c : ℕ} → c ≡ 0 → bracket c ≡ []
bracket-none e = rw e refl

pub bracket-some : (c : ℕ) → (c ≡ 0 → ⊥) → bracket c ≡ bytes "("
bracket-some zero f = absurd (f refl)
bracket-some (suc c) f = refl

pub pushed_none : {k : ℕ} (n : ℕ) → k ≡ 0 → pushed k n ≡ []
pushed_none n e = rw e refl

pub pushed-some : (k n : ℕ) → (k ≡ 0 → ⊥) → pushed k n ≡ n ∷ []
pushed-some zero n f = absurd (f refl)
pushed-some (suc k) n f = refl

-- how many bytes: a mark, and a node
pub no-mark-length : {m : ℕ} (r : ℕ) → m ≡ 0 → 0 ≡ length (mark_head m r) + length (pushed m 0)
no-mark-length r e = rw e refl

pub some-mark-length : (m r : ℕ) → (m ≡ 0 → ⊥) → 14 + length (digits r) ≡ length (mark_head m r) + length (pushed m 0)
unfolding bytes
some-mark-length zero r f = absurd (f refl)
some-mark-length (suc zero) r f = omega (arith, mark-length (mark_name Forward) r)
some-mark-length (suc (suc m)) r f = omega (arith, mark-length (mark_name Backward) r)

pub mark-few : (m r : ℕ) → r < 65536 → length (mark_head m r) + length (pushed m 0) ≤ 19
mark-few zero r h = omega arith
mark-few (suc m) r h = omega (arith, some-mark-length (suc m) r (λ e. omega arith), few-digits 4 r (omega arith))

node-parts : (o c m r : ℕ) →
    node_len o c m r
    ≡ length (mark_head m r) + length (pushed m 0) + 1 + length (digits o) + (length (bracket c) + length (pushed c c))
unfolding node_len head
node-parts o c m r =
    omega (
      arith,
      length-append (mark_head m r) (bracket c ++ operator o),
      length-append (bracket c) (operator o),
      operator-length o,
      length-append (pushed c c) (pushed m 0 ++ []),
      length-append (pushed m 0) [],
    )

pub leaf-length : (o : ℕ) {c : ℕ} (m r : ℕ) → c ≡ 0 → node_len o c m r ≡ length (mark_head m r) + length (pushed m 0) + 1 + length (digits o)
leaf-length o {c} m r e =
    omega (arith, node-parts o c m r, ap length (bracket-none e), ap length (pushed_none c e))

pub branch-length : (o c m r : ℕ) → (c ≡ 0 → ⊥) → node_len o c m r ≡ length (mark_head m r) + length (pushed m 0) + 1 + length (digits o) + 2
unfolding bytes
branch-length o c m r f =
    omega (arith, node-parts o c m r, ap length (bracket-some c f), ap length (pushed-some c c f))

bracket-few : (c : ℕ) → length (bracket c) + length (pushed c c) ≤ 2
unfolding bytes
bracket-few zero = omega arith
bracket-few (suc c) = omega arith

-- a node has at most 27 bytes, and a space before it
pub node-few : (o c m r : ℕ) → o < 65536 → r < 65536 → node_len o c m r ≤ 27
node-few o c m r h g = omega (arith, node-parts o c m r, mark-few m r g, few-digits 4 o (omega arith), bracket-few c)

-- and never so many that a sum of a few wraps
pub mark-short : (m r : ℕ) → length (mark_head m r) + length (pushed m 0) ≤ 34
mark-short zero r = omega arith
mark-short (suc m) r = omega (arith, some-mark-length (suc m) r (λ e. omega arith), all_digits r)

pub node-short : (o c m r : ℕ) → node_len o c m r ≤ 57
node-short o c m r = omega (arith, node-parts o c m r, mark-short m r, all_digits o, bracket-few c)

-- what the code puts one behind another
pub mark-regroup : (a b c d e : List ℕ) → (((a ++ b) ++ c) ++ d) ++ e ≡ a ++ (b ++ (c ++ (d ++ e)))
mark-regroup a b c d e = simp append_assoc

pub head-regroup : (a b c d : List ℕ) → ((a ++ b) ++ c) ++ d ≡ a ++ (b ++ (c ++ d))
head-regroup a b c d = simp append_assoc

pub head-length : (o c m r : ℕ) → length (head o c m r) ≡ length (mark_head m r) + length (bracket c) + 1 + length (digits o)
unfolding head
head-length o c m r =
    omega (arith, length-append (mark_head m r) (bracket c ++ operator o), length-append (bracket c) (operator o), operator-length o)

pub opened-length : (c m : ℕ) (s : List ℕ) → length (opened c m s) ≡ length (pushed c c) + length (pushed m 0) + length s
opened-length c m s = omega (arith, length-append (pushed c c) (pushed m 0 ++ s), length-append (pushed m 0) s)
