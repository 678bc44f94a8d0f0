-- The table of classes: where there is no connection, behind one more, and what it tells of joined nodes, of parents and of support.
use Prim.Native.Nat.{ℕ, zero, suc, ◌+◌, ◌*◌, ◌<◌}
use mathlib.Core.Bool.{Bool, false, ◌&&◌}
use mathlib.Core.List.{List, [], ◌∷◌, map}
use mathlib.Core.Path.{◌≡◌, refl, sym, ap, ap₂, ◌∙◌}
use native.Mathlib.Omega.{arith}
use native.Mathlib.Decide.{ℕ_discrete}
use native.Mathlib.Nat.{add-zero}
use lib.ListN.{length, get_or, length-append, length-map, get_or-append}
use lib.Seq.{get_or_at}
use Rattle.model.specs.declared.Connection.{Connection}
use Rattle.model.specs.Term.{same_op}
use Rattle.model.specs.Forest.{cur, nxt, root, joined, Parent, top, below, parent_of, is_top}
use Rattle.model.specs.Connect.{pairs_joined}
use Rattle.model.specs.Tables.{words_from, node_words, children_at}
use Rattle.paths.specs.Hangs.{Forest}
use Rattle.paths.proofs.Laws.{root-top}
use Rattle.paths.proofs.Count.{root-free}
use Rattle.entries.specs.Nodes.{NodesStand, count_in}
use Rattle.entries.specs.Connections.{support_in}
use Rattle.connections.specs.Classes.{up_to, renamed, classes_joined, same_class, support_by, Classes}

-- the first n numbers
pub length-up_to : (n : ℕ) → length (up_to n) ≡ n
unfolding up_to
length-up_to zero = refl
length-up_to (suc n) = rw (length-append, length-up_to n) (omega arith)

pub up_to-at : (n k : ℕ) → k < n → get_or (up_to n) k 0 ≡ k
unfolding up_to
up_to-at zero k h = absurd (omega arith)
up_to-at (suc n) k h =
    elim (ℕ_discrete k n) [
      | yes e ↦ rw e (get_or_at (up_to n) n [] 0 n (length-up_to n))
      | no e ↦ get_or-append (up_to n) (n ∷ []) 0 k (omega (arith, length-up_to n)) ∙ up_to-at n k (omega arith)
    ]

-- each node is a class of its own
pub classes-none : (n : ℕ) (ws : List ℕ) → ws ≡ up_to n → Classes [] n ws
unfolding root
classes-none n ws e =
    record { size = ap length e ∙ length-up_to n; tops = λ m h. ap (λ (l : List ℕ). get_or l m 0) e ∙ up_to-at n m h }

-- the words with the classes of two nodes joined
pub joined_length : (ws : List ℕ) (a b : ℕ) → length (classes_joined ws a b) ≡ length ws
joined_length ws a b = length-map ws (renamed (get_or ws a 0) (get_or ws b 0))

pub joined_at : (ws : List ℕ) (a b k : ℕ) → k < length ws → get_or (classes_joined ws a b) k 0 ≡ renamed (get_or ws a 0) (get_or ws b 0) (get_or ws k 0)
joined_at ws a b k h = go ws k h
  where
    f : ℕ → ℕ
    f = renamed (get_or ws a 0) (get_or ws b 0)

    go : (l : List ℕ) (i : ℕ) → i < length l → get_or (map f l) i 0 ≡ f (get_or l i 0)
    go [] i q = absurd (omega arith)
    go (x ∷ l) zero q = refl
    go (x ∷ l) (suc i) q = go l i (omega arith)

module _ {cs : List Connection} {n : ℕ} {ws : List ℕ} (k : Classes cs n ws) where
  pub classes-more : (c : Connection) → cur c < n → nxt c < n → Classes (c ∷ cs) n (classes_joined ws (cur c) (nxt c))
  unfolding root
  classes-more c p q =
      record {
        size = joined_length ws (cur c) (nxt c) ∙ k.size;
        tops = λ m h. joined_at ws (cur c) (nxt c) m (omega (arith, k.size)) ∙ rw (k.tops m h, k.tops (cur c) p, k.tops (nxt c) q) refl;
      }

  pub same_class_lem : (a b : ℕ) → a < n → b < n → same_class ws a b ≡ joined cs a b
  unfolding joined
  same_class_lem a b p q = rw (k.tops a p, k.tops b q) refl

  -- a node that is its class's top has no parent, and another has one
  pub top-free : (a : ℕ) → Forest cs → a < n → get_or ws a 0 ≡ a → parent_of cs a ≡ top
  top-free a f h e = let r : root cs a ≡ a = sym (k.tops a h) ∙ e in rw r at (root-free cs a f)

  pub lower-bound : (a : ℕ) → Forest cs → a < n → (get_or ws a 0 ≡ a → ⊥) → is_top (parent_of cs a) ≡ false
  lower-bound a f h e = go (parent_of cs a) refl
    where
      go : (p : Parent) → parent_of cs a ≡ p → is_top (parent_of cs a) ≡ false
      go top q = absurd (e (k.tops a h ∙ root-top cs a f q))
      go (below c o) q = rw q refl

-- pairs of words that two tests judge alike
pairs-alike : (f g : ℕ → ℕ → Bool) (ws : List ℕ) (n a b i j : ℕ) → ((x y : ℕ) → x < n → y < n → f x y ≡ g x y) →
    ((h : ℕ) → h < i → get_or ws (a + h) 0 < n) → ((h : ℕ) → h < j → get_or ws (b + h) 0 < n) →
    pairs_joined f (words_from ws a i) (words_from ws b j) ≡ pairs_joined g (words_from ws a i) (words_from ws b j)
unfolding pairs_joined words_from
pairs-alike f g ws n a b zero zero e p q = refl
pairs-alike f g ws n a b zero (suc j) e p q = refl
pairs-alike f g ws n a b (suc i) zero e p q = refl
pairs-alike f g ws n a b (suc i) (suc j) e p q =
    ap₂ (λ (x y : Bool). x && y)
    (e (get_or ws a 0) (get_or ws b 0) (rw add-zero at (p 0 (omega arith))) (rw add-zero at (q 0 (omega arith))))
    (pairs-alike f g ws n (suc a) (suc b) i j e
    (λ h l. let s : a + suc h ≡ suc a + h = omega arith in rw s at (p (suc h) (omega arith)))
    (λ h l. let s : b + suc h ≡ suc b + h = omega arith in rw s at (q (suc h) (omega arith))))

-- support by classes is support by the connections that they belong to
pub support-alike : {cs : List Connection} {n : ℕ} {nws ws : List ℕ} → NodesStand nws n → Classes cs n ws → (a b : ℕ) → a < n → b < n →
    support_by nws ws a b ≡ support_in nws cs a b
support-alike {cs} {n} {nws} {ws} s k a b p q =
    ap (λ (x : Bool). same_op (get_or nws (a * node_words) 0) (get_or nws (b * node_words) 0) && x)
    (pairs-alike (same_class ws) (joined cs) nws n (a * node_words + children_at) (b * node_words + children_at) (count_in nws a) (count_in nws b)
    (λ x y h l. same_class_lem k x y h l)
    (λ i h. omega (arith, s.lower a i p h)) (λ i h. omega (arith, s.lower b i q h)))
