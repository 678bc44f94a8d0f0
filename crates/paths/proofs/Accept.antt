-- What accepted connections are: a forest, each on its support.
use Prim.Native.Nat.{ℕ, zero, suc, ◌≤◌, ◌<◌}
use mathlib.Core.Path.{◌≡◌, refl, sym, ap}
use mathlib.Core.Bool.{Bool, true, false, not, ◌||◌, false≢true, and-eq-true_iff}
use mathlib.Core.List.{List, [], ◌∷◌}
use mathlib.Core.Option.{some}
use native.Mathlib.Omega.{arith}
use borrow.Author.Tests.{ltb-true, not-false}
use lib.Dec.{ltb, eqb}
use lib.ListN.{length, get_or}
use Rattle.model.specs.declared.Refusal.TheVariants.{EndsUnfit, NoSupport}
use Rattle.model.specs.declared.Connection.{Connection}
use Rattle.model.specs.declared.Justification.TheVariants.{Congruence}
use Rattle.model.specs.Judged.{good}
use Rattle.laws.proofs.Judging.{taken}
use Rattle.model.specs.Node.{Node, op_of, kids_of}
use Rattle.model.specs.Term.{same_op}
use Rattle.model.specs.Forest.{cur, nxt, root, joined, dist, Parent, top, below, parent_of, is_top}
use Rattle.model.specs.Connect.{misplaced, pairs_joined, supported, add_connection}
use Rattle.paths.specs.Hangs.{Hangs, Forest, Loose, AcceptedConnections, Sound, Within, Paired}
use Rattle.paths.proofs.Walks.{forest-loose}
use Rattle.paths.proofs.Joined.{joined-root, apart-root, dist-sym}

none-holds : (a b c d e : Bool) → (a || b || c || d || e) ≡ false →
    (a ≡ false) × (b ≡ false) × (c ≡ false) × (d ≡ false) × (e ≡ false)
none-holds true b c d e p = absurd (false≢true (sym p))
none-holds false true c d e p = absurd (false≢true (sym p))
none-holds false false true d e p = absurd (false≢true (sym p))
none-holds false false false true e p = absurd (false≢true (sym p))
none-holds false false false false e p = (refl, refl, refl, refl, p)

top_of : (p : Parent) → is_top p ≡ true → p ≡ top
top_of top e = refl
top_of (below c o) e = absurd (false≢true e)

-- where 6 is not given
placed : (ns : List Node) (cs : List Connection) (c : Connection) → misplaced ns cs c ≡ false →
    (cur c < length ns) × (nxt c < length ns) × Hangs cs c
unfolding misplaced
placed ns cs c p =
    let q =
    none-holds (not (ltb (cur c) (length ns))) (not (ltb (nxt c) (length ns))) (eqb (cur c) (nxt c))
    (not (is_top (parent_of cs (cur c)))) (joined cs (cur c) (nxt c)) p in (
      ltb-true _ _ (not-false _ q.0),
      ltb-true _ _ (not-false _ q.1),
      record { free = top_of (parent_of cs (cur c)) (not-false _ q.3); apart = apart-root cs (cur c) (nxt c) q.4 },
    )

pub sound : {ns : List Node} {cs : List Connection} {c : Connection} → add_connection ns cs (some c) ≡ good (c ∷ cs) → Sound ns cs c
unfolding add_connection
sound {ns} {cs} {c} p =
    let a = taken (misplaced ns cs c) EndsUnfit _ _ p in
    let b = taken (not (supported ns cs c.why (cur c) (nxt c))) NoSupport _ _ a.1 in
    let q = placed ns cs c a.0 in
    record { current-in = q.0; next-in = q.1; hangs = q.2; support = not-false _ b.0 }

pub accepted-forest : (ns : List Node) (cs : List Connection) → AcceptedConnections ns cs → Forest cs
accepted-forest ns [] a = tt
accepted-forest ns (c ∷ cs) a = ((sound a.0).hangs, accepted-forest ns cs a.1)

-- their ends are nodes of the table
pub accepted-within : (ns : List Node) (n : ℕ) (cs : List Connection) → length ns ≤ n → AcceptedConnections ns cs → Within n cs
accepted-within ns n [] h a = tt
accepted-within ns n (c ∷ cs) h a =
    let s = sound a.0 in (omega (arith, s.current-in), omega (arith, s.next-in), accepted-within ns n cs h a.1)

pub accepted-loose : (ns : List Node) (cs : List Connection) → AcceptedConnections ns cs → Loose cs
accepted-loose ns cs a = forest-loose cs (accepted-forest ns cs a)

-- the distance over accepted connections is the same both ways
pub accepted-sym : (ns : List Node) (cs : List Connection) (l r : ℕ) → AcceptedConnections ns cs → root cs l ≡ root cs r →
    dist ns cs r l ≡ dist ns cs l r
accepted-sym ns cs l r a j = dist-sym ns cs l r (accepted-loose ns cs a) j

-- each pair of children is joined by the older connections
pub paired : (cs : List Connection) (xs ys : List ℕ) → pairs_joined (joined cs) xs ys ≡ true → Paired cs xs ys
unfolding pairs_joined
paired cs [] [] p = tt
paired cs [] (y ∷ ys) p = false≢true p
paired cs (x ∷ xs) [] p = false≢true p
paired cs (x ∷ xs) (y ∷ ys) p =
    let q = (and-eq-true_iff (joined cs x y) (pairs_joined (joined cs) xs ys)).0 p in (joined-root cs x y q.0, paired cs xs ys q.1)

pub kin : {ns : List Node} {cs : List Connection} {c : Connection} → Sound ns cs c → c.why ≡ Congruence →
    Paired cs (kids_of ns (cur c)) (kids_of ns (nxt c))
unfolding supported
kin {ns} {cs} {c} s w =
    let xs = kids_of ns (cur c) in
    let ys = kids_of ns (nxt c) in
    let p : supported ns cs Congruence (cur c) (nxt c) ≡ true = rw w at s.support in
    paired cs xs ys ((and-eq-true_iff (same_op (op_of ns (cur c)) (op_of ns (nxt c))) (pairs_joined (joined cs) xs ys)).0 p).1

-- as many on both sides
pub paired-length : (cs : List Connection) (xs ys : List ℕ) → Paired cs xs ys → length xs ≡ length ys
paired-length cs [] [] p = refl
paired-length cs [] (y ∷ ys) p = absurd p
paired-length cs (x ∷ xs) [] p = absurd p
paired-length cs (x ∷ xs) (y ∷ ys) p = ap suc (paired-length cs xs ys p.1)

pub paired_at : (cs : List Connection) (xs ys : List ℕ) → Paired cs xs ys → (i : ℕ) → root cs (get_or xs i 0) ≡ root cs (get_or ys i 0)
paired_at cs [] [] p i = refl
paired_at cs [] (y ∷ ys) p i = absurd p
paired_at cs (x ∷ xs) [] p i = absurd p
paired_at cs (x ∷ xs) (y ∷ ys) p zero = p.0
paired_at cs (x ∷ xs) (y ∷ ys) p (suc i) = paired_at cs xs ys p.1 i
