-- A climb from a node of the table stays in the table, and follows the parent connections that the Rust holds.
use Prim.Native.Nat.{ℕ, zero, suc, ◌≤◌, ◌<◌}
use mathlib.Core.Path.{◌≡◌, refl, sym, ap, ◌∙◌}
use mathlib.Core.Bool.{true, and-eq-true_iff}
use mathlib.Core.List.{List, [], ◌∷◌}
use mathlib.Core.Option.{some}
use native.Mathlib.Decide.{ℕ_discrete}
use native.Mathlib.Omega.{arith}
use borrow.Author.Tests.{ltb-true}
use lib.ListN.{length}
use Rattle.model.specs.declared.Connection.{Connection as TableConnection}
use Rattle.model.specs.Node.{Node, kids_of, all_below}
use Rattle.model.specs.Forest.{cur, Parent, top, below, parent_of}
use Rattle.paths.specs.Hangs.{next_of, AcceptedConnections}
use Rattle.paths.proofs.Accept.{sound}
use Rattle.paths.proofs.Laws.{parent-new, parent-old, no-parent}
use Rattle.paths.proofs.Places.{next-below, next-top}
use Rattle.paths.proofs.Ways.{climb_by}
use Rattle.flat.specs.Nodes.{AcceptedNodes}
use Rattle.rust.specs.Explain.{Explain}
use Rattle.rust.specs.Paths.{parent_connection}
use Rattle.rust.proofs.Vectors.{on}
use Rattle.rust.proofs.Behind.{Behind, all, newer}
use Rattle.rust.specs.Read.{up}
use Rattle.rust.proofs.Built.{parent_in, Holds}

-- a node's parent connection: it is the node's own, and was accepted after the older ones
pub record Hung (ns : List Node) (cs : List TableConnection) (n : ℕ) (c : TableConnection) (o : List TableConnection) : Type 0 where
  pub here : n ≡ cur c
  pub accepted : AcceptedConnections ns (c ∷ o)
  pub behind : Behind (c ∷ o) cs

pub hung-by : (ns : List Node) (cs : List TableConnection) (n : ℕ) {c : TableConnection} {o : List TableConnection} → AcceptedConnections ns cs →
    parent_of cs n ≡ below c o → Hung ns cs n c o
unfolding parent_of
hung-by ns [] n a p = absurd (no-parent p)
hung-by ns (d ∷ cs) n {c} {o} a p =
    elim (ℕ_discrete n (cur d)) [
      | yes q ↦
          let e : below d cs ≡ below c o = sym (parent-new d cs n q) ∙ p in
          let x : d ≡ c = cc in
          let y : cs ≡ o = cc in
          rw (← x, ← y) record { here = q; accepted = a; behind = all }
      | no q ↦
          let h = hung-by ns cs n a.1 (sym (parent-old d cs n q) ∙ p) in
          record { here = h.here; accepted = h.accepted; behind = newer h.behind }
    ]

-- the parent connection that the Rust holds leads where document 01's does
module _ (cs : List TableConnection) (n : ℕ) where
  pub parent-next : (parent_in cs n).next ≡ next_of cs n
  unfolding parent_in next_of
  parent-next = go (parent_of cs n) refl
    where
      go : (p : Parent) → parent_of cs n ≡ p → (parent_in cs n).next ≡ next_of cs n
      go top q = rw q refl
      go (below c o) q = rw q refl

  pub parent-below : {c : TableConnection} {o : List TableConnection} → parent_of cs n ≡ below c o → parent_in cs n ≡ up c
  unfolding parent_in
  parent-below q = rw q refl

module _ (ns : List Node) (cs : List TableConnection) (a : AcceptedConnections ns cs) where
  pub next-inside : (n : ℕ) → n < length ns → next_of cs n < length ns
  next-inside n h = go (parent_of cs n) refl
    where
      go : (p : Parent) → parent_of cs n ≡ p → next_of cs n < length ns
      go top q = rw (next-top cs n q) h
      go (below c o) q = rw (next-below cs n q) (sound (hung-by ns cs n a q).accepted.0).next-in

  pub climb-inside : (k n : ℕ) → n < length ns → climb_by cs k n < length ns
  unfolding climb_by
  climb-inside zero n h = h
  climb-inside (suc k) n h = climb-inside k (next_of cs n) (next-inside n h)

pub parent_is : {ns : List Node} {cs : List TableConnection} {e : Explain} → Holds ns cs e → (n : ℕ) → n < length ns →
    parent_connection e n ≡ some (parent_in cs n)
parent_is h n k = on _ (h.at n k)

pub parent_up : {ns : List Node} {cs : List TableConnection} {e : Explain} → Holds ns cs e → (n : ℕ) → n < length ns →
    {c : TableConnection} {o : List TableConnection} → parent_of cs n ≡ below c o → parent_connection e n ≡ some (up c)
parent_up {cs = cs} h n k q = parent_is h n k ∙ ap some (parent-below cs n q)

-- the children of a node of the table are nodes of the table
abbrev pub Kids : ℕ → List ℕ → Type 0
Kids n [] = Unit {0}
Kids n (x ∷ xs) = (x < n) × Kids n xs

kids-below : (m : ℕ) (xs : List ℕ) → all_below m xs ≡ true → Kids m xs
unfolding all_below
kids-below m [] p = tt
kids-below m (x ∷ xs) p =
    let (a, b) = (and-eq-true_iff _ _).0 p in
    (ltb-true x m a, kids-below m xs b)

kids-more : (m n : ℕ) (xs : List ℕ) → m ≤ n → Kids m xs → Kids n xs
kids-more m n [] h p = tt
kids-more m n (x ∷ xs) h p = (omega (arith, p.0), kids-more m n xs h p.1)

module _ (ns : List Node) (a : AcceptedNodes ns) where
  pub kids-lower : (n : ℕ) → Kids n (kids_of ns n)
  kids-lower n = kids-below n (kids_of ns n) (a.below n)

  pub kids-inside : (n : ℕ) → n < length ns → Kids (length ns) (kids_of ns n)
  kids-inside n h = kids-more n (length ns) (kids_of ns n) (omega arith) (kids-lower n)
