-- The connections between two nodes that older connections join are older ones.
use Prim.Native.Nat.{ℕ, ◌+◌, ◌<◌}
use mathlib.Core.Path.{◌≡◌, sym, ap, ◌∙◌}
use mathlib.Core.List.{List, ◌∷◌}
use native.Mathlib.Omega.{arith}
use native.Mathlib.Nat.{add_assoc, zero-add, add-zero}
use Rattle.model.specs.declared.Connection.{Connection}
use Rattle.model.specs.Node.{Node}
use Rattle.model.specs.Forest.{root, below, parent_of}
use Rattle.paths.specs.Hangs.{AcceptedConnections}
use Rattle.paths.proofs.Accept.{accepted-forest}
use Rattle.paths.proofs.Places.{high, low, place}
use Rattle.paths.proofs.Ways.{climb_by, depth-climb, Lowest, meets}
use Rattle.rust.proofs.Behind.{Behind, accepted-behind, parent-behind, climb-behind}
use Rattle.rust.proofs.Inside.{hung-by}
use Rattle.rust.proofs.Trails.{lowest-any}

module _ (ns : List Node) {os cs : List Connection} (acc : AcceptedConnections ns cs) (b : Behind os cs) where
  -- below the node where the two climbs meet, the left one goes by older connections
  pub left-older : (l r i j : ℕ) → root os l ≡ root os r → Lowest cs l r i j → (k : ℕ) → k < i → {c : Connection} {o : List Connection} →
      parent_of cs (climb_by cs k l) ≡ below c o → Behind (c ∷ o) os
  left-older l r i j same lowest k h {c} {o} p =
      let f = accepted-forest ns cs acc in
      let g = accepted-forest ns os (accepted-behind ns b acc) in
      let m = meets 0 ◌+◌ (λ _ _ _ _. 0) add_assoc zero-add add-zero os l r g same in
      let x = climb-behind b f m.i l (omega (arith, m.left)) in
      let y = climb-behind b f m.j r (omega (arith, m.right)) in
      let z = lowest-any cs l r i j f lowest m.i m.j (x ∙ m.meet ∙ sym y) in
      let w = climb-behind b f k l (omega (arith, m.left, z.0)) in
      elim (place os (climb_by os k l) g) [
        | high u v ↦ absurd (omega (arith, depth-climb k os l g (omega (arith, m.left, z.0)), m.left, z.0))
        | low d q u v t ↦
            let e : below d q ≡ below c o = sym (parent-behind b f (climb_by os k l) u) ∙ ap (parent_of cs) (sym w) ∙ p in
            let s : d ≡ c = cc in
            let s' : q ≡ o = cc in
            rw (← s, ← s') (hung-by ns os (climb_by os k l) (accepted-behind ns b acc) u).behind
      ]
