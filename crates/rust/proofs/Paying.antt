-- What a connection costs, its children's distances known: the Rust pays what document 01 says.
use Prim.Native.Nat.{ℕ, ◌+◌, ◌<◌}
use mathlib.Core.Path.{◌≡◌, refl, sym, ap, ◌∙◌}
use mathlib.Core.List.{List, [], ◌∷◌}
use mathlib.Core.Option.{Option, some}
use native.Mathlib.Omega.{arith}
use native.Mathlib.Nat.{zero-add, add-zero}
use lib.ListN.{length}
use Rattle.model.specs.declared.Connection.{Connection}
use Rattle.model.specs.declared.Justification.{Justification}
use Rattle.model.specs.declared.Justification.TheVariants.{Rule as by_rule, Congruence}
use Rattle.model.specs.Node.{Node, no_node, kids_of}
use Rattle.model.specs.Forest.{cur, nxt, root, dist, cost_by, sum_pairs}
use Rattle.paths.specs.Hangs.{AcceptedConnections, Paired}
use Rattle.paths.proofs.Accept.{sound, kin}
use Rattle.flat.specs.Nodes.{AcceptedNodes}
use Rattle.rust.specs.Explain.{Explain, justified}
use Rattle.rust.specs.Distances.{Climbed, Found, Between, child_distances, connection_distance}
use Rattle.rust.proofs.Vectors.{on, elem-default}
use Rattle.rust.proofs.Built.{Holds}
use Rattle.rust.proofs.Inside.{Kids, kids-inside}
use Rattle.rust.proofs.Heights.{Memo}
use Rattle.rust.proofs.Climbing.{Pays}

-- an answer with another way to say its cost
abbrev pub answer : List Climbed → ℕ → Option Found
answer memo cost = some (record { memo = memo; cost = cost })

pub costs : (memo : List Climbed) {a b : ℕ} → a ≡ b → answer memo a ≡ answer memo b
costs memo p = ap (answer memo) p

module _ {ns : List Node} {cs : List Connection} {ex : Explain} (nodes : AcceptedNodes ns) (acc : AcceptedConnections ns cs) (held : Holds ns cs ex) where
  -- one connection, if the distances of its children are known
  module _ (between : Between) (o : List Connection)
      (known : (l r : ℕ) → l < length ns → r < length ns → root o l ≡ root o r → (memo : List Climbed) (h : ℕ → ℕ) → Memo ns cs memo h →
      Pays acc held h (dist ns o l r) (between memo l r)) where
    children : (xs ys : List ℕ) → Paired o xs ys → Kids (length ns) xs → Kids (length ns) ys → (memo : List Climbed) (h : ℕ → ℕ) → Memo ns cs memo h →
        (cost : ℕ) → Pays acc held h (cost + sum_pairs (dist ns o) xs ys) (child_distances between memo xs ys cost)
    unfolding child_distances sum_pairs
    children [] ys p u v memo h m cost =
        record { memo = memo; heights = h; is = costs memo (sym (add-zero cost)); holds = m; more = λ x. omega arith }
    children (x ∷ xs) [] p u v memo h m cost = absurd p
    children (x ∷ xs) (y ∷ ys) p u v memo h m cost =
        let a = known x y u.0 v.0 p.0 memo h m in
        let b = children xs ys p.1 u.1 v.1 a.memo a.heights a.holds (cost + dist ns o x y) in
        record {
          memo = b.memo;
          heights = b.heights;
          is = on _ a.is ∙ b.is ∙ costs b.memo (omega arith);
          holds = b.holds;
          more = λ z. omega (arith, a.more z, b.more z);
        }

    pub paid : (c : Connection) → AcceptedConnections ns (c ∷ o) → (memo : List Climbed) (h : ℕ → ℕ) → Memo ns cs memo h →
        Pays acc held h (cost_by ns (dist ns o) c.why (cur c) (nxt c)) (connection_distance between ns memo (justified c.why) (cur c) (nxt c))
    unfolding cost_by
    paid c a memo h m = go c.why refl
      where
        go : (w : Justification) → c.why ≡ w →
            Pays acc held h (cost_by ns (dist ns o) c.why (cur c) (nxt c)) (connection_distance between ns memo (justified c.why) (cur c) (nxt c))
        go (by_rule n d) q = rw q (record { memo = memo; heights = h; is = refl; holds = m; more = λ x. omega arith })
        go Congruence q =
            let s = sound a.0 in
            let x = cur c in
            let y = nxt c in
            let k = children (kids_of ns x) (kids_of ns y) (kin s q) (kids-inside ns nodes x s.current-in) (kids-inside ns nodes y s.next-in) memo h m 0 in
            rw q (record {
              memo = k.memo;
              heights = k.heights;
              is = on _ (elem-default ns x no_node s.current-in) ∙ on _ (elem-default ns y no_node s.next-in) ∙ k.is
                  ∙ costs k.memo (zero-add (sum_pairs (dist ns o) (kids_of ns x) (kids_of ns y)));
              holds = k.holds;
              more = k.more;
            })
