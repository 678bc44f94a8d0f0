-- The Rust's distance of two joined nodes is document 01's.
use Prim.Native.Nat.{ℕ, zero, suc, ◌+◌, ◌*◌, ◌≤◌, ◌<◌}
use mathlib.Core.Path.{◌≡◌, refl, sym, ap, ◌∙◌}
use mathlib.Core.Bool.{true}
use mathlib.Core.List.{List}
use mathlib.Core.Option.{Option, none, some}
use native.Mathlib.Omega.{arith}
use native.Mathlib.Decide.{ℕ_discrete}
use native.Mathlib.Nat.{add_assoc, zero-add, add-zero}
use borrow.Author.Tests.{eq-eqb, ne_eqb, le-leb}
use lib.ListN.{length}
use Rattle.model.specs.declared.Connection.{Connection}
use Rattle.model.specs.Node.{Node}
use Rattle.model.specs.Forest.{cur, nxt, root, dist, cost_by, below, parent_of}
use Rattle.paths.specs.Hangs.{depth, Forest, AcceptedConnections}
use Rattle.paths.proofs.Joined.{dist-self}
use Rattle.paths.proofs.Bound.{depth_le}
use Rattle.paths.proofs.Accept.{accepted-forest}
use Rattle.paths.proofs.Ways.{climb_by, depth-climb, Lowest, hop-low, ups, Meets, meets}
use Rattle.flat.specs.Nodes.{AcceptedNodes}
use Rattle.rust.specs.Explain.{Explain}
use Rattle.rust.specs.Distances.{Climbed, Found, Between, unclimbed, tree_depth, connection_distance, calculate_parent_distance, distance_between}
use Rattle.rust.proofs.Vectors.{on, off, counted-length, counted-at}
use Rattle.rust.specs.Read.{up}
use Rattle.rust.proofs.Built.{Holds}
use Rattle.rust.proofs.Behind.{Behind, all, older, behind_more, behind-length, accepted-behind, root-behind, walk-behind}
use Rattle.rust.proofs.Inside.{climb-inside}
use Rattle.rust.proofs.Olders.{left-older}
use Rattle.rust.proofs.Ancestor.{ancestor, no-ancestor}
use Rattle.rust.proofs.Heights.{climb-add, priced, cost_up, cost-add, cost-down, onto, Memo, Full, adds-up}
use Rattle.rust.proofs.Climbing.{depth_is, Compressed, Reached, Pays, compressed}
use Rattle.rust.proofs.Reaching.{measure-little, reached}
use Rattle.rust.proofs.Paying.{costs, paid}

module _ {ns : List Node} {cs : List Connection} {ex : Explain} (nodes : AcceptedNodes ns) (acc : AcceptedConnections ns cs) (held : Holds ns cs ex) where
  -- a climb that was done stays as it was while another one goes on
  kept : {h : ℕ → ℕ} {n : ℕ} {o : Option Found} (c : Compressed acc held h n o) (x : ℕ) → Full ns cs h x → c.heights x ≡ h x
  kept {h} {n} c x p =
      elim (ℕ_discrete x n) [
        | yes e ↦ elim (ℕ_discrete (c.heights x) (h x)) [
          | yes s ↦ s
          | no s ↦ absurd (omega (arith, c.more x, c.holds.begun x (h x) (omega (arith, c.more x)), c.still (climb_by cs (h x) x) p))
        ]
        | no e ↦ c.others x e
      ]

  kept_full : {h : ℕ → ℕ} {n : ℕ} {o : Option Found} (c : Compressed acc held h n o) (x : ℕ) → Full ns cs h x → Full ns cs c.heights x
  kept_full {h} c x p = ap (λ (k : ℕ). c.heights (climb_by cs k x)) (kept c x p) ∙ c.still (climb_by cs (h x) x) p

  module _ (rounds : ℕ) (enough : 2 * length cs + 1 < rounds) where
    abbrev Known : ℕ → Type 0
    Known nesting = (os : List Connection) → Behind os cs → length os < nesting → (l r : ℕ) → l < length ns → r < length ns → root os l ≡ root os r →
        (memo : List Climbed) (h : ℕ → ℕ) → Memo ns cs memo h → Pays acc held h (dist ns os l r) (distance_between nesting rounds ns ex memo l r)

    deep : (x : ℕ) → x < length ns → tree_depth rounds ex x ≡ some (depth cs x)
    deep x k = depth_is acc held rounds x (omega (arith, depth_le cs x (accepted-forest ns cs acc))) k

    module _ (nesting : ℕ) (known : Known nesting) (os : List Connection) (b : Behind os cs) (few : length os ≤ nesting) where
      abbrev between : Between
      between = distance_between nesting rounds ns ex

      -- a connection below the meeting node is paid for
      pays : (l r i j : ℕ) → root os l ≡ root os r → Lowest cs l r i j → depth cs l ≡ i + depth cs (climb_by cs i l) →
          (memo : List Climbed) (h : ℕ → ℕ) → Memo ns cs memo h → (c : Connection) (o : List Connection) → parent_of cs (onto cs h l) ≡ below c o →
          depth cs (climb_by cs i l) < depth cs (onto cs h l) →
          Pays acc held h (cost_up ns cs 1 (onto cs h l)) (connection_distance between ns memo (up c).justification (cur c) (nxt c))
      unfolding ups dist
      pays l r i j same lowest d memo h m c o p u =
          let v = left-older ns acc b l r i j same lowest (h l) (omega (arith, depth-climb (h l) cs l (accepted-forest ns cs acc) (m.low l))) p in
          let w = behind_more v b in
          let k = paid nodes acc held between o (known o (older w) (omega (arith, behind-length v))) c (accepted-behind ns w acc) memo h m in
          let e : cost_up ns cs 1 (onto cs h l) ≡ cost_by ns (dist ns o) c.why (cur c) (nxt c) =
          add-zero _ ∙ hop-low 0 ◌+◌ (priced ns) cs (onto cs h l) true p in
          rw e k

      -- the five climbs, and what is left of two of them past the meeting node
      module _ (l r : ℕ) (l-in : l < length ns) (r-in : r < length ns) (same : root os l ≡ root os r)
          (memo : List Climbed) (h : ℕ → ℕ) (m : Memo ns cs memo h) where
        abbrev f : Forest cs
        f = accepted-forest ns cs acc

        abbrev met : Meets 0 ◌+◌ (priced ns) cs l r
        met = meets 0 ◌+◌ (priced ns) add_assoc zero-add add-zero cs l r f (root-behind l r b same)

        abbrev a : ℕ
        a = climb_by cs met.i l

        a_in : a < length ns
        a_in = climb-inside ns cs acc met.i l l-in

        turned : Lowest cs r l met.j met.i
        turned x y p q e = let z = met.lowest y x q p (sym e) in (z.1, z.0)

        abbrev climb : List Climbed → ℕ → Option ℕ → Option Found
        climb = calculate_parent_distance between (tree_depth rounds ex) ns ex rounds

        to-left : Reached acc held h l a (climb memo l (some a))
        to-left =
            reached acc held between (tree_depth rounds ex) deep l a l-in a_in (pays l r met.i met.j same met.lowest met.left) rounds memo h m
            (omega (arith, measure-little acc held h l))

        -- the same from the right, where the meeting node is as high
        to-right : Reached acc held to-left.heights r a (climb to-left.memo r (some a))
        to-right =
            rw met.meet (reached acc held between (tree_depth rounds ex) deep r (climb_by cs met.j r) r-in (climb-inside ns cs acc met.j r r-in)
            (pays r l met.j met.i (sym same) turned met.right) rounds to-left.memo to-left.heights to-left.holds
            (omega (arith, measure-little acc held to-left.heights r)))

        near : (g : ℕ → ℕ) (n : ℕ) → depth cs (climb_by cs (g n) n) < rounds
        near g n = omega (arith, depth_le cs (climb_by cs (g n) n) f)

        top-a : Compressed acc held to-right.heights a (climb to-right.memo a none)
        top-a =
            compressed acc held between (tree_depth rounds ex) a a_in rounds to-right.memo to-right.heights to-right.holds
            (near to-right.heights a)

        top-l : Compressed acc held top-a.heights l (climb top-a.memo l none)
        top-l = compressed acc held between (tree_depth rounds ex) l l-in rounds top-a.memo top-a.heights top-a.holds (near top-a.heights l)

        top-r : Compressed acc held top-l.heights r (climb top-l.memo r none)
        top-r = compressed acc held between (tree_depth rounds ex) r r-in rounds top-l.memo top-l.heights top-l.holds (near top-l.heights r)

        -- how far each has come: as far as the meeting node, and from there as far as that one
        left-begun : (j : ℕ) → j < met.i → 0 < top-l.heights (climb_by cs j l)
        left-begun j u =
            let x = climb_by cs j l in
            let v = depth-climb (to-left.heights l) cs l f (to-left.holds.low l) in
            let w = to-left.holds.begun l j (omega (arith, v, to-left.reaches, met.left)) in
            omega (arith, w, to-right.more x, top-a.more x, top-l.more x)

        right-begun : (j : ℕ) → j < met.j → 0 < top-r.heights (climb_by cs j r)
        right-begun j u =
            let x = climb_by cs j r in
            let v = depth-climb (to-right.heights r) cs r f (to-right.holds.low r) in
            let w = to-right.holds.begun r j (omega (arith, v, to-right.reaches, met.right, ap (depth cs) met.meet)) in
            omega (arith, w, top-a.more x, top-l.more x, top-r.more x)

        full-a : Full ns cs top-l.heights a
        full-a = kept_full top-l a top-a.full

        same-a : top-l.heights a ≡ top-a.heights a
        same-a = kept top-l a top-a.full

        last-a : top-r.heights a ≡ top-a.heights a
        last-a = kept top-r a full-a ∙ same-a

        last-l : top-r.heights l ≡ met.i + top-a.heights a
        last-l =
            kept top-r l top-l.full
            ∙ adds-up ns cs top-l.memo top-l.heights top-l.holds l met.i top-l.full full-a left-begun
            ∙ ap (λ (k : ℕ). met.i + k) same-a

        last-r : top-r.heights r ≡ met.j + top-a.heights a
        last-r =
            adds-up ns cs top-r.memo top-r.heights top-r.holds r met.j top-r.full (rw (← met.meet) (kept_full top-r a full-a)) right-begun
            ∙ ap (λ (k : ℕ). met.j + k) (ap top-r.heights (sym met.meet) ∙ last-a)

        -- the assertions hold
        node-l : climb_by cs (top-r.heights a) a ≡ climb_by cs (top-r.heights l) l
        node-l =
            ap (λ (k : ℕ). climb_by cs k a) last-a
            ∙ sym (ap (λ (k : ℕ). climb_by cs k l) last-l ∙ climb-add met.i (top-a.heights a) cs l)

        node-r : climb_by cs (top-r.heights a) a ≡ climb_by cs (top-r.heights r) r
        node-r =
            ap (λ (k : ℕ). climb_by cs k a) last-a
            ∙ sym (ap (λ (k : ℕ). climb_by cs k r) last-r ∙ climb-add met.j (top-a.heights a) cs r ∙ ap (climb_by cs (top-a.heights a)) (sym met.meet))

        abbrev above : ℕ
        above = cost_up ns cs (top-a.heights a) a

        cost-l : cost_up ns cs (top-l.heights l) l ≡ cost_up ns cs met.i l + above
        cost-l = ap (λ (k : ℕ). cost_up ns cs k l) (sym (kept top-r l top-l.full) ∙ last-l) ∙ cost-add ns met.i (top-a.heights a) cs l

        cost-r : cost_up ns cs (top-r.heights r) r ≡ cost_up ns cs met.j r + above
        cost-r =
            ap (λ (k : ℕ). cost_up ns cs k r) last-r ∙ cost-add ns met.j (top-a.heights a) cs r
            ∙ ap (λ (x : ℕ). cost_up ns cs met.j r + cost_up ns cs (top-a.heights a) x) (sym met.meet)

        between_is : cost_up ns cs met.i l + cost_up ns cs met.j r ≡ dist ns os l r
        unfolding dist
        between_is =
            ap (λ (x : ℕ). cost_up ns cs met.i l + x) (sym (cost-down ns met.j cs r)) ∙ sym met.whole ∙ walk-behind 0 ◌+◌ (priced ns) l r b same

        positive : above * 2 ≤ cost_up ns cs (top-l.heights l) l + cost_up ns cs (top-r.heights r) r
        positive = omega (arith, cost-l, cost-r)

        apart : (l ≡ r → ⊥) → Pays acc held h (dist ns os l r) (distance_between (suc nesting) rounds ns ex memo l r)
        unfolding distance_between
        apart n =
            record {
              memo = top-r.memo;
              heights = top-r.heights;
              is = rw (ne_eqb l r n)
                  (on _ (ancestor acc held l r met.i met.j l-in r-in (root-behind l r b same) met.meet met.lowest rounds
                  (omega (arith, met.left, met.right, depth_le cs l f, depth_le cs r f)))
                  ∙ on _ to-left.is ∙ on _ to-right.is ∙ on _ top-a.is ∙ on _ top-l.is ∙ on _ top-r.is
                  ∙ on _ (top-r.holds.at a a_in) ∙ on _ (top-r.holds.at l l-in) ∙ on _ (top-r.holds.at r r-in)
                  ∙ rw (eq-eqb _ _ node-l, eq-eqb _ _ node-r, le-leb _ _ positive)
                  (costs top-r.memo (omega (arith, cost-l, cost-r, between_is))));
              holds = top-r.holds;
              more = λ x. omega (arith, to-left.more x, to-right.more x, top-a.more x, top-l.more x, top-r.more x);
            }

    known-all : (nesting : ℕ) → Known nesting
    unfolding distance_between
    known-all zero os b few l r l-in r-in same memo h m = absurd (omega arith)
    known-all (suc nesting) os b few l r l-in r-in same memo h m =
        elim (ℕ_discrete l r) [
          | yes e ↦
              record {
                memo = memo;
                heights = h;
                is = rw (eq-eqb l r e) (costs memo (sym (ap (λ (x : ℕ). dist ns os x r) e ∙ dist-self ns os r)));
                holds = m;
                more = λ x. omega arith;
              }
          | no e ↦ apart nesting (known-all nesting) os b (omega arith) l r l-in r-in same memo h m e
        ]

-- a memo in which no climb has begun
begins : (ns : List Node) (cs : List Connection) → Memo ns cs (unclimbed (length ns)) (λ _. 0)
unfolding climb_by ups
begins ns cs =
    record {
      size = counted-length (λ i. record { node = i; cost = 0 }) (length ns);
      at = λ n h. counted-at (λ i. record { node = i; cost = 0 }) (length ns) n h;
      low = λ n. omega arith;
      begun = λ n j h. absurd (omega arith);
    }

-- THE RUST'S DISTANCE, nested as deep as there are connections and one, is document 01's
module _ {ns : List Node} {cs : List Connection} {ex : Explain} (nodes : AcceptedNodes ns) (acc : AcceptedConnections ns cs) (held : Holds ns cs ex)
    (nesting rounds : ℕ) (nested : length cs < nesting) (enough : 2 * length cs + 1 < rounds) (l r : ℕ) (l-in : l < length ns) (r-in : r < length ns) where
  pub distance_is : root cs l ≡ root cs r → Pays acc held (λ _. 0) (dist ns cs l r) (distance_between nesting rounds ns ex (unclimbed (length ns)) l r)
  distance_is same = known-all nodes acc held rounds enough nesting cs all nested l r l-in r-in same (unclimbed (length ns)) (λ _. 0) (begins ns cs)

-- and there is none where document 01 says 9
pub no_distance : {ns : List Node} {cs : List Connection} {ex : Explain} → AcceptedConnections ns cs → Holds ns cs ex → (nesting rounds : ℕ) (memo : List Climbed)
    (l r : ℕ) → l < length ns → r < length ns → (root cs l ≡ root cs r → ⊥) → distance_between nesting rounds ns ex memo l r ≡ none
unfolding distance_between
no_distance acc held zero rounds memo l r l-in r-in apart = refl
no_distance {cs = cs} acc held (suc nesting) rounds memo l r l-in r-in apart =
    rw (ne_eqb l r (λ q. apart (ap (root cs) q))) (off _ (no-ancestor acc held l r l-in r-in apart rounds))
