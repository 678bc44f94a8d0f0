-- The Rust's loop that climbs from a node and keeps what it costs (`calculate_parent_distance`).
use Prim.Native.Nat.{ℕ, zero, suc, ◌+◌, ◌-◌, ◌≤◌, ◌<◌}
use mathlib.Core.Path.{◌≡◌, refl, sym, ap, ◌∙◌}
use mathlib.Core.Bool.{true, false}
use mathlib.Core.List.{List}
use mathlib.Core.Option.{Option, none, some}
use native.Mathlib.Omega.{arith}
use native.Mathlib.Decide.{ℕ_discrete, dec_le}
use borrow.Author.Tests.{eq-eqb, ne_eqb}
use lib.ListN.{length}
use Rattle.model.specs.declared.Connection.{Connection}
use Rattle.model.specs.Node.{Node}
use Rattle.model.specs.Forest.{cur, nxt, below, parent_of}
use Rattle.paths.specs.Hangs.{next_of, depth, Forest, AcceptedConnections}
use Rattle.paths.proofs.Accept.{accepted-forest}
use Rattle.paths.proofs.Places.{high, low, place, next-below}
use Rattle.paths.proofs.Ways.{climb_by, next-high, depth-climb}
use Rattle.rust.specs.Explain.{Explain}
use Rattle.rust.specs.Distances.{Climbed, Found, Between, tree_depth, connection_distance, set_climbed, past, calculate_parent_distance}
use Rattle.rust.proofs.Vectors.{on}
use Rattle.rust.specs.Read.{up}
use Rattle.rust.proofs.Built.{Holds}
use Rattle.rust.proofs.Inside.{parent_is, parent-next, parent_up, next-inside, climb-inside}
use Rattle.rust.proofs.Heights.{climb-add, cost_up, cost-add, over, over-same, over-other, onto, far, Memo, raised, Full}

module _ {ns : List Node} {cs : List Connection} {ex : Explain} (acc : AcceptedConnections ns cs) (held : Holds ns cs ex) where
  abbrev pub f : Forest cs
  f = accepted-forest ns cs acc

  -- tree depths are document 01's depths
  pub depth_is : (rounds n : ℕ) → depth cs n < rounds → n < length ns → tree_depth rounds ex n ≡ some (depth cs n)
  unfolding tree_depth
  depth_is zero n h k = absurd (omega arith)
  depth_is (suc rounds) n h k =
      elim (place cs n f) [
        | high a b ↦ on _ (parent_is held n k) ∙ rw (eq-eqb _ _ (parent-next cs n ∙ next-high cs n f a b), b) refl
        | low c o a b t ↦
            let away : nxt c ≡ n → ⊥ = λ q. (let y : depth cs (next_of cs n) ≡ depth cs n = ap (depth cs) (b ∙ q) in omega arith) in
            on _ (parent_up held n k a)
            ∙ rw (ne_eqb (nxt c) n away) (on _ (ap (tree_depth rounds ex) (sym b) ∙ depth_is rounds (next_of cs n) (omega arith) (next-inside ns cs acc n k))
            ∙ ap some (omega arith))
      ]

  -- a node whose climb has begun is not where it has come to
  gone : (h : ℕ → ℕ) (n : ℕ) → h n ≤ depth cs n → 0 < h n → onto cs h n ≡ n → ⊥
  gone h n u v q = let y : depth cs (onto cs h n) ≡ depth cs n = ap (depth cs) q in omega (arith, depth-climb (h n) cs n f u)

  module _ (between : Between) (depths : ℕ → Option ℕ) where
    abbrev pub loop : ℕ → List Climbed → ℕ → Option ℕ → Option Found
    loop = calculate_parent_distance between depths ns ex

    -- a round of the loop: at the top it ends
    pub ends : (rounds : ℕ) (memo : List Climbed) (h : ℕ → ℕ) (n : ℕ) (a : Option ℕ) → Memo ns cs memo h → n < length ns → next_of cs (onto cs h n) ≡ onto cs h n →
        loop (suc rounds) memo n a ≡ some (record { memo = memo; cost = cost_up ns cs (h n) n })
    unfolding calculate_parent_distance
    ends rounds memo h n a m k q =
        let p = onto cs h n in
        on _ (m.at n k) ∙ on _ (parent_is held p (climb-inside ns cs acc (h n) n k)) ∙ rw (eq-eqb _ _ (parent-next cs p ∙ q)) refl

    -- below the top, where the node come to has begun its own climb, the two are joined
    pub joins : (rounds : ℕ) (memo : List Climbed) (h : ℕ → ℕ) (n : ℕ) (a : Option ℕ) → Memo ns cs memo h → n < length ns →
        (next_of cs (onto cs h n) ≡ onto cs h n → ⊥) → 0 < h (onto cs h n) →
        loop (suc rounds) memo n a
        ≡ loop rounds (set_climbed memo n (onto cs h (onto cs h n)) (cost_up ns cs (h n) n + cost_up ns cs (h (onto cs h n)) (onto cs h n))) n a
    unfolding calculate_parent_distance
    joins rounds memo h n a m k q u =
        let p = onto cs h n in
        let i = climb-inside ns cs acc (h n) n k in
        on _ (m.at n k) ∙ on _ (parent_is held p i)
        ∙ rw (ne_eqb _ _ (λ z. q (sym (parent-next cs p) ∙ z))) (on _ (m.at p i) ∙ rw (ne_eqb _ _ (gone h p (m.low p) u)) refl)

    -- where that node has not begun, and the climb is to stop there
    pub stops : (rounds : ℕ) (memo : List Climbed) (h : ℕ → ℕ) (n : ℕ) (a : Option ℕ) → Memo ns cs memo h → n < length ns →
        (next_of cs (onto cs h n) ≡ onto cs h n → ⊥) → h (onto cs h n) ≡ 0 → past depths (onto cs h n) a ≡ some true →
        loop (suc rounds) memo n a ≡ some (record { memo = memo; cost = cost_up ns cs (h n) n })
    unfolding calculate_parent_distance climb_by
    stops rounds memo h n a m k q u s =
        let p = onto cs h n in
        let i = climb-inside ns cs acc (h n) n k in
        let e : onto cs h p ≡ p = ap (λ (x : ℕ). climb_by cs x p) u in
        on _ (m.at n k) ∙ on _ (parent_is held p i)
        ∙ rw (ne_eqb _ _ (λ z. q (sym (parent-next cs p) ∙ z))) (on _ (m.at p i) ∙ rw (eq-eqb _ _ e) (on _ s))

    -- and where it is to go on, the node's parent connection is paid for
    pub pays-on : (rounds : ℕ) (memo : List Climbed) (h : ℕ → ℕ) (n : ℕ) (a : Option ℕ) → Memo ns cs memo h → n < length ns →
        {c : Connection} {o : List Connection} → parent_of cs (onto cs h n) ≡ below c o →
        (next_of cs (onto cs h n) ≡ onto cs h n → ⊥) → h (onto cs h n) ≡ 0 → past depths (onto cs h n) a ≡ some false →
        {paid : Found} → connection_distance between ns memo (up c).justification (cur c) (nxt c) ≡ some paid →
        loop (suc rounds) memo n a ≡ loop rounds (set_climbed paid.memo (onto cs h n) (nxt c) paid.cost) n a
    unfolding calculate_parent_distance climb_by
    pays-on rounds memo h n a m k {c} b q u s d =
        let p = onto cs h n in
        let i = climb-inside ns cs acc (h n) n k in
        let e : onto cs h p ≡ p = ap (λ (x : ℕ). climb_by cs x p) u in
        on _ (m.at n k) ∙ on _ (parent_up held p i b)
        ∙ rw (ne_eqb (nxt c) p (λ z. q (next-below cs p b ∙ z))) (on _ (m.at p i) ∙ rw (eq-eqb _ _ e) (on _ s ∙ on _ d))

  -- the joined climb
  module _ (memo : List Climbed) (h : ℕ → ℕ) (n : ℕ) (m : Memo ns cs memo h) (k : n < length ns) (u : 0 < h (onto cs h n)) where
    far-begun : (j : ℕ) → j < far cs h n → 0 < h (climb_by cs j n)
    far-begun j v =
        elim (dec_le (suc j) (h n)) [
          | yes w ↦ m.begun n j w
          | no w ↦
              let d = j - h n in
              let e : j ≡ h n + d = omega arith in
              rw (e, climb-add (h n) d cs n) (m.begun (onto cs h n) d (omega arith))
        ]

    pub joined-memo : Memo ns cs (set_climbed memo n (onto cs h (onto cs h n)) (cost_up ns cs (h n) n + cost_up ns cs (h (onto cs h n)) (onto cs h n))) (over h n (far cs h n))
    joined-memo =
        let p = onto cs h n in
        raised ns cs memo h m n (far cs h n) k (omega (arith, depth-climb (h n) cs n f (m.low n), m.low p)) (omega arith) (λ j v _. far-begun j v)
        (onto cs h p) (cost_up ns cs (h n) n + cost_up ns cs (h p) p)
        (sym (climb-add (h n) (h p) cs n)) (sym (cost-add ns (h n) (h p) cs n))

    -- it has come higher
    pub higher : depth cs (onto cs h n) ≡ h (onto cs h n) + depth cs (onto cs (over h n (far cs h n)) n)
    higher =
        let p = onto cs h n in
        rw (over-same h n (far cs h n) n refl, climb-add (h n) (h p) cs n) (depth-climb (h p) cs p f (m.low p))

    -- a node that has not begun is another one
    not-begun : (x : ℕ) → h x ≡ 0 → over h n (far cs h n) x ≡ 0
    unfolding climb_by
    not-begun x z =
        over-other h n (far cs h n) x (λ e.
        let w : h n ≡ 0 = ap h (sym e) ∙ z in
        omega (arith, ap (λ (i : ℕ). h (climb_by cs i n)) w))
        ∙ z

  -- a climb without an ancestor goes on while others have climbed before it, and nothing else changes
  pub record Compressed (h : ℕ → ℕ) (n : ℕ) (o : Option Found) : Type 0 where
    pub memo : List Climbed
    pub heights : ℕ → ℕ
    pub is : o ≡ some (record { memo = memo; cost = cost_up ns cs (heights n) n })
    pub holds : Memo ns cs memo heights
    pub full : Full ns cs heights n
    pub still : (x : ℕ) → h x ≡ 0 → heights x ≡ 0
    pub more : (x : ℕ) → h x ≤ heights x
    pub others : (x : ℕ) → (x ≡ n → ⊥) → heights x ≡ h x

  -- a climb towards an ancestor comes to it, or past it
  pub record Reached (h : ℕ → ℕ) (n a : ℕ) (o : Option Found) : Type 0 where
    pub memo : List Climbed
    pub heights : ℕ → ℕ
    pub cost : ℕ
    pub is : o ≡ some (record { memo = memo; cost = cost })
    pub holds : Memo ns cs memo heights
    pub more : (x : ℕ) → h x ≤ heights x
    pub reaches : depth cs (onto cs heights n) ≤ depth cs a

  -- an answer of the distance, or the cost, d
  pub record Pays (h : ℕ → ℕ) (d : ℕ) (o : Option Found) : Type 0 where
    pub memo : List Climbed
    pub heights : ℕ → ℕ
    pub is : o ≡ some (record { memo = memo; cost = d })
    pub holds : Memo ns cs memo heights
    pub more : (x : ℕ) → h x ≤ heights x

  pub top-depth : (n : ℕ) → next_of cs n ≡ n → depth cs n ≡ 0
  top-depth n q =
      elim (place cs n f) [
        | high a b ↦ b
        | low c o a b t ↦ let y : depth cs (next_of cs n) ≡ depth cs n = ap (depth cs) q in absurd (omega arith)
      ]

  pub more-over : (h : ℕ → ℕ) (n k x : ℕ) → h n ≤ k → h x ≤ over h n k x
  more-over h n k x u =
      elim (ℕ_discrete x n) [
        | yes e ↦ rw (over-same h n k x e, e) u
        | no e ↦ rw (over-other h n k x e) (omega arith)
      ]

  module _ (between : Between) (depths : ℕ → Option ℕ) (n : ℕ) (k : n < length ns) where
    at_rest : (rounds : ℕ) (memo : List Climbed) (h : ℕ → ℕ) → Memo ns cs memo h → h (onto cs h n) ≡ 0 →
        loop between depths (suc rounds) memo n none ≡ some (record { memo = memo; cost = cost_up ns cs (h n) n }) → Compressed h n (loop between depths (suc rounds) memo n none)
    at_rest rounds memo h m z e =
        record { memo = memo; heights = h; is = e; holds = m; full = z; still = λ x p. p; more = λ x. omega arith; others = λ x p. refl }

    further : (rounds : ℕ) (memo : List Climbed) (h : ℕ → ℕ) (m : Memo ns cs memo h) → (next_of cs (onto cs h n) ≡ onto cs h n → ⊥) → 0 < h (onto cs h n) →
        Compressed (over h n (far cs h n)) n (loop between depths rounds
        (set_climbed memo n (onto cs h (onto cs h n)) (cost_up ns cs (h n) n + cost_up ns cs (h (onto cs h n)) (onto cs h n))) n none) →
        Compressed h n (loop between depths (suc rounds) memo n none)
    further rounds memo h m q u c =
        record {
          memo = c.memo;
          heights = c.heights;
          is = joins between depths rounds memo h n none m k q u ∙ c.is;
          holds = c.holds;
          full = c.full;
          still = λ x z. c.still x (not-begun memo h n m k u x z);
          more = λ x. omega (arith, c.more x, more-over h n (far cs h n) x (omega arith));
          others = λ x e. c.others x e ∙ over-other h n (far cs h n) x e;
        }

    pub compressed : (rounds : ℕ) (memo : List Climbed) (h : ℕ → ℕ) → Memo ns cs memo h → depth cs (onto cs h n) < rounds →
        Compressed h n (loop between depths rounds memo n none)
    compressed zero memo h m u = absurd (omega arith)
    compressed (suc rounds) memo h m u =
        let p = onto cs h n in
        elim (ℕ_discrete (next_of cs p) p) [
          | yes q ↦ at_rest rounds memo h m (omega (arith, top-depth p q, m.low p)) (ends between depths rounds memo h n none m k q)
          | no q ↦ elim (ℕ_discrete (h p) 0) [
            | yes z ↦ at_rest rounds memo h m z (stops between depths rounds memo h n none m k q z refl)
            | no z ↦ further rounds memo h m q (omega arith)
                (compressed rounds _ (over h n (far cs h n)) (joined-memo memo h n m k (omega arith)) (omega (arith, higher memo h n m k (omega arith))))
          ]
        ]
