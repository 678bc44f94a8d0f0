-- The Rust's climb towards an ancestor ends there or above, and pays for each connection once.
use Prim.Native.Nat.{ℕ, zero, suc, ◌+◌, ◌*◌, ◌≤◌, ◌<◌}
use mathlib.Core.Path.{◌≡◌, refl, sym, ap, ◌∙◌}
use mathlib.Core.Bool.{Bool, true, false}
use mathlib.Core.List.{List}
use mathlib.Core.Option.{Option, some}
use native.Mathlib.Omega.{arith}
use native.Mathlib.Decide.{ℕ_discrete, dec_le}
use borrow.Author.Tests.{le-leb, lt-leb}
use lib.Dec.{leb}
use lib.ListN.{length}
use Rattle.model.specs.declared.Connection.{Connection}
use Rattle.model.specs.Node.{Node}
use Rattle.model.specs.Forest.{cur, nxt, below, parent_of}
use Rattle.paths.specs.Hangs.{next_of, depth, AcceptedConnections}
use Rattle.paths.proofs.Accept.{accepted-forest}
use Rattle.paths.proofs.Bound.{depth_le}
use Rattle.paths.proofs.Places.{high, low, place, next-below}
use Rattle.paths.proofs.Ways.{climb_by, depth-climb, next-high}
use Rattle.rust.specs.Explain.{Explain}
use Rattle.rust.specs.Distances.{Climbed, Found, Between, connection_distance, set_climbed, past}
use Rattle.rust.proofs.Vectors.{on}
use Rattle.rust.specs.Read.{up}
use Rattle.rust.proofs.Built.{Holds}
use Rattle.rust.proofs.Inside.{climb-inside}
use Rattle.rust.proofs.Heights.{cost_up, onto, far, over, over-same, over-other, Memo, raised}
use Rattle.rust.proofs.Climbing.{loop, ends, joins, stops, pays-on, joined-memo, higher, top-depth, more-over, Reached, Pays}

-- a node that has not begun costs one round more
abbrev waits : ℕ → ℕ
waits zero = 1
waits (suc k) = 0

waits-little : (k : ℕ) → waits k ≤ 1
waits-little zero = omega arith
waits-little (suc k) = omega arith

waits-not : (k : ℕ) → 0 < k → waits k ≡ 0
waits-not zero h = absurd (omega arith)
waits-not (suc k) h = refl

module _ {ns : List Node} {cs : List Connection} {ex : Explain} (acc : AcceptedConnections ns cs) (held : Holds ns cs ex) where
  abbrev pub measure : (ℕ → ℕ) → ℕ → ℕ
  measure h n = 2 * depth cs (onto cs h n) + waits (h (onto cs h n))

  pub measure-little : (h : ℕ → ℕ) (n : ℕ) → measure h n ≤ 2 * length cs + 1
  measure-little h n =
      let x = onto cs h n in
      omega (arith, depth_le cs x (accepted-forest ns cs acc), waits-little (h x))

  module _ (between : Between) (depths : ℕ → Option ℕ) (deep : (x : ℕ) → x < length ns → depths x ≡ some (depth cs x))
      (n a : ℕ) (k : n < length ns) (l : a < length ns)
      (pays : (memo : List Climbed) (h : ℕ → ℕ) → Memo ns cs memo h → (c : Connection) (o : List Connection) → parent_of cs (onto cs h n) ≡ below c o →
      depth cs a < depth cs (onto cs h n) →
      Pays acc held h (cost_up ns cs 1 (onto cs h n)) (connection_distance between ns memo (up c).justification (cur c) (nxt c))) where
    abbrev go : ℕ → List Climbed → Option Found
    go rounds memo = loop acc held between depths rounds memo n (some a)

    abbrev at : (ℕ → ℕ) → ℕ
    at h = onto cs h n

    there : (rounds : ℕ) (memo : List Climbed) (h : ℕ → ℕ) → Memo ns cs memo h → depth cs (at h) ≤ depth cs a →
        go (suc rounds) memo ≡ some (record { memo = memo; cost = cost_up ns cs (h n) n }) → Reached acc held h n a (go (suc rounds) memo)
    there rounds memo h m z e = record { memo = memo; heights = h; cost = cost_up ns cs (h n) n; is = e; holds = m; more = λ x. omega arith; reaches = z }

    is-past : (h : ℕ → ℕ) (b : Bool) → leb (depth cs (at h)) (depth cs a) ≡ b → past depths (at h) (some a) ≡ some b
    is-past h b e = on _ (deep (at h) (climb-inside ns cs acc (h n) n k)) ∙ on _ (deep a l) ∙ ap some e

    again : (rounds : ℕ) (memo later : List Climbed) (h h' : ℕ → ℕ) → ((x : ℕ) → h x ≤ h' x) → go (suc rounds) memo ≡ go rounds later →
        Reached acc held h' n a (go rounds later) → Reached acc held h n a (go (suc rounds) memo)
    again rounds memo later h h' w e r =
        record {
          memo = r.memo;
          heights = r.heights;
          cost = r.cost;
          is = e ∙ r.is;
          holds = r.holds;
          more = λ x. omega (arith, w x, r.more x);
          reaches = r.reaches;
        }

    -- the node come to begins: its parent connection is paid for
    module _ (memo : List Climbed) (h : ℕ → ℕ) (m : Memo ns cs memo h) (c : Connection) (o : List Connection) (b : parent_of cs (at h) ≡ below c o)
        (z : h (at h) ≡ 0) (d : depth cs a < depth cs (at h)) where
      abbrev paid : Pays acc held h (cost_up ns cs 1 (at h)) (connection_distance between ns memo (up c).justification (cur c) (nxt c))
      paid = pays memo h m c o b d

      abbrev begins : ℕ → ℕ
      begins = over paid.heights (at h) 1

      begin-memo : Memo ns cs (set_climbed paid.memo (at h) (nxt c) (cost_up ns cs 1 (at h))) begins
      unfolding climb_by
      begin-memo =
          raised ns cs paid.memo paid.heights paid.holds (at h) 1 (climb-inside ns cs acc (h n) n k) (omega arith) (omega arith)
          (λ j v e. let w : j ≡ 0 = omega arith in absurd (e (ap (λ (i : ℕ). climb_by cs i (at h)) w)))
          (nxt c) (cost_up ns cs 1 (at h)) (sym (next-below cs (at h) b)) refl

      begin-more : (x : ℕ) → h x ≤ begins x
      begin-more x =
          elim (ℕ_discrete x (at h)) [
            | yes e ↦ rw (over-same paid.heights (at h) 1 x e) (omega (arith, ap h e))
            | no e ↦ rw (over-other paid.heights (at h) 1 x e) (paid.more x)
          ]

      begin-less : measure begins n < measure h n
      begin-less =
          let f = accepted-forest ns cs acc in
          let x = depth-climb (h n) cs n f (m.low n) in
          let y = depth-climb (begins n) cs n f (begin-memo.low n) in
          elim (ℕ_discrete (begins n) (h n)) [
            | yes e ↦
                let s : begins (at begins) ≡ 1 = ap (λ (i : ℕ). begins (climb_by cs i n)) e ∙ over-same paid.heights (at h) 1 (at h) refl in
                omega (arith, ap (λ (i : ℕ). depth cs (climb_by cs i n)) e, ap waits s, ap waits z)
            | no e ↦ omega (arith, begin-more n, waits-little (begins (at begins)), ap waits z)
          ]

    pub reached : (rounds : ℕ) (memo : List Climbed) (h : ℕ → ℕ) → Memo ns cs memo h → measure h n < rounds → Reached acc held h n a (go rounds memo)
    reached zero memo h m u = absurd (omega arith)
    reached (suc rounds) memo h m u =
        elim (place cs (at h) (accepted-forest ns cs acc)) [
          | high x y ↦
              there rounds memo h m (omega arith)
              (ends acc held between depths rounds memo h n (some a) m k (next-high cs (at h) (accepted-forest ns cs acc) x y))
          | low c o b q t ↦
              let away : next_of cs (at h) ≡ at h → ⊥ = λ e. omega (arith, top-depth acc held (at h) e) in
              elim (ℕ_discrete (h (at h)) 0) [
                | yes z ↦ elim (dec_le (depth cs (at h)) (depth cs a)) [
                  | yes d ↦ there rounds memo h m d (stops acc held between depths rounds memo h n (some a) m k away z (is-past h true (le-leb _ _ d)))
                  | no d ↦
                      let e : depth cs a < depth cs (at h) = omega arith in
                      again rounds memo _ h (begins memo h m c o b z e) (begin-more memo h m c o b z e)
                      (pays-on acc held between depths rounds memo h n (some a) m k b away z (is-past h false (lt-leb _ _ e)) (paid memo h m c o b z e).is)
                      (reached rounds _ (begins memo h m c o b z e) (begin-memo memo h m c o b z e) (omega (arith, begin-less memo h m c o b z e)))
                ]
                | no z ↦
                    let v : 0 < h (at h) = omega arith in
                    let joined = over h n (far cs h n) in
                    again rounds memo _ h joined (λ x. more-over acc held h n (far cs h n) x (omega arith))
                    (joins acc held between depths rounds memo h n (some a) m k away v)
                    (reached rounds _ joined (joined-memo acc held memo h n m k v)
                    (omega (arith, higher acc held memo h n m k v, waits-not (h (at h)) v, waits-little (joined (at joined)))))
              ]
        ]
