-- The Rust's path between two nodes, without its memo, is document 01's.
use Prim.Native.Nat.{ℕ, zero, suc, ◌+◌, ◌*◌, ◌≤◌, ◌<◌}
use mathlib.Core.Path.{◌≡◌, refl, sym, ap, ap₂, ◌∙◌}
use mathlib.Core.Bool.{Bool, true, false}
use mathlib.Core.List.{List, [], ◌∷◌, ◌++◌, map, reverse, append_assoc, append-nil, map-append, reverse-cons}
use mathlib.Core.Option.{Option, none, some}
use native.Mathlib.Omega.{arith}
use borrow.Author.Tests.{eq-eqb, ne_eqb, le-leb, lt-leb}
use lib.ListN.{length}
use Rattle.model.specs.declared.Connection.{Connection as TableConnection}
use Rattle.model.specs.Node.{Node}
use Rattle.model.specs.Forest.{nxt, root, path}
use Rattle.paths.specs.Hangs.{next_of, depth, Forest, AcceptedConnections}
use Rattle.paths.proofs.Accept.{accepted-forest}
use Rattle.paths.proofs.Bound.{depth_le}
use Rattle.paths.proofs.Places.{high, low, place}
use Rattle.paths.proofs.Ways.{climb_by, depth-climb, hop-low, ups, downs, meets}
use Rattle.paths.proofs.Climbed.{hop_of}
use Rattle.rust.specs.Explain.{Connection, Explain}
use Rattle.rust.specs.Paths.{connections_from, get_connections, Path, get_path_unoptimized, turned, turned_from, walked}
use Rattle.rust.proofs.Vectors.{on, off}
use Rattle.rust.specs.Read.{up, down, as_walked}
use Rattle.rust.proofs.Built.{Holds}
use Rattle.rust.proofs.Inside.{parent_up, next-inside}
use Rattle.rust.proofs.Ancestor.{ancestor, no-ancestor}

-- the connections of a climb
abbrev conn_of : List TableConnection → (ℕ → ℕ → List Connection) → TableConnection → Bool → List Connection
conn_of _ _ c u = up c ∷ []

abbrev connections_up : List TableConnection → ℕ → ℕ → List Connection
connections_up cs i n = ups [] ◌++◌ conn_of cs i n

module _ {ns : List Node} {cs : List TableConnection} {ex : Explain} (acc : AcceptedConnections ns cs) (held : Holds ns cs ex) where
  abbrev f : Forest cs
  f = accepted-forest ns cs acc

  -- a node of a climb of one connection and more is another one
  other : (i n : ℕ) → suc i ≤ depth cs n → climb_by cs (suc i) n ≡ n → ⊥
  other i n h q = let y : depth cs (climb_by cs (suc i) n) ≡ depth cs n = ap (depth cs) q in omega (arith, depth-climb (suc i) cs n f h)

  from : (i rounds n : ℕ) → suc i ≤ depth cs n → i < rounds → n < length ns →
      connections_from rounds ex n (climb_by cs (suc i) n) ≡ some (connections_up cs (suc i) n)
  unfolding connections_from climb_by ups
  from i zero n h k m = absurd (omega arith)
  from zero (suc rounds) n h k m =
      elim (place cs n f) [
        | high a b ↦ absurd (omega arith)
        | low c o a b t ↦
            on _ (parent_up held n m a)
            ∙ rw (eq-eqb (nxt c) (next_of cs n) (sym b)) (ap (λ (x : List Connection). some (x ++ [])) (sym (hop-low [] ◌++◌ conn_of cs n true a)))
      ]
  from (suc i) (suc rounds) n h k m =
      elim (place cs n f) [
        | high a b ↦ absurd (omega arith)
        | low c o a b t ↦
            let x = next_of cs n in
            on _ (parent_up held n m a)
            ∙ rw (ne_eqb (nxt c) (climb_by cs (suc i) x) (λ q. other i x (omega arith) (sym (b ∙ q))), ne_eqb (nxt c) n (λ q. other 0 n (omega arith) (b ∙ q)))
            (on _ (ap (λ (y : ℕ). connections_from rounds ex y (climb_by cs (suc i) x)) (sym b)
            ∙ from i rounds x (omega arith) (omega arith) (next-inside ns cs acc n m))
            ∙ ap (λ (y : List Connection). some (y ++ connections_up cs (suc i) x)) (sym (hop-low [] ◌++◌ conn_of cs n true a)))
      ]

  connections : (i rounds n : ℕ) → i ≤ depth cs n → i < rounds → n < length ns →
      get_connections rounds ex n (climb_by cs i n) ≡ some (connections_up cs i n)
  unfolding get_connections climb_by ups
  connections zero rounds n h k m = rw (eq-eqb n n refl) refl
  connections (suc i) rounds n h k m = rw (ne_eqb _ _ (λ q. other i n h (sym q))) (from i rounds n h (omega arith) m)

  -- walked up they are the way up, and walked down, the last first and each turned, the way down
  walked-up : (i n : ℕ) → i ≤ depth cs n → map as_walked (ups [] ◌++◌ hop_of cs i n) ≡ connections_up cs i n
  unfolding ups
  walked-up zero n h = refl
  walked-up (suc i) n h =
      elim (place cs n f) [
        | high a b ↦ absurd (omega arith)
        | low c o a b t ↦
            rw (hop-low [] ◌++◌ hop_of cs n true a, hop-low [] ◌++◌ conn_of cs n true a) (ap (◌∷◌ (up c)) (walked-up i (next_of cs n) (omega arith)))
      ]

  walked-down : (i n : ℕ) → i ≤ depth cs n → map as_walked (downs [] ◌++◌ hop_of cs i n) ≡ map turned (reverse (connections_up cs i n))
  unfolding ups downs
  walked-down zero n h = refl
  walked-down (suc i) n h =
      elim (place cs n f) [
        | high a b ↦ absurd (omega arith)
        | low c o a b t ↦
            rw (hop-low [] ◌++◌ hop_of cs n false a, hop-low [] ◌++◌ conn_of cs n true a)
            (map-append as_walked (downs [] ◌++◌ hop_of cs i (next_of cs n)) (record { conn = c; up = false } ∷ [])
            ∙ ap (λ (x : List Connection). x ++ (down c ∷ [])) (walked-down i (next_of cs n) (omega arith))
            ∙ sym (map-append turned (reverse (connections_up cs i (next_of cs n))) (up c ∷ []))
            ∙ ap (map turned) (sym (reverse-cons (up c) (connections_up cs i (next_of cs n)))))
      ]

-- the loop of explain_enodes: the left connections as they are, the right ones turned
turned_left : (k i : ℕ) (xs ys : List Connection) → i + length xs ≡ k → turned_from k i (xs ++ ys) ≡ xs ++ turned_from k k ys
unfolding turned_from
turned_left k i [] ys h = ap (λ (x : ℕ). turned_from k x ys) (omega arith)
turned_left k i (x ∷ xs) ys h = rw (lt-leb k i (omega arith)) (ap (◌∷◌ x) (turned_left k (suc i) xs ys (omega arith)))

turned_right : (k i : ℕ) (ys : List Connection) → k ≤ i → turned_from k i ys ≡ map turned ys
unfolding turned_from
turned_right k i [] h = refl
turned_right k i (y ∷ ys) h = rw (le-leb k i h) (ap (◌∷◌ (turned y)) (turned_right k (suc i) ys (omega arith)))

pub walked-is : (p : Path) → walked p ≡ p.lefts ++ map turned (reverse p.rights)
walked-is p =
    turned_left (length p.lefts) 0 p.lefts (reverse p.rights) (omega arith)
    ∙ ap (◌++◌ p.lefts) (turned_right (length p.lefts) (length p.lefts) (reverse p.rights) (omega arith))

-- THE RUST'S PATH without the memo, in rounds enough to climb from both nodes, is document 01's
pub record Walks (cs : List TableConnection) (l r : ℕ) (found : Option Path) : Type 0 where
  pub way : Path
  pub is : found ≡ some way
  pub same : walked way ≡ map as_walked (path cs l r)

module _ {ns : List Node} {cs : List TableConnection} {ex : Explain} (acc : AcceptedConnections ns cs) (held : Holds ns cs ex)
    (rounds : ℕ) (enough : 2 * length cs < rounds) (l r : ℕ) (l-in : l < length ns) (r-in : r < length ns) where
  pub unoptimized : root cs l ≡ root cs r → Walks cs l r (get_path_unoptimized rounds ex l r)
  unfolding get_path_unoptimized path
  unoptimized same =
      let f = accepted-forest ns cs acc in
      let m = meets [] ◌++◌ hop_of append_assoc (λ x. refl) append-nil cs l r f same in
      let far : depth cs l + depth cs r < rounds = omega (arith, depth_le cs l f, depth_le cs r f) in
      let a = ancestor acc held l r m.i m.j l-in r-in same m.meet m.lowest rounds (omega (arith, m.left, m.right)) in
      let x = connections acc held m.i rounds l (omega (arith, m.left)) (omega (arith, m.left)) l-in in
      let y = connections acc held m.j rounds r (omega (arith, m.right)) (omega (arith, m.right)) r-in in
      let p : Path = record { lefts = connections_up cs m.i l; rights = connections_up cs m.j r } in
      record {
        way = p;
        is = on _ a ∙ on _ x ∙ on _ (ap (get_connections rounds ex r) m.meet ∙ y);
        same = walked-is p
            ∙ sym (ap (map as_walked) m.whole
            ∙ map-append as_walked (ups [] ◌++◌ hop_of cs m.i l) (downs [] ◌++◌ hop_of cs m.j r)
            ∙ ap₂ ◌++◌ (walked-up acc held m.i l (omega (arith, m.left))) (walked-down acc held m.j r (omega (arith, m.right))));
      }

  -- and the Rust panics where document 01 says 9
  pub no-unoptimized : (root cs l ≡ root cs r → ⊥) → get_path_unoptimized rounds ex l r ≡ none
  unfolding get_path_unoptimized
  no-unoptimized apart = off _ (no-ancestor acc held l r l-in r-in apart rounds)
