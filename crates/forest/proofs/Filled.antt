-- Filling the rows: every node a top, then a parent for each connection, then depths from below. What the stores keep.
use Prim.Native.Nat.{ℕ, zero, suc, ◌+◌, ◌-◌, ◌<◌, ◌≤◌}
use mathlib.Core.List.{List, [], ◌++◌, ◌∷◌}
use mathlib.Core.Path.{◌∙◌, ◌≡◌, ap, refl, subst, sym}
use native.Mathlib.Decide.{dec_le, ℕ_discrete}
use native.Mathlib.Numerals.{add-one}
use native.Mathlib.Omega.{arith}
use lib.ListN.{get_or-append, drop, length, length-append, length-drop, length-set, set}
use lib.Seq.{ext_get_or, get_or-append-add, get_or-drop, get_or-set_other, get_or-set_same}
use Rattle.model.specs.Forest.{cur, nxt, parent_of}
use Rattle.model.specs.Limits.{node_limit}
use Rattle.model.specs.declared.Connection.{Connection}
use Rattle.paths.proofs.Laws.{parent-new, parent-old}
use Rattle.paths.specs.Hangs.{depth, next_of}
use Rattle.entries.proofs.Connections.{length-oldest}
use Rattle.entries.specs.Connections.{connection_in, oldest}
use Rattle.forest.specs.Filling.{Tied, DepthsUnknown}
use Rattle.forest.specs.Rows.{age_of, depth_in, no_row, row_in, row_of, rows_of, top_row, with_depth, with_parent}
use Rattle.forest.specs.declared.Row.{Row}
use Rattle.forest.proofs.Ages.{age-new, age-old}

next-new : (c : Connection) (cs : List Connection) → next_of (c ∷ cs) (cur c) ≡ nxt c
unfolding next_of
next-new c cs = rw (parent-new c cs (cur c) refl)

next-old : (c : Connection) (cs : List Connection) (a : ℕ) → (a ≡ cur c → ⊥) → next_of (c ∷ cs) a ≡ next_of cs a
unfolding next_of
next-old c cs a e = rw (parent-old c cs a e)

-- one row written: a part of it there, and a part of any other row
module _ {A : Type 0} (part : Row → A) (rows : List Row) (m : ℕ) (r : Row) where
  pub part-here : m < length rows → part (row_in (set rows m r) m) ≡ part r
  part-here h = ap part (get_or-set_same rows m r no_row h)

  pub part-other : (a : ℕ) → (a ≡ m → ⊥) → part (row_in (set rows m r) a) ≡ part (row_in rows a)
  part-other a p = ap part (get_or-set_other rows m a r no_row p)

  -- where the row keeps the part, each row does
  pub part-kept : m < length rows → part r ≡ part (row_in rows m) → (a : ℕ) → part (row_in (set rows m r) a) ≡ part (row_in rows a)
  part-kept h k a = elim (ℕ_discrete a m) [ yes q ↦ rw q (part-here h ∙ k) | no q ↦ part-other a q ]

abbrev pub next_part : Row → ℕ
next_part r = r.next.0

abbrev pub age_part : Row → ℕ
age_part r = r.age

abbrev pub cost_part : Row → ℕ
cost_part r = r.cost

abbrev pub depth_part : Row → ℕ
depth_part r = r.depth

abbrev pub whole_row : Row → Row
whole_row r = r

-- one more connection, in its current's row
module _ {cs : List Connection} {n : ℕ} {old rows : List Row} (c : Connection) (w : ℕ) (t : Tied cs n old rows) (few : n ≤ node_limit) (h : cur c < n) where
  abbrev hung : Row
  hung = with_parent (nxt c) w (row_in rows (cur c))

  here : cur c < length rows
  here = omega (arith, t.size)

  pub tied-more : w ≡ suc (length cs) → Tied (c ∷ cs) n old (set rows (cur c) hung)
  tied-more e =
      record {
        size = simp length-set t.size;
        next = λ a p. elim (ℕ_discrete a (cur c)) [
          | yes q ↦ rw q (part-here next_part rows (cur c) hung here ∙ sym (next-new c cs))
          | no q ↦ part-other next_part rows (cur c) hung a q ∙ t.next a p ∙ sym (next-old c cs a q)
        ];
        age = λ a p. elim (ℕ_discrete a (cur c)) [
          | yes q ↦ rw q (part-here age_part rows (cur c) hung here ∙ e ∙ sym (age-new c cs (cur c) refl))
          | no q ↦ part-other age_part rows (cur c) hung a q ∙ t.age a p ∙ sym (age-old c cs a q)
        ];
        free = λ a p. part-kept cost_part rows (cur c) hung here refl a ∙ t.free a p;
        rest = λ a p. part-other whole_row rows (cur c) hung a (λ x. omega arith) ∙ t.rest a p;
      }

  pub unknown-more : DepthsUnknown n rows → DepthsUnknown n (set rows (cur c) hung)
  unknown-more u = λ a p. part-kept depth_part rows (cur c) hung here refl a ∙ u a p

pub tied-next : (conns : List ℕ) (age : ℕ) {n : ℕ} {old rows : List Row} → Tied (oldest age conns) n old rows → n ≤ node_limit →
    cur (connection_in conns age) < n →
    let c = connection_in conns age in
    Tied (oldest (age + 1) conns) n old (set rows (cur c) (with_parent (nxt c) (age + 1) (row_in rows (cur c))))
unfolding oldest
tied-next conns age {n} {old} {rows} t few h =
    let c = connection_in conns age in
    let e : age + 1 ≡ suc (length (oldest age conns)) = omega (arith, length-oldest age conns) in
    subst (λ (k : ℕ). Tied (oldest k conns) n old (set rows (cur c) (with_parent (nxt c) (age + 1) (row_in rows (cur c)))))
    (sym (add-one age)) (tied-more c (age + 1) t few h e)

-- every node a top: one more row
module _ {old rows : List Row} {i : ℕ} (t : Tied [] i old rows) (h : i < node_limit) where
  room : i < length rows
  room = omega (arith, t.size)

  pub tied-begun : Tied [] (i + 1) old (set rows i (top_row i))
  unfolding next_of age_of parent_of
  tied-begun =
      record {
        size = simp length-set t.size;
        next = λ a p. elim (ℕ_discrete a i) [
          | yes q ↦ rw q (part-here next_part rows i (top_row i) room)
          | no q ↦ part-other next_part rows i (top_row i) a q ∙ t.next a (omega arith)
        ];
        age = λ a p. elim (ℕ_discrete a i) [
          | yes q ↦ rw q (part-here age_part rows i (top_row i) room)
          | no q ↦ part-other age_part rows i (top_row i) a q ∙ t.age a (omega arith)
        ];
        free = λ a p. elim (ℕ_discrete a i) [
          | yes q ↦ rw q (part-here cost_part rows i (top_row i) room)
          | no q ↦ part-other cost_part rows i (top_row i) a q ∙ t.free a (omega arith)
        ];
        rest = λ a p. part-other whole_row rows i (top_row i) a (λ x. omega arith) ∙ t.rest a (omega arith);
      }

  pub unknown-begun : DepthsUnknown i rows → DepthsUnknown (i + 1) (set rows i (top_row i))
  unknown-begun u = λ a p. elim (ℕ_discrete a i) [
    | yes q ↦ rw q (part-here depth_part rows i (top_row i) room)
    | no q ↦ part-other depth_part rows i (top_row i) a q ∙ u a (omega arith)
  ]

pub tied-none : (old : List Row) → length old ≡ node_limit → Tied [] 0 old old
tied-none old s =
    record {
      size = s;
      next = λ a p. absurd (omega arith);
      age = λ a p. absurd (omega arith);
      free = λ a p. absurd (omega arith);
      rest = λ a p. refl;
    }

-- one more depth
module _ {cs : List Connection} {n : ℕ} {old rows : List Row} (t : Tied cs n old rows) (few : n ≤ node_limit) (m v : ℕ) (h : m < n) where
  abbrev sounded : Row
  sounded = with_depth v (row_in rows m)

  abbrev deeper : List Row
  deeper = set rows m sounded

  inside : m < length rows
  inside = omega (arith, t.size)

  pub depth-here : depth_in deeper m ≡ v
  depth-here = part-here depth_part rows m sounded inside

  pub tied-depth : Tied cs n old deeper
  tied-depth =
      record {
        size = simp length-set t.size;
        next = λ a p. part-kept next_part rows m sounded inside refl a ∙ t.next a p;
        age = λ a p. part-kept age_part rows m sounded inside refl a ∙ t.age a p;
        free = λ a p. part-kept cost_part rows m sounded inside refl a ∙ t.free a p;
        rest = λ a p. part-other whole_row rows m sounded a (λ x. omega arith) ∙ t.rest a p;
      }

  pub right-depth : v ≡ suc (depth cs m) → ((a : ℕ) → a < n → 0 < depth_in rows a → depth_in rows a ≡ suc (depth cs a)) →
      (a : ℕ) → a < n → 0 < depth_in deeper a → depth_in deeper a ≡ suc (depth cs a)
  right-depth e r = λ a p z. elim (ℕ_discrete a m) [
    | yes q ↦ rw q (depth-here ∙ e)
    | no q ↦ let o = part-other depth_part rows m sounded a q in o ∙ r a p (omega (arith, o))
  ]

  -- a depth that is there stays
  pub still-known : (a : ℕ) → 0 < v → 0 < depth_in rows a → 0 < depth_in deeper a
  still-known a z k = elim (ℕ_discrete a m) [
    | yes q ↦ rw q (omega (arith, depth-here))
    | no q ↦ omega (arith, part-other depth_part rows m sounded a q)
  ]

-- all the rows, one by one and as one list
pub length-rows : (cs : List Connection) (k : ℕ) → length (rows_of cs k) ≡ k
unfolding rows_of
length-rows cs zero = refl
length-rows cs (suc k) = rw (length-append, length-rows cs k) (omega arith)

pub row-at : (cs : List Connection) (k a : ℕ) → a < k → row_in (rows_of cs k) a ≡ row_of cs a
unfolding rows_of
row-at cs zero a p = absurd (omega arith)
row-at cs (suc k) a p =
    elim (ℕ_discrete a k) [
      | yes e ↦
          let l : length (rows_of cs k) + 0 ≡ a = omega (arith, length-rows cs k) in
          ap (λ (x : ℕ). row_in (rows_of cs k ++ (row_of cs k ∷ [])) x) (sym l)
          ∙ get_or-append-add (rows_of cs k) (row_of cs k ∷ []) 0 no_row ∙ ap (row_of cs) (sym e)
      | no e ↦ get_or-append (rows_of cs k) (row_of cs k ∷ []) no_row a (omega (arith, length-rows cs k)) ∙ row-at cs k a (omega arith)
    ]

-- a row by its parts
abbrev put : ℕ → ℕ → ℕ → ℕ → Row
put n a c d = record { next = record { 0 = n }; age = a; cost = c; depth = d }

row-by : (r : Row) {n a c d : ℕ} → r.next.0 ≡ n → r.age ≡ a → r.cost ≡ c → r.depth ≡ d →
    r ≡ put n a c d
row-by r {n} {a} {c} {d} p q s t =
    ap (λ (x : ℕ). put x r.age r.cost r.depth) p
    ∙ ap (λ (x : ℕ). put n x r.cost r.depth) q
    ∙ ap (λ (x : ℕ). put n a x r.depth) s
    ∙ ap (λ (x : ℕ). put n a c x) t

pub rows_are : {cs : List Connection} {n : ℕ} {old rows : List Row} → Tied cs n old rows → n ≤ node_limit → length old ≡ node_limit →
    ((a : ℕ) → a < n → depth_in rows a ≡ suc (depth cs a)) → rows ≡ rows_of cs n ++ drop n old
rows_are {cs} {n} {old} {rows} t few s d =
    ext_get_or no_row rows (rows_of cs n ++ drop n old)
    (t.size ∙ sym (rw (length-append, length-rows cs n, length-drop, s) (omega arith)))
    (λ i h. elim (dec_le n i) [
      | yes q ↦ t.rest i q ∙ sym (behind cs n old i q)
      | no q ↦
          let p : i < n = omega arith in
          row-by (row_in rows i) (t.next i p) (t.age i p) (t.free i p) (d i p)
          ∙ sym (row-at cs n i p)
          ∙ sym (get_or-append (rows_of cs n) (drop n old) no_row i (omega (arith, length-rows cs n)))
    ])
  where
    behind : (cs : List Connection) (n : ℕ) (old : List Row) (i : ℕ) → n ≤ i → row_in (rows_of cs n ++ drop n old) i ≡ row_in old i
    behind cs n old i q =
        let e : i ≡ length (rows_of cs n) + (i - n) = omega (arith, length-rows cs n) in
        let g : n + (i - n) ≡ i = omega arith in
        ap (λ (x : ℕ). row_in (rows_of cs n ++ drop n old) x) e
        ∙ get_or-append-add (rows_of cs n) (drop n old) (i - n) no_row
        ∙ get_or-drop n old (i - n) no_row ∙ ap (λ (x : ℕ). row_in old x) g
