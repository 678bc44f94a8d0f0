-- The memo that `union` fills changes no path: a pair that it holds is joined by one rule connection, which is the path without it.
use Prim.Native.Nat.{ℕ, zero, suc, ◌*◌, ◌<◌}
use mathlib.Core.Path.{◌≡◌, refl, sym, ap, ◌∙◌}
use mathlib.Core.Bool.{Bool, true, false, cond, ◌&&◌, false≢true}
use mathlib.Core.List.{List, [], ◌∷◌, ◌++◌, map, append_assoc}
use mathlib.Core.Logic.{◌⊎◌, inl, inr, ⊎_elim}
use mathlib.Core.Option.{Option, none, some, some-injective, none-ne-some}
use native.Mathlib.Omega.{arith}
use native.Mathlib.Decide.{ℕ_discrete}
use borrow.Author.Tests.{eq-eqb, ne_eqb}
use lib.Dec.{eqb}
use lib.ListN.{length}
use Rattle.model.specs.declared.Connection.{Connection as TableConnection}
use Rattle.model.specs.Node.{Node}
use Rattle.model.specs.Forest.{cur, nxt, root, Hop, path}
use Rattle.paths.specs.Hangs.{AcceptedConnections}
use Rattle.paths.proofs.Accept.{sound}
use Rattle.paths.proofs.Joined.{root_ends, path-old, path-self}
use Rattle.paths.proofs.Laws.{root-old}
use Rattle.paths.proofs.Walks.{walk_up, walk-down, walk-self}
use Rattle.paths.proofs.Climbed.{hop_of}
use Rattle.rust.specs.Explain.{Justification, rule, congruence, Connection, Memoed, Explain, memoed, justified}
use Rattle.rust.specs.Paths.{is_rule, neighbor_to, get_path, turned_from}
use Rattle.rust.proofs.Vectors.{on, off}
use Rattle.rust.specs.Read.{up, down, as_walked}
use Rattle.rust.proofs.Built.{neighbors_in, memo_in, Holds}
use Rattle.rust.proofs.PathRust.{Walks, unoptimized, no-unoptimized}

-- a neighbor that is found stays the one found when more are pushed behind it
found_front : (xs ys : List Connection) (l r : ℕ) → is_rule (neighbor_to xs l r).justification ≡ true → neighbor_to (xs ++ ys) l r ≡ neighbor_to xs l r
unfolding neighbor_to
found_front [] ys l r h = absurd (false≢true h)
found_front (x ∷ xs) ys l r h = go (eqb x.next r && is_rule x.justification) h (found_front xs ys l r)
  where
    go : (b : Bool) → is_rule (cond b x (neighbor_to xs l r)).justification ≡ true →
        (is_rule (neighbor_to xs l r).justification ≡ true → neighbor_to (xs ++ ys) l r ≡ neighbor_to xs l r) →
        cond b x (neighbor_to (xs ++ ys) l r) ≡ cond b x (neighbor_to xs l r)
    go true p rec = refl
    go false p rec = rec p

-- no neighbor leads to a node that is not joined
skipped : (x : Connection) (xs : List Connection) (l r : ℕ) → (x.next ≡ r → ⊥) → neighbor_to (x ∷ xs) l r ≡ neighbor_to xs l r
unfolding neighbor_to
skipped x xs l r n = rw (ne_eqb x.next r n) refl

none-there : (cs : List TableConnection) (ys : List Connection) (l r : ℕ) → (root cs l ≡ root cs r → ⊥) →
    neighbor_to (neighbors_in cs l ++ ys) l r ≡ neighbor_to ys l r
unfolding neighbors_in
none-there [] ys l r n = refl
none-there (c ∷ cs) ys l r n =
    elim (ℕ_discrete l (cur c)) [
      | yes p ↦
          let z : nxt c ≡ r → ⊥ = λ q. n (ap (root (c ∷ cs)) p ∙ root_ends c cs ∙ ap (root (c ∷ cs)) q) in
          rw (eq-eqb l (cur c) p) (ap (λ (x : List Connection). neighbor_to x l r) (append_assoc (neighbors_in cs l) (up c ∷ []) ys)
          ∙ none-there cs (up c ∷ ys) l r older ∙ skipped (up c) ys l r z)
      | no p ↦ elim (ℕ_discrete l (nxt c)) [
        | yes q ↦
            let z : cur c ≡ r → ⊥ = λ s. n (ap (root (c ∷ cs)) q ∙ sym (root_ends c cs) ∙ ap (root (c ∷ cs)) s) in
            rw (ne_eqb l (cur c) p, eq-eqb l (nxt c) q) (ap (λ (x : List Connection). neighbor_to x l r) (append_assoc (neighbors_in cs l) (down c ∷ []) ys)
            ∙ none-there cs (down c ∷ ys) l r older ∙ skipped (down c) ys l r z)
        | no q ↦ rw (ne_eqb l (cur c) p, ne_eqb l (nxt c) q) (none-there cs ys l r older)
      ]
    ]
  where
    older : root cs l ≡ root cs r → ⊥
    older p = n (root-old c cs l r p)

-- what the memo says of a pair
record Known (cs : List TableConnection) (l r next : ℕ) : Type 0 where
  arrives : next ≡ r
  joins : root cs l ≡ root cs r
  hop : Hop
  way : path cs l r ≡ hop ∷ []
  found : neighbor_to (neighbors_in cs l) l r ≡ as_walked hop
  by_rule : is_rule (as_walked hop).justification ≡ true

module _ (ns : List Node) (c : TableConnection) (cs : List TableConnection) (a : AcceptedConnections ns (c ∷ cs)) (rules : is_rule (justified c.why) ≡ true) where
  apart : root cs (cur c) ≡ root cs (nxt c) → ⊥
  apart = (sound a.0).hangs.apart

  way_up : path (c ∷ cs) (cur c) (nxt c) ≡ record { conn = c; up = true } ∷ []
  unfolding path
  way_up =
      walk_up [] ◌++◌ hop_of c cs (cur c) (nxt c) apart (record { left = refl; right = refl })
      ∙ rw (walk-self [] ◌++◌ hop_of cs (cur c), walk-self [] ◌++◌ hop_of cs (nxt c)) refl

  way_down : path (c ∷ cs) (nxt c) (cur c) ≡ record { conn = c; up = false } ∷ []
  unfolding path
  way_down =
      walk-down [] ◌++◌ hop_of c cs (nxt c) (cur c) apart (record { left = refl; right = refl })
      ∙ rw (walk-self [] ◌++◌ hop_of cs (cur c), walk-self [] ◌++◌ hop_of cs (nxt c)) refl

  found_up : neighbor_to (neighbors_in (c ∷ cs) (cur c)) (cur c) (nxt c) ≡ up c
  unfolding neighbors_in neighbor_to
  found_up =
      rw (eq-eqb (cur c) (cur c) refl) (none-there cs (up c ∷ []) (cur c) (nxt c) apart
      ∙ rw (eq-eqb (nxt c) (nxt c) refl, rules) refl)

  found-down : neighbor_to (neighbors_in (c ∷ cs) (nxt c)) (nxt c) (cur c) ≡ down c
  unfolding neighbors_in neighbor_to
  found-down =
      rw (ne_eqb (nxt c) (cur c) (λ q. apart (ap (root cs) (sym q))), eq-eqb (nxt c) (nxt c) refl)
      (none-there cs (down c ∷ []) (nxt c) (cur c) (λ q. apart (sym q))
      ∙ rw (eq-eqb (cur c) (cur c) refl, rules) refl)

  known_up : (l r : ℕ) → cur c ≡ l → nxt c ≡ r → Known (c ∷ cs) l r (nxt c)
  known_up l r p q =
      rw (← p, ← q) record {
        arrives = refl;
        joins = root_ends c cs;
        hop = record { conn = c; up = true };
        way = way_up;
        found = found_up;
        by_rule = rules;
      }

  known-down : (l r : ℕ) → nxt c ≡ l → cur c ≡ r → Known (c ∷ cs) l r (cur c)
  known-down l r p q =
      rw (← p, ← q) record {
        arrives = refl;
        joins = sym (root_ends c cs);
        hop = record { conn = c; up = false };
        way = way_down;
        found = found-down;
        by_rule = rules;
      }

-- what was known of a pair stays known
known-old : (c : TableConnection) (cs : List TableConnection) (l r next : ℕ) → Known cs l r next → Known (c ∷ cs) l r next
unfolding neighbors_in
known-old c cs l r next k =
    record {
      arrives = k.arrives;
      joins = root-old c cs l r k.joins;
      hop = k.hop;
      way = path-old c cs l r k.joins ∙ k.way;
      found = go (eqb l (cur c)) refl (eqb l (nxt c)) refl ∙ k.found;
      by_rule = k.by_rule;
    }
  where
    front : (ys : List Connection) → neighbor_to (neighbors_in cs l ++ ys) l r ≡ neighbor_to (neighbors_in cs l) l r
    front ys = found_front (neighbors_in cs l) ys l r (ap (λ (x : Connection). is_rule x.justification) k.found ∙ k.by_rule)

    go : (x : Bool) → eqb l (cur c) ≡ x → (y : Bool) → eqb l (nxt c) ≡ y → neighbor_to (neighbors_in (c ∷ cs) l) l r ≡ neighbor_to (neighbors_in cs l) l r
    go true p y q = rw p (front (up c ∷ []))
    go false p true q = rw (p, q) (front (down c ∷ []))
    go false p false q = rw (p, q) refl

-- an entry is the one asked for, or an older one is
record Asked (m : Memoed) (l r next : ℕ) : Type 0 where
  left : m.left ≡ l
  right : m.right ≡ r
  leads : m.next ≡ next

asked : (m : Memoed) (ms : List Memoed) (l r next : ℕ) → memoed (m ∷ ms) l r ≡ some next → Asked m l r next ⊎ (memoed ms l r ≡ some next)
unfolding memoed
asked m ms l r next p =
    elim (ℕ_discrete m.left l) [
      | yes x ↦ elim (ℕ_discrete m.right r) [
        | yes y ↦ inl (record { left = x; right = y; leads = some-injective _ _ (rw (eq-eqb _ _ x, eq-eqb _ _ y) at p) })
        | no y ↦ inr (rw (eq-eqb _ _ x, ne_eqb _ _ y) at p)
      ]
      | no x ↦ inr (rw (ne_eqb _ _ x) at p)
    ]

known : (ns : List Node) (cs : List TableConnection) → AcceptedConnections ns cs → (l r next : ℕ) → memoed (memo_in cs) l r ≡ some next → Known cs l r next
unfolding memoed
known ns [] a l r next p = absurd (none-ne-some next p)
known ns (c ∷ cs) a l r next p = go (justified c.why) refl (known ns cs a.1 l r next)
  where
    go : (w : Justification) → justified c.why ≡ w → (memoed (memo_in cs) l r ≡ some next → Known cs l r next) → Known (c ∷ cs) l r next
    go (rule n) q rec =
        let rules : is_rule (justified c.why) ≡ true = ap is_rule q in
        let e : Memoed = record { left = cur c; right = nxt c; next = nxt c } in
        ⊎_elim
        (λ x. rw (← x.leads) (known-down ns c cs a rules l r x.left x.right))
        (λ m. ⊎_elim
        (λ x. rw (← x.leads) (known_up ns c cs a rules l r x.left x.right))
        (λ o. known-old c cs l r next (rec o))
        (asked e (memo_in cs) l r next m))
        (asked (record { left = nxt c; right = cur c; next = cur c }) (e ∷ memo_in cs) l r next (rw q at p))
    go congruence q rec = known-old c cs l r next (rec (rw q at p))

-- at the right node the loop ends
arrived : (rounds : ℕ) (ex : Explain) (lefts : List Connection) (n r : ℕ) → 0 < rounds → n ≡ r →
    get_path rounds ex lefts n r ≡ some (record { lefts = lefts; rights = [] })
unfolding get_path
arrived zero ex lefts n r h p = absurd (omega arith)
arrived (suc rounds) ex lefts n r h p = rw (eq-eqb n r p) refl

some-connection : (cs : List TableConnection) (l r next : ℕ) → memoed (memo_in cs) l r ≡ some next → 0 < length cs
unfolding memoed
some-connection [] l r next p = absurd (none-ne-some next p)
some-connection (c ∷ cs) l r next p = omega arith

-- one round and more
module _ {ns : List Node} {cs : List TableConnection} {ex : Explain} (acc : AcceptedConnections ns cs) (held : Holds ns cs ex)
    (rounds : ℕ) (enough : 2 * length cs < suc rounds) (l r : ℕ) (l-in : l < length ns) (r-in : r < length ns) where
  in-memo : {o : Option ℕ} → memoed (memo_in cs) l r ≡ o → memoed ex.memo l r ≡ o
  in-memo p = ap (λ (m : List Memoed). memoed m l r) held.memo ∙ p

  by-memo : (next : ℕ) → (l ≡ r → ⊥) → memoed (memo_in cs) l r ≡ some next → Walks cs l r (get_path (suc rounds) ex [] l r)
  unfolding get_path turned_from
  by-memo next n p =
      let k = known ns cs acc l r next p in
      let c = neighbor_to (neighbors_in cs l) l next in
      record {
        way = record { lefts = c ∷ []; rights = [] };
        is = rw (ne_eqb l r n, in-memo p) (on _ (on _ (held.at l l-in))
            ∙ arrived rounds ex (c ∷ []) next r (omega (arith, some-connection cs l r next p)) k.arrives);
        same = ap (λ (x : ℕ). neighbor_to (neighbors_in cs l) l x ∷ []) k.arrives
            ∙ ap (λ (x : Connection). x ∷ []) k.found ∙ ap (map as_walked) (sym k.way);
      }

  without : (l ≡ r → ⊥) → memoed (memo_in cs) l r ≡ none → root cs l ≡ root cs r → Walks cs l r (get_path (suc rounds) ex [] l r)
  unfolding get_path
  without n p same =
      let w = unoptimized acc held (suc rounds) enough l r l-in r-in same in
      record { way = w.way; is = rw (ne_eqb l r n, in-memo p) (on _ w.is); same = w.same }

  by : (o : Option ℕ) → memoed (memo_in cs) l r ≡ o → (l ≡ r → ⊥) → root cs l ≡ root cs r → Walks cs l r (get_path (suc rounds) ex [] l r)
  by none p n same = without n p same
  by (some next) p n same = by-memo next n p

  by-rounds : root cs l ≡ root cs r → Walks cs l r (get_path (suc rounds) ex [] l r)
  unfolding turned_from
  by-rounds same =
      elim (ℕ_discrete l r) [
        | yes q ↦
            record {
              way = record { lefts = []; rights = [] };
              is = arrived (suc rounds) ex [] l r (omega arith) q;
              same = sym (ap (λ (x : ℕ). map as_walked (path cs x r)) q ∙ ap (map as_walked) (path-self cs r));
            }
        | no q ↦ by (memoed (memo_in cs) l r) refl q same
      ]

  no-by-rounds : (root cs l ≡ root cs r → ⊥) → get_path (suc rounds) ex [] l r ≡ none
  unfolding get_path
  no-by-rounds apart = go (memoed (memo_in cs) l r) refl
    where
      go : (o : Option ℕ) → memoed (memo_in cs) l r ≡ o → get_path (suc rounds) ex [] l r ≡ none
      go none p = rw (ne_eqb l r (λ q. apart (ap (root cs) q)), in-memo p) (off _ (no-unoptimized acc held (suc rounds) enough l r l-in r-in apart))
      go (some next) p = absurd (apart (known ns cs acc l r next p).joins)

-- THE RUST'S PATH, by the memo that `union` fills, is document 01's
module _ {ns : List Node} {cs : List TableConnection} {ex : Explain} (acc : AcceptedConnections ns cs) (held : Holds ns cs ex) where
  pub optimized : (rounds : ℕ) → 2 * length cs < rounds → (l r : ℕ) → l < length ns → r < length ns → root cs l ≡ root cs r →
      Walks cs l r (get_path rounds ex [] l r)
  optimized zero h l r l-in r-in same = absurd (omega arith)
  optimized (suc rounds) h l r l-in r-in same = by-rounds acc held rounds h l r l-in r-in same

  -- and the Rust panics where document 01 says 9
  pub no-optimized : (rounds : ℕ) → 2 * length cs < rounds → (l r : ℕ) → l < length ns → r < length ns → (root cs l ≡ root cs r → ⊥) →
      get_path rounds ex [] l r ≡ none
  no-optimized zero h l r l-in r-in apart = absurd (omega arith)
  no-optimized (suc rounds) h l r l-in r-in apart = no-by-rounds acc held rounds h l r l-in r-in apart
