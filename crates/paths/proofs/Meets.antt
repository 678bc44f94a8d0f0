-- Where two climbs meet: the deeper end climbs, and where they meet stays the same.
use Prim.Native.Nat.{ℕ, ◌≤◌, ◌<◌}
use mathlib.Core.Path.{◌≡◌, refl, sym, ap, ◌∙◌}
use mathlib.Core.Bool.{Bool, true, false}
use mathlib.Core.List.{List, [], ◌∷◌}
use mathlib.Core.Logic.{⊎_elim}
use native.Mathlib.Omega.{arith}
use native.Mathlib.Decide.{ℕ_discrete}
use Rattle.model.specs.declared.Connection.{Connection}
use Rattle.model.specs.Forest.{nxt, root, joined, walk, below, parent_of}
use Rattle.paths.specs.Hangs.{next_of, depth, Forest, Within}
use Rattle.paths.specs.Meet.{Last, none, at, last, or_else, last_up, top_of, meet_of}
use Rattle.std.specs.Prelude.{Some, None, is_some}
use Rattle.paths.proofs.Laws.{no-parent, parent-case, root_below, joined-yes, joined-no}
use Rattle.paths.proofs.Walks.{depth-zero, climb-left, climb-right, walk-self}
use Rattle.paths.proofs.Places.{Place, high, low, place}

-- a parent connection is one of the list's
pub within-parent : (m : ℕ) (cs : List Connection) (n : ℕ) {c : Connection} {older : List Connection} → Within m cs →
    parent_of cs n ≡ below c older → nxt c < m
unfolding parent_of
within-parent m [] n w p = absurd (no-parent p)
within-parent m (d ∷ cs) n {c} w p =
    ⊎_elim (λ q. rw (← q.conn) w.1) (λ q. within-parent m cs n w.2 q.from) (parent-case d cs n p)

pub last-assoc : (a b c : Last) → last (last a b) c ≡ last a (last b c)
last-assoc a b none = refl
last-assoc a b (at n) = refl

pub last_none : (a : Last) → last none a ≡ a
last_none none = refl
last_none (at n) = refl

pub last-at : (l n : ℕ) (a : Last) → or_else l (last (at n) a) ≡ or_else n a
last-at l n none = refl
last-at l n (at m) = refl

abbrev ups : List Connection → ℕ → ℕ → Last
ups = walk none last (λ _ _. last_up)

pub meet-done : (cs : List Connection) (n : ℕ) → meet_of cs n n ≡ Some (record { 0 = n })
unfolding meet_of top_of
meet-done cs n = rw (joined-yes cs n n refl, walk-self none last (λ _ _. last_up) cs n)

pub meet-none : (cs : List Connection) (l r : ℕ) → (root cs l ≡ root cs r → ⊥) → meet_of cs l r ≡ None
unfolding meet_of
meet-none cs l r p = rw (joined-no cs l r p)

module _ (cs : List Connection) (l r : ℕ) (f : Forest cs) (n : l ≡ r → ⊥) where
  pub meet_left : 0 < depth cs l → depth cs r ≤ depth cs l → meet_of cs l r ≡ meet_of cs (next_of cs l) r
  unfolding meet_of top_of
  meet_left z h = go (place cs l f)
    where
      go : Place cs l → meet_of cs l r ≡ meet_of cs (next_of cs l) r
      go (high p q) = absurd (omega arith)
      go (low c o p q s) =
          elim (ℕ_discrete (root cs l) (root cs r)) [
            | yes j ↦
                let w = climb-left none last (λ _ _. last_up) last-assoc last_none (λ a. refl) cs l r f p j h n in
                rw (q, joined-yes cs l r j, joined-yes cs (nxt c) r (sym (root_below cs l f p) ∙ j), w)
                (ap (λ x. Some (record { 0 = x })) (last-at l (nxt c) (ups cs (nxt c) r)))
            | no j ↦ rw (q, joined-no cs l r j, joined-no cs (nxt c) r (λ e. j (root_below cs l f p ∙ e))) refl
          ]

  pub meet_right : 0 < depth cs r → depth cs l ≤ depth cs r → meet_of cs l r ≡ meet_of cs l (next_of cs r)
  unfolding meet_of top_of
  meet_right z h = go (place cs r f)
    where
      go : Place cs r → meet_of cs l r ≡ meet_of cs l (next_of cs r)
      go (high p q) = absurd (omega arith)
      go (low c o p q s) =
          elim (ℕ_discrete (root cs l) (root cs r)) [
            | yes j ↦
                let w = climb-right none last (λ _ _. last_up) last-assoc last_none (λ a. refl) cs l r f p j h n in
                rw (q, joined-yes cs l r j, joined-yes cs l (nxt c) (j ∙ root_below cs r f p), w) refl
            | no j ↦ rw (q, joined-no cs l r j, joined-no cs l (nxt c) (λ e. j (e ∙ sym (root_below cs r f p)))) refl
          ]

  pub meet-nowhere : depth cs l ≡ 0 → depth cs r ≡ 0 → meet_of cs l r ≡ None
  meet-nowhere p q = meet-none cs l r (λ e. n (sym (depth-zero cs l f p) ∙ e ∙ depth-zero cs r f q))

pub meet-joined : (cs : List Connection) (l r : ℕ) → is_some (meet_of cs l r) ≡ joined cs l r
unfolding meet_of
meet-joined cs l r = go (joined cs l r) refl
  where
    go : (b : Bool) → joined cs l r ≡ b → is_some (meet_of cs l r) ≡ joined cs l r
    go true p = rw p
    go false p = rw p
