-- A climb whose costly connections are laid, or counted: what is done and what is left make the whole climb.
use Prim.Native.Nat.{ℕ, zero, suc, ◌+◌, ◌-◌, ◌≤◌, ◌<◌}
use mathlib.Core.Bool.{Bool, true, false}
use mathlib.Core.List.{List, [], ◌∷◌, ◌++◌, append_assoc, append-nil, reverse, reverse-append}
use mathlib.Core.Logic.{⊎_elim}
use mathlib.Core.Path.{◌≡◌, refl, sym, ap, ap₂, subst, ◌∙◌}
use native.Mathlib.Omega.{arith}
use native.Mathlib.Decide.{ℕ_discrete}
use lib.ListN.{length, take, drop, length-append}
use lib.Seq.{length-take-le, take-add}
use Rattle.forest.specs.declared.Row.{Row}
use Rattle.model.specs.declared.Connection.{Connection}
use Rattle.model.specs.Limits.{node_limit}
use Rattle.model.specs.declared.NodeNo.{NodeNo}
use Rattle.model.specs.Forest.{cur, nxt, root, joined, below, parent_of}
use Rattle.paths.specs.Meet.{top_of, meet_of}
use Rattle.std.specs.Prelude.{Some, None}
use Rattle.paths.specs.Hangs.{next_of, depth, Forest}
use Rattle.paths.proofs.Laws.{no-parent, parent-case}
use Rattle.paths.proofs.Walks.{climb-left, walk-self}
use Rattle.paths.proofs.Places.{high, low, place}
use Rattle.paths.proofs.Ways.{climb_by, root-climb, depth-climb}
use Rattle.forest.specs.Rows.{Climbs, age_in, age_of, cost_in, depth_in, next_in}
use Rattle.forest.proofs.Ages.{age-new, age-old}
use Rattle.forest.proofs.Climbing.{next-in}
use Rattle.costs.specs.Costs.{Above}
use Rattle.laws.specs.Area.{splice, part}
use Rattle.laws.proofs.Area.{length_part, splice-middle}
use Rattle.trail.specs.Legs.{ages, costly}
use Rattle.trail.specs.Laid.{ages_at, LaidOut}

-- a parent connection starts at its node, and its age is that of the older ones
record Parentage (cs : List Connection) (n : ℕ) (c : Connection) (o : List Connection) : Type 0 where
  current : cur c ≡ n
  aged : age_of cs n ≡ suc (length o)

parentage : (cs : List Connection) (n : ℕ) {c : Connection} {o : List Connection} → parent_of cs n ≡ below c o → Parentage cs n c o
unfolding parent_of
parentage [] n p = absurd (no-parent p)
parentage (d ∷ cs) n p =
    ⊎_elim
    (λ w.
    record {
      current = ap (λ (x : Connection). cur x) (sym w.conn) ∙ sym w.here;
      aged = age-new d cs n w.here ∙ ap (λ (l : List Connection). suc (length l)) w.rest;
    })
    (λ w. let q = parentage cs n w.from in record { current = q.current; aged = age-old d cs n w.there ∙ q.aged })
    (parent-case d cs n p)

age-few : (cs : List Connection) (n : ℕ) → age_of cs n ≤ length cs
unfolding age_of
age-few [] n = omega arith
age-few (c ∷ cs) n =
    elim (ℕ_discrete n (cur c)) [ yes q ↦ omega (arith, age-new c cs n q) | no q ↦ omega (arith, age-old c cs n q, age-few cs n) ]

-- one step of the climb
record Rung (rows : List Row) (cs : List Connection) (n at to up : ℕ) : Type 0 where
  inside : up < n
  above : Above cs up to
  falls : depth_in rows up < depth_in rows at
  aged : (0 < age_in rows at) × (age_in rows at ≤ node_limit)
  split : ages rows cs at to ≡ ages_at rows at ++ ages rows cs up to

abbrev age_step : List Row → List Connection → (ℕ → ℕ → List ℕ) → Connection → Bool → List ℕ
age_step rows older _ c u = costly (cost_in rows (cur c)) (length older)

module _ {cs : List Connection} {n : ℕ} {rows : List Row} (k : Climbs cs n rows) (at to up : ℕ) (h : at < n) (e : at ≡ to → ⊥) (u : up ≡ next_in rows at) where
  abbrev f : Forest cs
  f = k.rooted.forest

  rung-by : (i : ℕ) → i ≤ depth cs at → climb_by cs i at ≡ to → Rung rows cs n at to up
  unfolding climb_by ages
  rung-by zero d p = absurd (e p)
  rung-by (suc i) d p =
      let t = depth-climb (suc i) cs at f d in
      let v : up ≡ next_of cs at = u ∙ k.next at h in
      elim (place cs at f) [
        | high a b ↦ absurd (omega arith)
        | low c o a b s ↦
            let w = climb-left [] ◌++◌ (age_step rows) append_assoc (λ x. refl) append-nil cs at to f a
            (sym (root-climb (suc i) cs at f) ∙ ap (root cs) p) (omega (arith, ap (depth cs) p)) e in
            let g = parentage cs at a in
            let age : age_in rows at ≡ suc (length o) = k.age at h ∙ g.aged in
            let older : length o ≡ age_in rows at - 1 = omega arith in
            rw v record {
              inside = next-in k.rooted at h;
              above = record { steps = i; enough = omega arith; leads = p };
              falls = omega (arith, k.deep at h, k.deep (next_of cs at) (next-in k.rooted at h));
              aged = (omega arith, omega (arith, age-few cs at, k.age at h, k.rooted.short));
              split = w
                  ∙ ap₂ (λ (x y : ℕ). costly (cost_in rows x) y ++ ages rows cs (nxt c) to) g.current older
                  ∙ ap (λ (x : ℕ). ages_at rows at ++ ages rows cs x to) (sym b);
            }
      ]

-- a climb on its way, and what is said of the costly connections passed
pub record Climb (rows : List Row) (cs : List Connection) (n from to at : ℕ) (P : List ℕ → Type 0) : Type 0 where
  pub inside : at < n
  pub above : Above cs at to
  pub done : List ℕ
  pub whole : done ++ ages rows cs at to ≡ ages rows cs from to
  pub so : P done

pub climb-none : {rows : List Row} {cs : List Connection} {n from to : ℕ} {P : List ℕ → Type 0} → from < n → Above cs from to → P [] →
    Climb rows cs n from to from P
climb-none h a p = record { inside = h; above = a; done = []; whole = refl; so = p }

module _ {rows : List Row} {cs : List Connection} {n from to at : ℕ} {P : List ℕ → Type 0} (k : Climbs cs n rows) (c : Climb rows cs n from to at P) where
  rung : (up : ℕ) → (at ≡ to → ⊥) → up ≡ next_in rows at → Rung rows cs n at to up
  rung up e u = rung-by k at to up c.inside e u c.above.steps c.above.enough c.above.leads

  pub climb-falls : (up : ℕ) → (at ≡ to → ⊥) → up ≡ next_in rows at → depth_in rows up < depth_in rows at
  climb-falls up e u = (rung up e u).falls

  pub climb-aged : (at ≡ to → ⊥) → (0 < age_in rows at) × (age_in rows at ≤ node_limit)
  climb-aged e = (rung (next_in rows at) e refl).aged

  -- the next one is one of the climb's
  pub climb-room : (at ≡ to → ⊥) → length c.done + length (ages_at rows at) ≤ length (ages rows cs from to)
  climb-room e =
      let r = rung (next_in rows at) e refl in
      let d = c.done in
      let rest = ages rows cs (next_in rows at) to in
      let w : d ++ (ages_at rows at ++ rest) ≡ ages rows cs from to = ap (λ (l : List ℕ). d ++ l) (sym r.split) ∙ c.whole in
      omega (arith, ap length w, length-append d (ages_at rows at ++ rest), length-append (ages_at rows at) rest)

  pub climb-next : {Q : List ℕ → Type 0} (up : ℕ) → (at ≡ to → ⊥) → up ≡ next_in rows at →
      ((l : List ℕ) → length l + length (ages_at rows at) ≤ length (ages rows cs from to) → P l → Q (l ++ ages_at rows at)) → Climb rows cs n from to up Q
  climb-next up e u go =
      let r = rung up e u in
      record {
        inside = r.inside;
        above = r.above;
        done = c.done ++ ages_at rows at;
        whole = append_assoc c.done (ages_at rows at) (ages rows cs up to) ∙ ap (λ (l : List ℕ). c.done ++ l) (sym r.split) ∙ c.whole;
        so = go c.done (climb-room e) c.so;
      }

  pub climb-all : at ≡ to → P (ages rows cs from to)
  unfolding ages
  climb-all e =
      let none : ages rows cs at to ≡ [] = ap (ages rows cs at) (sym e) ∙ walk-self [] ◌++◌ (age_step rows) cs at in
      subst P (sym (append-nil c.done) ∙ ap (λ (l : List ℕ). c.done ++ l) (sym none) ∙ c.whole) c.so

take_part : (l : List ℕ) (i n : ℕ) → take (i + n) l ≡ take i l ++ part l i n
unfolding part
take_part l i n = take-add i n l

-- words written right before others
pub splice-under : (old : List ℕ) (at : ℕ) (u v : List ℕ) → at + length u + length v ≤ length old →
    splice (splice old (at + length u) v) at u ≡ splice old at (u ++ v)
unfolding splice
splice-under old at u v h =
    let n = length u in
    let rest = drop (at + n + length v) old in
    let front : take (at + n) old ≡ take at old ++ part old at n = take_part old at n in
    let both : at + n + length v ≡ at + length (u ++ v) = omega (arith, length-append u v) in
    ap (λ (l : List ℕ). splice (l ++ (v ++ rest)) at u) front
    ∙ ap (λ (l : List ℕ). splice l at u) (append_assoc (take at old) (part old at n) (v ++ rest))
    ∙ splice-middle (take at old) (part old at n) (v ++ rest) at u (length-take-le at old (omega arith)) (length_part old at n (omega arith))
    ∙ ap (λ (l : List ℕ). take at old ++ l) (sym (append_assoc u v rest))
    ∙ ap (λ (k : ℕ). take at old ++ ((u ++ v) ++ drop k old)) both

pub back_one : (rows : List Row) (n : ℕ) (l : List ℕ) → reverse (l ++ ages_at rows n) ≡ ages_at rows n ++ reverse l
back_one rows n l = reverse-append l (ages_at rows n) ∙ ap (λ (x : List ℕ). x ++ reverse l) (same (cost_in rows n))
  where
    same : (k : ℕ) → reverse (costly k (age_in rows n - 1)) ≡ costly k (age_in rows n - 1)
    same zero = refl
    same (suc k) = refl

module _ (rows : List Row) (n : ℕ) where
  pub ages-none : cost_in rows n ≡ 0 → ages_at rows n ≡ []
  ages-none e = rw e

  pub ages-one : (cost_in rows n ≡ 0 → ⊥) → ages_at rows n ≡ (age_in rows n - 1) ∷ []
  ages-one z = go (cost_in rows n) refl
    where
      go : (k : ℕ) → cost_in rows n ≡ k → ages_at rows n ≡ (age_in rows n - 1) ∷ []
      go zero e = absurd (z e)
      go (suc k) e = rw e

-- both climbs end where the path turns
pub top-at : (cs : List Connection) (l r : ℕ) {t : NodeNo} → Some t ≡ meet_of cs l r → t.0 ≡ top_of cs l r
unfolding meet_of
top-at cs l r {t} e = go (joined cs l r) refl
  where
    go : (b : Bool) → joined cs l r ≡ b → t.0 ≡ top_of cs l r
    go true q = let p : Some t ≡ Some (record { 0 = top_of cs l r }) = e ∙ rw q in let s : t ≡ record { 0 = top_of cs l r } = cc in ap (λ (x : NodeNo). x.0) s
    go false q = let z : Some t ≡ None = e ∙ rw q in let y : ◌≡◌ {A = ℕ} 0 1 = cc in absurd (omega arith)

pub laid_out : {rows : List Row} {cs : List Connection} {trail : List ℕ} {used l r : ℕ} {after : List ℕ} {turn top t : ℕ} → t ≡ top_of cs l r →
    after ≡ splice trail used (ages rows cs r t ++ reverse (ages rows cs l t)) → turn ≡ used + length (ages rows cs r t) →
    top ≡ turn + length (ages rows cs l t) → LaidOut rows cs trail used l r after turn top
laid_out {rows} {cs} {trail} {used} {l} {r} {turn = turn} e a b d =
    record {
      trail_is = a ∙ ap (λ (t : ℕ). splice trail used (ages rows cs r t ++ reverse (ages rows cs l t))) e;
      turn_is = b ∙ ap (λ (t : ℕ). used + length (ages rows cs r t)) e;
      top-is = d ∙ ap (λ (t : ℕ). turn + length (ages rows cs l t)) e;
    }
