-- Rows whose costs are written in the order of age: what else stands in them is kept, and the sums are the distances, held at the cap.
use Prim.Native.Nat.{ℕ, zero, suc, ◌+◌, ◌≤◌, ◌<◌}
use mathlib.Core.Path.{◌≡◌, refl, sym, ap, ◌∙◌}
use mathlib.Core.List.{List, [], ◌∷◌}
use native.Mathlib.Omega.{arith}
use native.Mathlib.Numerals.{add-one}
use native.Mathlib.Decide.{ℕ_discrete, dec_le}
use borrow.Author.Tests.{lt-ltb, le-ltb}
use lib.Dec.{ltb}
use lib.ListN.{length, set, length-set}
use Rattle.forest.specs.declared.Row.{Row}
use Rattle.model.specs.declared.Connection.{Connection}
use Rattle.model.specs.declared.Justification.{Justification}
use Rattle.model.specs.declared.Justification.TheVariants.{Rule as by_rule, Congruence}
use Rattle.model.specs.Limits.{distance_limit}
use Rattle.model.specs.Node.{Node, kids_of}
use Rattle.model.specs.Forest.{cur, nxt, root, dist, cost_by, sum_pairs}
use Rattle.paths.specs.Hangs.{Forest, Paired, Within}
use Rattle.paths.proofs.Related.{Steps, related}
use Rattle.entries.specs.Connections.{connection_in, oldest}
use Rattle.forest.specs.Rows.{cost_in, row_in, with_cost}
use Rattle.forest.proofs.Climbing.{within-at}
use Rattle.forest.proofs.Filled.{age_part, cost_part, depth_part, next_part, part-here, part-kept, part-other}
use Rattle.forest.proofs.Older.{starts_apart, walk-older}
use Rattle.costs.specs.Costs.{Charged, Filled, cost_at, cost_cap, held, priced, weigh}

-- one cost more
module _ {cs : List Connection} {n : ℕ} {rows : List Row} (k : Charged cs n rows) (m v : ℕ) (h : m < n) where
  abbrev dear : Row
  dear = with_cost v (row_in rows m)

  abbrev paid : List Row
  paid = set rows m dear

  room : m < length rows
  room = omega (arith, k.climbs.size, k.climbs.rooted.few)

  pub cost-here : cost_in paid m ≡ v
  cost-here = part-here cost_part rows m dear room

  pub cost-other : (a : ℕ) → (a ≡ m → ⊥) → cost_in paid a ≡ cost_in rows a
  cost-other a p = part-other cost_part rows m dear a p

  pub charged-more : v ≤ cost_cap → Charged cs n paid
  charged-more s =
      let t = k.climbs in
      record {
        climbs = record {
          rooted = t.rooted;
          size = simp length-set t.size;
          next = λ a p. part-kept next_part rows m dear room refl a ∙ t.next a p;
          age = λ a p. part-kept age_part rows m dear room refl a ∙ t.age a p;
          deep = λ a p. part-kept depth_part rows m dear room refl a ∙ t.deep a p;
        };
        small = λ a p. elim (ℕ_discrete a m) [ yes e ↦ rw e (omega (arith, cost-here)) | no e ↦ omega (arith, cost-other a e, k.small a p) ];
      }

-- all costs below a bound
module _ (ns : List Node) (ws : List ℕ) {cs : List Connection} {n : ℕ} {rows : List Row} (k : Charged cs n rows) (count : ℕ)
    (w : Within n (oldest count ws)) (f : Forest (oldest count ws)) where
  pub charged-priced : (age : ℕ) → age ≤ count → Charged cs n (priced ns ws age rows)
  unfolding priced
  charged-priced zero h = k
  charged-priced (suc a) h =
      charged-more (charged-priced a (omega arith)) (cur (connection_in ws a)) (held (cost_at ns ws a)) (within-at n ws count a w (omega arith))
      (omega arith)

  pub filled-priced : (age : ℕ) → age ≤ count → Filled ns ws (priced ns ws age rows) age
  unfolding priced
  filled-priced zero h = record { each = λ b q. absurd (omega arith) }
  filled-priced (suc a) h =
      let g = charged-priced a (omega arith) in
      let i = within-at n ws count a w (omega arith) in
      record {
        each = λ b q. elim (ℕ_discrete b a) [
          | yes e ↦ rw e (cost-here g (cur (connection_in ws a)) (held (cost_at ns ws a)) i)
          | no e ↦
              cost-other g (cur (connection_in ws a)) (held (cost_at ns ws a)) i (cur (connection_in ws b))
              (starts_apart count a b ws f (omega arith) (omega arith))
              ∙ (filled-priced a (omega arith)).each b (omega arith)
        ];
      }

-- walking by costs and walking by distances are related step by step
module _ (ns : List Node) (ws : List ℕ) (rows : List Row) where
  abbrev Same : ℕ → ℕ → Type 0
  Same x y = held x ≡ held y

  steps : (k : ℕ) → Filled ns ws rows k →
      Steps 0 ◌+◌ (λ older _ c u. cost_in rows (cur c)) 0 ◌+◌ (λ _ d c u. cost_by ns d c.why (cur c) (nxt c)) Same refl
      (λ x x' y y' p q. omega arith) (oldest k ws)
  unfolding oldest cost_at dist
  steps zero f = tt
  steps (suc k) f = (λ u. omega (arith, f.each k (omega arith)), steps k (record { each = λ b q. f.each b (omega arith) }))

  pub weigh-dist : (k l r : ℕ) → Filled ns ws rows k → held (weigh rows (oldest k ws) l r) ≡ held (dist ns (oldest k ws) l r)
  unfolding weigh dist
  weigh-dist k l r f =
      related 0 ◌+◌ (λ older _ c u. cost_in rows (cur c)) 0 ◌+◌ (λ _ d c u. cost_by ns d c.why (cur c) (nxt c)) Same refl
      (λ x x' y y' p q. omega arith) (oldest k ws) l r (steps k f)

  -- by all connections, where the older ones join the two
  older-dist : (k m l r : ℕ) → k ≤ m → Filled ns ws rows k → root (oldest k ws) l ≡ root (oldest k ws) r →
      held (weigh rows (oldest m ws) l r) ≡ held (dist ns (oldest k ws) l r)
  unfolding weigh
  older-dist k m l r h f j =
      ap held (walk-older 0 ◌+◌ (λ older _ c u. cost_in rows (cur c)) k m ws l r h j) ∙ weigh-dist k l r f

  sum-older : (k m : ℕ) → k ≤ m → Filled ns ws rows k → (xs ys : List ℕ) → Paired (oldest k ws) xs ys →
      held (sum_pairs (weigh rows (oldest m ws)) xs ys) ≡ held (sum_pairs (dist ns (oldest k ws)) xs ys)
  unfolding sum_pairs
  sum-older k m h f [] [] p = refl
  sum-older k m h f [] (y ∷ ys) p = refl
  sum-older k m h f (x ∷ xs) [] p = refl
  sum-older k m h f (x ∷ xs) (y ∷ ys) p = omega (arith, sum-older k m h f xs ys p.1, older-dist k m x y h f p.0)

  -- WHAT A CONNECTION COSTS, by the rows of all connections
  pub cost-by : (k m : ℕ) → k ≤ m → Filled ns ws rows k →
      let c = connection_in ws k in
      (c.why ≡ Congruence → Paired (oldest k ws) (kids_of ns (cur c)) (kids_of ns (nxt c))) →
      held (cost_by ns (weigh rows (oldest m ws)) c.why (cur c) (nxt c)) ≡ held (cost_at ns ws k)
  unfolding cost_at cost_by
  cost-by k m h f p = go (connection_in ws k).why refl
    where
      go : (w : Justification) → (connection_in ws k).why ≡ w →
          held (cost_by ns (weigh rows (oldest m ws)) (connection_in ws k).why (cur (connection_in ws k)) (nxt (connection_in ws k)))
          ≡ held (cost_at ns ws k)
      go (by_rule n d) q = rw q refl
      go Congruence q = rw q (sum-older k m h f (kids_of ns (cur (connection_in ws k))) (kids_of ns (nxt (connection_in ws k))) (p q))

-- the rows that are filled in the order of age
pub priced-none : (ns : List Node) (ws : List ℕ) (rows : List Row) → rows ≡ priced ns ws 0 rows
unfolding priced
priced-none ns ws rows = refl

pub priced-more : (ns : List Node) (ws : List ℕ) (k : ℕ) (rows : List Row) (c : Connection) (v : ℕ) → c ≡ connection_in ws k → v ≡ held (cost_at ns ws k) →
    set (priced ns ws k rows) (cur c) (with_cost v (row_in (priced ns ws k rows) (cur c))) ≡ priced ns ws (k + 1) rows
unfolding priced
priced-more ns ws k rows c v p e = rw (add-one, p, e) refl

-- THE DECISION IS EXACT: a distance is above the limit where the held one is, and a held one that is not is the distance
pub held-over : (d : ℕ) → ltb distance_limit (held d) ≡ ltb distance_limit d
held-over d =
    elim (dec_le d distance_limit) [
      | yes h ↦ le-ltb distance_limit (held d) (omega arith) ∙ sym (le-ltb distance_limit d h)
      | no h ↦ lt-ltb distance_limit (held d) (omega arith) ∙ sym (lt-ltb distance_limit d (omega arith))
    ]

pub held-exact : (d : ℕ) → held d ≤ distance_limit → held d ≡ d
held-exact d h = omega arith
