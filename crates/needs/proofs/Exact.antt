-- Needs counted by the tables are those of the definition, held, wherever the cost is within its limit.
use Prim.Native.Nat.{ℕ, zero, suc, ◌+◌, ◌≤◌, ◌<◌}
use mathlib.Core.Path.{◌≡◌, refl, sym, ap, ap₂, ◌∙◌}
use mathlib.Core.Bool.{Bool}
use mathlib.Core.List.{List, [], ◌∷◌}
use native.Mathlib.Omega.{arith}
use lib.ListN.{get_or, length}
use Rattle.forest.specs.declared.Row.{Row}
use Rattle.model.specs.declared.Connection.{Connection}
use Rattle.model.specs.Limits.{distance_limit}
use Rattle.model.specs.Node.{Node}
use Rattle.model.specs.Forest.{cur, dist, root, sum_pairs}
use Rattle.model.specs.Flat.{later_size, later_size_step, runs_size, size_of, sum}
use Rattle.paths.specs.Hangs.{Paired}
use Rattle.paths.proofs.Related.{Steps, related}
use Rattle.entries.specs.Connections.{oldest}
use Rattle.entries.proofs.Connections.{length-oldest}
use Rattle.forest.specs.Rows.{cost_in}
use Rattle.forest.proofs.Older.{walk-older}
use Rattle.costs.specs.Costs.{Filled, weigh}
use Rattle.costs.proofs.Priced.{weigh-dist}
use Rattle.trees.specs.Sizes.{Sized, held_nodes}
use Rattle.needs.specs.Needs.{Needs, need_at, path_nodes, pick, runs_by}
use Rattle.needs.proofs.Held.{Same, same-held, same-plus, same-times}

-- each of a list is a node of a table
abbrev pub Under : ℕ → List ℕ → Type 0
Under n xs = (i : ℕ) → i < length xs → get_or xs i 0 < n

-- what a path costs and what it appends, by the tables, as one walk
abbrev plus : ℕ × ℕ → ℕ × ℕ → ℕ × ℕ
plus p q = (p.0 + q.0, p.1 + q.1)

module _ (ns : List Node) (ws : List ℕ) (rows : List Row) (ups downs : List ℕ) where
  abbrev each : List Connection → (ℕ → ℕ → ℕ × ℕ) → Connection → Bool → ℕ × ℕ
  each older _ c u = (cost_in rows (cur c), get_or (pick u ups downs) (length older) 0)

  abbrev Costs : ℕ × ℕ → ℕ → Type 0
  Costs p d = p.0 ≡ d

  abbrev Takes : ℕ × ℕ → ℕ → Type 0
  Takes p m = p.1 ≡ m

  costs : (cs : List Connection) → Steps (0, 0) plus each 0 ◌+◌ (λ older _ c u. cost_in rows (cur c)) Costs refl (λ x x' y y' p q. ap₂ ◌+◌ p q) cs
  costs [] = tt
  costs (c ∷ cs) = (λ u. refl, costs cs)

  takes : (cs : List Connection) →
      Steps (0, 0) plus each 0 ◌+◌ (λ older _ c u. get_or (pick u ups downs) (length older) 0) Takes refl (λ x x' y y' p q. ap₂ ◌+◌ p q) cs
  takes [] = tt
  takes (c ∷ cs) = (λ u. refl, takes cs)

  -- where the cost is within its limit, so is that of each connection
  abbrev Right : ℕ × ℕ → ℕ → Type 0
  Right p m = p.0 ≤ distance_limit → Same p.1 m

  right-two : (x x' : ℕ × ℕ) (y y' : ℕ) → Right x y → Right x' y' → Right (plus x x') (y + y')
  right-two x x' y y' p q h = omega (arith, p (omega arith), q (omega arith))

  rights : (k : ℕ) → Filled ns ws rows k → Needs ns ws ups downs k →
      Steps (0, 0) plus each 0 ◌+◌ (later_size_step ns) Right (λ h. refl) right-two (oldest k ws)
  unfolding oldest need_at later_size
  rights zero f w = tt
  rights (suc k) f w = (
    λ u h. omega (
      arith,
      ap (λ (i : ℕ). get_or (pick u ups downs) i 0) (length-oldest k ws),
      w.each k u (omega arith) (omega (arith, f.each k (omega arith))),
    ),
    rights k (record { each = λ b q. f.each b (omega arith) }) (record { each = λ b u q. w.each b u (omega arith) }),
  )

  -- A PATH'S NEED IS EXACT where its cost is within the limit
  pub path-exact : (k l r : ℕ) → Filled ns ws rows k → Needs ns ws ups downs k → weigh rows (oldest k ws) l r ≤ distance_limit →
      Same (path_nodes ups downs (oldest k ws) l r) (later_size ns (oldest k ws) l r)
  unfolding weigh path_nodes later_size
  path-exact k l r f w h =
      let cs = oldest k ws in
      let p = related (0, 0) plus each 0 ◌+◌ (λ older _ c u. cost_in rows (cur c)) Costs refl (λ x x' y y' p q. ap₂ ◌+◌ p q) cs l r (costs cs) in
      let q =
      related (0, 0) plus each 0 ◌+◌ (λ older _ c u. get_or (pick u ups downs) (length older) 0) Takes refl (λ x x' y y' p q. ap₂ ◌+◌ p q) cs l r
      (takes cs) in
      ap held_nodes (sym q) ∙ related (0, 0) plus each 0 ◌+◌ (later_size_step ns) Right (λ h. refl) right-two cs l r (rights k f w) (omega arith)

  -- the same by the rows of all connections, where the older ones join the two
  module _ (k m : ℕ) (f : Filled ns ws rows k) (w : Needs ns ws ups downs k) (h : k ≤ m) (l r : ℕ) (j : root (oldest k ws) l ≡ root (oldest k ws) r)
      (d : dist ns (oldest k ws) l r ≤ distance_limit) where
    pub cost-older : weigh rows (oldest m ws) l r ≡ dist ns (oldest k ws) l r
    unfolding weigh
    cost-older =
        walk-older 0 ◌+◌ (λ older _ c u. cost_in rows (cur c)) k m ws l r h j ∙ omega (arith, weigh-dist ns ws rows k l r f)

    pub need-older : Same (path_nodes ups downs (oldest m ws) l r) (later_size ns (oldest k ws) l r)
    unfolding path_nodes
    need-older =
        ap held_nodes (walk-older 0 ◌+◌ (λ older _ c u. get_or (pick u ups downs) (length older) 0) k m ws l r h j)
        ∙ path-exact k l r f w (omega (arith, weigh-dist ns ws rows k l r f))

  module _ (sizes : List ℕ) (n : ℕ) (s : Sized ns sizes n) where
    abbrev size : ℕ → ℕ
    size a = get_or sizes a 0

    pub size_exact : (a : ℕ) → a < n → Same (size a) (size_of ns a)
    size_exact a h = ap held_nodes (s.each a h) ∙ same-held (size_of ns a)

    sum-exact : (xs : List ℕ) → Under n xs → Same (sum size xs) (sum (size_of ns) xs)
    unfolding sum
    sum-exact [] u = refl
    sum-exact (x ∷ xs) u = same-plus (size x) (size_of ns x) (sum size xs) (sum (size_of ns) xs) (size_exact x (u 0 (omega arith))) (sum-exact xs (λ i h. u (suc i) (omega arith)))

    -- THE RUNS OF A CONGRUENCE ARE EXACT where its cost is within the limit
    pub runs-exact : (k m : ℕ) → Filled ns ws rows k → Needs ns ws ups downs k → k ≤ m → (before before' : ℕ) → Same before before' →
        (xs ys : List ℕ) → Paired (oldest k ws) xs ys → Under n xs → Under n ys → sum_pairs (dist ns (oldest k ws)) xs ys ≤ distance_limit →
        Same (runs_by size (weigh rows (oldest m ws)) (path_nodes ups downs (oldest m ws)) before xs ys)
        (runs_size ns (dist ns (oldest k ws)) (later_size ns (oldest k ws)) before' xs ys)
    unfolding runs_by runs_size sum_pairs
    runs-exact k m f w h b b' e [] ys p u v d = refl
    runs-exact k m f w h b b' e (x ∷ xs) [] p u v d = refl
    runs-exact k m f w h b b' e (x ∷ xs) (y ∷ ys) p u v d =
        let c = cost-older k m f w h x y p.0 (omega arith) in
        let t : Same (b + sum size xs) (b' + sum (size_of ns) xs) =
        same-plus b b' (sum size xs) (sum (size_of ns) xs) e (sum-exact xs (λ i q. u (suc i) (omega arith))) in
        same-plus _ _ _ _
        (same-plus _ _ _ _ (need-older k m f w h x y p.0 (omega arith))
        (same-times (weigh rows (oldest m ws) x y) (dist ns (oldest k ws) x y) (b + sum size xs) (b' + sum (size_of ns) xs) (ap held_nodes c) t))
        (runs-exact k m f w h (b + size y) (b' + size_of ns y) (same-plus b b' (size y) (size_of ns y) e (size_exact y (v 0 (omega arith)))) xs ys p.1 (λ i q. u (suc i) (omega arith))
        (λ i q. v (suc i) (omega arith)) (omega arith))
