-- A path as a list of its costly connections: each starts, marks aside, with the term that the one before it led to, and what they append,
-- one behind the other, are the later terms of the flat proof.
use Prim.Native.Nat.{ℕ, zero, suc, ◌≤◌, ◌<◌}
use mathlib.Core.Bool.{Bool, true, false, not}
use mathlib.Core.List.{List, [], ◌∷◌, ◌++◌}
use mathlib.Core.Path.{◌≡◌, refl, sym, ap, ap₂, subst₂, ◌∙◌}
use native.Mathlib.Omega.{arith}
use lib.ListN.{length}
use Rattle.forest.specs.declared.Row.{Row}
use Rattle.model.specs.declared.Connection.{Connection}
use Rattle.model.specs.Forest.{cur, root}
use Rattle.model.specs.Node.{Node, term_of}
use Rattle.model.specs.Term.{Terms, no_terms, count, join, one, strip}
use Rattle.model.specs.Flat.{later_step, later}
use Rattle.paths.specs.Hangs.{AcceptedConnections}
use Rattle.paths.proofs.Accept.{accepted-loose}
use Rattle.entries.specs.Connections.{connection_in, oldest}
use Rattle.entries.proofs.Connections.{length-oldest}
use Rattle.entries.proofs.Support.{accepted-older}
use Rattle.forest.specs.Rows.{cost_in}
use Rattle.costs.specs.Costs.{Filled, cost_at, held}
use Rattle.terms.proofs.Rows.{count-join, join-assoc, join-none, one-term}
use Rattle.flat.specs.Ends.{last_or}
use Rattle.flat.specs.Nodes.{AcceptedNodes}
use Rattle.flat.proofs.NodeTerms.{term-strip}
use Rattle.flat.proofs.Walked.{walked}
use Rattle.flat.proofs.Way.{Way, way_up, way_down, way-free}
use Rattle.trail.specs.Legs.{Leg, costly, legs}
use Rattle.writer.specs.Appends.{start_of, leg_terms}

-- what legs append, one behind the other
abbrev pub row_of : List Node → List ℕ → List Leg → Terms
row_of ns conns [] = no_terms
row_of ns conns (h ∷ hs) = join (leg_terms ns conns h.age h.up) (row_of ns conns hs)

pub row-append : (ns : List Node) (conns : List ℕ) (hs gs : List Leg) →
    row_of ns conns (hs ++ gs) ≡ join (row_of ns conns hs) (row_of ns conns gs)
unfolding join
row-append ns conns [] gs = refl
row-append ns conns (h ∷ hs) gs =
    ap (join (leg_terms ns conns h.age h.up)) (row-append ns conns hs gs)
    ∙ sym (join-assoc (leg_terms ns conns h.age h.up) (row_of ns conns hs) (row_of ns conns gs))

-- where a leg starts, and where it leads
abbrev pub from : List ℕ → Leg → ℕ
from conns h = (start_of (connection_in conns h.age) h.up).0

abbrev pub to : List ℕ → Leg → ℕ
to conns h = (start_of (connection_in conns h.age) (not h.up)).0

-- legs below a bound that lead from node l's term to node r's, each with a term to append
abbrev pub Chain : List Node → List ℕ → ℕ → ℕ → ℕ → List Leg → Type 0
Chain ns conns bound l r [] = term_of ns l ≡ term_of ns r
Chain ns conns bound l r (h ∷ hs) =
    (h.age < bound) × (0 < count (leg_terms ns conns h.age h.up)) × (term_of ns l ≡ term_of ns (from conns h))
    × Chain ns conns bound (to conns h) r hs

module _ (ns : List Node) (conns : List ℕ) (bound : ℕ) where
  same_start : (l m r : ℕ) (hs : List Leg) → term_of ns l ≡ term_of ns m → Chain ns conns bound m r hs → Chain ns conns bound l r hs
  same_start l m r [] e k = e ∙ k
  same_start l m r (h ∷ hs) e k = (k.0, k.1, e ∙ k.2, k.3)

  chain-append : (l m r : ℕ) (hs gs : List Leg) → Chain ns conns bound l m hs → Chain ns conns bound m r gs → Chain ns conns bound l r (hs ++ gs)
  chain-append l m r [] gs k j = same_start l m r gs k j
  chain-append l m r (h ∷ hs) gs k j = (k.0, k.1, k.2, chain-append (to conns h) m r hs gs k.3 j)

  -- as many terms as legs, or more
  pub chain-long : (l r : ℕ) (hs : List Leg) → Chain ns conns bound l r hs → length hs ≤ count (row_of ns conns hs)
  unfolding count
  chain-long l r [] k = omega arith
  chain-long l r (h ∷ hs) k =
      omega (arith, chain-long (to conns h) r hs k.3, count-join (leg_terms ns conns h.age h.up) (row_of ns conns hs))

pub record Trip (ns : List Node) (conns : List ℕ) (bound l r : ℕ) (hs : List Leg) (f : Terms) : Type 0 where
  pub chain : Chain ns conns bound l r hs
  pub row : row_of ns conns hs ≡ f

-- connections that are the oldest of a table
record Aged (ws : List ℕ) (bound : ℕ) (cs : List Connection) : Type 0 where
  k : ℕ
  few : k ≤ bound
  is : cs ≡ oldest k ws

record Newest (ws : List ℕ) (bound : ℕ) (c : Connection) (cs : List Connection) : Type 0 where
  age : ℕ
  below : age < bound
  conn : c ≡ connection_in ws age
  older : cs ≡ oldest age ws

newest : {ws : List ℕ} {bound : ℕ} (c : Connection) (cs : List Connection) → Aged ws bound (c ∷ cs) → Newest ws bound c cs
unfolding oldest
newest {ws} {bound} c cs a = go a.k a.few a.is
  where
    go : (k : ℕ) → k ≤ bound → c ∷ cs ≡ oldest k ws → Newest ws bound c cs
    go zero h e = let z : ◌≡◌ {A = ℕ} 0 1 = cc in absurd (omega arith)
    go (suc k) h e = record { age = k; below = omega arith; conn = cc; older = cc }

module _ (ns : List Node) (conns : List ℕ) (bound : ℕ) (nodes : AcceptedNodes ns) (accepted : AcceptedConnections ns (oldest bound conns)) where
  -- what a connection appends leads from the one end to the other, in as many terms as it costs
  pub leg-way : (a : ℕ) (u : Bool) → a < bound →
      Way ns (from conns (record { age = a; up = u })) (to conns (record { age = a; up = u })) (leg_terms ns conns a u) (cost_at ns conns a)
  unfolding leg_terms oldest cost_at
  leg-way a true h = way_up ns nodes (connection_in conns a) (oldest a conns) (accepted-older ns conns (suc a) bound (omega arith) accepted)
  leg-way a false h = way_down ns nodes (connection_in conns a) (oldest a conns) (accepted-older ns conns (suc a) bound (omega arith) accepted)

  module _ {rows : List Row} (filled : Filled ns conns rows bound) where
    leg : (a : ℕ) (u : Bool) → a < bound →
        let h : Leg = record { age = a; up = u } in
        Trip ns conns bound (from conns h) (to conns h) (costly (cost_in rows (cur (connection_in conns a))) h) (leg_terms ns conns a u)
    unfolding last_or
    leg a u b = go (cost_in rows (cur (connection_in conns a))) (sym (filled.each a b))
      where
        go : (k : ℕ) → held (cost_at ns conns a) ≡ k →
            let h : Leg = record { age = a; up = u } in Trip ns conns bound (from conns h) (to conns h) (costly k h) (leg_terms ns conns a u)
        go zero e =
            let h : Leg = record { age = a; up = u } in
            let w = leg-way a u b in
            let none = way-free w (omega arith) in
            let same : strip (one (term_of ns (from conns h))) ≡ strip (one (term_of ns (to conns h))) = rw none at w.arrives in
            record {
              chain = one-term _ _ (sym (term-strip ns (from conns h)) ∙ same ∙ term-strip ns (to conns h));
              row = sym none;
            }
        go (suc k) e = record { chain = (b, omega (arith, (leg-way a u b).counted), refl, refl); row = join-none (leg_terms ns conns a u) }

    own : (c : Connection) (cs : List Connection) → Aged conns bound (c ∷ cs) → (u : Bool) →
        Trip ns conns bound (start_of c u).0 (start_of c (not u)).0 (costly (cost_in rows (cur c)) (record { age = length cs; up = u }))
        (later_step ns cs (later ns cs) c u)
    unfolding leg_terms
    own c cs a u =
        let n = newest c cs a in
        subst₂
        (λ (x : Connection) (xs : List Connection).
        Trip ns conns bound (start_of x u).0 (start_of x (not u)).0 (costly (cost_in rows (cur x)) (record { age = length xs; up = u }))
        (later_step ns xs (later ns xs) x u))
        (sym n.conn) (sym n.older) (rw (length-oldest n.age conns) (leg n.age u n.below))

    -- A PATH IS ITS COSTLY CONNECTIONS
    pub trip : (l r : ℕ) → root (oldest bound conns) l ≡ root (oldest bound conns) r →
        Trip ns conns bound l r (legs rows (oldest bound conns) l r) (later ns (oldest bound conns) l r)
    unfolding legs later
    trip =
        walked [] ◌++◌ (λ older _ c u. costly (cost_in rows (cur c)) (record { age = length older; up = u })) no_terms join (later_step ns)
        (Trip ns conns bound) (λ n. record { chain = refl; row = refl })
        (λ l m r hs gs f g s t.
        record {
          chain = chain-append ns conns bound l m r hs gs s.chain t.chain;
          row = row-append ns conns hs gs ∙ ap₂ join s.row t.row;
        })
        (Aged conns bound)
        (λ c cs a. let n = newest c cs a in record { k = n.age; few = omega (arith, n.below); is = n.older })
        (λ cs a. rw a.is (accepted-loose ns (oldest a.k conns) (accepted-older ns conns a.k bound a.few accepted)))
        (λ c cs a known. own c cs a true) (λ c cs a known. own c cs a false)
        (oldest bound conns) (record { k = bound; few = omega arith; is = refl })
