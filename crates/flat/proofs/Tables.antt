-- Tables handed in whole, once judged good, are accepted: what the laws of the flat proof ask of them.
use Prim.Native.Nat.{ℕ, zero, suc, ◌+◌, ◌*◌, ◌/◌, ◌≤◌}
use mathlib.Core.Path.{◌≡◌, refl, sym, ap, subst, ◌∙◌}
use mathlib.Core.Bool.{Bool, true, false, not, ◌&&◌}
use mathlib.Core.List.{List, [], ◌∷◌, ◌++◌}
use mathlib.Core.Option.{Option, none, some}
use native.Mathlib.Omega.{arith}
use borrow.Author.Tests.{leb-true, not-false}
use lib.Dec.{leb}
use lib.ListN.{length, get_or}
use Rattle.model.specs.declared.Refusal.TheVariants.{ChildNotBelow, EndsUnfit, NoSupport, TableFull}
use Rattle.model.specs.declared.Connection.{Connection}
use Rattle.model.specs.declared.Refusal.TheVariants.{TableFull, ChildNotBelow, EndsUnfit, NoSupport}
use Rattle.model.specs.Limits.{node_limit, child_limit}
use Rattle.model.specs.Judged.{Judged, good, bad}
use Rattle.model.specs.Node.{Node, no_node, all_below, add_node}
use Rattle.model.specs.Forest.{cur, nxt}
use Rattle.model.specs.Connect.{misplaced, supported, add_connection}
use Rattle.model.specs.Rule.{Rule}
use Rattle.model.specs.Query.{Tables}
use Rattle.model.specs.Tables.{rule_table, judge_tables, only_if, words_from, node_at, node_entry, connection_entry, node_table, connection_table}
use Rattle.laws.proofs.Judging.{never-good, taken, entries-keep}
use Rattle.paths.specs.Hangs.{AcceptedConnections}
use Rattle.flat.specs.Nodes.{AcceptedNodes}
use Rattle.flat.specs.Accepted.{AcceptedTables}

-- one more node at the end: what holds of each node at its number
with-last : (P : ℕ → Node → Type 0) → ((n : ℕ) → P n no_node) → (ns : List Node) → ((n : ℕ) → P n (get_or ns n no_node)) →
    (x : Node) → P (length ns) x → (n : ℕ) → P n (get_or (ns ++ (x ∷ [])) n no_node)
with-last P z [] h x e zero = e
with-last P z [] h x e (suc n) = z (suc n)
with-last P z (y ∷ ns) h x e zero = h zero
with-last P z (y ∷ ns) h x e (suc n) =
    with-last (λ k. P (suc k)) (λ k. z (suc k)) ns (λ k. h (suc k)) x e n

pub nodes-none : AcceptedNodes []
unfolding all_below
nodes-none = record { below = λ n. refl; few = λ n. omega arith }

pub nodes-more : (ns ns' : List Node) (x : Node) → length x.kids ≤ child_limit → AcceptedNodes ns →
    add_node ns (some x) ≡ good ns' → AcceptedNodes ns'
unfolding add_node
nodes-more ns ns' x c a p =
    let q = taken (leb node_limit (length ns)) TableFull _ _ p in
    let s = taken (not (all_below (length ns) x.kids)) ChildNotBelow _ _ q.1 in
    let e : ns ++ (x ∷ []) ≡ ns' = cc in
    subst AcceptedNodes e
    (record {
      below = with-last (λ n y. all_below n y.kids ≡ true) nodes-none.below ns a.below x (not-false _ s.0);
      few = with-last (λ n y. length y.kids ≤ child_limit) nodes-none.few ns a.few x c;
    })

words-from-length : (ws : List ℕ) (at n : ℕ) → length (words_from ws at n) ≡ n
unfolding words_from
words-from-length ws at zero = refl
words-from-length ws at (suc n) = ap suc (words-from-length ws (suc at) n)

-- "count above 8" is a field outside its set
entry-few : (ws : List ℕ) (i : ℕ) (x : Node) → node_entry ws i ≡ some x → length x.kids ≤ child_limit
unfolding node_entry node_at
entry-few ws i x p = go (leb (i * 10 + 10) (length ws)) (leb (get_or ws (i * 10 + 1) 0) child_limit) refl p
  where
    go : (s t : Bool) → leb (get_or ws (i * 10 + 1) 0) child_limit ≡ t → only_if (s && t) (some (node_at ws i)) ≡ some x →
        length x.kids ≤ child_limit
    go true true e q =
        let k : node_at ws i ≡ x = cc in
        let n = get_or ws (i * 10 + 1) 0 in
        omega (arith, leb-true n child_limit e, ap (λ (y : Node). length y.kids) k, words-from-length ws (i * 10 + 2) n)
    go true false e q = let z : ◌≡◌ {A = ℕ} 0 1 = cc in absurd (omega arith)
    go false t e q = let z : ◌≡◌ {A = ℕ} 0 1 = cc in absurd (omega arith)

pub table-nodes : (ws : List ℕ) (ns : List Node) → node_table ws ≡ good ns → AcceptedNodes ns
unfolding node_table add_node
table-nodes ws ns = entries-keep add_node (node_entry ws) [] AcceptedNodes nodes-none next ((length ws + 9) / 10) ns
  where
    next : (i : ℕ) (a b : List Node) → AcceptedNodes a → add_node a (node_entry ws i) ≡ good b → AcceptedNodes b
    next i a b k h = go (node_entry ws i) (entry-few ws i) h
      where
        go : (o : Option Node) → ((x : Node) → o ≡ some x → length x.kids ≤ child_limit) → add_node a o ≡ good b → AcceptedNodes b
        go none f q = absurd (never-good q)
        go (some x) f q = nodes-more a b x (f x refl) k q

-- a connection that is accepted is the newest
pub connections-more : (ns : List Node) (cs cs' : List Connection) (c : Connection) →
    add_connection ns cs (some c) ≡ good cs' → c ∷ cs ≡ cs'
unfolding add_connection
connections-more ns cs cs' c p =
    let q = taken (misplaced ns cs c) EndsUnfit _ _ p in
    let s = taken (not (supported ns cs c.why (cur c) (nxt c))) NoSupport _ _ q.1 in cc

pub table-connections : (ns : List Node) (ws : List ℕ) (cs : List Connection) → connection_table ns ws ≡ good cs → AcceptedConnections ns cs
unfolding connection_table add_connection
table-connections ns ws cs = entries-keep (add_connection ns) (connection_entry ws) [] (AcceptedConnections ns) tt next ((length ws + 4) / 5) cs
  where
    next : (i : ℕ) (a b : List Connection) → AcceptedConnections ns a → add_connection ns a (connection_entry ws i) ≡ good b → AcceptedConnections ns b
    next i a b k h = go (connection_entry ws i) h
      where
        go : (o : Option Connection) → add_connection ns a o ≡ good b → AcceptedConnections ns b
        go none q = absurd (never-good q)
        go (some c) q = let e = connections-more ns a b c q in subst (AcceptedConnections ns) e (q ∙ ap good (sym e), k)

pub tables-accepted : (nws rws cws : List ℕ) (t : Tables) → judge_tables nws rws cws ≡ good t → AcceptedTables t
unfolding judge_tables
tables-accepted nws rws cws t p = first (node_table nws) refl (rule_table rws) refl
  where
    third : (ns : List Node) (rs : List Rule) → node_table nws ≡ good ns → rule_table rws ≡ good rs → (c : Judged (List Connection)) →
        connection_table ns cws ≡ c → AcceptedTables t
    third ns rs a b (bad n) q = absurd (never-good (rw (a, judge_tables, b, judge_tables, q, judge_tables) at p))
    third ns rs a b (good cs) q =
        let whole : Tables = record { nodes = ns; rules = rs; conns = cs } in
        let h : good whole ≡ good t = rw (a, judge_tables, b, judge_tables, q, judge_tables) at p in
        let e : whole ≡ t = cc in
        subst AcceptedTables e (record { nodes = table-nodes nws ns a; conns = table-connections ns cws cs q })

    first : (a : Judged (List Node)) → node_table nws ≡ a → (b : Judged (List Rule)) → rule_table rws ≡ b → AcceptedTables t
    first (bad n) a b q = absurd (never-good (rw (a, judge_tables) at p))
    first (good ns) a (bad n) b = absurd (never-good (rw (a, judge_tables, b, judge_tables) at p))
    first (good ns) a (good rs) b = third ns rs a b (connection_table ns cws) refl
