-- Tables of nodes: what stands there, word by word, is what the definitions read, and what was accepted stands.
use Prim.Native.Nat.{ℕ, zero, suc, ◌*◌, ◌+◌, ◌-◌, ◌/◌, ◌<◌, ◌≤◌}
use mathlib.Core.Bool.{◌&&◌, and-eq-true_iff, not, true}
use mathlib.Core.List.{List, [], ◌++◌, ◌∷◌}
use mathlib.Core.Option.{Option, none, some}
use mathlib.Core.Path.{◌∙◌, ◌≡◌, ap, refl, subst, sym}
use native.Mathlib.Decide.{ℕ_discrete}
use native.Mathlib.Nat.{add-zero, div-eq_of_lt-le, le-div_iff_mul-le}
use native.Mathlib.Omega.{arith}
use borrow.Author.Tests.{leb-false, leb-true, ltb-true, not-false}
use lib.Dec.{leb, ltb}
use lib.ListN.{get_or-append, get_or, length, length-append}
use lib.Seq.{get_or_at}
use Rattle.model.specs.declared.Refusal.TheVariants.{TableFull, ChildNotBelow}
use Rattle.model.specs.Judged.{Judged, bad, good, judgement_of}
use Rattle.model.specs.Limits.{child_limit, node_limit}
use Rattle.model.specs.Node.{Node, add_node, all_below, kids_of, no_node, node_of, op_of}
use Rattle.model.specs.Tables.{entries, node_at, node_entry, node_table, words_from, node_words, count_at, children_at}
use Rattle.std.proofs.Common.{Ok, Err}
use Rattle.model.specs.declared.Refusal.{Refusal}
use Rattle.laws.proofs.Judging.{faulty-bad, first-bad, one_more, taken, taken-good, whole}
use Rattle.entries.specs.Nodes.{KnownIn, NodesStand, NodesWhole, children_in, count_in, first_nodes, nodes_to}

pub length-nodes : (k : ℕ) (ws : List ℕ) → length (first_nodes k ws) ≡ k
unfolding first_nodes
length-nodes zero ws = refl
length-nodes (suc k) ws = rw (length-append, length-nodes k ws) (omega arith)

pub node_in : (k : ℕ) (ws : List ℕ) (n : ℕ) → n < k → node_of (first_nodes k ws) n ≡ node_at ws n
unfolding first_nodes
node_in zero ws n h = absurd (omega arith)
node_in (suc k) ws n h =
    elim (ℕ_discrete n k) [
      | yes e ↦ rw e (get_or_at (first_nodes k ws) (node_at ws k) [] no_node k (length-nodes k ws))
      | no e ↦
          get_or-append (first_nodes k ws) (node_at ws k ∷ []) no_node n (omega (arith, length-nodes k ws))
          ∙ node_in k ws n (omega arith)
    ]

pub children-in : (k : ℕ) (ws : List ℕ) (n : ℕ) → n < k → kids_of (first_nodes k ws) n ≡ children_in ws n
unfolding node_at
children-in k ws n h = ap (λ (x : Node). x.kids) (node_in k ws n h)

pub operator-in : (k : ℕ) (ws : List ℕ) (n : ℕ) → n < k → op_of (first_nodes k ws) n ≡ get_or ws (n * node_words) 0
unfolding node_at
operator-in k ws n h = ap (λ (x : Node). x.op) (node_in k ws n h)

pub known : {ws : List ℕ} {n : ℕ} (a : ℕ) → NodesStand ws n → a < n → KnownIn ws a
known a s h =
    record {
      small = omega arith;
      room = omega arith;
      narrow = s.narrow a h;
      children = λ i q. omega (arith, s.lower a i h q);
    }

-- a table of nodes, entry by entry
pub record Nodes (ws : List ℕ) (k : ℕ) (ns : List Node) : Type 0 where
  pub is : ns ≡ first_nodes k ws
  pub stand : NodesStand ws k

pub below_at : (ws : List ℕ) (n at k : ℕ) → all_below n (words_from ws at k) ≡ true → (i : ℕ) → i < k → get_or ws (at + i) 0 < n
unfolding all_below words_from
below_at ws n at zero p i h = absurd (omega arith)
below_at ws n at (suc k) p i h =
    let q = (and-eq-true_iff (ltb (get_or ws at 0) n) (all_below n (words_from ws (suc at) k))).0 p in
    elim (ℕ_discrete i 0) [
      | yes e ↦ rw (e, add-zero) (ltb-true _ _ q.0)
      | no e ↦
          let same : suc at + (i - 1) ≡ at + i = omega arith in
          rw same at (below_at ws n (suc at) k q.1 (i - 1) (omega arith))
    ]

record NodeAdded (ns : List Node) (e : Option Node) (new : List Node) : Type 0 where
  node : Node
  entry : e ≡ some node
  few : length ns < node_limit
  lower : all_below (length ns) node.kids ≡ true
  is : new ≡ ns ++ (node ∷ [])

node-added : (ns : List Node) (e : Option Node) (new : List Node) → add_node ns e ≡ good new → NodeAdded ns e new
unfolding add_node
node-added ns none new p = let z : ◌≡◌ {A = ℕ} 0 1 = cc in absurd (omega arith)
node-added ns (some x) new p =
    let a = taken (leb node_limit (length ns)) TableFull _ _ p in
    let b = taken (not (all_below (length ns) x.kids)) ChildNotBelow _ _ a.1 in
    record { node = x; entry = refl; few = leb-false _ _ a.0; lower = not-false _ b.0; is = cc }

record NodeEntry (ws : List ℕ) (i : ℕ) (x : Node) : Type 0 where
  room : i * node_words + node_words ≤ length ws
  narrow : count_in ws i ≤ child_limit
  is : node_at ws i ≡ x

node-entry : (ws : List ℕ) (i : ℕ) (x : Node) → node_entry ws i ≡ some x → NodeEntry ws i x
unfolding node_entry
node-entry ws i x p =
    let w = whole (leb (i * node_words + node_words) (length ws) && leb (get_or ws (i * node_words + count_at) 0) child_limit) (some (node_at ws i)) p in
    let b = (and-eq-true_iff (leb (i * node_words + node_words) (length ws)) (leb (get_or ws (i * node_words + count_at) 0) child_limit)).0 w.0 in
    let q = w.1 in
    record { room = leb-true _ _ b.0; narrow = leb-true _ _ b.1; is = cc }

pub step-node : (ws : List ℕ) (k : ℕ) {ns new : List Node} → Nodes ws k ns → add_node ns (node_entry ws k) ≡ good new → Nodes ws (suc k) new
unfolding first_nodes node_at
step-node ws k {ns} {new} s p =
    let a = node-added ns (node_entry ws k) new p in
    let e = node-entry ws k a.node a.entry in
    let size : length ns ≡ k = ap length s.is ∙ length-nodes k ws in
    let low : all_below k (children_in ws k) ≡ true =
    ap (λ (x : Node). all_below k x.kids) e.is ∙ ap (λ (m : ℕ). all_below m a.node.kids) (sym size) ∙ a.lower in
    record {
      is = a.is ∙ ap (λ (x : Node). ns ++ (x ∷ [])) (sym e.is) ∙ ap (λ (l : List Node). l ++ (node_at ws k ∷ [])) s.is;
      stand = record {
        few = omega (arith, a.few);
        room = omega (arith, e.room);
        narrow = λ m h. elim (ℕ_discrete m k) [ yes q ↦ rw q e.narrow | no q ↦ s.stand.narrow m (omega arith) ];
        lower = λ m i h g. elim (ℕ_discrete m k) [
          | yes q ↦ rw q (below_at ws k (k * node_words + children_at) (count_in ws k) low i (rw q at g))
          | no q ↦ s.stand.lower m i (omega arith) g
        ];
      };
    }

pub nodes : (ws : List ℕ) (k : ℕ) (ns : List Node) → nodes_to ws k ≡ good ns → Nodes ws k ns
unfolding entries first_nodes
nodes ws zero ns p =
    record {
      is = cc;
      stand = record {
        few = omega arith;
        room = omega arith;
        narrow = λ m h. absurd (omega arith);
        lower = λ m i h g. absurd (omega arith);
      };
    }
nodes ws (suc k) ns p = go (nodes_to ws k) refl (nodes ws k)
  where
    go : (j : Judged (List Node)) → nodes_to ws k ≡ j → ((older : List Node) → nodes_to ws k ≡ good older → Nodes ws k older) →
        Nodes ws (suc k) ns
    go (good older) q rec = step-node ws k (rec older q) (sym (one_more add_node (node_entry ws) [] k q) ∙ p)
    go (bad n) q rec =
        let z : ◌≡◌ {A = ℕ} 0 1 = cc (first-bad add_node (node_entry ws) [] k (suc k) n (omega arith) q) in
        absurd (omega arith)

-- the loop that judges a table of nodes
pub node-bad : (ws : List ℕ) (k : ℕ) (r : Refusal) → nodes_to ws k ≡ good (first_nodes k ws) → k * node_words < length ws →
    Err r ≡ judgement_of (add_node (first_nodes k ws) (node_entry ws k)) → node_table ws ≡ bad r
unfolding node_table
node-bad ws k r s h p =
    first-bad add_node (node_entry ws) [] (suc k) ((length ws + (node_words - 1)) / node_words) r
    ((le-div_iff_mul-le (omega arith)).1 (omega arith)) (one_more add_node (node_entry ws) [] k s ∙ faulty-bad _ r p)

pub node-more : (ws : List ℕ) (k : ℕ) → nodes_to ws k ≡ good (first_nodes k ws) →
    Ok tt ≡ judgement_of (add_node (first_nodes k ws) (node_entry ws k)) → nodes_to ws (suc k) ≡ good (first_nodes (suc k) ws)
node-more ws k s p =
    let g = taken-good (add_node (first_nodes k ws) (node_entry ws k)) p in
    let q = one_more add_node (node_entry ws) [] k s ∙ g.is in
    q ∙ ap good (nodes ws (suc k) g.what q).is

pub node_done : (ws : List ℕ) (k : ℕ) → nodes_to ws k ≡ good (first_nodes k ws) → length ws ≤ k * node_words → node_table ws ≡ good (first_nodes k ws)
unfolding node_table
node_done ws k s h =
    let e : (length ws + (node_words - 1)) / node_words ≡ k = div-eq_of_lt-le node_words (omega (arith, (nodes ws k (first_nodes k ws) s).stand.room)) (omega arith) in
    rw e s

pub nodes-none : (ws : List ℕ) → nodes_to ws 0 ≡ good (first_nodes 0 ws)
unfolding entries first_nodes
nodes-none ws = refl

pub nodes-whole : (ws : List ℕ) → Ok tt ≡ judgement_of (node_table ws) → NodesWhole ws
unfolding node_table
nodes-whole ws p =
    let g = taken-good (node_table ws) p in
    let t = nodes ws ((length ws + (node_words - 1)) / node_words) g.what g.is in
    let e : (length ws + (node_words - 1)) / node_words ≡ length ws / node_words = omega (arith, t.stand.room) in
    record { stand = subst (NodesStand ws) e t.stand; is = g.is ∙ ap good (t.is ∙ ap (λ (k : ℕ). first_nodes k ws) e) }

-- one entry more: a node
pub node-stands : (ws : List ℕ) (n : ℕ) → NodesStand ws n → Ok tt ≡ judgement_of (add_node (first_nodes n ws) (node_entry ws n)) →
    Nodes ws (suc n) (first_nodes n ws ++ (node_at ws n ∷ []))
unfolding first_nodes
node-stands ws n s p =
    let g = taken-good (add_node (first_nodes n ws) (node_entry ws n)) p in
    let t = step-node ws n (record { is = refl; stand = s }) g.is in
    record { is = refl; stand = t.stand }
