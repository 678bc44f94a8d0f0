-- What stands behind the accepted entries of a table plays no part: an entry may be written there, or the table lent without it.
use Prim.Native.Nat.{ℕ, zero, suc, ◌*◌, ◌+◌, ◌<◌, ◌≤◌}
use mathlib.Core.List.{List, [], ◌++◌, ◌∷◌}
use mathlib.Core.Path.{◌∙◌, ◌≡◌, ap, ap₂, refl, subst₂}
use native.Mathlib.Omega.{arith}
use lib.ListN.{get_or, length}
use Rattle.model.specs.Limits.{child_limit}
use Rattle.model.specs.Node.{Node}
use Rattle.model.specs.Tables.{node_at, words_from, node_words, count_at, children_at, connection_words, next_at, why_at, by_rule_at, forward_at}
use Rattle.model.specs.declared.Connection.{Connection}
use Rattle.paths.specs.Hangs.{AcceptedConnections}
use Rattle.entries.specs.Connections.{Supported, connection_in, oldest}
use Rattle.entries.specs.Nodes.{NodesStand, count_in, first_nodes}

-- the first k words of two tables are the same
abbrev pub Front : ℕ → List ℕ → List ℕ → Type 0
Front k ws vs = (m : ℕ) → m < k → get_or ws m 0 ≡ get_or vs m 0

connection-same : (ws vs : List ℕ) (i : ℕ) → Front (i * connection_words + connection_words) ws vs → connection_in ws i ≡ connection_in vs i
unfolding connection_in
connection-same ws vs i f =
    rw (f (i * connection_words) (omega arith), f (i * connection_words + next_at) (omega arith), f (i * connection_words + why_at) (omega arith), f (i * connection_words + by_rule_at) (omega arith), f (i * connection_words + forward_at) (omega arith))
    refl

pub oldest-same : (k : ℕ) (ws vs : List ℕ) → Front (k * connection_words) ws vs → oldest k ws ≡ oldest k vs
unfolding oldest
oldest-same zero ws vs f = refl
oldest-same (suc k) ws vs f =
    ap₂ (λ (c : Connection) (cs : List Connection). c ∷ cs) (connection-same ws vs k (λ m h. f m (omega arith)))
    (oldest-same k ws vs (λ m h. f m (omega arith)))

words_same : (ws vs : List ℕ) (at n : ℕ) → Front (at + n) ws vs → words_from ws at n ≡ words_from vs at n
unfolding words_from
words_same ws vs at zero f = refl
words_same ws vs at (suc n) f =
    ap₂ (λ (x : ℕ) (xs : List ℕ). x ∷ xs) (f at (omega arith)) (words_same ws vs (suc at) n (λ m h. f m (omega arith)))

node-same : (ws vs : List ℕ) (n : ℕ) → count_in ws n ≤ child_limit → Front (n * node_words + node_words) ws vs → node_at ws n ≡ node_at vs n
unfolding node_at
node-same ws vs n h f =
    let e = f (n * node_words + count_at) (omega arith) in
    ap₂ (λ (o : ℕ) (k : List ℕ). record { op = o; kids = k }) (f (n * node_words) (omega arith))
    (words_same ws vs (n * node_words + children_at) (count_in ws n) (λ m q. f m (omega arith)) ∙ ap (words_from vs (n * node_words + children_at)) e)

nodes-by : (k n : ℕ) (ws vs : List ℕ) → k ≤ n → NodesStand ws n → Front (n * node_words) ws vs → first_nodes k ws ≡ first_nodes k vs
unfolding first_nodes
nodes-by zero n ws vs h s f = refl
nodes-by (suc k) n ws vs h s f =
    ap₂ (λ (ns : List Node) (x : Node). ns ++ (x ∷ [])) (nodes-by k n ws vs (omega arith) s f)
    (node-same ws vs k (s.narrow k (omega arith)) (λ m q. f m (omega arith)))

module _ {ws : List ℕ} (vs : List ℕ) {n : ℕ} (s : NodesStand ws n) (f : Front (n * node_words) ws vs) where
  pub nodes-same : first_nodes n ws ≡ first_nodes n vs
  nodes-same = nodes-by n n ws vs (omega arith) s f

  pub nodes-kept : n * node_words ≤ length vs → NodesStand vs n
  nodes-kept h =
      record {
        few = s.few;
        room = h;
        narrow = λ a p. omega (arith, s.narrow a p, f (a * node_words + count_at) (omega arith));
        lower = λ a i p q.
            let e = f (a * node_words + count_at) (omega arith) in
            let b = s.narrow a p in
            omega (arith, s.lower a i p (omega arith), f (a * node_words + children_at + i) (omega arith));
      }

pub supported-kept : {nodes nodes' : List ℕ} {n : ℕ} {ws vs : List ℕ} {k : ℕ} → Supported nodes n ws k → Front (n * node_words) nodes nodes' →
    n * node_words ≤ length nodes' →
    Front (k * connection_words) ws vs → Supported nodes' n vs k
supported-kept {nodes} {nodes'} {n} {ws} {vs} {k} s f h g =
    record {
      table = nodes-kept nodes' s.table f h;
      accepted = subst₂ AcceptedConnections (nodes-same nodes' s.table f) (oldest-same k ws vs g) s.accepted;
    }
