-- Tables handed in whole: what the three judgements come to together, and what accepted tables are.
-- Assumes nothing.
use Prim.Native.Nat.{ℕ, ◌+◌, ◌-◌, ◌/◌}
use mathlib.Core.List.{List}
use mathlib.Core.Path.{◌≡◌, refl, sym, ◌∙◌, ap, subst}
use native.Mathlib.Omega.{arith}
use lib.ListN.{length}
use Rattle.std.proofs.Common.{Ok, Err}
use Rattle.model.specs.Verdict.{rejection}
use Rattle.model.specs.declared.Refusal.{Refusal}
use Rattle.model.specs.declared.Connection.{Connection}
use Rattle.model.specs.Judged.{Judged, good, bad, judgement_of}
use Rattle.model.specs.Rule.{Rule}
use Rattle.model.specs.Node.{Node}
use Rattle.model.specs.Query.{Tables}
use Rattle.model.specs.Tables.{node_words, connection_words, node_table, rule_table, connection_table, with_nodes, with_connections, judge_tables, measure_by, verdict_by}
use Rattle.laws.proofs.Judging.{taken-good, faulty-bad}
use Rattle.paths.specs.Hangs.{AcceptedConnections}
use Rattle.entries.specs.Nodes.{NodesWhole, nodes_of}
use Rattle.entries.specs.Connections.{Supported, oldest}
use Rattle.entries.proofs.Nodes.{nodes-whole}
use Rattle.entries.proofs.Connections.{connections}
use Rattle.forest.specs.Rows.{connections_of}

-- a table that is refused
module _ (nws rws cws : List ℕ) where
  pub bad-nodes : (n : Refusal) → Err n ≡ judgement_of (node_table nws) → judge_tables nws rws cws ≡ bad n
  unfolding judge_tables
  bad-nodes n e = rw (faulty-bad (node_table nws) n e)

  pub bad-rules : NodesWhole nws → (n : Refusal) → Err n ≡ judgement_of (rule_table rws) → judge_tables nws rws cws ≡ bad n
  unfolding judge_tables
  bad-rules a n e = rw (a.is, faulty-bad (rule_table rws) n e)

-- nodes and rules are accepted: the connections decide
last : (ns : List Node) (rs : List Rule) (j : Judged (List Connection)) → judgement_of j ≡ judgement_of (with_connections ns rs j)
last ns rs (good cs) = refl
last ns rs (bad n) = refl

pub connections-decide : (nws rws cws : List ℕ) → NodesWhole nws → Ok tt ≡ judgement_of (rule_table rws)
    → judgement_of (connection_table (nodes_of nws) cws) ≡ judgement_of (judge_tables nws rws cws)
unfolding judge_tables
connections-decide nws rws cws a b =
    let g = taken-good (rule_table rws) b in
    rw (a.is, g.is) (last (nodes_of nws) g.what (connection_table (nodes_of nws) cws))

-- the parts of accepted tables
pub record Parts (nws rws cws : List ℕ) (t : Tables) : Type 0 where
  pub nodes : node_table nws ≡ good t.nodes
  pub rules : rule_table rws ≡ good t.rules
  pub conns : connection_table t.nodes cws ≡ good t.conns

parts-by : (nws rws cws : List ℕ) (t : Tables) (a : Judged (List Node)) → node_table nws ≡ a → (b : Judged (List Rule)) → rule_table rws ≡ b
    → with_nodes a b (λ ns. connection_table ns cws) ≡ good t → Parts nws rws cws t
parts-by nws rws cws t (bad n) p b q e = let z : ◌≡◌ {A = ℕ} 0 1 = cc in absurd (omega arith)
parts-by nws rws cws t (good ns) p (bad n) q e = let z : ◌≡◌ {A = ℕ} 0 1 = cc in absurd (omega arith)
parts-by nws rws cws t (good ns) p (good rs) q e = go (connection_table ns cws) refl e
  where
    go : (c : Judged (List Connection)) → connection_table ns cws ≡ c → with_connections ns rs c ≡ good t → Parts nws rws cws t
    go (bad n) r h = let z : ◌≡◌ {A = ℕ} 0 1 = cc in absurd (omega arith)
    go (good cs) r h =
        let w : record { nodes = ns; rules = rs; conns = cs } ≡ t = cc in
        subst (Parts nws rws cws) w (record { nodes = p; rules = q; conns = r })

pub parts : (nws rws cws : List ℕ) (t : Tables) → judge_tables nws rws cws ≡ good t → Parts nws rws cws t
unfolding judge_tables
parts nws rws cws t e = parts-by nws rws cws t (node_table nws) refl (rule_table rws) refl e

-- what climbing wants of them
pub record Whole (nws rws cws : List ℕ) (t : Tables) : Type 0 where
  pub table : NodesWhole nws
  pub support : Supported nws (length nws / node_words) cws (length cws / connection_words)
  pub nodes : t.nodes ≡ nodes_of nws
  pub conns : t.conns ≡ connections_of cws

pub whole : (nws rws cws : List ℕ) (t : Tables) → judge_tables nws rws cws ≡ good t → Whole nws rws cws t
unfolding connection_table
whole nws rws cws t e =
    let p = parts nws rws cws t e in
    let a = nodes-whole nws (sym (ap judgement_of p.nodes)) in
    let ns : t.nodes ≡ nodes_of nws = (let x = a.is in let y = p.nodes in cc) in
    let c : connection_table (nodes_of nws) cws ≡ good t.conns = rw ns at p.conns in
    let k = (length cws + (connection_words - 1)) / connection_words in
    let b = connections (nodes_of nws) cws k t.conns c in
    let q : k ≡ length cws / connection_words = omega (arith, b.room) in
    record {
      table = a;
      support = record { table = a.stand; accepted = subst (λ (m : ℕ). AcceptedConnections (nodes_of nws) (oldest m cws)) q b.accepted };
      nodes = ns;
      conns = b.is ∙ ap (λ (m : ℕ). oldest m cws) q;
    }

-- answers over tables that are refused
pub refused : (j : Judged Tables) (ws : List ℕ) (n : Refusal) → Err n ≡ judgement_of j → Err (rejection n 0) ≡ verdict_by j ws
refused j ws n e = sym (ap (λ (x : Judged Tables). verdict_by x ws) (faulty-bad j n e))

pub unmeasured : (j : Judged Tables) (l r : ℕ) (n : Refusal) → Err n ≡ judgement_of j → Err n ≡ measure_by j l r
unmeasured j l r n e = sym (ap (λ (x : Judged Tables). measure_by x l r) (faulty-bad j n e))
