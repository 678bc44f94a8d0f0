-- A frame of a node: refused, or one node more.
use Prim.Native.Nat.{ℕ, suc, ◌+◌}
use mathlib.Core.List.{List}
use mathlib.Core.Path.{◌≡◌, refl, sym, subst, ◌∙◌}
use native.Mathlib.Omega.{arith}
use native.Mathlib.Numerals.{add-one}
use Rattle.std.proofs.Common.{Ok}
use Rattle.model.specs.Judged.{Judged}
use Rattle.model.specs.Node.{Node}
use Rattle.model.specs.Tables.{entries}
use Rattle.model.specs.Run.{State, node_turn}
use Rattle.laws.proofs.Judging.{taken-good}
use Rattle.entries.specs.Nodes.{nodes_to}
use Rattle.entries.specs.Connections.{connections_to}
use Rattle.tables.specs.Grown.{Grown}
use Rattle.frames.specs.declared.Counts.{Counts}
use Rattle.frames.specs.declared.Store.{Store}
use Rattle.frames.specs.State.{Stands}
use Rattle.frames.specs.Step.{StepIs}
use Rattle.frames.proofs.Stores.{with_nodes}

-- the counts behind a node
abbrev pub one_node : Counts → Counts
one_node k = record { kind = 1; nodes = k.nodes + 1; rules = k.rules; connections = k.connections; offered = 0 }

-- where there is no connection, the nodes play no part
pub no-connection : (ns ms : List Node) (cws : List ℕ) (k : ℕ) → k ≡ 0 → connections_to ns cws k ≡ connections_to ms cws k
unfolding entries
no-connection ns ms cws k e = rw e refl

module _ (k : Counts) (t : Store) (after : List ℕ) (s : State) (h : Stands k t s) where
  pub node-taken : k.connections ≡ 0 → (j : Judged (List Node)) → Grown j (Ok tt) (nodes_to after (suc k.nodes)) →
      StepIs (node_turn s j) (Ok (one_node k, 0)) (with_nodes t after)
  node-taken none j g =
      let a = taken-good j g.says in
      subst (λ (x : Judged (List Node)). StepIs (node_turn s x) (Ok (one_node k, 0)) (with_nodes t after)) (sym a.is) (
        refl,
        refl,
        record {
          kind = refl;
          nodes = rw add-one (g.holds refl ∙ a.is);
          rules = h.rules;
          few = h.few;
          conns = no-connection a.what s.tables.nodes t.conns k.connections none ∙ h.conns;
          tops = λ p. absurd (omega arith);
          words = refl;
          fits = omega arith;
          fresh = λ _. none;
        },
      )
