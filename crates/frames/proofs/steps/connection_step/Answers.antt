-- `frames::steps::connection_step` meets its contract: by the judgement on the connection, over the counted nodes and their classes.
use native.Mathlib.Omega.{arith}
use Prim.Native.Nat.{ℕ, ◌*◌, ◌+◌, ◌≤◌}
use mathlib.Core.List.{List, ◌++◌}
use mathlib.Core.Path.{refl, sym, subst, ◌∙◌}
use lib.ListN.{length, take, drop}
use lib.Seq.{length-take-le, take_at}
use Rattle.model.specs.Judged.{Judgement}
use Rattle.model.specs.Tables.{node_words}
use Rattle.model.specs.Run.{connection_turn}
use Rattle.laws.proofs.Handed.{handed_on}
use Rattle.connections.specs.Classes.{Sofar}
use Rattle.connections.proofs.Whole.{sofar-few}
use Rattle.tables.specs.Grown.{Onward}
use Rattle.frames.proofs.Ordered.{refused}
use Rattle.frames.proofs.Connections.{held-few, held-classes, held-whole, held-sofar, connection-grown, connection-taken}
use Rattle.frames.proofs.steps.connection_step.Goals as goal

pub overflow_mul-words : goal.overflow_mul-words
overflow_mul-words c = omega (arith, held-few c.requires.0 c.requires.1)

pub slice_bounds-ready-end : goal.slice_bounds-ready-end
slice_bounds-ready-end c = held-classes c.requires.0 c.requires.1

pub slice_bounds-ready-end-2 : goal.slice_bounds-ready-end-2
slice_bounds-ready-end-2 c = sym (length-take-le _ _ (held-classes c.requires.0 c.requires.1))

pub ready-requires : goal.ready-requires
ready-requires c =
    let few = held-few c.requires.0 c.requires.1 in
    omega (arith, few, length-take-le _ _ (held-classes c.requires.0 c.requires.1))

pub slice_bounds-front-end : goal.slice_bounds-front-end
slice_bounds-front-end c =
    sym (length-take-le _ _ (omega (arith, held-few c.requires.0 c.requires.1, c.requires.1.nodes)))

pub invariant_of-front : goal.invariant_of-front
invariant_of-front c = record { whole = held-whole c.requires.0 c.requires.1 }

pub returns-in_err-take_connection : goal.returns-in_err-take_connection
returns-in_err-take_connection c rws area room s h =
    let a = c.args in
    refused (connection_turn s) (λ q. refl) _ _ _ _ c.in_err-take_connection.was
    (connection-grown a.counts _ _ a.classes.now s h a.bytes.now refl c.take_connection.ensures.connections_grown).says
    (handed_on c.from_residual.result _ c.from_residual.ensures.1)

pub slice_bounds-take_connection-end : goal.slice_bounds-take_connection-end
slice_bounds-take_connection-end c = omega (arith, held-classes c.requires.0 c.requires.1, c.classes-1.given.1)

pub slice_bounds-take_connection-end-2 : goal.slice_bounds-take_connection-end-2
slice_bounds-take_connection-end-2 c =
    sym (length-take-le _ _ (omega (arith, held-classes c.requires.0 c.requires.1, c.classes-1.given.1)))

pub take_connection-requires : goal.take_connection-requires
take_connection-requires c =
    let ready-are = take_at _ _ _ (c.classes-1.given.0 ∙ length-take-le _ _ (held-classes c.requires.0 c.requires.1)) ∙ c.ready.ensures in
    let whole = held-whole c.requires.0 c.requires.1 in
    let sofar = held-sofar c.requires.0 c.requires.1 ready-are in record {
      sofar = sofar;
      connection_words_in_bounds = omega (arith, sofar-few whole sofar, c.requires.1.conns);
    }

pub overflow_add-counts : goal.overflow_add-counts
overflow_add-counts c =
    omega (arith, sofar-few (held-whole c.requires.0 c.requires.1) (held-sofar c.requires.0 c.requires.1 c.ready.ensures))

pub returns : goal.returns
returns c rws area room s h =
    let a = c.args in
    let front = take (a.counts.nodes * node_words) a.nodes.now in
    let after = c.take_connection.new.conns in
    let tops = c.take_connection.new.classes in
    let made : List ℕ = c.ready.new.classes ++ drop a.counts.nodes a.classes.now in
    let still : a.counts.nodes ≤ length made = omega (arith, held-classes c.requires.0 c.requires.1, c.classes-1.given.1) in
    let on = subst (λ (r : Judgement). Onward r front after tops a.counts.connections) c.in_ok-take_connection.was c.take_connection.ensures.onward in
    connection-taken a.counts _ after _ s h _
    (connection-grown a.counts _ after a.classes.now s h a.bytes.now c.in_ok-take_connection.was c.take_connection.ensures.connections_grown)
    (subst (λ (l : List ℕ). Sofar front after l (a.counts.connections + 1))
    (sym (take_at tops (drop a.counts.nodes made) a.counts.nodes (c.classes-2-1.given.0 ∙ length-take-le _ _ still))) on)
