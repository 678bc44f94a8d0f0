-- `connections::judge_connection` meets its contract: the reasons against the ends in turn, then the support of a congruence.
use native.Mathlib.Omega.{arith}
use Prim.Native.Nat.{ℕ, ◌/◌, ◌<◌}
use mathlib.Core.List.{List}
use mathlib.Core.Path.{◌≡◌, sym, ◌∙◌}
use mathlib.Core.Bool.{true, false}
use lib.ListN.{length}
use Rattle.model.specs.declared.Connection.{Connection}
use Rattle.model.specs.declared.Justification.TheVariants.{Congruence}
use Rattle.model.specs.Connect.{supported}
use Rattle.model.specs.Forest.{cur, nxt}
use Rattle.model.specs.Tables.{node_words}
use Rattle.paths.specs.Hangs.{Forest}
use Rattle.entries.specs.Nodes.{nodes_of}
use Rattle.entries.proofs.Nodes.{length-nodes}
use Rattle.entries.proofs.Judging.{out-current, out-next, has-parent, already, Placed, by-rule, by-support, supported-in}
use Rattle.connections.specs.Classes.{Classes}
use Rattle.connections.proofs.Classes.{same_class_lem, top-free, lower-bound, support-alike}
use Rattle.connections.proofs.judge_connection.Goals.{Else-joined, After-supports}
use Rattle.connections.proofs.judge_connection.Goals as goal

many : (nws ks : List ℕ) → length ks ≡ length nws / node_words → length (nodes_of nws) ≡ length ks
many nws ks h = length-nodes _ _ ∙ sym h

pub returns-then-n-from : goal.returns-then-n-from
returns-then-n-from c = λ cs f k. out-current _ _ _ (omega (arith, many c.args.nodes.words.now _ c.requires, c.from.ensures))

pub returns-then-n-from-2 : goal.returns-then-n-from-2
returns-then-n-from-2 c = λ cs f k.
    let e = many c.args.nodes.words.now _ c.requires in
    out-next _ _ _ (omega (arith, e, c.from.ensures)) (omega (arith, e, c.from-2.ensures))

pub class_of-requires : goal.class_of-requires
class_of-requires c = omega (arith, c.from.ensures)

pub returns-then-class_of-a : goal.returns-then-class_of-a
returns-then-class_of-a c = λ cs f k.
    has-parent _ _ _
    (lower-bound k _ f (omega (arith, c.from.ensures, k.size)) (λ p. c.if-class_of-a.true (c.class_of.ensures ∙ p)))

pub joined-requires : goal.joined-requires
joined-requires c = (omega (arith, c.from.ensures), omega (arith, c.from-2.ensures))

pub returns-then-joined : goal.returns-then-joined
returns-then-joined c = λ cs f k.
    already _ _ _
    (sym (same_class_lem k _ _ (omega (arith, c.from.ensures, k.size)) (omega (arith, c.from-2.ensures, k.size)))
    ∙ sym c.joined.ensures ∙ c.if-joined.true)

-- what no test refuses is placed
placed : (c : Else-joined) {cs : List Connection} (f : Forest cs) → Classes cs (length c.args.nodes.words.now / node_words) c.args.classes.now →
    Placed (nodes_of c.args.nodes.words.now) cs c.args.c
placed c f k =
    let e = many c.args.nodes.words.now _ c.requires in
    record {
      current-in = omega (arith, e, c.from.ensures);
      next-in = omega (arith, e, c.from-2.ensures);
      free = top-free k (cur c.args.c) f (omega (arith, c.from.ensures, k.size)) (sym c.class_of.ensures ∙ c.if-class_of-a.false);
      apart =
          sym (same_class_lem k (cur c.args.c) (nxt c.args.c) (omega (arith, c.from.ensures, k.size)) (omega (arith, c.from-2.ensures, k.size)))
          ∙ sym c.joined.ensures ∙ c.if-joined.false;
    }

-- and what `supports` says is whether its support is there
found : (c : After-supports) {cs : List Connection} → Classes cs (length c.args.nodes.words.now / node_words) c.args.classes.now →
    supported (nodes_of c.args.nodes.words.now) cs Congruence (cur c.args.c) (nxt c.args.c) ≡ c.supports.result
found c k =
    let a : cur c.args.c < length c.args.nodes.words.now / node_words = omega (arith, c.from.ensures, k.size) in
    let b : nxt c.args.c < length c.args.nodes.words.now / node_words = omega (arith, c.from-2.ensures, k.size) in
    supported-in _ _ _ _ _ a b ∙ sym (support-alike c.args.nodes.whole.stand k _ _ a b) ∙ sym c.supports.ensures

pub returns-in-Rule : goal.returns-in-Rule
returns-in-Rule c = λ cs f k. by-rule _ _ _ (placed (goal.at.returns-in-Rule c).Else-joined f k) c.in-Rule.is

pub supports-requires : goal.supports-requires
supports-requires c = (rw c.requires c.args.nodes.whole.stand, omega (arith, c.from.ensures), omega (arith, c.from-2.ensures))

pub returns-then-supports : goal.returns-then-supports
returns-then-supports c = λ cs f k.
    by-support _ _ _ (placed (goal.at.returns-then-supports c).Else-joined f k) c.in-Congruence.is true
    (found (goal.at.returns-then-supports c).After-supports k ∙ c.if-supports.true)

pub returns-else-supports : goal.returns-else-supports
returns-else-supports c = λ cs f k.
    by-support _ _ _ (placed (goal.at.returns-else-supports c).Else-joined f k) c.in-Congruence.is false
    (found (goal.at.returns-else-supports c).After-supports k ∙ c.if-supports.false)
