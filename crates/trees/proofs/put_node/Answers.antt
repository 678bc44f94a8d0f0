-- `trees::put_node` meets its contract: what it writes are a node's words, the mark's and the rule's among them.
use Prim.Native.Nat.{ℕ}
use mathlib.Core.List.{[], ◌∷◌}
use mathlib.Core.Path.{ap₂, ◌∙◌}
use Rattle.laws.specs.Area.{splice}
use Rattle.trees.proofs.put_node.Goals as goal

pub returns : goal.returns
returns c =
    let a = c.args in
    c.put_words.ensures
    ∙ ap₂ (λ (m r : ℕ). splice a.area.now a.at (a.op.0 ∷ a.count ∷ m ∷ r ∷ [])) c.words_of_mark-direction.ensures.0 c.words_of_mark-direction.ensures.1
