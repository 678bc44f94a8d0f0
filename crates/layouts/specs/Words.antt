-- Entries as the words that hold them in a table: what a frame says can be handed in as words.
use Rattle.std.specs.Prelude.{ℕ, ◌-◌, List, [], ◌∷◌, ◌++◌, length, replicate}
use Rattle.model.specs.declared.Connection.{Connection}
use Rattle.model.specs.declared.Direction.{Direction}
use Rattle.model.specs.declared.Direction.TheVariants.{Forward, Backward}
use Rattle.model.specs.declared.Justification.{Justification}
use Rattle.model.specs.declared.Justification.TheVariants.{Rule as by_rule, Congruence}
use Rattle.model.specs.Pattern.{Item, variable, operator, items}
use Rattle.model.specs.Rule.{Rule}
use Rattle.model.specs.Node.{Node}
use Rattle.model.specs.Forest.{cur, nxt}
use Rattle.model.specs.Tables.{node_words, side_words}

-- words, and zeros behind them up to a size
abbrev pub padded : ℕ → List ℕ → List ℕ
padded size ws = ws ++ replicate (size - length ws) 0

abbrev pub words_of_node : Node → List ℕ
words_of_node e = padded node_words (e.op ∷ length e.kids ∷ e.kids)

-- an item's kind, its variable or operator, and its count
abbrev pub item_kind : Item → ℕ
item_kind (variable x) = 0
item_kind (operator o c) = 1

abbrev pub item_field : Item → ℕ
item_field (variable x) = x
item_field (operator o c) = o

abbrev pub item_count : Item → ℕ
item_count (variable x) = 0
item_count (operator o c) = c

unfoldable pub slots_of : List Item → List ℕ
slots_of [] = []
slots_of (i ∷ is) = item_kind i ∷ item_field i ∷ item_count i ∷ slots_of is

unfoldable pub words_of_rule : Rule → List ℕ
unfolding slots_of items
words_of_rule r =
    r.number ∷ length (items r.left) ∷ length (items r.right)
    ∷ (padded side_words (slots_of (items r.left)) ++ padded side_words (slots_of (items r.right)))

abbrev pub forward_word : Direction → ℕ
forward_word Forward = 1
forward_word Backward = 0

abbrev pub words_of_why : Justification → List ℕ
words_of_why Congruence = 0 ∷ 0 ∷ 0 ∷ []
words_of_why (by_rule n d) = 1 ∷ n.0 ∷ forward_word d ∷ []

abbrev pub words_of_connection : Connection → List ℕ
words_of_connection c = cur c ∷ nxt c ∷ words_of_why c.why
