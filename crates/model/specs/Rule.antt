-- The rule table, and how its entries are judged (2, 3, 5).
use Rattle.std.specs.Prelude.{ℕ, List, [], ◌∷◌, Bool, true, false, not, ◌&&◌, ◌||◌, leb, eqb, length}
use Rattle.std.proofs.Math.Option.{Option, none, some}
use Rattle.model.specs.declared.Refusal.TheVariants.{NoEntry, TableFull, RuleUnfit}
use Rattle.model.specs.Limits.{rule_limit, item_limit}
use Rattle.model.specs.Pattern.{Item, Patterns, count_p, read_p, items, bound}
use Rattle.model.specs.Judged.{Judged, good, bad, refuse_if}

-- "Every rule has two patterns."
pub record Rule : Type 0 where
  pub number : ℕ
  pub left : Patterns
  pub right : Patterns

-- the rule of a number, if it is listed
abbrev pub or_else : Bool → Rule → Option Rule → Option Rule
or_else true r o = some r
or_else false r o = o

unfoldable pub listed : List Rule → ℕ → Option Rule
listed [] n = none
listed (r ∷ rs) n = or_else (eqb n r.number) r (listed rs n)

abbrev pub is_listed : Option Rule → Bool
is_listed none = false
is_listed (some r) = true

-- "1 to 64 items a side": a side is one whole pattern of no more items. (No pattern has no item.)
abbrev pub side_if : Bool → Patterns → Option Patterns
side_if true q = some q
side_if false q = none

abbrev pub one_pattern : Option Patterns → Option Patterns
one_pattern none = none
one_pattern (some q) = side_if (eqb (count_p q) 1 && leb (length (items q)) item_limit) q

unfoldable pub side : List Item → Option Patterns
unfolding read_p count_p items
side is = one_pattern (read_p is)

abbrev pub rule_of : ℕ → Option Patterns → Option Patterns → Option Rule
rule_of n none r = none
rule_of n (some l) none = none
rule_of n (some l) (some r) = some (record { number = n; left = l; right = r })

-- An entry that is not there is one of wrong length or with a field outside its set: 2. Then "rule 257" is 3, and
-- "rule number listed before, or right variable absent on the left" 5.
unfoldable pub add_rule : List Rule → Option Rule → Judged (List Rule)
unfolding listed bound
add_rule rs none = bad NoEntry
add_rule rs (some r) =
    refuse_if (leb rule_limit (length rs)) TableFull
    (refuse_if (is_listed (listed rs r.number) || not (bound r.left r.right)) RuleUnfit
    (good (r ∷ rs)))
