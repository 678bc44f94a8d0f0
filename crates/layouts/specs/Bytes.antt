-- The entries of tables in words as the bytes of their frames, behind the kind's byte.
-- An entry that is cut has no frame, and neither has a rule whose left items are no whole pattern: they are given no bytes, and such a
-- frame is refused like them.
use Rattle.std.specs.Prelude.{ℕ, zero, suc, ◌+◌, ◌*◌, ◌/◌, ◌%◌, ◌<◌, Bool, true, false, ◌&&◌, List, [], ◌∷◌, ◌++◌, leb, length, get_or}
use Rattle.std.proofs.Math.Option.{Option, none, some}
use Rattle.model.specs.Pattern.{Patterns}
use Rattle.model.specs.Tables.{children_at, node_words, item_words, left_at, right_at, rule_words, next_at, why_at, by_rule_at, forward_at, connection_words, words_from, side_at}

-- a word as two bytes, "high byte first"
abbrev pub high : ℕ → ℕ
high n = n / 256

abbrev pub low : ℕ → ℕ
low n = n % 256

unfoldable pub pairs : List ℕ → List ℕ
pairs [] = []
pairs (n ∷ ns) = high n ∷ low n ∷ pairs ns

-- bytes where there is a frame, else none
abbrev pub bytes_if : Bool → List ℕ → List ℕ
bytes_if true bs = bs
bytes_if false bs = []

-- 01: "operator 2 bytes, count 1, children 2 each"
unfoldable pub node_bytes : List ℕ → ℕ → List ℕ
unfolding pairs words_from
node_bytes ws i =
    let at = i * node_words in
    let o = get_or ws at 0 in
    let c = get_or ws (at + 1) 0 in
    bytes_if (leb (at + node_words) (length ws)) (high o ∷ low o ∷ c ∷ pairs (words_from ws (at + children_at) c))

-- 02: "number 2, left, right; an item is 00 and a variable 0 to 15, or 01, operator 2, count 1"
abbrev pub item_bytes : ℕ → ℕ → ℕ → List ℕ
item_bytes zero v n = 0 ∷ v ∷ []
item_bytes (suc zero) o n = 1 ∷ high o ∷ low o ∷ n ∷ []
item_bytes (suc (suc k)) v n = suc (suc k) ∷ []

unfoldable pub slot_bytes : List ℕ → ℕ → ℕ → List ℕ
slot_bytes ws at zero = []
slot_bytes ws at (suc n) = item_bytes (get_or ws at 0) (get_or ws (at + 1) 0) (get_or ws (at + 2) 0) ++ slot_bytes ws (at + item_words) n

abbrev pub is_pattern : Option Patterns → Bool
is_pattern none = false
is_pattern (some q) = true

unfoldable pub rule_bytes : List ℕ → ℕ → List ℕ
unfolding slot_bytes side_at
rule_bytes ws i =
    let at = i * rule_words in
    let n = get_or ws at 0 in
    let l = get_or ws (at + 1) 0 in
    let r = get_or ws (at + 2) 0 in
    bytes_if (leb (at + rule_words) (length ws) && is_pattern (side_at ws (at + left_at) l))
    (high n ∷ low n ∷ (slot_bytes ws (at + left_at) l ++ slot_bytes ws (at + right_at) r))

-- 03: "current 2, next 2, kind 1: 0 congruence, 1 rule; rule 2, forward 1; both 0 for congruence"
unfoldable pub connection_bytes : List ℕ → ℕ → List ℕ
connection_bytes ws i =
    let at = i * connection_words in
    let c = get_or ws at 0 in
    let n = get_or ws (at + next_at) 0 in
    let r = get_or ws (at + by_rule_at) 0 in
    bytes_if (leb (at + connection_words) (length ws))
    (high c ∷ low c ∷ high n ∷ low n ∷ get_or ws (at + why_at) 0 ∷ high r ∷ low r ∷ get_or ws (at + forward_at) 0 ∷ [])

-- every one is a byte
unfoldable pub AreBytes : List ℕ → Type 0
AreBytes [] = Unit {0}
AreBytes (b ∷ bs) = (b < 256) × AreBytes bs
