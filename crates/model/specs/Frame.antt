-- Lines of hexadecimal, and the frames that they hold.
use Rattle.std.specs.Prelude.{ℕ, zero, suc, ◌+◌, ◌*◌, ◌-◌, Bool, true, false, ◌&&◌, cond, List, [], ◌∷◌, leb, eqb, length}
use Rattle.std.proofs.Math.Option.{Option, none, some}
use Rattle.model.specs.declared.Connection.{Connection}
use Rattle.model.specs.Limits.{child_limit, digit_limit}
use Rattle.model.specs.Pattern.{Item, variable, operator, Patterns, read_p, CutP, cut_p, count_p, items}
use Rattle.model.specs.Rule.{Rule, rule_of, one_pattern}
use Rattle.model.specs.Node.{Node}
use Rattle.model.specs.Tables.{only_if, item_front, why_of, connection_of}

-- 1: "line isn't lower-case hex pairs, is empty, exceeds 8,192 digits". In ASCII 0 to 9 are 48 to 57, and a to f are 97 to 102.
abbrev pub is_between : ℕ → ℕ → ℕ → Bool
is_between a n b = leb a n && leb n b

abbrev pub hex_by : Bool → Bool → ℕ → Option ℕ
hex_by true b n = some (n - 48)
hex_by false true n = some (n - 87)
hex_by false false n = none

unfoldable pub hex_digit : ℕ → Option ℕ
hex_digit b = hex_by (is_between 48 b 57) (is_between 97 b 102) b

abbrev pub byte_front : Option ℕ → Option ℕ → Option (List ℕ) → Option (List ℕ)
byte_front none l bs = none
byte_front (some h) none bs = none
byte_front (some h) (some l) none = none
byte_front (some h) (some l) (some bs) = some ((h * 16 + l) ∷ bs)

unfoldable pub hex_pairs : List ℕ → Option (List ℕ)
unfolding hex_digit
hex_pairs [] = some []
hex_pairs (a ∷ []) = none
hex_pairs (a ∷ b ∷ ds) = byte_front (hex_digit a) (hex_digit b) (hex_pairs ds)

unfoldable pub line_bytes : List ℕ → Option (List ℕ)
unfolding hex_pairs
line_bytes ds = only_if (leb 1 (length ds) && leb (length ds) digit_limit) (hex_pairs ds)

-- "One frame a line, high byte first."
abbrev pub two : ℕ → ℕ → ℕ
two h l = h * 256 + l

-- 01: "operator 2 bytes, count 1, children 2 each"
abbrev pub two_front : ℕ → Option (List ℕ) → Option (List ℕ)
two_front n none = none
two_front n (some ns) = some (n ∷ ns)

unfoldable pub twos : List ℕ → Option (List ℕ)
twos [] = some []
twos (a ∷ []) = none
twos (a ∷ b ∷ bs) = two_front (two a b) (twos bs)

abbrev pub node_by : ℕ → ℕ → Option (List ℕ) → Option Node
node_by o c none = none
node_by o c (some ks) = only_if (eqb (length ks) c && leb c child_limit) (some (record { op = o; kids = ks }))

unfoldable pub node_frame : List ℕ → Option Node
unfolding twos
node_frame [] = none
node_frame (a ∷ []) = none
node_frame (a ∷ b ∷ []) = none
node_frame (a ∷ b ∷ c ∷ ks) = node_by (two a b) c (twos ks)

-- 02: "number 2, left, right; an item is 00 and a variable 0 to 15, or 01, operator 2, count 1": the items are two whole
-- patterns, one behind the other
unfoldable pub frame_items : List ℕ → Option (List Item)
frame_items [] = some []
frame_items (zero ∷ []) = none
frame_items (zero ∷ x ∷ bs) = item_front (some (variable x)) (frame_items bs)
frame_items (suc zero ∷ []) = none
frame_items (suc zero ∷ a ∷ []) = none
frame_items (suc zero ∷ a ∷ b ∷ []) = none
frame_items (suc zero ∷ a ∷ b ∷ c ∷ bs) = item_front (some (operator (two a b) c)) (frame_items bs)
frame_items (suc (suc k) ∷ bs) = none

abbrev pub rule_by : ℕ → Option CutP → Option Rule
rule_by n none = none
rule_by n (some p) = rule_of n (one_pattern (some p.front)) (one_pattern (some p.back))

abbrev pub rule_cut : ℕ → Option Patterns → Option Rule
rule_cut n none = none
rule_cut n (some q) = rule_by n (cut_p 1 q)

abbrev pub rule_items : ℕ → Option (List Item) → Option Rule
rule_items n none = none
rule_items n (some is) = rule_cut n (read_p is)

unfoldable pub rule_frame : List ℕ → Option Rule
unfolding frame_items read_p cut_p count_p items
rule_frame [] = none
rule_frame (a ∷ []) = none
rule_frame (a ∷ b ∷ bs) = rule_items (two a b) (frame_items bs)

-- 03: "current 2, next 2, kind 1: 0 congruence, 1 rule; rule 2, forward 1; both 0 for congruence"
unfoldable pub connection_frame : List ℕ → Option Connection
connection_frame [] = none
connection_frame (a ∷ []) = none
connection_frame (a ∷ b ∷ []) = none
connection_frame (a ∷ b ∷ c ∷ []) = none
connection_frame (a ∷ b ∷ c ∷ d ∷ []) = none
connection_frame (a ∷ b ∷ c ∷ d ∷ k ∷ []) = none
connection_frame (a ∷ b ∷ c ∷ d ∷ k ∷ r ∷ []) = none
connection_frame (a ∷ b ∷ c ∷ d ∷ k ∷ r ∷ n ∷ []) = none
connection_frame (a ∷ b ∷ c ∷ d ∷ k ∷ r ∷ n ∷ f ∷ []) = connection_of (two a b) (two c d) (why_of k (two r n) f)
connection_frame (a ∷ b ∷ c ∷ d ∷ k ∷ r ∷ n ∷ f ∷ x ∷ bs) = none

-- 04: "left 2, right 2"
pub record NodePair : Type 0 where
  pub left : ℕ
  pub right : ℕ

unfoldable pub query_frame : List ℕ → Option NodePair
query_frame [] = none
query_frame (a ∷ []) = none
query_frame (a ∷ b ∷ []) = none
query_frame (a ∷ b ∷ c ∷ []) = none
query_frame (a ∷ b ∷ c ∷ d ∷ []) = some (record { left = two a b; right = two c d })
query_frame (a ∷ b ∷ c ∷ d ∷ x ∷ bs) = none

-- 05: "one or more nodes of six bytes: operator 2, count 1, mark 1, rule 2"
abbrev pub four_front : ℕ → ℕ → ℕ → ℕ → Option (List ℕ) → Option (List ℕ)
four_front o c m r none = none
four_front o c m r (some ws) = some (o ∷ c ∷ m ∷ r ∷ ws)

unfoldable pub sixes : List ℕ → Option (List ℕ)
sixes [] = some []
sixes (a ∷ []) = none
sixes (a ∷ b ∷ []) = none
sixes (a ∷ b ∷ c ∷ []) = none
sixes (a ∷ b ∷ c ∷ m ∷ []) = none
sixes (a ∷ b ∷ c ∷ m ∷ r ∷ []) = none
sixes (a ∷ b ∷ c ∷ m ∷ r ∷ n ∷ bs) = four_front (two a b) c m (two r n) (sixes bs)

unfoldable pub words_frame : List ℕ → Option (List ℕ)
unfolding sixes
words_frame [] = none
words_frame (b ∷ bs) = sixes (b ∷ bs)

-- The kinds of frames: "01 node", "02 rule", "03 connection", "04 query", "05 words of an offered proof", "06 end of that
-- proof"; before the first there is none.
abbrev pub no_kind : ℕ
no_kind = 0

abbrev pub node_kind : ℕ
node_kind = 1

abbrev pub rule_kind : ℕ
rule_kind = 2

abbrev pub connection_kind : ℕ
connection_kind = 3

abbrev pub query_kind : ℕ
query_kind = 4

abbrev pub words_kind : ℕ
words_kind = 5

abbrev pub end_kind : ℕ
end_kind = 6

-- "The first byte of a frame decides its kind": and 06, "end of that proof", has nothing behind it
pub data Frame : Type 0 where
  node : Option Node → Frame
  rule : Option Rule → Frame
  connection : Option Connection → Frame
  query : Option NodePair → Frame
  offered : Option (List ℕ) → Frame
  close : Bool → Frame
  unknown : Frame

abbrev pub is_none : List ℕ → Bool
is_none [] = true
is_none (b ∷ bs) = false

unfoldable pub frame_of : ℕ → List ℕ → Frame
unfolding node_frame rule_frame connection_frame query_frame words_frame
frame_of k bs =
    cond (eqb k node_kind) (node (node_frame bs))
    (cond (eqb k rule_kind) (rule (rule_frame bs))
    (cond (eqb k connection_kind) (connection (connection_frame bs))
    (cond (eqb k query_kind) (query (query_frame bs))
    (cond (eqb k words_kind) (offered (words_frame bs))
    (cond (eqb k end_kind) (close (is_none bs))
    unknown)))))
