-- The text of a flat term: document 01's spelling.
use Rattle.std.specs.Prelude.{ℕ, zero, suc, ◌+◌, ◌-◌, ◌/◌, ◌%◌, Bool, true, false, List, [], ◌∷◌, ◌++◌, ltb, length, replicate, Result, Ok, Err}
use Prim.Native.String.{String, [] as no_text, ◌∷◌ as ◌then◌}
use Prim.Native.Char.{code}
use Rattle.std.proofs.Math.Option.{Option, none, some}
use Rattle.model.specs.declared.Refusal.{Refusal}
use Rattle.model.specs.declared.Refusal.TheVariants.{NoRoom, NoWords, NoTerms}
use Rattle.model.specs.declared.Direction.{Direction}
use Rattle.model.specs.declared.Direction.TheVariants.{Forward, Backward}
use Rattle.model.specs.Refusal.{number}
use Rattle.model.specs.Term.{Mark, unmarked, marked, Terms, no_terms, tree, read}

-- the bytes of a text in ASCII
unfoldable pub bytes : String → List ℕ
bytes no_text = []
bytes (◌then◌ c s) = code c ∷ bytes s

-- a number in decimal digits, without leading zeros; d + 1 digits are enough for a number below 10 ^ (d + 1): here 20 digits, so
-- every number of 64 bits
unfoldable pub digits_by : ℕ → ℕ → List ℕ
digits_by zero n = (48 + n % 10) ∷ []
digits_by (suc d) n = elim (ltb n 10) [ true ↦ (48 + n) ∷ [] | false ↦ digits_by d (n / 10) ++ ((48 + n % 10) ∷ []) ]

unfoldable pub digits : ℕ → List ℕ
unfolding digits_by
digits n = digits_by 19 n

-- "A leaf is `o1`, a node `(o3 o1)`": the operator, and behind it what is written of the children, each after a space
abbrev pub spell : List ℕ → List ℕ → List ℕ
spell o [] = o
spell o (c ∷ cs) = bytes "(" ++ (o ++ ((c ∷ cs) ++ bytes ")"))

-- "the marks are spelled `Rewrite=>` and `Rewrite<=` byte for byte: `(Rewrite=> r7 o2)`"
abbrev pub mark_name : Direction → List ℕ
mark_name Forward = bytes "Rewrite=>"
mark_name Backward = bytes "Rewrite<="

abbrev pub mark_text : List ℕ → ℕ → List ℕ → List ℕ
mark_text word r t = bytes "(" ++ (word ++ (bytes " r" ++ (digits r ++ (bytes " " ++ (t ++ bytes ")")))))

abbrev pub with_mark : Mark → List ℕ → List ℕ
with_mark unmarked t = t
with_mark (marked d r) t = mark_text (mark_name d) r t

-- the text of each term of a row, with something before it and something behind
unfoldable pub texts : List ℕ → List ℕ → Terms → List ℕ
unfolding bytes digits
texts before behind no_terms = []
texts before behind (tree o m k s) =
    before ++ (with_mark m (spell (bytes "o" ++ digits o) (texts (bytes " ") [] k)) ++ (behind ++ texts before behind s))

-- one term's text; and "each term on a line of its own"
unfoldable pub text : Terms → List ℕ
unfolding texts
text f = texts [] [] f

unfoldable pub lines : Terms → List ℕ
unfolding texts bytes
lines f = texts [] (bytes "\n") f

-- "Text of one term: 12, 13 (also for a second term), then 11 if its bytes exceed the lent room"
abbrev pub Printed : Type 0
Printed = Result ℕ Refusal

abbrev pub printed_if : Bool → ℕ → Printed
printed_if true n = Err NoRoom
printed_if false n = Ok n

unfoldable pub printed : Option Terms → ℕ → Printed
unfolding text
printed none room = Err NoTerms
printed (some no_terms) room = Err NoWords
printed (some (tree o m k no_terms)) room =
    let n = length (text (tree o m k no_terms)) in printed_if (ltb room n) n
printed (some (tree o m k (tree o' m' k' s))) room = Err NoTerms

unfoldable pub term_text : List ℕ → ℕ → Printed
unfolding printed read
term_text ws room = printed (read ws) room

-- "refused, the room is zero, as is the rest behind a written text"
abbrev pub room_by : Printed → Option Terms → ℕ → List ℕ
room_by (Err e) o room = replicate room 0
room_by (Ok n) none room = replicate room 0
room_by (Ok n) (some f) room = text f ++ replicate (room - n) 0

unfoldable pub room_after : List ℕ → ℕ → List ℕ
unfolding term_text read text
room_after ws room = room_by (term_text ws room) (read ws) room

-- document 01's number and count of bytes for each case
pub record TextReport : Type 0 where
  pub number : ℕ
  pub written : ℕ

abbrev pub text_report : Printed → TextReport
text_report (Ok n) = record { number = 0; written = n }
text_report (Err e) = record { number = number e; written = 0 }
