-- A query over accepted tables: the distance of its pair (8, 9, 10), its answer (11 too), and what the lent area holds afterwards.
use Rattle.std.specs.Prelude.{ℕ, ◌-◌, Bool, true, false, not, ◌&&◌, ◌||◌, List, [], ◌++◌, ltb, length, replicate, Result, Ok, Err}
use Rattle.model.specs.declared.Connection.{Connection}
use Rattle.model.specs.declared.Refusal.{Refusal}
use Rattle.model.specs.declared.Refusal.TheVariants.{NoNode, NotJoined, TooFar, NoRoom}
use Rattle.model.specs.declared.Written.{Written}
use Rattle.model.specs.Limits.{distance_limit, word_limit}
use Rattle.model.specs.Refusal.{number}
use Rattle.model.specs.Term.{Terms, words}
use Rattle.model.specs.Rule.{Rule}
use Rattle.model.specs.Node.{Node}
use Rattle.model.specs.Forest.{joined, dist}
use Rattle.model.specs.Flat.{flat_proof, needed}

pub record Tables : Type 0 where
  pub nodes : List Node
  pub rules : List Rule
  pub conns : List Connection

abbrev pub no_tables : Tables
no_tables = record { nodes = []; rules = []; conns = [] }

-- The distance of a pair, its flat proof and that proof's words.
abbrev pub distance_in : Tables → ℕ → ℕ → ℕ
distance_in t l r = dist t.nodes t.conns l r

abbrev pub proof_of : Tables → ℕ → ℕ → Terms
proof_of t l r = flat_proof t.nodes t.conns l r

abbrev pub proof_words : Tables → ℕ → ℕ → List ℕ
proof_words t l r = words (proof_of t l r)

-- What is measured of a pair, and what a query answers: the refusal, or what there is.
abbrev pub Measured : Type 0
Measured = Result ℕ Refusal

abbrev pub Answer : Type 0
Answer = Result Written Refusal

abbrev pub written : ℕ → ℕ → Written
written d w = record { distance = d; words = w }

-- What is measured, the first half of a query (8, 9, 10): the refusal where its condition holds, else what comes behind
-- it, which is looked at only then.
abbrev pub unless : Bool → Refusal → (Unit {0} → Measured) → Measured
unless true r f = Err r
unless false r f = f tt

unfoldable pub measure : Tables → ℕ → ℕ → Measured
unfolding joined dist
measure t l r =
    unless (not (ltb l (length t.nodes) && ltb r (length t.nodes))) NoNode λ _.
    unless (not (joined t.conns l r)) NotJoined λ _.
    let d = distance_in t l r in
    unless (ltb distance_limit d) TooFar λ _.
    Ok d

-- 11: "needed words exceed the area, or 1,048,576"; "a query then returns the distance and the words written"
abbrev pub written_if : Bool → ℕ → ℕ → Answer
written_if true d w = Err NoRoom
written_if false d w = Ok (written d w)

abbrev pub answer_to : Measured → Tables → ℕ → ℕ → ℕ → Answer
answer_to (Err e) t area l r = Err e
answer_to (Ok d) t area l r =
    let w = needed t.nodes t.conns l r in written_if (ltb area w || ltb word_limit w) d w

-- "Query: 8, 9, 10, 11"
unfoldable pub answer : Tables → ℕ → ℕ → ℕ → Answer
unfolding measure needed
answer t area l r = answer_to (measure t l r) t area l r

-- "Words behind a written proof are zero"; "a refusal returns its number, distance 0, words 0, area all zero"
abbrev pub area_by : Answer → List ℕ → ℕ → List ℕ
area_by (Ok w) ws area = ws ++ replicate (area - w.words) 0
area_by (Err e) ws area = replicate area 0

unfoldable pub area_after : Tables → ℕ → ℕ → ℕ → List ℕ
unfolding answer flat_proof words
area_after t area l r = area_by (answer t area l r) (proof_words t l r) area

-- document 01's number and values for each case
pub record MeasureReport : Type 0 where
  pub number : ℕ
  pub distance : ℕ

abbrev pub measure_report : Measured → MeasureReport
measure_report (Ok d) = record { number = 0; distance = d }
measure_report (Err e) = record { number = number e; distance = 0 }

pub record AnswerReport : Type 0 where
  pub number : ℕ
  pub distance : ℕ
  pub written : ℕ

abbrev pub answer_report : Answer → AnswerReport
answer_report (Ok w) = record { number = 0; distance = w.distance; written = w.words }
answer_report (Err e) = record { number = number e; distance = 0; written = 0 }
