-- What demand 3 and the refusals speak of: the conditions in the words of document 01, and what is granted.
-- Assumes nothing.
use Rattle.std.specs.Prelude.{ℕ, suc, ◌-◌, ◌≤◌, ◌<◌, false, List, [], ◌++◌, ◌⊎◌, ◌↔◌, ◌≡◌, length, replicate, Ok, Err}
use Rattle.model.specs.declared.Refusal.{Refusal}
use Rattle.model.specs.declared.Refusal.TheVariants.{NoNode, NotJoined, TooFar, NoRoom, NoWords, NoTerms}
use Rattle.model.specs.Limits.{distance_limit, word_limit}
use Rattle.model.specs.Judged.{Judged, good, bad}
use Rattle.model.specs.Term.{Term, one, count, strip, Reads}
use Rattle.model.specs.Step.{some_mark, is_mark}
use Rattle.model.specs.Node.{term_of}
use Rattle.model.specs.Forest.{Linked}
use Rattle.model.specs.Flat.{later}
use Rattle.model.specs.Premise.{Premise}
use Rattle.model.specs.Query.{Tables, Measured, Answer, written, distance_in, proof_of, proof_words}
use Rattle.model.specs.Verdict.{Verdict, rejection}
use Rattle.model.specs.Tables.{answer_by, area_of, verdict_by}
use Rattle.model.specs.Text.{text, Printed}
use Rattle.checker.specs.Fault.{FirstFault}
use Rattle.flat.specs.Ends.{first, last}
use Rattle.flat.specs.Marks.{OneMarkEach}

-- "query number not in the node table"
abbrev pub Missing : Tables → ℕ → ℕ → Type 0
Missing t l r = (length t.nodes ≤ l) ⊎ (length t.nodes ≤ r)

pub record Known (t : Tables) (l r : ℕ) : Type 0 where
  pub left : l < length t.nodes
  pub right : r < length t.nodes

-- "no chain of connections joins the pair"
abbrev pub Unlinked : Tables → ℕ → ℕ → Type 0
Unlinked t l r = Linked t.conns l r → ⊥

-- "needed words exceed the area, or 1,048,576"
abbrev pub Exceeds : Tables → ℕ → ℕ → ℕ → Type 0
Exceeds t area l r = (area < length (proof_words t l r)) ⊎ (word_limit < length (proof_words t l r))

-- DEMAND 1 of a query over the judged tables j, with answer a and what the area then holds: each refusal exactly where its condition is the
-- first to hold, bad tables before all else; after a refusal the area is all zero, and it is always as long as it was
pub record FirstToHold (j : Judged Tables) (area l r : ℕ) (a : Answer) (after : List ℕ) : Type 0 where
  pub tables : (e : Refusal) → j ≡ bad e → a ≡ Err e
  pub is-8 : (t : Tables) → j ≡ good t → (a ≡ Err NoNode) ↔ Missing t l r
  pub is-9 : (t : Tables) → j ≡ good t → (a ≡ Err NotJoined) ↔ (Known t l r × Unlinked t l r)
  pub is-10 : (t : Tables) → j ≡ good t → (a ≡ Err TooFar) ↔ (Known t l r × Linked t.conns l r × (distance_limit < distance_in t l r))
  pub is-11 : (t : Tables) → j ≡ good t
      → (a ≡ Err NoRoom) ↔ (Known t l r × Linked t.conns l r × (distance_in t l r ≤ distance_limit) × Exceeds t area l r)
  pub zero : (e : Refusal) → a ≡ Err e → after ≡ replicate area 0
  pub kept : length after ≡ area

-- and of a distance m
pub record FirstMeasured (j : Judged Tables) (l r : ℕ) (m : Measured) : Type 0 where
  pub tables : (e : Refusal) → j ≡ bad e → m ≡ Err e
  pub is-8 : (t : Tables) → j ≡ good t → (m ≡ Err NoNode) ↔ Missing t l r
  pub is-9 : (t : Tables) → j ≡ good t → (m ≡ Err NotJoined) ↔ (Known t l r × Unlinked t l r)
  pub is-10 : (t : Tables) → j ≡ good t → (m ≡ Err TooFar) ↔ (Known t l r × Linked t.conns l r × (distance_limit < distance_in t l r))

-- and of the verdict v on words: bad tables before all else, at place 0; then each refusal and place exactly where that fault is the first
pub record FirstRejected (j : Judged Tables) (ws : List ℕ) (v : Verdict) : Type 0 where
  pub tables : (e : Refusal) → j ≡ bad e → v ≡ Err (rejection e 0)
  pub rejected : (t : Tables) → j ≡ good t → (e : Refusal) (k : ℕ) → (v ≡ Err (rejection e k)) ↔ FirstFault t.rules ws e k

-- "12, 13 (also for a second term), then 11 if its bytes exceed the lent room": words of one term, and those whose text exceeds a room
pub record OneTerm (ws : List ℕ) : Type 0 where
  pub term : Term
  pub reads : Reads ws (one term)

pub record Longer (ws : List ℕ) (room : ℕ) : Type 0 where
  pub says : OneTerm ws
  pub exceeds : room < length (text (one says.term))

-- and of the text p of a term in a room of so many bytes, and what the room then holds: each refusal exactly where its condition is the first
-- to hold; a text that fits stands in front of the room, with zeros behind it; after a refusal the room is all zero, and it is always as long
-- as it was
pub record FirstPrinted (ws : List ℕ) (room : ℕ) (p : Printed) (after : List ℕ) : Type 0 where
  pub is-12 : (p ≡ Err NoWords) ↔ (ws ≡ [])
  pub is-13 : (p ≡ Err NoTerms) ↔ ((ws ≡ [] → ⊥) × (OneTerm ws → ⊥))
  pub is-11 : (p ≡ Err NoRoom) ↔ Longer ws room
  pub spelled : (t : Term) → Reads ws (one t) → length (text (one t)) ≤ room
      → (p ≡ Ok (length (text (one t)))) × (after ≡ text (one t) ++ replicate (room - length (text (one t))) 0)
  pub zero : (e : Refusal) → p ≡ Err e → after ≡ replicate room 0
  pub kept : length after ≡ room

-- what a query needs to be answered: none of these holds
pub record Asked (t : Tables) (area l r : ℕ) : Type 0 where
  pub known : Known t l r
  pub linked : Linked t.conns l r
  pub near : distance_in t l r ≤ distance_limit
  pub fits : length (proof_words t l r) ≤ area
  pub few : length (proof_words t l r) ≤ word_limit

-- What is granted, over the judged tables j, which are t: the distance and the words are answered, and the area holds the words
-- and zeros behind them; the proof has distance + 1 terms, from the left node's, unmarked, to the right node's, with one mark in
-- each later term; and where each rule connection is an instance of its listed rule, the strict checker accepts the words.
pub record Granted (j : Judged Tables) (t : Tables) (area l r : ℕ) : Type 0 where
  pub answers : answer_by j area l r ≡ Ok (written (distance_in t l r) (length (proof_words t l r)))
  pub lent : area_of j area l r ≡ proof_words t l r ++ replicate (area - length (proof_words t l r)) 0
  pub terms : count (proof_of t l r) ≡ suc (distance_in t l r)
  pub starts : first (proof_of t l r) ≡ one (term_of t.nodes l)
  pub plain : some_mark is_mark (first (proof_of t l r)) ≡ false
  pub arrives : strip (last (proof_of t l r)) ≡ one (term_of t.nodes r)
  pub marked : OneMarkEach (later t.nodes t.conns l r)
  pub accepted : Premise t.rules t.nodes t.conns → verdict_by j (proof_words t l r) ≡ Ok (suc (distance_in t l r))
