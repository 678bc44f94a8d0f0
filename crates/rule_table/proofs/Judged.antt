-- What judging one more entry answers, test by test: 2, then 3, then 5.
-- Assumes nothing.
use Prim.Native.Nat.{ℕ, ◌/◌, ◌≤◌, ◌<◌}
use mathlib.Core.Bool.{Bool, true, false, not, ◌||◌}
use mathlib.Core.List.{List}
use mathlib.Core.Option.{Option as Maybe, none, some}
use mathlib.Core.Path.{◌≡◌, refl, ◌∙◌}
use native.Mathlib.Omega.{arith}
use borrow.Author.Tests.{ne_eqb, le-leb, lt-leb}
use lib.Dec.{leb}
use lib.ListN.{length, get_or}
use Rattle.std.specs.Prelude.{Option, Some, None, Ok, Err, is_some}
use Rattle.model.specs.declared.Refusal.TheVariants.{NoEntry, TableFull, RuleUnfit}
use Rattle.model.specs.Limits.{item_limit, rule_limit}
use Rattle.model.specs.Pattern.{Patterns, bound}
use Rattle.model.specs.Judged.{good, refuse_if, Judgement, judgement_of}
use Rattle.model.specs.Rule.{Rule, listed, is_listed, rule_of, add_rule}
use Rattle.model.specs.Tables.{side_at, rule_words, left_at, right_at}
use Rattle.rule_table.specs.Slots.{is_side, Standing, known_from}
use Rattle.rule_table.specs.Entries.{AcceptedRules, entry_of, with_entry, where_listed}
use Rattle.rule_table.proofs.Sides.{side-is, known-bound}
use Rattle.rule_table.proofs.Parts.{entry-alone}
use Rattle.rule_table.proofs.Table.{table-rules, table-found, table-nowhere}
use Rattle.rule_table.proofs.Entries.{rules-length}

-- the sides of an entry by itself
abbrev pub left_of : List ℕ → Maybe Patterns
left_of es = side_at es left_at (get_or es 1 0)

abbrev pub right_of : List ℕ → Maybe Patterns
right_of es = side_at es right_at (get_or es 2 0)

-- an entry of another length is none
pub other_length : (es : List ℕ) → (length es ≡ rule_words → ⊥) → entry_of es ≡ none
unfolding entry_of
other_length es h = rw (ne_eqb (length es) rule_words h)

-- an entry with two sides
pub record TwoSides (es : List ℕ) : Type 0 where
  pub long : length es ≡ rule_words
  pub left : true ≡ is_side (left_of es)
  pub right : true ≡ is_side (right_of es)

record Sides (es : List ℕ) : Type 0 where
  left : Patterns
  right : Patterns
  is_left : left_of es ≡ some left
  is_right : right_of es ≡ some right

no-side : (o : Maybe Patterns) → false ≡ is_side o → o ≡ none
no-side none e = refl
no-side (some q) e = let z : ◌≡◌ {A = ℕ} 0 1 = cc in absurd (omega arith)

some-side : (o : Maybe Patterns) → true ≡ is_side o → (q : Patterns) × (o ≡ some q)
some-side none e = let z : ◌≡◌ {A = ℕ} 0 1 = cc in absurd (omega arith)
some-side (some q) e = (q, refl)

no-right : (n : ℕ) (l : Maybe Patterns) → rule_of n l none ≡ none
no-right n none = refl
no-right n (some l) = refl

sides : (es : List ℕ) → TwoSides es → Sides es
sides es w =
    let (l, p) = some-side (left_of es) w.left in
    let (r, q) = some-side (right_of es) w.right in
    record { left = l; right = r; is_left = p; is_right = q }

-- so the slots of its sides are few
pub few-left : (es : List ℕ) → TwoSides es → get_or es 1 0 ≤ item_limit
few-left es w = let s = sides es w in (side-is es left_at (get_or es 1 0) s.left s.is_left).few

pub few-right : (es : List ℕ) → TwoSides es → get_or es 2 0 ≤ item_limit
few-right es w = let s = sides es w in (side-is es right_at (get_or es 2 0) s.right s.is_right).few

-- where a number is listed, and where it is not
found-some : (o : Option ℕ) → is_some o ≡ true → (i : ℕ) × (o ≡ Some i)
found-some (Some i) e = (i, refl)
found-some None e = let z : ◌≡◌ {A = ℕ} 0 1 = cc in absurd (omega arith)

found-none : (o : Option ℕ) → is_some o ≡ false → o ≡ None
found-none (Some i) e = let z : ◌≡◌ {A = ℕ} 0 1 = cc in absurd (omega arith)
found-none None e = refl

-- r is the answer to the entry es behind those of ws
abbrev pub Answers : List ℕ → List ℕ → Judgement → Type 0
Answers ws es r = r ≡ judgement_of (with_entry ws (entry_of es))

-- what the tests behind 2 answer
abbrev answer_by : Bool → Bool → Judgement
answer_by true faulty = Err TableFull
answer_by false true = Err RuleUnfit
answer_by false false = Ok tt

answer-by : (many faulty : Bool) (rs : List Rule)
    → answer_by many faulty ≡ judgement_of (refuse_if many TableFull (refuse_if faulty RuleUnfit (good rs)))
answer-by true faulty rs = refl
answer-by false true rs = refl
answer-by false false rs = refl

module _ (ws : List ℕ) (a : AcceptedRules ws) (es : List ℕ) where
  -- there are as many rules as the table has room for
  many : length a.rules ≡ length ws / rule_words
  many = rules-length ws _ a.rules (table-rules ws a.rules a.are)

  -- 2: it is no entry
  no-entry : entry_of es ≡ none → Answers ws es (Err NoEntry)
  unfolding add_rule
  no-entry e = rw (a.are, e)

  pub judge-length : (length es ≡ rule_words → ⊥) → Answers ws es (Err NoEntry)
  judge-length h = no-entry (other_length es h)

  pub judge-left : length es ≡ rule_words → false ≡ is_side (left_of es) → Answers ws es (Err NoEntry)
  judge-left h e = no-entry (entry-alone es h ∙ rw (no-side (left_of es) e))

  pub judge-right : length es ≡ rule_words → false ≡ is_side (right_of es) → Answers ws es (Err NoEntry)
  judge-right h e = no-entry (entry-alone es h ∙ rw (no-side (right_of es) e) (no-right (get_or es 0 0) (left_of es)))

  -- 3 and 5, tried in this order
  module _ (w : TwoSides es) where
    tried : (many faulty : Bool) → leb rule_limit (length a.rules) ≡ many
        → is_listed (listed a.rules (get_or es 0 0)) || not (bound (sides es w).left (sides es w).right) ≡ faulty
        → Answers ws es (answer_by many faulty)
    unfolding add_rule
    tried many faulty p q =
        let s = sides es w in
        rw (a.are, entry-alone es w.long, s.is_left, s.is_right, p, q) (answer-by many faulty _)

    pub judge-many : rule_limit ≤ length ws / rule_words → Answers ws es (Err TableFull)
    judge-many h = tried true _ (le-leb rule_limit (length a.rules) (omega (arith, many))) refl

    module _ (h : length ws / rule_words < rule_limit) where
      room : leb rule_limit (length a.rules) ≡ false
      room = lt-leb rule_limit (length a.rules) (omega (arith, many))

      pub judge-listed : is_some (where_listed ws (get_or es 0 0)) ≡ true → Answers ws es (Err RuleUnfit)
      judge-listed p =
          let (i, q) = found-some (where_listed ws (get_or es 0 0)) p in
          let f = table-found ws a.rules (get_or es 0 0) i a.are q in
          tried false true room (rw f.listed)

      module _ (p : is_some (where_listed ws (get_or es 0 0)) ≡ false) (on : List Bool) (st : Standing es left_at (get_or es 1 0) on) where
        unlisted : is_listed (listed a.rules (get_or es 0 0)) ≡ false
        unlisted = rw (table-nowhere ws a.rules (get_or es 0 0) a.are (found-none (where_listed ws (get_or es 0 0)) p))

        is_bound : known_from on es right_at (get_or es 2 0) ≡ bound (sides es w).left (sides es w).right
        is_bound =
            let s = sides es w in
            known-bound es left_at (get_or es 1 0) right_at (get_or es 2 0) s.left s.right on
            (side-is es left_at (get_or es 1 0) s.left s.is_left) (side-is es right_at (get_or es 2 0) s.right s.is_right) st

        pub judge-unbound : false ≡ known_from on es right_at (get_or es 2 0) → Answers ws es (Err RuleUnfit)
        judge-unbound e = tried false true room (rw (unlisted, ← is_bound, ← e))

        pub judge-taken : true ≡ known_from on es right_at (get_or es 2 0) → Answers ws es (Ok tt)
        judge-taken e = tried false false room (rw (unlisted, ← is_bound, ← e))
