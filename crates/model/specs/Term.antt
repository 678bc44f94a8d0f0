-- Terms with marks, and their words.
-- antt has no type of trees over lists of trees, so that one type holds ROWS of terms: first child and next sibling. A term is a row of one, a flat proof a row of its terms.
use Rattle.std.specs.Prelude.{ℕ, zero, suc, ◌+◌, ◌≤◌, List, [], ◌∷◌, ◌++◌, Bool, true, false, ◌&&◌, ◌≡◌, leb, eqb}
use Rattle.std.proofs.Math.Option.{Option, none, some}
use Rattle.model.specs.Limits.{child_limit}
use Rattle.model.specs.declared.Direction.{Direction}
use Rattle.model.specs.declared.Direction.TheVariants.{Forward, Backward}

-- "mark (0 none, 1 forward, 2 backward), rule (0 if unmarked)": a mark is a direction and a rule, and an unmarked node has neither
pub data Mark : Type 0 where
  unmarked : Mark
  marked : Direction → ℕ → Mark

-- a row of terms: none, or a term (operator, mark and children) and the row behind it
pub data Terms : Type 0 where
  no_terms : Terms
  tree : ℕ → Mark → Terms → Terms → Terms

-- how many terms a row has
unfoldable pub count : Terms → ℕ
count no_terms = 0
count (tree o m k s) = suc (count s)

-- one row behind another
unfoldable pub join : Terms → Terms → Terms
join no_terms g = g
join (tree o m k s) g = tree o m k (join s g)

-- a term by itself; in front of a row; as a row of one
pub record Term : Type 0 where
  pub op : ℕ
  pub mark : Mark
  pub kids : Terms

abbrev pub put : Term → Terms → Terms
put t s = tree t.op t.mark t.kids s

abbrev pub one : Term → Terms
one t = put t no_terms

-- the same terms without their marks
unfoldable pub strip : Terms → Terms
strip no_terms = no_terms
strip (tree o m k s) = tree o unmarked (strip k) (strip s)

abbrev pub stripped : Term → Term
stripped t = record { op = t.op; mark = unmarked; kids = strip t.kids }

-- no node has more than 8 children
unfoldable pub Narrow : Terms → Type 0
Narrow no_terms = Unit {0}
Narrow (tree o m k s) = (count k ≤ child_limit) × Narrow k × Narrow s

-- "16-bit words, four a tree node in preorder: operator, child count, mark, rule"
abbrev pub direction_word : Direction → ℕ
direction_word Forward = 1
direction_word Backward = 2

abbrev pub mark_word : Mark → ℕ
mark_word unmarked = 0
mark_word (marked d r) = direction_word d

abbrev pub rule_word : Mark → ℕ
rule_word unmarked = 0
rule_word (marked d r) = r

unfoldable pub words : Terms → List ℕ
words no_terms = []
words (tree o m k s) = o ∷ count k ∷ mark_word m ∷ rule_word m ∷ (words k ++ words s)

-- how many nodes a row has: a quarter of its words
unfoldable pub size : Terms → ℕ
size no_terms = 0
size (tree o m k s) = suc (size k + size s)

-- how many marks a row has
abbrev pub mark_count : Mark → ℕ
mark_count unmarked = 0
mark_count (marked d n) = 1

unfoldable pub marks : Terms → ℕ
marks no_terms = 0
marks (tree o m k s) = mark_count m + (marks k + marks s)

-- What words say, declaratively: the row whose words they are. `read` finds it, and 13 is given where there is none.
pub record Reads (ws : List ℕ) (f : Terms) : Type 0 where
  pub narrow : Narrow f
  pub spelled : ws ≡ words f

-- "mark above 2, unmarked node with a rule"
abbrev pub mark_of : ℕ → ℕ → Option Mark
mark_of zero zero = some unmarked
mark_of zero (suc r) = none
mark_of (suc zero) r = some (marked Forward r)
mark_of (suc (suc zero)) r = some (marked Backward r)
mark_of (suc (suc (suc m))) r = none

-- a row cut behind its first c terms, if it has as many
pub record Cut : Type 0 where
  pub front : Terms
  pub back : Terms

abbrev pub longer : ℕ → Mark → Terms → Option Cut → Option Cut
longer o m k none = none
longer o m k (some p) = some (record { front = tree o m k p.front; back = p.back })

unfoldable pub cut : ℕ → Terms → Option Cut
cut zero f = some (record { front = no_terms; back = f })
cut (suc c) no_terms = none
cut (suc c) (tree o m k s) = longer o m k (cut c s)

-- a node in front of a row: the first of the row's terms become its children
abbrev pub adopt : ℕ → Mark → Option Cut → Option Terms
adopt o m none = none
adopt o m (some p) = some (tree o m p.front p.back)

abbrev pub adopt_if : Bool → ℕ → Option Mark → Option Cut → Option Terms
adopt_if false o m p = none
adopt_if true o none p = none
adopt_if true o (some m) p = adopt o m p

unfoldable pub over : ℕ → ℕ → Option Mark → Option Terms → Option Terms
unfolding cut
over o c m none = none
over o c m (some f) = adopt_if (leb c child_limit) o m (cut c f)

-- "words are no whole number of terms, count above 8, mark above 2, unmarked node with a rule": no row is read
unfoldable pub read : List ℕ → Option Terms
unfolding over
read [] = some no_terms
read (o ∷ []) = none
read (o ∷ c ∷ []) = none
read (o ∷ c ∷ m ∷ []) = none
read (o ∷ c ∷ m ∷ r ∷ ws) = over o c (mark_of m r) (read ws)

-- what makes two nodes the same operator
abbrev pub same_op : ℕ → ℕ → Bool
same_op o o' = eqb o o'

abbrev pub same_direction : Direction → Direction → Bool
same_direction Forward Forward = true
same_direction Forward Backward = false
same_direction Backward Forward = false
same_direction Backward Backward = true

abbrev pub same_mark : Mark → Mark → Bool
same_mark unmarked unmarked = true
same_mark unmarked (marked d n) = false
same_mark (marked d r) unmarked = false
same_mark (marked d r) (marked e n) = same_direction d e && eqb r n

-- whether two rows are equal, marks and all; lists of unequal length differ
unfoldable pub same : Terms → Terms → Bool
same no_terms no_terms = true
same no_terms (tree o m k s) = false
same (tree o m k s) no_terms = false
same (tree o m k s) (tree o' m' k' s') = same_op o o' && same_mark m m' && (same k k' && same s s')
