-- Patterns, substitutions, and matching.
use Rattle.std.specs.Prelude.{ℕ, zero, suc, ◌≤◌, ◌<◌, List, [], ◌∷◌, ◌++◌, Bool, true, false, ◌&&◌, ◌||◌, ◌≡◌, leb, ltb, eqb}
use Rattle.std.proofs.Math.Option.{Option, none, some}
use Rattle.model.specs.Limits.{child_limit, variable_limit}
use Rattle.model.specs.Term.{Terms, no_terms, tree, unmarked, Term, put, one, strip, same_op, same}

-- "A pattern is read item by item, children inside parents": an item is a variable, or an operator with its child count
pub data Item : Type 0 where
  variable : ℕ → Item
  operator : ℕ → ℕ → Item

-- a row of patterns: none, or a variable or an operator with its children, and the row behind it
pub data Patterns : Type 0 where
  no_patterns : Patterns
  var : ℕ → Patterns → Patterns
  app : ℕ → Patterns → Patterns → Patterns

unfoldable pub count_p : Patterns → ℕ
count_p no_patterns = 0
count_p (var x s) = suc (count_p s)
count_p (app o k s) = suc (count_p s)

unfoldable pub items : Patterns → List Item
items no_patterns = []
items (var x s) = variable x ∷ items s
items (app o k s) = operator o (count_p k) ∷ (items k ++ items s)

-- "operators with 0 to 8 children, at most 16 variables"
unfoldable pub NarrowP : Patterns → Type 0
NarrowP no_patterns = Unit {0}
NarrowP (var x s) = (x < variable_limit) × NarrowP s
NarrowP (app o k s) = (count_p k ≤ child_limit) × NarrowP k × NarrowP s

-- what items say, declaratively: the row whose items they are
pub record ReadsP (is : List Item) (q : Patterns) : Type 0 where
  pub narrow : NarrowP q
  pub spelled : is ≡ items q

-- a row of patterns cut behind its first c, if it has as many
pub record CutP : Type 0 where
  pub front : Patterns
  pub back : Patterns

abbrev pub longer_var : ℕ → Option CutP → Option CutP
longer_var x none = none
longer_var x (some p) = some (record { front = var x p.front; back = p.back })

abbrev pub longer_app : ℕ → Patterns → Option CutP → Option CutP
longer_app o k none = none
longer_app o k (some p) = some (record { front = app o k p.front; back = p.back })

unfoldable pub cut_p : ℕ → Patterns → Option CutP
cut_p zero q = some (record { front = no_patterns; back = q })
cut_p (suc c) no_patterns = none
cut_p (suc c) (var x s) = longer_var x (cut_p c s)
cut_p (suc c) (app o k s) = longer_app o k (cut_p c s)

abbrev pub adopt_p : Bool → ℕ → Option CutP → Option Patterns
adopt_p false o p = none
adopt_p true o none = none
adopt_p true o (some p) = some (app o p.front p.back)

abbrev pub front_var : Bool → ℕ → Patterns → Option Patterns
front_var false x q = none
front_var true x q = some (var x q)

unfoldable pub over_p : Item → Option Patterns → Option Patterns
unfolding cut_p
over_p (variable x) none = none
over_p (variable x) (some q) = front_var (ltb x variable_limit) x q
over_p (operator o c) none = none
over_p (operator o c) (some q) = adopt_p (leb c child_limit) o (cut_p c q)

-- the row of patterns that items are, if they are one
unfoldable pub read_p : List Item → Option Patterns
unfolding over_p
read_p [] = some no_patterns
read_p (i ∷ is) = over_p i (read_p is)

-- whether a variable stands in a pattern, and whether each variable of one row stands in another
unfoldable pub stands : ℕ → Patterns → Bool
stands x no_patterns = false
stands x (var y s) = eqb x y || stands x s
stands x (app o k s) = stands x k || stands x s

unfoldable pub bound : Patterns → Patterns → Bool
unfolding stands
bound l no_patterns = true
bound l (var x s) = stands x l && bound l s
bound l (app o k s) = bound l k && bound l s

-- a substitution gives each variable a term; put into a row of patterns it makes a row of terms
abbrev pub Substitution : Type 0
Substitution = ℕ → Term

unfoldable pub inst : Substitution → Patterns → Terms
inst σ no_patterns = no_terms
inst σ (var x s) = put (σ x) (inst σ s)
inst σ (app o k s) = tree o unmarked (inst σ k) (inst σ s)

-- "one substitution makes the left side" s "and the right side" t. "Marks play no part in comparing terms."
pub record Instance (l r : Patterns) (s t : Terms) : Type 0 where
  pub σ : Substitution
  pub left : strip s ≡ inst σ l
  pub right : strip t ≡ inst σ r

-- Matching finds the substitution: each variable is bound to the first subterm that it meets, and each later one must be
-- the same, marks aside.
abbrev pub Bound : Type 0
Bound = ℕ → Option Term

abbrev pub unbound : Bound
unbound x = none

abbrev pub bind : Bound → ℕ → Term → Bound
bind b x t y = elim (eqb y x) [ true ↦ some t | false ↦ b y ]

abbrev pub keep_if : Bool → Bound → Option Bound
keep_if true b = some b
keep_if false b = none

abbrev pub meet : Option Term → Bound → ℕ → Term → Option Bound
meet none b x t = some (bind b x t)
meet (some u) b x t = keep_if (same (strip (one u)) (strip (one t))) b

abbrev pub and_then : Option Bound → (Bound → Option Bound) → Option Bound
and_then none g = none
and_then (some b) g = g b

unfoldable pub match : Patterns → Terms → Bound → Option Bound
unfolding same strip
match no_patterns no_terms b = some b
match no_patterns (tree o m k f) b = none
match (var x s) no_terms b = none
match (var x s) (tree o m k f) b = and_then (meet (b x) b x (record { op = o; mark = m; kids = k })) (match s f)
match (app o k s) no_terms b = none
match (app o k s) (tree o' m k' f) b = and_then (keep_if (same_op o o') b) (λ c. and_then (match k k' c) (match s f))

abbrev pub found : Option Bound → Bool
found none = false
found (some b) = true

-- The left side is always matched first, so that a variable that stands only there is bound.
unfoldable pub fits : Patterns → Patterns → Terms → Terms → Bool
unfolding match
fits l r s t = found (and_then (match l s unbound) (match r t))
