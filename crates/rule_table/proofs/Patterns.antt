-- Patterns as items: the flat walk by pending counts accepts exactly the items that `read_p` reads, what is read is spelled
-- by its items, and the variables of a pattern are those of its items.
-- Assumes nothing.
use Prim.Native.Nat.{ℕ, zero, suc, ◌+◌, ◌≤◌, ◌<◌}
use mathlib.Core.Bool.{Bool, true, false, ◌&&◌, ◌||◌}
use mathlib.Core.List.{List, [], ◌∷◌, ◌++◌, append_assoc, append-nil}
use mathlib.Core.Option.{Option, none, some}
use mathlib.Core.Path.{◌≡◌, refl, ap, sym, ◌∙◌}
use native.Mathlib.Nat.{zero-add, suc-add}
use native.Mathlib.Omega.{arith}
use borrow.Author.Tests.{lt-ltb, ltb-true, le-leb, leb-true}
use lib.Dec.{leb, ltb, eqb, eqb-zero-suc, eqb-suc-zero, eqb-suc-suc}
use Rattle.model.specs.Limits.{child_limit, variable_limit}
use Rattle.model.specs.Pattern.{Item, variable, operator, Patterns, no_patterns, var, app, count_p, items, NarrowP, ReadsP, CutP, longer_var, longer_app, cut_p, adopt_p, front_var, over_p, read_p, stands, bound}

-- nothing is not something
pub none-some : {A : Type 0} {a : A} → none ≡ some a → ⊥
none-some e = let z : ◌≡◌ {A = ℕ} 0 1 = cc in omega arith

-- an item's field is in its set; and how many patterns the item wants behind it
abbrev pub item_ok : Item → Bool
item_ok (variable x) = ltb x variable_limit
item_ok (operator o c) = leb c child_limit

abbrev pub arity : Item → ℕ
arity (variable x) = 0
arity (operator o c) = c

-- the walk: whether these items are n patterns, each item that is read being one of them and adding its children
unfoldable pub scan : List Item → ℕ → Bool
scan [] n = eqb n 0
scan (i ∷ is) zero = false
scan (i ∷ is) (suc n) = item_ok i && scan is (arity i + n)

-- whether what was read are n patterns
abbrev pub is_row : ℕ → Option Patterns → Bool
is_row n none = false
is_row n (some q) = eqb n (count_p q)

abbrev is_back : ℕ → Option CutP → Bool
is_back n none = false
is_back n (some p) = eqb n (count_p p.back)

longer-var : (n x : ℕ) (p : Option CutP) → is_back n p ≡ is_back n (longer_var x p)
longer-var n x none = refl
longer-var n x (some p) = refl

longer-app : (n o : ℕ) (k : Patterns) (p : Option CutP) → is_back n p ≡ is_back n (longer_app o k p)
longer-app n o k none = refl
longer-app n o k (some p) = refl

cut-count : (c n : ℕ) (q : Patterns) → eqb (c + n) (count_p q) ≡ is_back n (cut_p c q)
unfolding cut_p count_p
cut-count zero n q = rw zero-add
cut-count (suc c) n no_patterns = rw suc-add (eqb-suc-zero (c + n))
cut-count (suc c) n (var x s) = rw (suc-add, eqb-suc-suc, cut-count c n s) (longer-var n x (cut_p c s))
cut-count (suc c) n (app o k s) = rw (suc-add, eqb-suc-suc, cut-count c n s) (longer-app n o k (cut_p c s))

-- one item in front of what was read
row-var : (b : Bool) (n x : ℕ) (q : Patterns) → b && eqb (0 + n) (count_p q) ≡ is_row (suc n) (front_var b x q)
unfolding count_p
row-var false n x q = refl
row-var true n x q = rw (zero-add, eqb-suc-suc)

row-adopt : (n o : ℕ) (p : Option CutP) → is_back n p ≡ is_row (suc n) (adopt_p true o p)
unfolding count_p
row-adopt n o none = refl
row-adopt n o (some p) = sym (eqb-suc-suc n (count_p p.back))

row-app : (b : Bool) (n o c : ℕ) (q : Patterns) → b && eqb (c + n) (count_p q) ≡ is_row (suc n) (adopt_p b o (cut_p c q))
row-app false n o c q = refl
row-app true n o c q = cut-count c n q ∙ row-adopt n o (cut_p c q)

and-false : (b : Bool) → b && false ≡ false
and-false true = refl
and-false false = refl

row-over : (i : Item) (r : Option Patterns) (n : ℕ) → item_ok i && is_row (arity i + n) r ≡ is_row (suc n) (over_p i r)
unfolding over_p
row-over (variable x) none n = and-false (ltb x variable_limit)
row-over (variable x) (some q) n = row-var (ltb x variable_limit) n x q
row-over (operator o c) none n = and-false (leb c child_limit)
row-over (operator o c) (some q) n = row-app (leb c child_limit) n o c q

none-var : (b : Bool) (x : ℕ) (q : Patterns) → false ≡ is_row 0 (front_var b x q)
unfolding count_p
none-var false x q = refl
none-var true x q = sym (eqb-zero-suc (count_p q))

none_app : (b : Bool) (o : ℕ) (p : Option CutP) → false ≡ is_row 0 (adopt_p b o p)
unfolding count_p
none_app false o p = refl
none_app true o none = refl
none_app true o (some p) = sym (eqb-zero-suc (count_p p.back))

none_over : (i : Item) (r : Option Patterns) → false ≡ is_row 0 (over_p i r)
unfolding over_p
none_over (variable x) none = refl
none_over (variable x) (some q) = none-var (ltb x variable_limit) x q
none_over (operator o c) none = refl
none_over (operator o c) (some q) = none_app (leb c child_limit) o (cut_p c q)

-- the walk accepts exactly the items that are read as n patterns
pub scan-read : (is : List Item) (n : ℕ) → scan is n ≡ is_row n (read_p is)
unfolding scan read_p count_p
scan-read [] n = refl
scan-read (i ∷ is) zero = none_over i (read_p is)
scan-read (i ∷ is) (suc n) = rw (scan-read is (arity i + n)) (row-over i (read_p is) n)

-- what a cut leaves: the first c patterns and those behind them
pub record CutPIs (c : ℕ) (q : Patterns) (p : CutP) : Type 0 where
  pub counted : count_p p.front ≡ c
  pub narrow : NarrowP q → NarrowP p.front × NarrowP p.back
  pub spelled : items q ≡ items p.front ++ items p.back

cut-var : (x : ℕ) (s : Patterns) (c : ℕ) (p : CutP) (r : Option CutP)
    → ((w : CutP) → r ≡ some w → CutPIs c s w) → longer_var x r ≡ some p → CutPIs (suc c) (var x s) p
unfolding count_p items NarrowP
cut-var x s c p none h e = absurd (none-some e)
cut-var x s c p (some w) h e =
    let l : record { front = var x w.front; back = w.back } ≡ p = cc in
    let i = h w refl in
    rw (← l) (record {
      counted = ap suc i.counted;
      narrow = λ n. let m = i.narrow n.1 in ((n.0, m.0), m.1);
      spelled = rw i.spelled;
    })

cut_app : (o : ℕ) (k s : Patterns) (c : ℕ) (p : CutP) (r : Option CutP)
    → ((w : CutP) → r ≡ some w → CutPIs c s w) → longer_app o k r ≡ some p → CutPIs (suc c) (app o k s) p
unfolding count_p items NarrowP
cut_app o k s c p none h e = absurd (none-some e)
cut_app o k s c p (some w) h e =
    let l : record { front = app o k w.front; back = w.back } ≡ p = cc in
    let i = h w refl in
    rw (← l) (record {
      counted = ap suc i.counted;
      narrow = λ n. let m = i.narrow n.2 in ((n.0, n.1, m.0), m.1);
      spelled = rw (i.spelled, append_assoc);
    })

pub cut-is : (c : ℕ) (q : Patterns) (p : CutP) → cut_p c q ≡ some p → CutPIs c q p
unfolding cut_p count_p items NarrowP
cut-is zero q p e =
    let l : record { front = no_patterns; back = q } ≡ p = cc in
    rw (← l) (record { counted = refl; narrow = λ n. (tt, n); spelled = refl })
cut-is (suc c) no_patterns p e = absurd (none-some e)
cut-is (suc c) (var x s) p e = cut-var x s c p (cut_p c s) (cut-is c s) e
cut-is (suc c) (app o k s) p e = cut_app o k s c p (cut_p c s) (cut-is c s) e

-- one item in front of what was read, spelled
reads-var : (x : ℕ) (is : List Item) (q f : Patterns) → ReadsP is q → (b : Bool) → ltb x variable_limit ≡ b
    → front_var b x q ≡ some f → ReadsP (variable x ∷ is) f
unfolding items NarrowP
reads-var x is q f h false l e = absurd (none-some e)
reads-var x is q f h true l e =
    let p : var x q ≡ f = cc in
    rw (← p) (record { narrow = (ltb-true x variable_limit l, h.narrow); spelled = rw h.spelled })

reads-app : (o c : ℕ) (is : List Item) (q f : Patterns) → ReadsP is q → (b : Bool) → leb c child_limit ≡ b → (p : Option CutP)
    → cut_p c q ≡ p
    → adopt_p b o p ≡ some f → ReadsP (operator o c ∷ is) f
unfolding items NarrowP
reads-app o c is q f h false l p d e = absurd (none-some e)
reads-app o c is q f h true l none d e = absurd (none-some e)
reads-app o c is q f h true l (some p) d e =
    let w = cut-is c q p d in
    let n = w.narrow h.narrow in
    let g : app o p.front p.back ≡ f = cc in
    rw (← g) (record {
      narrow = (omega (arith, leb-true c child_limit l, w.counted), n.0, n.1);
      spelled = rw (w.counted, h.spelled, w.spelled);
    })

reads_over : (i : Item) (is : List Item) (f : Patterns) (r : Option Patterns) → ((q : Patterns) → r ≡ some q → ReadsP is q)
    → over_p i r ≡ some f → ReadsP (i ∷ is) f
unfolding over_p
reads_over (variable x) is f none h e = absurd (none-some e)
reads_over (variable x) is f (some q) h e = reads-var x is q f (h q refl) (ltb x variable_limit) refl e
reads_over (operator o c) is f none h e = absurd (none-some e)
reads_over (operator o c) is f (some q) h e = reads-app o c is q f (h q refl) (leb c child_limit) refl (cut_p c q) refl e

-- what is read is narrow, and spelled by the items
pub read-items : (is : List Item) (q : Patterns) → read_p is ≡ some q → ReadsP is q
unfolding read_p items NarrowP
read-items [] q e = let p : no_patterns ≡ q = cc in rw (← p) (record { narrow = tt; spelled = refl })
read-items (i ∷ is) q e = reads_over i is q (read_p is) (read-items is) e

-- the fields of a narrow pattern's items are in their sets
unfoldable pub Fields : List Item → Type 0
Fields [] = Unit {0}
Fields (i ∷ is) = (item_ok i ≡ true) × Fields is

fields-append : (is js : List Item) → Fields is → Fields js → Fields (is ++ js)
unfolding Fields
fields-append [] js g h = h
fields-append (i ∷ is) js g h = (g.0, fields-append is js g.1 h)

pub narrow-fields : (q : Patterns) → NarrowP q → Fields (items q)
unfolding Fields items NarrowP
narrow-fields no_patterns h = tt
narrow-fields (var x s) h = (lt-ltb _ _ h.0, narrow-fields s h.1)
narrow-fields (app o k s) h = (le-leb _ _ h.0, fields-append (items k) (items s) (narrow-fields k h.1) (narrow-fields s h.2))

-- the variables of items; and whether each of them is one of those given
unfoldable pub among : ℕ → List Item → Bool
among x [] = false
among x (variable y ∷ is) = eqb x y || among x is
among x (operator o c ∷ is) = among x is

unfoldable pub all : (ℕ → Bool) → List Item → Bool
all f [] = true
all f (variable x ∷ is) = f x && all f is
all f (operator o c ∷ is) = all f is

or_assoc : (a b c : Bool) → (a || b) || c ≡ a || (b || c)
or_assoc true b c = refl
or_assoc false b c = refl

and_assoc : (a b c : Bool) → (a && b) && c ≡ a && (b && c)
and_assoc true b c = refl
and_assoc false b c = refl

among-append : (x : ℕ) (is js : List Item) → among x (is ++ js) ≡ among x is || among x js
unfolding among
among-append x [] js = refl
among-append x (variable y ∷ is) js = rw (among-append x is js, or_assoc)
among-append x (operator o c ∷ is) js = among-append x is js

all_append : (f : ℕ → Bool) (is js : List Item) → all f (is ++ js) ≡ all f is && all f js
unfolding all
all_append f [] js = refl
all_append f (variable y ∷ is) js = rw (all_append f is js, and_assoc)
all_append f (operator o c ∷ is) js = all_append f is js

pub stands-among : (x : ℕ) (q : Patterns) → stands x q ≡ among x (items q)
unfolding stands among items
stands-among x no_patterns = refl
stands-among x (var y s) = rw (stands-among x s)
stands-among x (app o k s) = rw (stands-among x k, stands-among x s, among-append x (items k) (items s))

pub bound_all : (l q : Patterns) → bound l q ≡ all (λ x. stands x l) (items q)
unfolding bound all items
bound_all l no_patterns = refl
bound_all l (var y s) = rw (bound_all l s)
bound_all l (app o k s) = rw (bound_all l k, bound_all l s, all_append (λ x. stands x l) (items k) (items s))

-- a row of patterns in front of another, and in front of what was read
unfoldable pub join_p : Patterns → Patterns → Patterns
join_p no_patterns r = r
join_p (var x s) r = var x (join_p s r)
join_p (app o k s) r = app o k (join_p s r)

abbrev pub join_to : Patterns → Option Patterns → Option Patterns
join_to q none = none
join_to q (some r) = some (join_p q r)

-- it is cut where it was joined
pub cut-join : (q r : Patterns) → cut_p (count_p q) (join_p q r) ≡ some (record { front = q; back = r })
unfolding cut_p count_p join_p
cut-join no_patterns r = refl
cut-join (var x s) r = rw (cut-join s r)
cut-join (app o k s) r = rw (cut-join s r)

over-var : (x : ℕ) (s : Patterns) → x < variable_limit → (r : Option Patterns)
    → over_p (variable x) (join_to s r) ≡ join_to (var x s) r
unfolding over_p join_p
over-var x s h none = refl
over-var x s h (some r) = rw (lt-ltb x variable_limit h)

over-app : (o : ℕ) (k s : Patterns) → count_p k ≤ child_limit → (r : Option Patterns)
    → over_p (operator o (count_p k)) (join_to k (join_to s r)) ≡ join_to (app o k s) r
unfolding over_p join_p
over-app o k s h none = refl
over-app o k s h (some r) = rw (le-leb (count_p k) child_limit h, cut-join k (join_p s r))

join_first : (r : Option Patterns) → r ≡ join_to no_patterns r
unfolding join_p
join_first none = refl
join_first (some r) = refl

join_last : (q : Patterns) → join_p q no_patterns ≡ q
unfolding join_p
join_last no_patterns = refl
join_last (var x s) = rw (join_last s)
join_last (app o k s) = rw (join_last s)

-- a row's items in front of others: the row, and what these say
pub read-front : (q : Patterns) → NarrowP q → (is : List Item) → read_p (items q ++ is) ≡ join_to q (read_p is)
unfolding read_p items NarrowP join_p
read-front no_patterns h is = join_first (read_p is)
read-front (var x s) h is = rw (read-front s h.1 is) (over-var x s h.0 (read_p is))
read-front (app o k s) h is =
    let kids = ap read_p (append_assoc (items k) (items s) is) ∙ read-front k h.1 (items s ++ is) in
    ap (over_p (operator o (count_p k))) (kids ∙ ap (join_to k) (read-front s h.2 is)) ∙ over-app o k s h.0 (read_p is)

pub items-read : (q : Patterns) → NarrowP q → read_p (items q) ≡ some q
unfolding read_p
items-read q h = rw (← append-nil (items q), read-front q h [], join_last q)
