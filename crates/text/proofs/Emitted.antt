-- What the writing machine writes of a term's words is the term's text.
use Prim.Native.Nat.{ℕ, zero, suc, ◌+◌, ◌-◌, ◌≤◌}
use native.Mathlib.Omega.{arith}
use native.Mathlib.Nat.{zero-add, add-zero, suc-add}
use mathlib.Core.Path.{◌≡◌, refl, sym, ap, ◌∙◌}
use mathlib.Core.List.{List, [], ◌∷◌, ◌++◌, append_assoc}
use lib.ListN.{length, drop, length-append, length-replicate}
use Rattle.model.specs.declared.Direction.TheVariants.{Forward, Backward}
use Rattle.model.specs.Term.{Mark, unmarked, marked, Terms, no_terms, tree, Term, one, count, mark_word, rule_word, words}
use Rattle.model.specs.Text.{bytes, digits, spell, mark_name, mark_text, with_mark, texts, text}
use Rattle.text.specs.Nodes.{mark_by, bracket, operator, head, pushed, opened}
use Rattle.text.specs.Writing.{closing, shut, left, space, less, Ready, emit}

-- a bracket with no term to come is closed, whatever follows
emit-shut : (ws st : List ℕ) → emit ws (0 ∷ st) ≡ closing ∷ emit ws st
unfolding emit shut left
emit-shut [] st = refl
emit-shut (o ∷ []) st = refl
emit-shut (o ∷ c ∷ []) st = refl
emit-shut (o ∷ c ∷ m ∷ []) st = refl
emit-shut (o ∷ c ∷ m ∷ r ∷ ws) st = refl

-- regrouping: brackets around children, a mark around a node
bracketed : (b o t e x : List ℕ) → b ++ (o ++ (t ++ (e ++ x))) ≡ (b ++ (o ++ (t ++ e))) ++ x
bracketed b o t e x = simp append_assoc

in-mark : (a b c d e t f x : List ℕ) →
    (a ++ (b ++ (c ++ (d ++ e)))) ++ (t ++ (f ++ x)) ≡ (a ++ (b ++ (c ++ (d ++ (e ++ (t ++ f)))))) ++ x
in-mark a b c d e t f x = simp append_assoc

-- the words of a row's terms are written as children, and these are no longer to come
abbrev Row : Terms → Type 0
Row f = (n : ℕ) (ws st : List ℕ) → emit (words f ++ ws) ((count f + n) ∷ st) ≡ texts (bytes " ") [] f ++ emit ws (n ∷ st)

-- behind the mark: the operator and the children, with brackets around them if there are any
spelled : (o : ℕ) (k : Terms) → Row k → (ws st : List ℕ) →
    bracket (count k) ++ (operator o ++ emit (words k ++ ws) (pushed (count k) (count k) ++ st))
    ≡ spell (operator o) (texts (bytes " ") [] k) ++ emit ws st
unfolding count words texts bytes
spelled o no_terms row ws st = refl
spelled o (tree o' m k s) row ws st =
    ap (λ (l : List ℕ). bytes "(" ++ (operator o ++ l))
    (ap (λ (n : ℕ). emit (words (tree o' m k s) ++ ws) (n ∷ st)) (sym (add-zero (suc (count s))))
    ∙ row 0 ws st
    ∙ ap (λ (l : List ℕ). texts (bytes " ") [] (tree o' m k s) ++ l) (emit-shut ws st))
    ∙ bracketed (bytes "(") (operator o) (texts (bytes " ") [] (tree o' m k s)) (bytes ")") (emit ws st)

-- the mark around it
module _ (o : ℕ) (k : Terms) (row : Row k) (ws : List ℕ) where
  marked_by : (name : List ℕ) (r : ℕ) (st : List ℕ) →
      (mark_by name r ++ (bracket (count k) ++ operator o)) ++ emit (words k ++ ws) (pushed (count k) (count k) ++ (0 ∷ st))
      ≡ mark_text name r (spell (operator o) (texts (bytes " ") [] k)) ++ emit ws st
  unfolding bytes
  marked_by name r st =
      append_assoc (mark_by name r) (bracket (count k) ++ operator o) _
      ∙ ap (λ (l : List ℕ). mark_by name r ++ l)
      (append_assoc (bracket (count k)) (operator o) _ ∙ spelled o k row ws (0 ∷ st)
      ∙ ap (λ (l : List ℕ). spell (operator o) (texts (bytes " ") [] k) ++ l) (emit-shut ws st))
      ∙ in-mark (bytes "(") name (bytes " r") (digits r) (bytes " ") (spell (operator o) (texts (bytes " ") [] k)) (bytes ")") (emit ws st)

  node : (m : Mark) (st : List ℕ) →
      head o (count k) (mark_word m) (rule_word m) ++ emit (words k ++ ws) (opened (count k) (mark_word m) st)
      ≡ with_mark m (spell (operator o) (texts (bytes " ") [] k)) ++ emit ws st
  unfolding head
  node unmarked st = append_assoc (bracket (count k)) (operator o) _ ∙ spelled o k row ws st
  node (marked Forward r) st = marked_by (mark_name Forward) r st
  node (marked Backward r) st = marked_by (mark_name Backward) r st

-- a row as children, and so one term
row : (f : Terms) → Row f
unfolding words count texts bytes emit shut left
row no_terms n ws st = ap (λ (k : ℕ). emit ws (k ∷ st)) (zero-add n)
row (tree o m k s) n ws st =
    let t = with_mark m (spell (operator o) (texts (bytes " ") [] k)) in
    let e : suc (count s + n) - 1 ≡ count s + n = omega arith in
    ap (λ (c : ℕ). emit (words (tree o m k s) ++ ws) (c ∷ st)) (suc-add (count s) n)
    ∙ ap (λ (l : List ℕ). bytes " " ++ l)
    (ap (λ (l : List ℕ). head o (count k) (mark_word m) (rule_word m) ++ emit l (opened (count k) (mark_word m) ((suc (count s + n) - 1) ∷ st)))
    (append_assoc (words k) (words s) ws)
    ∙ node o k (row k) (words s ++ ws) m ((suc (count s + n) - 1) ∷ st)
    ∙ ap (λ (c : ℕ). t ++ emit (words s ++ ws) (c ∷ st)) e
    ∙ ap (λ (l : List ℕ). t ++ l) (row s n ws st)
    ∙ sym (append_assoc t (texts (bytes " ") [] s) (emit ws (n ∷ st))))

pub emit-text : (t : Term) → emit (words (one t)) [] ≡ text (one t)
unfolding text words texts emit shut left
emit-text t = node t.op t.kids (row t.kids) [] t.mark []

-- each open bracket has a byte to come
shut-left : (st : List ℕ) → length (shut st) + length (less (left st)) ≡ length st
unfolding shut left
shut-left [] = refl
shut-left (zero ∷ st) = omega (arith, shut-left st)
shut-left (suc n ∷ st) = omega arith

pub emit-long : (ws st : List ℕ) → length st ≤ length (emit ws st)
unfolding emit
emit-long [] st = omega (arith, length-replicate (length st) closing)
emit-long (o ∷ []) st = omega (arith, length-replicate (length st) closing)
emit-long (o ∷ c ∷ []) st = omega (arith, length-replicate (length st) closing)
emit-long (o ∷ c ∷ m ∷ []) st = omega (arith, length-replicate (length st) closing)
emit-long (o ∷ c ∷ m ∷ r ∷ ws) st =
    let s = less (left st) in
    let rest = emit ws (opened c m s) in
    omega (
      arith,
      shut-left st,
      emit-long ws (opened c m s),
      length-append (pushed c c) (pushed m 0 ++ s),
      length-append (pushed m 0) s,
      length-append (shut st) (space (left st) ++ (head o c m r ++ rest)),
      length-append (space (left st)) (head o c m r ++ rest),
      length-append (head o c m r) rest,
    )

-- closing leaves the stack behind what it closed, and its top has a term to come
pub left-drop : (st : List ℕ) → left st ≡ drop (length (shut st)) st
unfolding shut left
left-drop [] = refl
left-drop (zero ∷ st) = left-drop st
left-drop (suc n ∷ st) = refl

pub left-ready : (st : List ℕ) → Ready (left st)
unfolding left
left-ready [] = tt
left-ready (zero ∷ st) = left-ready st
left-ready (suc n ∷ st) = omega arith
