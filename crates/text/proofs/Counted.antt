-- How many bytes the text of words has, node by node; and that a node has at most 28.
use Prim.Native.Nat.{ℕ, ◌+◌}
use native.Mathlib.Omega.{arith}
use mathlib.Core.Path.{◌≡◌, refl, ap}
use mathlib.Core.List.{List, [], ◌∷◌, ◌++◌, append_assoc, append-nil}
use lib.ListN.{length, length-append}
use Rattle.model.specs.declared.Direction.TheVariants.{Forward, Backward}
use Rattle.model.specs.Term.{Mark, unmarked, marked, Terms, no_terms, tree, Term, one, count, mark_word, rule_word, words, Narrow}
use Rattle.model.specs.Text.{bytes, digits, spell, mark_name, mark_text, with_mark, texts, text}
use Rattle.text.specs.Nodes.{mark_by, bracket, operator, head, pushed, node_len, text_len, Fine}

-- terms have whole nodes with few children
pub fine-row : (f : Terms) → Narrow f → (ws : List ℕ) → Fine ws → Fine (words f ++ ws)
unfolding Narrow words Fine
fine-row no_terms h ws g = g
fine-row (tree o m k s) h ws g =
    (h.0, rw (append_assoc (words k) (words s) ws) (fine-row k h.1 (words s ++ ws) (fine-row s h.2 ws g)))

pub fine-words : (f : Terms) → Narrow f → Fine (words f)
unfolding Fine
fine-words f h = rw (← append-nil (words f)) (fine-row f h [] tt)

-- a mark's bytes with its rule's digits
pub mark-length : (name : List ℕ) (r : ℕ) → length (mark_by name r) ≡ 4 + length name + length (digits r)
unfolding bytes
mark-length name r =
    omega (arith, length-append name (bytes " r" ++ (digits r ++ bytes " ")), length-append (digits r) (bytes " "))

text-length : (name : List ℕ) (r : ℕ) (t : List ℕ) → length (mark_text name r t) ≡ length (mark_by name r) + length t + 1
unfolding bytes
text-length name r t =
    omega (
      arith,
      mark-length name r,
      length-append name (bytes " r" ++ (digits r ++ (bytes " " ++ (t ++ bytes ")")))),
      length-append (digits r) (bytes " " ++ (t ++ bytes ")")),
      length-append t (bytes ")"),
    )

pub operator-length : (o : ℕ) → length (operator o) ≡ 1 + length (digits o)
unfolding bytes
operator-length o = omega arith

-- a node's bytes, and those of its children
spell-length : (o : ℕ) (k : Terms) →
    length (spell (operator o) (texts (bytes " ") [] k))
    ≡ length (bracket (count k)) + length (operator o) + length (texts (bytes " ") [] k) + length (pushed (count k) (count k))
unfolding texts count bytes
spell-length o no_terms = omega arith
spell-length o (tree o' m k s) =
    let t = texts (bytes " ") [] (tree o' m k s) in
    omega (arith, length-append (operator o) (t ++ bytes ")"), length-append t (bytes ")"))

marked-length : (name : List ℕ) (o r : ℕ) (k : Terms) →
    length (mark_text name r (spell (operator o) (texts (bytes " ") [] k)))
    ≡ length (mark_by name r ++ (bracket (count k) ++ operator o)) + length (pushed (count k) (count k) ++ (0 ∷ [])) + length (texts (bytes " ") [] k)
marked-length name o r k =
    omega (
      arith,
      text-length name r (spell (operator o) (texts (bytes " ") [] k)),
      spell-length o k,
      length-append (bracket (count k)) (operator o),
      length-append (pushed (count k) (count k)) (0 ∷ []),
      length-append (mark_by name r) (bracket (count k) ++ operator o),
    )

node-length : (o : ℕ) (m : Mark) (k : Terms) →
    length (with_mark m (spell (operator o) (texts (bytes " ") [] k)))
    ≡ node_len o (count k) (mark_word m) (rule_word m) + length (texts (bytes " ") [] k)
unfolding node_len head
node-length o unmarked k =
    omega (arith, spell-length o k, length-append (bracket (count k)) (operator o), length-append (pushed (count k) (count k)) [])
node-length o (marked Forward r) k = marked-length (mark_name Forward) o r k
node-length o (marked Backward r) k = marked-length (mark_name Backward) o r k

-- a row of terms with one byte before or behind each
pub row-length : (f : Terms) (before behind : List ℕ) → length before + length behind ≡ 1 → (ws : List ℕ) →
    text_len 1 (words f ++ ws) ≡ length (texts before behind f) + text_len 1 ws
unfolding text_len words texts bytes
row-length no_terms before behind h ws = omega arith
row-length (tree o m k s) before behind h ws =
    let t = with_mark m (spell (operator o) (texts (bytes " ") [] k)) in
    let rest = texts before behind s in
    omega (
      arith,
      ap (text_len 1) (append_assoc (words k) (words s) ws),
      row-length k (bytes " ") [] refl (words s ++ ws),
      row-length s before behind h ws,
      node-length o m k,
      length-append before (t ++ (behind ++ rest)),
      length-append t (behind ++ rest),
      length-append behind rest,
    )

pub term-length : (t : Term) → text_len 0 (words (one t)) ≡ length (text (one t))
unfolding text_len words text texts bytes
term-length t =
    let w = with_mark t.mark (spell (operator t.op) (texts (bytes " ") [] t.kids)) in
    omega (arith, row-length t.kids (bytes " ") [] refl [], node-length t.op t.mark t.kids, length-append w [])
