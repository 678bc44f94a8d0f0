-- Accepted words are exactly a chain of the book's rewrites on terms without marks, written down: each next term with the mark of the
-- move that leads to it put in. Every chain of the book is accepted so, where it keeps the limits, and nothing else is.
-- Assumes nothing.
use Prim.Native.Nat.{ℕ, zero, suc, ◌≤◌}
use mathlib.Core.List.{List, [], ◌∷◌, map}
use mathlib.Core.Logic.{◌↔◌}
use mathlib.Core.Path.{◌≡◌, refl, sym, ◌∙◌, ap, ap₂, subst}
use native.Mathlib.Omega.{arith}
use lib.ListN.{length}
use Rattle.model.specs.declared.Direction.{Direction}
use Rattle.std.specs.Prelude.{Ok}
use Rattle.model.specs.Limits.{term_limit, word_limit}
use Rattle.model.specs.Term.{Mark, unmarked, marked, Terms, no_terms, tree, Term, put, one, count, join, strip, stripped, mark_count, marks, Narrow, size, words, Reads}
use Rattle.model.specs.Rule.{Rule}
use Rattle.model.specs.Book.{Position, Move, LeadsBy, MarkAt, OnlyMark, ChainBy, Rewriting, marking, written, Next, Leads, written_row, Written}
use Rattle.model.specs.Verdict.{Chain, verdict}
use Rattle.terms.proofs.Rows.{strip-join, count-strip, length-words}
use Rattle.terms.proofs.Marks.{unmarked-strip}
use Rattle.checker.proofs.Positions.{root, among, after, nowhere, unplaced, counts}
use Rattle.checker.proofs.Book.{only-mark, written-mark, rewrite-written}
use Rattle.checker.proofs.Rewritings.{moves-chain, rewriting}

abbrev pub moves_of : List Next → List Move
moves_of xs = map (λ (x : Next). x.move) xs

unfoldable pub terms_of : List Next → Terms
terms_of [] = no_terms
terms_of (x ∷ xs) = put x.term (terms_of xs)

-- a term with a mark put in is one term
mark-one : (t : Term) (p : Position) (m : Mark) → count (marking (one t) p m) ≡ 1
unfolding marking count
mark-one t [] m = refl
mark-one t (zero ∷ []) m = refl
mark-one t (zero ∷ j ∷ p) m = refl
mark-one t (suc j ∷ p) m = refl

-- a term in front of a chain
chain-front : (rs : List Rule) (s t : Terms) (m : Move) (ms : List Move) (f : Terms) → count t ≡ 1 → OnlyMark t m → LeadsBy rs m (strip s) (strip t)
    → ChainBy rs t ms f → ChainBy rs s (m ∷ ms) (join t f)
unfolding ChainBy join count
chain-front rs s no_terms m ms f e o l h = absurd (omega arith)
chain-front rs s (tree a x k no_terms) m ms f e o l h = (o, l, h)
chain-front rs s (tree a x k (tree a' x' k' s')) m ms f e o l h = absurd (omega arith)

-- Written down it is a chain by these moves, behind any term that is its first, marks aside;
pub written-moves : (rs : List Rule) (s u : Terms) (xs : List Next) → strip u ≡ s → Leads rs s xs
    → ChainBy rs u (moves_of xs) (written_row xs)
unfolding Leads written_row ChainBy
written-moves rs s u [] e h = tt
written-moves rs s u (x ∷ xs) e h =
    let t = one x.term in
    let m = x.move in
    let same = (rewrite-written rs m s t h.0).1 in
    chain-front rs u (written t m) m (moves_of xs) (written_row xs) (mark-one x.term m.place (marked m.way m.number))
    (written-mark rs m s t h.0) (rw (e, same) h.0) (written-moves rs t (written t m) xs same h.1)

-- so its terms with their marks put in are right later terms, each behind the one before,
pub written-chain : (rs : List Rule) (s : Terms) (xs : List Next) → strip s ≡ s → Leads rs s xs → Chain rs s (written_row xs)
written-chain rs s xs e h = moves-chain rs s (moves_of xs) (written_row xs) (written-moves rs s s xs e h)

-- marks aside they are the chain's terms,
pub written-strip : (rs : List Rule) (s : Terms) (xs : List Next) → Leads rs s xs → strip (written_row xs) ≡ terms_of xs
unfolding Leads written_row terms_of join strip
written-strip rs s [] h = refl
written-strip rs s (x ∷ xs) h =
    let t = one x.term in
    strip-join (written t x.move) (written_row xs)
    ∙ ap₂ join (rewrite-written rs x.move s t h.0).1 (written-strip rs t xs h.1)

-- and as large.
moves-length : (xs : List Next) → length (moves_of xs) ≡ length xs
moves-length [] = refl
moves-length (x ∷ xs) = ap suc (moves-length xs)

narrow-strip : (f : Terms) → Narrow (strip f) → Narrow f
unfolding Narrow strip
narrow-strip no_terms h = tt
narrow-strip (tree o m k s) h = (omega (arith, h.0, count-strip k), narrow-strip k h.1, narrow-strip s h.2)

size-strip : (f : Terms) → size (strip f) ≡ size f
unfolding size strip
size-strip no_terms = refl
size-strip (tree o m k s) = omega (arith, size-strip k, size-strip s)

words-strip : (f : Terms) → length (words (strip f)) ≡ length (words f)
words-strip f = omega (arith, length-words f, length-words (strip f), size-strip f)

-- AND BACK: a term with one mark is itself without it, with that mark put in,
mark-back : (t : Terms) (p : Position) (d : Direction) (n : ℕ) → MarkAt t p (marked d n) → marks t ≡ 1 → marking (strip t) p (marked d n) ≡ t
unfolding marking marks strip
mark-back no_terms p d n g e = nowhere g
mark-back (tree o x k s) [] d n g e = unplaced g
mark-back (tree o x k s) (zero ∷ []) d n g e =
    let r = root g in
    let c : mark_count x ≡ 1 = ap mark_count r in
    λ i. tree o (sym r i) (unmarked-strip k (omega arith) i) (unmarked-strip s (omega arith) i)
mark-back (tree o unmarked k s) (zero ∷ j ∷ p) d n g e =
    let c = counts k (j ∷ p) d n (among g) in
    ap₂ (tree o unmarked) (mark-back k (j ∷ p) d n (among g) (omega arith)) (unmarked-strip s (omega arith))
mark-back (tree o (marked c r) k s) (zero ∷ j ∷ p) d n g e = absurd (omega (arith, counts k (j ∷ p) d n (among g)))
mark-back (tree o unmarked k s) (suc j ∷ p) d n g e =
    let c = counts s (j ∷ p) d n (after g) in
    ap₂ (tree o unmarked) (unmarked-strip k (omega arith)) (mark-back s (j ∷ p) d n (after g) (omega arith))
mark-back (tree o (marked c r) k s) (suc j ∷ p) d n g e = absurd (omega (arith, counts s (j ∷ p) d n (after g)))

-- so that a chain by moves is a chain of the book on its terms without their marks, written down.
pub chain-written : (rs : List Rule) (s : Terms) (ms : List Move) (f : Terms) → ChainBy rs s ms f
    → (xs : List Next) × Leads rs (strip s) xs × (written_row xs ≡ f) × (moves_of xs ≡ ms)
unfolding ChainBy Leads written_row strip join
chain-written rs s [] no_terms h = ([], tt, refl, refl)
chain-written rs s [] (tree o x k f) h = absurd h
chain-written rs s (m ∷ ms) no_terms h = absurd h
chain-written rs s (m ∷ ms) (tree o x k f) h =
    let t : Terms = tree o x k no_terms in
    let (xs, leads, row, moves) = chain-written rs t ms f h.2 in
    let back : written (strip t) m ≡ t = mark-back t m.place m.way m.number h.0.here ((only-mark t).1 (m, h.0)) in (
      record { move = m; term = stripped (record { op = o; mark = x; kids = k }) } ∷ xs,
      (h.1, leads),
      ap₂ join back row,
      ap (λ (l : List Move). m ∷ l) moves,
    )

-- THE THEOREM
pub written-down : (rs : List Rule) (ws : List ℕ) (n : ℕ) → (verdict rs ws ≡ Ok n) ↔ Written rs ws n
written-down rs ws n = (λ h. told ((rewriting rs ws n).0 h), λ w. (rewriting rs ws n).1 (read_off w))
  where
    told : Rewriting rs ws n → Written rs ws n
    told x =
        let (xs, leads, row, moves) = chain-written rs (one x.first) x.moves x.rest x.chain in
        record {
          first = x.first;
          rest = xs;
          plain = x.plain;
          leads = subst (λ (s : Terms). Leads rs s xs) x.plain leads;
          form = subst (λ (f : Terms). Reads ws (put x.first f)) (sym row) x.form;
          counted = ap suc (sym (moves-length xs) ∙ ap length moves) ∙ x.counted;
          few_words = x.few_words;
          few_terms = x.few_terms;
        }

    read_off : Written rs ws n → Rewriting rs ws n
    read_off w =
        record {
          first = w.first;
          rest = written_row w.rest;
          moves = moves_of w.rest;
          form = w.form;
          plain = w.plain;
          chain = written-moves rs (one w.first) (one w.first) w.rest w.plain w.leads;
          counted = ap suc (moves-length w.rest) ∙ w.counted;
          few_words = w.few_words;
          few_terms = w.few_terms;
        }

-- So every chain of the book whose terms keep the limits is accepted, written down; marks play no part in the limits.
pub written-accepted : (rs : List Rule) (t : Term) (xs : List Next) → strip (one t) ≡ one t → Leads rs (one t) xs
    → Narrow (put t (terms_of xs)) → length (words (put t (terms_of xs))) ≤ word_limit → suc (length xs) ≤ term_limit
    → verdict rs (words (put t (written_row xs))) ≡ Ok (suc (length xs))
unfolding join
written-accepted rs t xs e h narrow few few_terms =
    let f : Terms = put t (written_row xs) in
    let same : strip f ≡ put t (terms_of xs) = strip-join (one t) (written_row xs) ∙ ap₂ join e (written-strip rs (one t) xs h) in
    (written-down rs (words f) (suc (length xs))).1
    (record {
      first = t;
      rest = xs;
      plain = e;
      leads = h;
      form = record { narrow = narrow-strip f (rw same narrow); spelled = refl };
      counted = refl;
      few_words = omega (arith, words-strip f, ap (λ (g : Terms). length (words g)) same, few);
      few_terms = few_terms;
    })
