-- What stands at a place: one term and no other, and the rows that a flat walk reads.
-- Assumes nothing.
use Prim.Native.Nat.{ℕ, suc, ◌+◌, ◌-◌, ◌*◌, ◌≤◌}
use mathlib.Core.List.{List, [], ◌∷◌, ◌++◌, append-nil}
use mathlib.Core.Option.{some}
use Rattle.std.specs.Prelude.{Option, Some, None}
use mathlib.Core.Path.{◌≡◌, refl, ap, sym, ◌∙◌}
use native.Mathlib.Omega.{arith}
use lib.ListN.{length, take, drop, length-append, length-drop, take-append-drop}
use lib.Seq.{slice, length-slice, length-take-le, take-add, take-append_seam, take_at, drop_at, drop-append-le, drop-append_seam, drop-drop}
use Rattle.model.specs.Limits.{flat_words}
use Rattle.model.specs.Term.{Mark, Terms, no_terms, tree, Term, one, count, join, Narrow, words, mark_word, rule_word, read}
use Rattle.terms.specs.Place.{node_of, TermAt, RowAt, Well, EndIs}
use Rattle.terms.proofs.Rows.{count-join, words-join, narrow-join, row_words, one-long, first-words, single, one-term}
use Rattle.terms.proofs.Read.{read-words, words-inj}
use Rattle.terms.proofs.Walk.{scan, scan-zero, scan-words, RowFront, scan-front, drop-node}

module _ (ws : List ℕ) (at e : ℕ) (t : Term) (h : TermAt ws at e t) where
  pub term-length : at + length (words (one t)) ≡ e
  term-length = omega (arith, one-long t, length-slice at e ws h.within, ap length h.spelled)

  pub term-drop : drop at ws ≡ words (one t) ++ drop e ws
  term-drop =
      let n : at ≤ length (take e ws) = omega (arith, term-length, length-take-le e ws h.within) in
      ap (drop at) (sym (take-append-drop e ws)) ∙ drop-append-le at (take e ws) (drop e ws) n
      ∙ ap (λ (l : List ℕ). l ++ drop e ws) h.spelled

  pub scan-term : scan (drop at ws) 1 at ≡ Some e
  unfolding count
  scan-term = rw term-drop (scan-words (one t) h.narrow (drop e ws) 0 at ∙ rw (scan-zero, term-length))

  -- a term is a row of one
  pub term-row : RowAt ws at 1 (one t)
  unfolding count
  term-row = record { narrow = h.narrow; counted = refl; rest = drop e ws; spelled = term-drop }

  pub term-well : Well ws at
  term-well = record { end = e; term = t; is = h }

-- words that begin with a term's words have the term there
pub term-at : (ws : List ℕ) (at : ℕ) (t : Term) (rest : List ℕ) → Narrow (one t) → drop at ws ≡ words (one t) ++ rest
    → TermAt ws at (at + length (words (one t))) t
term-at ws at t rest g w =
    let l : length ws - at ≡ length (words (one t)) + length rest = sym (length-drop at ws) ∙ ap length w ∙ length-append (words (one t)) rest in
    let n : at ≤ length ws = omega (arith, one-long t) in
    record {
      narrow = g;
      within = omega (arith, one-long t);
      spelled = rw (take-add at (length (words (one t))) ws, drop_at (take at ws) _ at (length-take-le at ws n), w, take-append_seam);
    }

-- the terms at a place are one, and end at one place
pub end_same : (ws : List ℕ) (at e e' : ℕ) (t u : Term) → TermAt ws at e t → TermAt ws at e' u → e ≡ e'
end_same ws at e e' t u ht hu = let p = scan-term ws at e t ht in let q = scan-term ws at e' u hu in cc

pub term-same : (ws : List ℕ) (at e e' : ℕ) (t u : Term) → TermAt ws at e t → TermAt ws at e' u → t ≡ u
term-same ws at e e' t u ht hu =
    one-term t u
    (words-inj (one t) (one u) ht.narrow hu.narrow
    (sym ht.spelled ∙ ap (λ (x : ℕ). slice at x ws) (end_same ws at e e' t u ht hu) ∙ hu.spelled))

-- what the walk finds is where the term ends
front_at : (ws : List ℕ) (at e : ℕ) (f : RowFront (drop at ws) 1 at e) (t : Term) → f.terms ≡ one t → TermAt ws at e t
front_at ws at e f t q =
    rw (f.end, q)
    (term-at ws at t f.rest (rw q at f.narrow) (f.spelled ∙ ap (λ (x : Terms). words x ++ f.rest) q))

pub end-go : (ws : List ℕ) (at : ℕ) (r : Option ℕ) → scan (drop at ws) 1 at ≡ r → EndIs ws at r
end-go ws at (Some e) p =
    let f = scan-front (drop at ws) 1 at e p in
    let s = single f.terms f.counted in
    record { term = s.term; is = front_at ws at e f s.term s.is }
end-go ws at None p = λ e t h. let q = scan-term ws at e t h in let z : ◌≡◌ {A = ℕ} 0 1 = cc in omega arith

-- the node at a place, from what stands there
pub record Words (ws : List ℕ) (p a b c d : ℕ) (l : List ℕ) : Type 0 where
  pub room : p + flat_words ≤ length ws
  pub first : (node_of ws p).op.0 ≡ a
  pub second : (node_of ws p).count ≡ b
  pub third : (node_of ws p).mark ≡ c
  pub fourth : (node_of ws p).rule.0 ≡ d
  pub behind : drop (p + flat_words) ws ≡ l

pub words-at : (ws : List ℕ) (p a b c d : ℕ) (l : List ℕ) → drop p ws ≡ a ∷ b ∷ c ∷ d ∷ l → Words ws p a b c d l
words-at ws p a b c d l e =
    let r : p + flat_words ≤ length ws = omega (arith, length-drop p ws, ap length e) in
    let q = drop-node ws p r in
    record { room = r; first = cc; second = cc; third = cc; fourth = cc; behind = cc }

-- the first term of a row: its node, what is below it with the rest (going down), the term itself and the rest (passing over)
pub record Tree (ws : List ℕ) (at n o : ℕ) (m : Mark) (k s : Terms) : Type 0 where
  pub room : at + flat_words ≤ length ws
  pub op : (node_of ws at).op.0 ≡ o
  pub kids : (node_of ws at).count ≡ count k
  pub mark : (node_of ws at).mark ≡ mark_word m
  pub rule : (node_of ws at).rule.0 ≡ rule_word m
  pub below : RowAt ws (at + flat_words) (count k + n) (join k s)
  pub stop : ℕ
  pub term : TermAt ws at stop (record { op = o; mark = m; kids = k })
  pub behind : RowAt ws stop n s

pub row-tree : (ws : List ℕ) (at n o : ℕ) (m : Mark) (k s : Terms) → RowAt ws at (suc n) (tree o m k s) → Tree ws at n o m k s
unfolding words count Narrow
row-tree ws at n o m k s h =
    let u : Term = record { op = o; mark = m; kids = k } in
    let w = words-at ws at o (count k) (mark_word m) (rule_word m) ((words k ++ words s) ++ h.rest) h.spelled in
    let c : count s ≡ n = omega (arith, h.counted) in
    let ours : drop at ws ≡ words (one u) ++ (words s ++ h.rest) = h.spelled ∙ first-words o m k s h.rest in
    record {
      room = w.room;
      op = w.first;
      kids = w.second;
      mark = w.third;
      rule = w.fourth;
      below = record {
        narrow = narrow-join k s h.narrow.1 h.narrow.2;
        counted = rw (count-join, c);
        rest = h.rest;
        spelled = rw words-join w.behind;
      };
      stop = at + length (words (one u));
      term = term-at ws at u (words s ++ h.rest) (h.narrow.0, h.narrow.1, tt) ours;
      behind = record {
        narrow = h.narrow.2;
        counted = c;
        rest = h.rest;
        spelled = rw (← drop-drop, ours) (drop-append_seam (words (one u)) (words s ++ h.rest));
      };
    }

-- words that say a row have it at their start
pub read-row : (ws : List ℕ) (f : Terms) → read ws ≡ some f → RowAt ws 0 (count f) f
read-row ws f e =
    let r = read-words ws f e in
    record { narrow = r.narrow; counted = refl; rest = []; spelled = r.spelled ∙ sym (append-nil (words f)) }

-- what the code asks for, from a row
pub row_room : (ws : List ℕ) (at n : ℕ) (f : Terms) → RowAt ws at (suc n) f → at + flat_words ≤ length ws
unfolding count
row_room ws at n no_terms h = absurd (omega (arith, h.counted))
row_room ws at n (tree o m k s) h = (row-tree ws at n o m k s h).room

pub row-well : (ws : List ℕ) (at n : ℕ) (f : Terms) → RowAt ws at (suc n) f → Well ws at
unfolding count
row-well ws at n no_terms h = absurd (omega (arith, h.counted))
row-well ws at n (tree o m k s) h = let t = row-tree ws at n o m k s h in term-well ws at t.stop _ t.term

pub well-room : (ws : List ℕ) (at : ℕ) → Well ws at → at + flat_words ≤ length ws
well-room ws at w = row_room ws at 0 (one w.term) (term-row ws at w.end w.term w.is)

-- a row has four words for each term
pub row_fits : (ws : List ℕ) (at n : ℕ) (f : Terms) → RowAt ws at n f → flat_words * n ≤ length ws
row_fits ws at n f h =
    omega (arith, row_words f, h.counted, length-drop at ws, ap length h.spelled, length-append (words f) h.rest)

-- the rows of as many terms at a place are one
row-scan : (ws : List ℕ) (at n : ℕ) (f : Terms) → RowAt ws at n f → scan (drop at ws) n at ≡ Some (at + length (words f))
row-scan ws at n f h =
    let c : n ≡ count f + 0 = omega (arith, h.counted) in
    rw (h.spelled, c) (scan-words f h.narrow h.rest 0 at ∙ scan-zero h.rest (at + length (words f)))

pub row_same : (ws : List ℕ) (at n : ℕ) (f g : Terms) → RowAt ws at n f → RowAt ws at n g → f ≡ g
row_same ws at n f g hf hg =
    let p = row-scan ws at n f hf in
    let q = row-scan ws at n g hg in
    let e : at + length (words f) ≡ at + length (words g) = cc in
    let l : length (words f) ≡ length (words g) = omega arith in
    words-inj f g hf.narrow hg.narrow
    (sym (take-append_seam (words f) hf.rest) ∙ ap (take (length (words f))) (sym hf.spelled ∙ hg.spelled)
    ∙ take_at (words g) hg.rest (length (words f)) (sym l))
