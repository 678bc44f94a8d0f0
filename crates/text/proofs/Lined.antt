-- Each term on a line of its own: the lines of one term, of a term in front of others, and how many bytes there are at most.
use Prim.Native.Nat.{ℕ, suc, ◌+◌, ◌-◌, ◌*◌, ◌≤◌, ◌<◌}
use native.Mathlib.Omega.{arith}
use mathlib.Core.Path.{◌≡◌, refl, sym, ap, ap₂, ◌∙◌}
use mathlib.Core.Bool.{Bool}
use mathlib.Core.List.{List, [], ◌∷◌, ◌++◌, append_assoc, append-nil}
use mathlib.Core.Option.{Option, none, some}
use lib.ListN.{length, get_or, take, drop, length-append, length-drop}
use lib.Seq.{take_at, drop-drop, drop-append_seam}
use Rattle.model.specs.Limits.{flat_words}
use Rattle.model.specs.Term.{Terms, no_terms, tree, Term, one, put, words, Narrow, Reads, read}
use Rattle.model.specs.Text.{bytes, texts, text, lines}
use Rattle.terms.specs.Place.{TermAt, Well, EndsAt}
use Rattle.terms.proofs.Rows.{put-words, one-long}
use Rattle.terms.proofs.Read.{read-words, reads-read}
use Rattle.terms.proofs.Place.{term-at, end_same}
use Rattle.laws.specs.Area.{splice}
use Rattle.laws.proofs.Area.{splice-none, splice-more, length-splice}
use Rattle.std.proofs.Common.{Some, le-ltb}
use Rattle.text.specs.Lines.{lines_by, lines_of, SayTerms, SayTerm}
use Rattle.text.specs.Nodes.{text_len, fit_by, fit_of}
use Rattle.text.specs.Writing.{emit}
use Rattle.text.proofs.Counted.{row-length}
use Rattle.text.proofs.Heads.{node-few}
use Rattle.text.proofs.Printed.{say-emit, say-length}

-- the lines of words that say these terms
pub lines-say : (ws : List ℕ) (f : Terms) → Reads ws f → lines_of ws ≡ lines f
unfolding lines_of
lines-say ws f h = ap lines_by (reads-read ws f h)

pub say-terms : (ws : List ℕ) (f : Terms) → read ws ≡ some f → SayTerms ws
say-terms ws f e = record { terms = f; reads = read-words ws f e }

-- a term in front of others, and alone
pub lines-put : (t : Term) (s : Terms) → lines (put t s) ≡ text (one t) ++ (bytes "\n" ++ lines s)
unfolding lines text texts
lines-put t s = simp (append-nil) refl

pub line-is : (ws : List ℕ) (say : SayTerm ws) → lines_of ws ≡ emit ws [] ++ bytes "\n"
unfolding lines texts
line-is ws say =
    lines-say ws (one say.term) say.reads
    ∙ lines-put say.term no_terms
    ∙ ap₂ (λ (a b : List ℕ). a ++ b) (sym (say-emit ws say)) (append-nil (bytes "\n"))

pub line-long : (ws : List ℕ) (say : SayTerm ws) → length (lines_of ws) ≡ text_len 0 ws + 1
unfolding bytes
line-long ws say =
    ap length (line-is ws say) ∙ length-append (emit ws []) (bytes "\n") ∙ ap (λ (k : ℕ). k + 1) (sym (say-length ws say))

-- its bytes fit
pub line-fits : (ws : List ℕ) (say : SayTerm ws) (at room : ℕ) → at + length (lines_of ws) ≤ room →
    fit_of (text_len 0 ws) room ≡ Some (text_len 0 ws)
line-fits ws say at room h = ap (λ (b : Bool). fit_by b (text_len 0 ws)) (le-ltb room (text_len 0 ws) (omega (arith, line-long ws say)))

-- "28 bytes a node": what lets a room be lent that is large enough
below : (ws : List ℕ) → ((i : ℕ) → i < length ws → get_or ws i 0 < 65536) → flat_words * text_len 1 ws ≤ 28 * length ws
unfolding text_len
below [] h = omega arith
below (o ∷ []) h = omega arith
below (o ∷ c ∷ []) h = omega arith
below (o ∷ c ∷ m ∷ []) h = omega arith
below (o ∷ c ∷ m ∷ r ∷ ws) h =
    omega (
      arith,
      node-few o c m r (h 0 (omega arith)) (h 3 (omega arith)),
      below ws (λ i k. h (suc (suc (suc (suc i)))) (omega arith)),
    )

pub lines-bound : (ws : List ℕ) → ((i : ℕ) → i < length ws → get_or ws i 0 < 65536) → flat_words * length (lines_of ws) ≤ 28 * length ws
unfolding lines_of lines bytes text_len
lines-bound ws h = go (read ws) refl
  where
    go : (o : Option Terms) → read ws ≡ o → flat_words * length (lines_by o) ≤ 28 * length ws
    go none e = omega arith
    go (some f) e =
        let r = read-words ws f e in
        let l : text_len 1 ws ≡ length (texts [] (bytes "\n") f) + 0 =
        ap (text_len 1) (r.spelled ∙ sym (append-nil (words f))) ∙ row-length f [] (bytes "\n") refl [] in
        omega (arith, below ws h)

-- the first of some terms, and those behind it
record First (ws : List ℕ) (pos : ℕ) (f : Terms) : Type 0 where
  term : Term
  behind : Terms
  narrow : Narrow (one term)
  narrow-behind : Narrow behind
  spelled : drop pos ws ≡ words (one term) ++ words behind
  lined : lines f ≡ lines (one term) ++ lines behind

first : (ws : List ℕ) (pos : ℕ) (f : Terms) → Reads (drop pos ws) f → pos < length ws → First ws pos f
unfolding words Narrow lines texts
first ws pos no_terms h l = absurd (omega (arith, ap length h.spelled, length-drop pos ws))
first ws pos (tree o m k s) h l =
    let t : Term = record { op = o; mark = m; kids = k } in
    record {
      term = t;
      behind = s;
      narrow = (h.narrow.0, h.narrow.1, tt);
      narrow-behind = h.narrow.2;
      spelled = h.spelled ∙ put-words t s;
      lined = lines-put t s ∙ sym (ap (λ (l : List ℕ). l ++ lines s) (lines-put t no_terms ∙ ap (λ (l : List ℕ). text (one t) ++ l) (append-nil (bytes "\n"))) ∙ append_assoc (text (one t)) (bytes "\n") (lines s));
    }

-- the lines of the terms passed are there
pub record Lining (ws old : List ℕ) (at : ℕ) (room : List ℕ) (end pos : ℕ) : Type 0 where
  pub inside : pos ≤ length ws
  pub terms : Terms
  pub reads : Reads (drop pos ws) terms
  pub done : List ℕ
  pub ends : end ≡ at + length done
  pub is : room ≡ splice old at done
  pub all : done ++ lines terms ≡ lines_of ws

pub lining-none : (ws old : List ℕ) (at : ℕ) → SayTerms ws → Lining ws old at old at 0
lining-none ws old at say =
    record {
      inside = omega arith;
      terms = say.terms;
      reads = say.reads;
      done = [];
      ends = omega arith;
      is = sym (splice-none old at);
      all = sym (lines-say ws say.terms say.reads);
    }

module _ {ws old : List ℕ} {at : ℕ} {room : List ℕ} {end pos : ℕ} (fits : at + length (lines_of ws) ≤ length old)
    (h : Lining ws old at room end pos) where
  short : at + length h.done ≤ length old
  short = omega (arith, ap length h.all, length-append h.done (lines h.terms))

  pub lining-length : length room ≡ length old
  lining-length = ap length h.is ∙ length-splice old at h.done short

  module _ (l : pos < length ws) where
    f : First ws pos h.terms
    f = first ws pos h.terms h.reads l

    at-term : TermAt ws pos (pos + length (words (one f.term))) f.term
    at-term = term-at ws pos f.term (words f.behind) f.narrow f.spelled

    pub lining-well : Well ws pos
    lining-well = record { end = pos + length (words (one f.term)); term = f.term; is = at-term }

    module _ {e : ℕ} (g : EndsAt ws pos e) where
      ends : pos + length (words (one f.term)) ≡ e
      ends = end_same ws pos (pos + length (words (one f.term))) e f.term g.term at-term g.is

      pub lining-end : (pos < e) × (e ≤ length ws)
      lining-end = (omega (arith, ends, one-long f.term), g.is.within)

      part-is : take (e - pos) (drop pos ws) ≡ words (one f.term)
      part-is =
          ap (take (e - pos)) f.spelled ∙ take_at (words (one f.term)) (words f.behind) (e - pos) (omega (arith, ends))

      pub lining-say : SayTerm (take (e - pos) (drop pos ws))
      lining-say = record { term = f.term; reads = record { narrow = f.narrow; spelled = part-is } }

      line : lines_of (take (e - pos) (drop pos ws)) ≡ lines (one f.term)
      line = lines-say (take (e - pos) (drop pos ws)) (one f.term) (record { narrow = f.narrow; spelled = part-is })

      left_over : h.done ++ (lines_of (take (e - pos) (drop pos ws)) ++ lines f.behind) ≡ lines_of ws
      left_over = ap (λ (x : List ℕ). h.done ++ x) (ap (λ (x : List ℕ). x ++ lines f.behind) line ∙ sym f.lined) ∙ h.all

      pub lining-room : end + length (lines_of (take (e - pos) (drop pos ws))) ≤ length room
      lining-room =
          let x = lines_of (take (e - pos) (drop pos ws)) in
          omega (arith, h.ends, lining-length, ap length left_over, length-append h.done (x ++ lines f.behind), length-append x (lines f.behind))

      pub lining-more : {room' : List ℕ} {end' : ℕ} → end' ≡ end + length (lines_of (take (e - pos) (drop pos ws))) →
          room' ≡ splice room end (lines_of (take (e - pos) (drop pos ws))) → Lining ws old at room' end' e
      lining-more p q =
          let x = lines_of (take (e - pos) (drop pos ws)) in
          let k : e ≡ pos + length (words (one f.term)) = sym ends in
          record {
            inside = g.is.within;
            terms = f.behind;
            reads = record {
              narrow = f.narrow-behind;
              spelled = ap (λ (i : ℕ). drop i ws) k
                  ∙ sym (drop-drop (length (words (one f.term))) pos ws)
                  ∙ ap (drop (length (words (one f.term)))) f.spelled
                  ∙ drop-append_seam (words (one f.term)) (words f.behind);
            };
            done = h.done ++ x;
            ends = omega (arith, p, h.ends, length-append h.done x);
            is = q ∙ ap₂ (λ (s : List ℕ) (i : ℕ). splice s i x) h.is h.ends ∙ splice-more old at h.done x short;
            all = append_assoc h.done x (lines f.behind) ∙ left_over;
          }

  none_left : (g : Terms) → Reads (drop pos ws) g → length ws ≤ pos → lines g ≡ []
  unfolding words lines texts
  none_left no_terms r l = refl
  none_left (tree o m k s) r l = absurd (omega (arith, ap length r.spelled, length-drop pos ws))

  pub lining-all : length ws ≤ pos → (end ≡ at + length (lines_of ws)) × (room ≡ splice old at (lines_of ws))
  lining-all l =
      let e : h.done ≡ lines_of ws =
      sym (append-nil h.done) ∙ ap (λ (x : List ℕ). h.done ++ x) (sym (none_left h.terms h.reads l)) ∙ h.all in
      (h.ends ∙ ap (λ (x : List ℕ). at + length x) e, h.is ∙ ap (splice old at) e)
