-- A later term split at its one mark: the nodes before it, the subterm that it marks, and the nodes behind that.
-- Assumes nothing.
use Prim.Native.Nat.{ℕ, suc, ◌+◌, ◌-◌, ◌*◌, ◌/◌, ◌≤◌}
use mathlib.Core.Bool.{Bool, true, false, not, ◌&&◌, or-false}
use mathlib.Core.List.{List}
use mathlib.Core.Option.{some}
use mathlib.Core.Path.{◌≡◌, refl, sym, ap, subst, ◌∙◌}
use native.Mathlib.Nat.{div-eq_of_lt-le}
use native.Mathlib.Omega.{arith}
use lib.ListN.{length}
use Rattle.model.specs.declared.Direction.{Direction}
use Rattle.model.specs.declared.Direction.TheVariants.{Forward, Backward}
use Rattle.model.specs.Judged.{good, Judgement}
use Rattle.model.specs.Limits.{flat_words}
use Rattle.model.specs.Term.{Mark, unmarked, marked, Terms, no_terms, tree, Term, one, count, size, marks, direction_word}
use Rattle.model.specs.Rule.{Rule, listed, is_listed}
use Rattle.model.specs.Tables.{rule_table}
use Rattle.model.specs.Step.{left_of, right_of, fits_rule, allowed, step, some_mark, names_unlisted, unlisted}
use Rattle.terms.specs.Place.{same_nodes, TermAt, RowAt, EndsAt}
use Rattle.terms.proofs.Place.{Tree, row-tree, term-row, term-length, term-same, end_same}
use Rattle.terms.proofs.Read.{direction-some}
use Rattle.terms.proofs.Rows.{length-words}
use Rattle.terms.proofs.Marks.{no-mark}
use Rattle.marks.specs.Marks.{from_mark, OneAt}
use Rattle.marks.proofs.First.{Headed, headed, from-marks, from_some}
use Rattle.checker.specs.Check.{fits_by, Marked, StepIs, fault_of, FaultIs}
use Rattle.checker.proofs.Front.{Rests, front-on, front-off, marked-over, plain_step}

-- THE MARK: its node, and what stands below it and behind it, which bears none
pub record AtMark (ws : List ℕ) (at nodes : ℕ) (t : Term) : Type 0 where
  pub op : ℕ
  pub way : Direction
  pub number : ℕ
  pub kids : Terms
  pub rest : Terms
  pub terms : ℕ
  pub is : from_mark (one t) ≡ tree op (marked way number) kids rest
  pub words : Tree ws (at + flat_words * nodes) terms op (marked way number) kids rest
  pub plain_kids : marks kids ≡ 0
  pub plain_rest : marks rest ≡ 0
  pub walked : nodes + suc (size kids + size rest) ≡ size (one t)

module _ (ws : List ℕ) (at e nodes end : ℕ) (t : Term) (o : OneAt ws at e nodes end t) where
  go : (g : Terms) → from_mark (one t) ≡ g → AtMark ws at nodes t
  unfolding marks count size Headed
  go no_terms q = absurd (omega (arith, o.alone, from-marks (one t), ap marks q))
  go (tree p unmarked k r) q = absurd (subst Headed q (headed (one t)) refl)
  go (tree p (marked d n) k r) q =
      let c : count (from_mark (one t)) ≡ suc (count r) = ap count q in
      let m : 1 + (marks k + marks r) ≡ 1 = sym (ap marks q) ∙ (from-marks (one t) ∙ o.alone) in
      record {
        op = p;
        way = d;
        number = n;
        kids = k;
        rest = r;
        terms = count r;
        is = q;
        words = row-tree ws (at + flat_words * nodes) (count r) p (marked d n) k r (rw (c, q) at o.rest.left);
        plain_kids = omega (arith, m);
        plain_rest = omega (arith, m);
        walked = omega (arith, o.rest.walked, ap size q);
      }

  pub at_mark : AtMark ws at nodes t
  at_mark = go (from_mark (one t)) refl

-- the subterm that it marks
abbrev pub later-there : {ws : List ℕ} {at nodes : ℕ} {t : Term} → AtMark ws at nodes t → Terms
later-there x = tree x.op (marked x.way x.number) x.kids no_terms

-- where a term with so many nodes ends
pub term-size : (ws : List ℕ) (at e : ℕ) (t : Term) → TermAt ws at e t → at + flat_words * size (one t) ≡ e
term-size ws at e t h = omega (arith, term-length ws at e t h, length-words (one t))

-- 16: the one mark names an unlisted rule
module _ (rs : List Rule) (ws : List ℕ) (at nodes : ℕ) (t : Term) (x : AtMark ws at nodes t) where
  pub mark-unlisted : unlisted rs (one t) ≡ not (is_listed (listed rs x.number))
  unfolding unlisted some_mark
  mark-unlisted =
      sym (from_some (names_unlisted rs) refl (one t))
      ∙ (ap (some_mark (names_unlisted rs)) x.is
      ∙ rw (no-mark (names_unlisted rs) refl x.kids x.plain_kids, no-mark (names_unlisted rs) refl x.rest x.plain_rest)
      (or-false (not (is_listed (listed rs x.number)))))

-- 17: THE STEP, once the nodes before the mark agree: what the mark allows, and the nodes behind it
pub record Halves (rs : List Rule) (ws : List ℕ) (before at nodes : ℕ) (s t : Term) (x : AtMark ws at nodes t) : Type 0 where
  pub op : ℕ
  pub mark : Mark
  pub kids : Terms
  pub rest : Terms
  pub words : Tree ws (before + flat_words * nodes) x.terms op mark kids rest
  pub same : step rs (one s) (one t)
      ≡ (allowed rs (marked x.way x.number) (tree op mark kids no_terms) (later-there x) && step rs rest x.rest)
  pub ends : before + flat_words * nodes + flat_words * suc (size kids + size rest) ≡ at

-- the subterm of the earlier term that stands there
abbrev pub earlier-there : {rs : List Rule} {ws : List ℕ} {before at nodes : ℕ} {s t : Term} {x : AtMark ws at nodes t} → Halves rs ws before at nodes s t x → Terms
earlier-there h = tree h.op h.mark h.kids no_terms

module _ (rs : List Rule) (ws : List ℕ) (before at end nodes : ℕ) (s t : Term) (hs : TermAt ws before at s) (ht : TermAt ws at end t) (o : OneAt ws at end nodes end t) where
  abbrev x : AtMark ws at nodes t
  x = at_mark ws at end nodes end t o

  rows : RowAt ws before 1 (one s) × RowAt ws at 1 (one t)
  rows = (term-row ws before at s hs, term-row ws at end t ht)

  halve : (f : Terms) → (r : Rests rs ws before (before + flat_words * nodes) (at + flat_words * nodes) (one s) (one t)) → r.earlier ≡ f
      → Halves rs ws before at nodes s t x
  unfolding count size
  halve no_terms r q = absurd (omega (arith, r.is_e.counted, ap count q, ap count x.is))
  halve (tree p m k f) r q =
      let c : count (from_mark (one t)) ≡ suc x.terms = sym r.is_l.counted ∙ ap count x.is ∙ omega (arith, x.words.behind.counted) in
      let same : step rs (tree p m k f) (tree x.op (marked x.way x.number) x.kids x.rest) ≡ step rs (one s) (one t) =
      sym (λ i. step rs (q i) (x.is i)) ∙ r.same in
      record {
        op = p;
        mark = m;
        kids = k;
        rest = f;
        words = row-tree ws (before + flat_words * nodes) x.terms p m k f (rw (c, q) at r.is_e);
        same = sym same ∙ marked-over rs p x.op m (marked x.way x.number) k x.kids f x.rest (direction-some x.way);
        ends = omega (arith, r.ends, ap size q, term-size ws before at s hs);
      }

  pub halves : same_nodes ws before at nodes ≡ true → Halves rs ws before at nodes s t x
  halves e =
      let r = front-on rs ws nodes before at 1 (one s) (one t) rows.0 rows.1 o.rest.walked e in
      halve r.earlier r refl

  pub unequal : same_nodes ws before at nodes ≡ false → step rs (one s) (one t) ≡ false
  unequal e = front-off rs ws nodes before at 1 (one s) (one t) rows.0 rows.1 o.rest.walked e

  -- the nodes before the mark stand within the words
  pub front-room : (before + flat_words * nodes ≤ length ws) × (at + flat_words * nodes ≤ length ws)
  front-room = (
    omega (arith, x.walked, term-size ws before at s hs, term-size ws at end t ht, ht.within),
    omega (arith, x.walked, term-size ws at end t ht, ht.within),
  )

  -- what the mark's rule says of the two subterms
  module _ (h : Halves rs ws before at nodes s t x) (y : Rule) (found : listed rs x.number ≡ some y) where
    by-rule : step rs (one s) (one t) ≡ (fits_by y x.way (earlier-there h) (later-there x) && step rs h.rest x.rest)
    unfolding allowed
    by-rule =
        h.same
        ∙ (λ i.
        fits_rule (found i) (left_of x.way (earlier-there h) (later-there x)) (right_of x.way (earlier-there h) (later-there x))
        && step rs h.rest x.rest)

    pub unfit : fits_by y x.way (earlier-there h) (later-there x) ≡ false → step rs (one s) (one t) ≡ false
    unfit e = by-rule ∙ ap (λ (b : Bool). b && step rs h.rest x.rest) e

  module _ (h : Halves rs ws before at nodes s t x) (e e' : ℕ) (a : EndsAt ws (before + flat_words * nodes) e) (b : EndsAt ws (at + flat_words * nodes) e') where
    stop-a : h.words.stop ≡ e
    stop-a = end_same ws _ h.words.stop e _ a.term h.words.term a.is

    stop-b : x.words.stop ≡ e'
    stop-b = end_same ws _ x.words.stop e' _ b.term x.words.term b.is

    behind-ends : (e ≤ at) × (e' + flat_words * size x.rest ≡ end)
    unfolding size
    behind-ends = (
      omega (arith, stop-a, term-size ws _ _ _ h.words.term, h.ends),
      omega (arith, stop-b, term-size ws _ _ _ x.words.term, x.walked, term-size ws at end t ht),
    )

    -- as many nodes stand behind it as the code counts
    pub behind-count : (end - e') / flat_words ≡ size x.rest
    behind-count = div-eq_of_lt-le flat_words (omega (arith, behind-ends.1)) (omega (arith, behind-ends.1))

    pub behind-room : (e + flat_words * size x.rest ≤ length ws) × (e' + flat_words * size x.rest ≤ length ws) × (e' ≤ end)
    unfolding size
    behind-room = (
      omega (arith, behind-ends.0, behind-ends.1, stop-b, term-size ws _ _ _ x.words.term, ht.within),
      omega (arith, behind-ends.1, ht.within),
      omega (arith, behind-ends.1),
    )

    pub behind-same : same_nodes ws e e' (size x.rest) ≡ step rs h.rest x.rest
    behind-same =
        plain_step rs ws e e' x.terms h.rest x.rest (rw stop-a at h.words.behind) (rw stop-b at x.words.behind) x.plain_rest

    -- what the mark's rule says of the two subterms, and the nodes behind them, are the step
    pub by-entry : (y : Rule) → listed rs x.number ≡ some y
        → step rs (one s) (one t) ≡ (fits_by y x.way (earlier-there h) (later-there x) && same_nodes ws e e' (size x.rest))
    by-entry y found = by-rule h y found ∙ ap (λ (b : Bool). fits_by y x.way (earlier-there h) (later-there x) && b) (sym behind-same)

-- whatever stands at two places is what is known to stand there
pub step-known : (rws ws : List ℕ) (before at nodes end : ℕ) (w : Marked ws before at nodes end) (r : Bool)
    → ((rs : List Rule) → rule_table rws ≡ good rs → r ≡ step rs (one w.earlier) (one w.later)) → StepIs rws ws before at r
step-known rws ws before at nodes end w r f rs are e e' s t hs ht =
    f rs are
    ∙ (λ i. step rs (one (term-same ws before at e w.earlier s w.is_e hs i)) (one (term-same ws at end e' w.later t w.is_l ht i)))

pub fault-known : (rws ws : List ℕ) (before at nodes end : ℕ) (w : Marked ws before at nodes end) (r : Judgement)
    → ((rs : List Rule) → rule_table rws ≡ good rs → r ≡ fault_of rs (one w.earlier) (one w.later)) → FaultIs rws ws before at r
fault-known rws ws before at nodes end w r f rs are e e' s t hs ht =
    f rs are
    ∙ (λ i. fault_of rs (one (term-same ws before at e w.earlier s w.is_e hs i)) (one (term-same ws at end e' w.later t w.is_l ht i)))

-- the words of a term's first node, and which way its mark is read
pub term-tree : (ws : List ℕ) (at e : ℕ) (t : Term) → TermAt ws at e t → Tree ws at 0 t.op t.mark t.kids no_terms
term-tree ws at e t h = row-tree ws at 0 t.op t.mark t.kids no_terms (term-row ws at e t h)

pub way-forward : (d : Direction) → direction_word d ≡ 1 → d ≡ Forward
way-forward Forward e = refl
way-forward Backward e = absurd (omega arith)

pub way-backward : (d : Direction) → direction_word d ≡ 2 → d ≡ Backward
way-backward Forward e = absurd (omega arith)
way-backward Backward e = refl

pub no_way : (d : Direction) → (direction_word d ≡ 1 → ⊥) → (direction_word d ≡ 2 → ⊥) → ⊥
no_way Forward h h' = h refl
no_way Backward h h' = h' refl
