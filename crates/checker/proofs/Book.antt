-- A later term is the book's rewriting, in full: it is right exactly where its one mark tells a rewrite of the book, from the earlier
-- term to it (forward) or from it to the earlier (backward), marks aside. And every rewrite of the book, read either way, is a right
-- later term once its place is marked.
-- Assumes nothing.
use Prim.Native.Nat.{ℕ, zero, suc, ◌≤◌}
use mathlib.Core.List.{List, [], ◌∷◌}
use mathlib.Core.Logic.{◌↔◌}
use mathlib.Core.Option.{some, none-ne-some}
use mathlib.Core.Path.{◌≡◌, refl, sym, ◌∙◌, ap, subst}
use native.Mathlib.Omega.{arith}
use native.Mathlib.Decide.{ℕ_discrete}
use Rattle.model.specs.declared.Direction.{Direction}
use Rattle.model.specs.declared.Direction.TheVariants.{Forward, Backward}
use Rattle.model.specs.Term.{Mark, unmarked, marked, Terms, no_terms, tree, Term, put, one, strip, stripped, marks}
use Rattle.model.specs.Pattern.{Substitution, inst}
use Rattle.model.specs.Rule.{Rule, listed}
use Rattle.model.specs.Step.{left_of, right_of, ByRule, Step}
use Rattle.model.specs.Book.{Position, subterm, replace, Rewrites, Move, LeadsBy, MarkAt, OnlyMark, BookStep, marking, written}
use Rattle.model.specs.Verdict.{Later}
use Rattle.terms.proofs.Rows.{strip-strip}
use Rattle.terms.proofs.Marks.{strip-unmarked}
use Rattle.checker.proofs.Positions.{inside, behind, here, root, among, after, nowhere, unplaced, counts, find, two-marks, one_place}

-- The move can be read off a term's one mark in one way only.
pub one-move : (t : Terms) (m m' : Move) → OnlyMark t m → OnlyMark t m' → m ≡ m'
one-move t m m' g h =
    let p : m.place ≡ m'.place = h.only m.place m.way m.number g.here in
    let a = g.here.stands in
    let b : subterm t m.place ≡ some h.here.term = ap (subterm t) p ∙ h.here.stands in
    let u : g.here.term ≡ h.here.term = cc in
    let e : marked m.way m.number ≡ marked m'.way m'.number = sym g.here.bears ∙ ap (λ (v : Term). v.mark) u ∙ h.here.bears in
    let d : m.way ≡ m'.way = cc in
    let n : m.number ≡ m'.number = cc in
    λ i. record { way = d i; number = n i; place = p i }

-- A term has one mark exactly where one move can be read off it.
only_of : (t : Terms) → marks t ≡ 1 → (m : Move) → MarkAt t m.place (marked m.way m.number) → OnlyMark t m
only_of t e m h =
    record {
      here = h;
      only = λ p d n g. one_place t (omega arith) p m.place d m.way n m.number g h;
    }

pub only-mark : (t : Terms) → (marks t ≡ 1) ↔ ((m : Move) × OnlyMark t m)
only-mark t = (
  λ e.
      let f = find t (omega arith) in
      let m : Move = record { way = f.way; number = f.number; place = f.index ∷ f.path } in
      (m, only_of t e m f.is),
  λ h.
      elim (ℕ_discrete (marks t) 1) [
        | yes e ↦ e
        | no z ↦
            let (m, o) = h in
            let w = two-marks t (omega (arith, counts t m.place m.way m.number o.here)) in
            absurd (w.apart (o.only _ _ _ w.is_first ∙ sym (o.only _ _ _ w.is_second)))
      ],
)

-- A row without marks steps from the same row, marks aside, and from no other.
still : (rs : List Rule) (s t : Terms) → marks t ≡ 0 → Step rs s t ↔ (strip s ≡ strip t)
unfolding Step marks strip
still rs no_terms no_terms e = (λ h. refl, λ h. tt)
still rs no_terms (tree o m k s) e = (λ h. absurd h, λ h. let z : ◌≡◌ {A = ℕ} 0 1 = cc in omega arith)
still rs (tree o m k s) no_terms e = (λ h. absurd h, λ h. let z : ◌≡◌ {A = ℕ} 0 1 = cc in omega arith)
still rs (tree o m k s) (tree o' unmarked k' s') e =
    let (f, g) = still rs k k' (omega arith) in
    let (u, v) = still rs s s' (omega arith) in (
      λ h. λ i. tree (h.0 i) unmarked (f h.1 i) (u h.2 i),
      λ h.
          let a : o ≡ o' = cc in
          let b : strip k ≡ strip k' = cc in
          let c : strip s ≡ strip s' = cc in
          (a, g b, v c),
    )
still rs (tree o m k s) (tree o' (marked d n) k' s') e = absurd (omega arith)

-- x stands at p in s, and t is s with y there
record Swap (p : Position) (x y : Term) (s t : Terms) : Type 0 where
  out : subterm s p ≡ some x
  made : t ≡ replace s p y

-- that is the same from t to s
put_back : (s : Terms) (p : Position) (x y : Term) → subterm s p ≡ some x → Swap p y x (replace s p y) s
unfolding subterm replace
put_back no_terms p x y h = absurd (none-ne-some x h)
put_back (tree o m k s) [] x y h = absurd (none-ne-some x h)
put_back (tree o m k s) (zero ∷ []) x y h =
    let e : record { op = o; mark = m; kids = k } ≡ x = cc in record { out = refl; made = ap (λ (u : Term). put u s) e }
put_back (tree o m k s) (zero ∷ j ∷ p) x y h =
    let w = put_back k (j ∷ p) x y h in record { out = w.out; made = ap (λ (u : Terms). tree o m u s) w.made }
put_back (tree o m k s) (suc j ∷ p) x y h =
    let w = put_back s (j ∷ p) x y h in record { out = w.out; made = ap (tree o m k) w.made }

turned : {p : Position} {x y : Term} {s t : Terms} → Swap p x y s t → Swap p y x t s
turned {p} {x} {y} {s} {t} w = subst (λ (u : Terms). Swap p y x u s) (sym w.made) (put_back s p x y w.out)

-- Two terms without marks are an instance of the rule of the number n: of two terms marks aside, that is `ByRule`.
record Fits (rs : List Rule) (n : ℕ) (s t : Terms) : Type 0 where
  rule : Rule
  is_in : listed rs n ≡ some rule
  σ : Substitution
  left : s ≡ inst σ rule.left
  right : t ≡ inst σ rule.right

fits_by : (rs : List Rule) (n : ℕ) (s t : Terms) → ByRule rs n s t ↔ Fits rs n (strip s) (strip t)
fits_by rs n s t = (
  λ h. record { rule = h.rule; is_in = h.is_in; σ = h.fit.σ; left = h.fit.left; right = h.fit.right },
  λ h. record { rule = h.rule; is_in = h.is_in; fit = record { σ = h.σ; left = h.left; right = h.right } },
)

way-fits : (rs : List Rule) (n : ℕ) (d : Direction) (s t : Terms)
    → ByRule rs n (left_of d s t) (right_of d s t) ↔ Fits rs n (left_of d (strip s) (strip t)) (right_of d (strip s) (strip t))
way-fits rs n Forward s t = fits_by rs n s t
way-fits rs n Backward s t = fits_by rs n t s

-- One rewrite at a place, read the way d: the two terms that are swapped there are an instance of the rule of the number n.
record At (rs : List Rule) (d : Direction) (n : ℕ) (p : Position) (s t : Terms) : Type 0 where
  x : Term
  y : Term
  swap : Swap p x y s t
  fit : Fits rs n (left_of d (one x) (one y)) (right_of d (one x) (one y))

-- a rewrite among a node's children, or behind it: what stands beside the path is the same in both rows
module _ {rs : List Rule} {d : Direction} {n o o' j : ℕ} {p : Position} {k k' s s' : Terms} where
  at-inside : ((o ≡ o') × At rs d n (j ∷ p) k k' × (s ≡ s')) ↔ At rs d n (zero ∷ j ∷ p) (tree o unmarked k s) (tree o' unmarked k' s')
  unfolding subterm replace
  at-inside = (
    λ h.
        let (a, w, b) = h in
        record { x = w.x; y = w.y; swap = record { out = w.swap.out; made = λ i. tree (sym a i) unmarked (w.swap.made i) (sym b i) }; fit = w.fit },
    λ h.
        let m = h.swap.made in
        let a : o ≡ o' = cc in
        let b : k' ≡ replace k (j ∷ p) h.y = cc in
        let c : s ≡ s' = cc in
        (a, record { x = h.x; y = h.y; swap = record { out = h.swap.out; made = b }; fit = h.fit }, c),
  )

  at-behind : ((o ≡ o') × (k ≡ k') × At rs d n (j ∷ p) s s') ↔ At rs d n (suc j ∷ p) (tree o unmarked k s) (tree o' unmarked k' s')
  unfolding subterm replace
  at-behind = (
    λ h.
        let (a, b, w) = h in
        record { x = w.x; y = w.y; swap = record { out = w.swap.out; made = λ i. tree (sym a i) unmarked (sym b i) (w.swap.made i) }; fit = w.fit },
    λ h.
        let m = h.swap.made in
        let a : o ≡ o' = cc in
        let b : k ≡ k' = cc in
        let c : s' ≡ replace s (j ∷ p) h.y = cc in
        (a, b, record { x = h.x; y = h.y; swap = record { out = h.swap.out; made = c }; fit = h.fit }),
  )

-- and one at the mark itself
first-at : (rs : List Rule) (o : ℕ) (m : Mark) (k s : Terms) (o' : ℕ) (d : Direction) (n : ℕ) (k' s' : Terms) → marks s' ≡ 0
    → Step rs (tree o m k s) (tree o' (marked d n) k' s') ↔ At rs d n (zero ∷ []) (strip (tree o m k s)) (strip (tree o' (marked d n) k' s'))
unfolding Step strip subterm replace
first-at rs o m k s o' d n k' s' e =
    let u : Terms = tree o m k no_terms in
    let v : Terms = tree o' (marked d n) k' no_terms in (
      λ h.
          record {
            x = stripped (record { op = o; mark = m; kids = k });
            y = stripped (record { op = o'; mark = marked d n; kids = k' });
            swap = record { out = refl; made = ap (tree o' unmarked (strip k')) (sym ((still rs s s' e).0 h.1)) };
            fit = (way-fits rs n d u v).0 h.0;
          },
      λ h.
          let out = h.swap.out in
          let made = h.swap.made in
          let w : stripped (record { op = o; mark = m; kids = k }) ≡ h.x = cc in
          let a : strip u ≡ one h.x = ap one w in
          let b : strip v ≡ one h.y = cc in
          let c : strip s ≡ strip s' = cc in
          ((way-fits rs n d u v).1 (rw (a, b) h.fit), (still rs s s' e).1 c),
    )

-- A row with one mark steps exactly where the two rows, marks aside, are a rewrite at the mark's place: down the path, by induction.
step-at : (rs : List Rule) (d : Direction) (n : ℕ) (s t : Terms) (p : Position) → MarkAt t p (marked d n) → marks t ≡ 1
    → Step rs s t ↔ At rs d n p (strip s) (strip t)
unfolding Step marks strip subterm
step-at rs d n s no_terms p g e = nowhere g
step-at rs d n no_terms (tree o' x k' s') p g e = (λ h. absurd h, λ h. none-ne-some h.x h.swap.out)
step-at rs d n (tree o m k s) (tree o' x k' s') [] g e = unplaced g
step-at rs d n (tree o m k s) (tree o' unmarked k' s') (zero ∷ []) g e =
    let r = root g in let z : ◌≡◌ {A = ℕ} 0 1 = cc in absurd (omega arith)
step-at rs d n (tree o m k s) (tree o' (marked c r) k' s') (zero ∷ []) g e =
    let q = root g in
    let a : c ≡ d = cc in
    let b : r ≡ n = cc in
    rw (← a, ← b) (first-at rs o m k s o' c r k' s' (omega arith))
step-at rs d n (tree o m k s) (tree o' unmarked k' s') (zero ∷ j ∷ p) g e =
    let l = counts k' (j ∷ p) d n (among g) in
    let (f, b) = step-at rs d n k k' (j ∷ p) (among g) (omega arith) in
    let (u, v) = still rs s s' (omega arith) in
    (λ h. at-inside.0 (h.0, f h.1, u h.2), λ h. let (x, y, z) = at-inside.1 h in (x, b y, v z))
step-at rs d n (tree o m k s) (tree o' unmarked k' s') (suc j ∷ p) g e =
    let l = counts s' (j ∷ p) d n (after g) in
    let (f, b) = step-at rs d n s s' (j ∷ p) (after g) (omega arith) in
    let (u, v) = still rs k k' (omega arith) in
    (λ h. at-behind.0 (h.0, u h.1, f h.2), λ h. let (x, y, z) = at-behind.1 h in (x, v y, b z))
step-at rs d n (tree o m k s) (tree o' (marked c r) k' s') (zero ∷ j ∷ p) g e =
    absurd (omega (arith, counts k' (j ∷ p) d n (among g)))
step-at rs d n (tree o m k s) (tree o' (marked c r) k' s') (suc j ∷ p) g e =
    absurd (omega (arith, counts s' (j ∷ p) d n (after g)))

-- So a swap by a rule is the book's rewrite, read either way, and the other way round.
rewrites : {rs : List Rule} {n : ℕ} {p : Position} {x y : Term} {s t : Terms} → strip s ≡ s → strip t ≡ t → Swap p x y s t
    → Fits rs n (one x) (one y) → Rewrites rs n p s t
rewrites {rs} {n} {p} {x} {y} {s} {t} b a w h =
    record {
      before = b;
      after = a;
      rule = h.rule;
      is_in = h.is_in;
      σ = h.σ;
      redex = x;
      contractum = y;
      stands = w.out;
      left = h.left;
      right = h.right;
      makes = w.made;
    }

at_forward : {rs : List Rule} {n : ℕ} {p : Position} {s t : Terms} → Rewrites rs n p s t → At rs Forward n p s t
at_forward r =
    record {
      x = r.redex;
      y = r.contractum;
      swap = record { out = r.stands; made = r.makes };
      fit = record { rule = r.rule; is_in = r.is_in; σ = r.σ; left = r.left; right = r.right };
    }

leads : (rs : List Rule) (d : Direction) (n : ℕ) (p : Position) (s t : Terms)
    → LeadsBy rs (record { way = d; number = n; place = p }) s t ↔ ((strip s ≡ s) × (strip t ≡ t) × At rs d n p s t)
leads rs Forward n p s t = (λ r. (r.before, r.after, at_forward r), λ h. rewrites h.0 h.1 h.2.swap h.2.fit)
leads rs Backward n p s t = (
  λ r. let h = at_forward r in (r.after, r.before, record { x = h.y; y = h.x; swap = turned h.swap; fit = h.fit }),
  λ h. rewrites h.1 h.0 (turned h.2.swap) h.2.fit,
)

-- A later term is right exactly where its one mark tells a rewrite of the book.
pub later-book : (rs : List Rule) (s t : Terms) → Later rs s t ↔ BookStep rs s t
later-book rs s t = (
  λ l.
      let (m, o) = (only-mark t).0 l.one_mark in
      let a = (step-at rs m.way m.number s t m.place o.here l.one_mark).0 l.arises in
      let r = (leads rs m.way m.number m.place (strip s) (strip t)).1 (strip-strip s, strip-strip t, a) in
      record { move = m; mark = o; rewrites = r },
  λ b.
      let m = b.move in
      let e = (only-mark t).1 (m, b.mark) in
      let (_, _, a) = (leads rs m.way m.number m.place (strip s) (strip t)).0 b.rewrites in
      record { one_mark = e; arises = (step-at rs m.way m.number s t m.place b.mark.here e).1 a },
)

-- A mark put in at a place changes no more than that: marks aside the row is the same, and an unmarked row has that one mark, there.
mark-strip : (t : Terms) (p : Position) (m : Mark) → strip (marking t p m) ≡ strip t
unfolding marking strip
mark-strip no_terms p m = refl
mark-strip (tree o x k s) [] m = refl
mark-strip (tree o x k s) (zero ∷ []) m = refl
mark-strip (tree o x k s) (zero ∷ j ∷ p) m = ap (λ (u : Terms). tree o unmarked u (strip s)) (mark-strip k (j ∷ p) m)
mark-strip (tree o x k s) (suc j ∷ p) m = ap (tree o unmarked (strip k)) (mark-strip s (j ∷ p) m)

mark-there : (t : Terms) (p : Position) (m : Mark) (y : Term) → subterm t p ≡ some y → MarkAt (marking t p m) p m
unfolding marking subterm
mark-there no_terms p m y h = absurd (none-ne-some y h)
mark-there (tree o x k s) [] m y h = absurd (none-ne-some y h)
mark-there (tree o x k s) (zero ∷ []) m y h = here
mark-there (tree o x k s) (zero ∷ j ∷ p) m y h = inside (mark-there k (j ∷ p) m y h)
mark-there (tree o x k s) (suc j ∷ p) m y h = behind (mark-there s (j ∷ p) m y h)

mark-only : (t : Terms) (p : Position) (d : Direction) (n : ℕ) → marks t ≡ 0 → marks (marking t p (marked d n)) ≤ 1
unfolding marking marks
mark-only no_terms p d n e = omega arith
mark-only (tree o x k s) [] d n e = omega arith
mark-only (tree o x k s) (zero ∷ []) d n e = omega arith
mark-only (tree o x k s) (zero ∷ j ∷ p) d n e = omega (arith, mark-only k (j ∷ p) d n (omega arith))
mark-only (tree o x k s) (suc j ∷ p) d n e = omega (arith, mark-only s (j ∷ p) d n (omega arith))

-- The terms of a rewrite have no marks, so that the mark put in is the one that the written term has.
pub written-mark : (rs : List Rule) (m : Move) (s t : Terms) → LeadsBy rs m s t → OnlyMark (written t m) m
written-mark rs m s t r =
    let (_, e, a) = (leads rs m.way m.number m.place s t).0 r in
    let g = mark-there t m.place (marked m.way m.number) a.y (turned a.swap).out in
    let c = counts (written t m) m.place m.way m.number g in
    let z = mark-only t m.place m.way m.number (ap marks (sym e) ∙ strip-unmarked t) in
    only_of (written t m) (omega arith) m g

-- Every rewrite of the book, read either way, is a right later term once its place is marked.
pub rewrite-written : (rs : List Rule) (m : Move) (s t : Terms) → LeadsBy rs m s t
    → Later rs s (written t m) × (strip (written t m) ≡ t)
rewrite-written rs m s t r =
    let (b, a, _) = (leads rs m.way m.number m.place s t).0 r in
    let e : strip (written t m) ≡ t = mark-strip t m.place (marked m.way m.number) ∙ a in
    ((later-book rs s (written t m)).1 (record { move = m; mark = written-mark rs m s t r; rewrites = rw (b, e) r }), e)
