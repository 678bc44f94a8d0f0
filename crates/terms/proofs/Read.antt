-- What words say is one row of terms: `read` finds it, where there is one.
-- Assumes nothing.
use Prim.Native.Nat.{ℕ, zero, suc, ◌≤◌}
use mathlib.Core.List.{List, [], ◌∷◌, ◌++◌, append_assoc, append-nil}
use mathlib.Core.Bool.{Bool, true, false}
use mathlib.Core.Option.{Option, none, some, none-ne-some}
use mathlib.Core.Path.{◌≡◌, refl, ap, sym, ◌∙◌}
use native.Mathlib.Omega.{arith}
use borrow.Author.Tests.{le-leb, leb-true}
use lib.Dec.{leb}
use Rattle.model.specs.Limits.{child_limit}
use Rattle.model.specs.declared.Direction.TheVariants.{Forward, Backward}
use Rattle.model.specs.declared.Direction.{Direction}
use Rattle.model.specs.Term.{Mark, unmarked, marked, Terms, no_terms, tree, count, join, Narrow, direction_word, mark_word, rule_word, words, Reads, mark_of, Cut, cut, longer, adopt, adopt_if, over, read}
use Rattle.terms.proofs.Rows.{words-join, narrow-parts, join-none}

-- a row in front of what was read
abbrev pub join_to : Terms → Option Terms → Option Terms
join_to f none = none
join_to f (some g) = some (join f g)

-- a row is cut where it was joined
pub cut-join : (k g : Terms) → cut (count k) (join k g) ≡ some (record { front = k; back = g })
unfolding cut count join
cut-join no_terms g = refl
cut-join (tree o m k s) g = rw (cut-join s g)

pub mark-words : (m : Mark) → mark_of (mark_word m) (rule_word m) ≡ some m
mark-words unmarked = refl
mark-words (marked Forward r) = refl
mark-words (marked Backward r) = refl

-- a marked node's word is not 0
pub direction-some : (d : Direction) → direction_word d ≡ 0 → ⊥
direction-some Forward e = omega arith
direction-some Backward e = omega arith

over-joined : (o : ℕ) (m : Mark) (k s : Terms) → count k ≤ child_limit → (r : Option Terms)
    → over o (count k) (some m) (join_to k (join_to s r)) ≡ join_to (tree o m k s) r
unfolding over join
over-joined o m k s c none = refl
over-joined o m k s c (some g) = rw (le-leb _ _ c, cut-join k (join s g))

-- a row's words in front of others: the row, and what these say
pub read-front : (f : Terms) → Narrow f → (ws : List ℕ) → read (words f ++ ws) ≡ join_to f (read ws)
unfolding read words Narrow join
read-front no_terms h ws = elim (read ws) as (λ (r : Option Terms). r ≡ join_to no_terms r) [ none ↦ refl | some g ↦ refl ]
read-front (tree o m k s) h ws =
    rw (mark-words m, append_assoc, read-front k h.1 (words s ++ ws), read-front s h.2 ws) (over-joined o m k s h.0 (read ws))

pub words-read : (f : Terms) → Narrow f → read (words f) ≡ some f
unfolding read
words-read f h = rw (← append-nil (words f), read-front f h [], join-none f)

-- what a cut leaves: the first c terms and those behind them
pub record CutIs (c : ℕ) (f : Terms) (p : Cut) : Type 0 where
  pub counted : count p.front ≡ c
  pub joined : f ≡ join p.front p.back

longer-is : (o : ℕ) (m : Mark) (k s : Terms) (c : ℕ) (p : Cut) (r : Option Cut)
    → ((w : Cut) → r ≡ some w → CutIs c s w) → longer o m k r ≡ some p → CutIs (suc c) (tree o m k s) p
unfolding count join
longer-is o m k s c p none h e = absurd (none-ne-some _ e)
longer-is o m k s c p (some w) h e =
    let l : record { front = tree o m k w.front; back = w.back } ≡ p = cc in
    let i = h w refl in
    rw (← l) (record { counted = ap suc i.counted; joined = rw i.joined })

pub cut-is : (c : ℕ) (f : Terms) (p : Cut) → cut c f ≡ some p → CutIs c f p
unfolding cut count join
cut-is zero f p e =
    let q : record { front = no_terms; back = f } ≡ p = cc in
    rw (← q) (record { counted = refl; joined = refl })
cut-is (suc c) no_terms p e = absurd (none-ne-some _ e)
cut-is (suc c) (tree o m k s) p e = longer-is o m k s c p (cut c s) (cut-is c s) e

-- a row of c terms or more has a cut
pub record HasCut (c : ℕ) (f : Terms) : Type 0 where
  pub parts : Cut
  pub is : CutIs c f parts

pub has-cut : (c : ℕ) (f : Terms) → c ≤ count f → HasCut c f
unfolding count join
has-cut zero f l = record { parts = record { front = no_terms; back = f }; is = record { counted = refl; joined = refl } }
has-cut (suc c) no_terms l = absurd (omega arith)
has-cut (suc c) (tree o m k s) l =
    let h = has-cut c s (omega arith) in
    record {
      parts = record { front = tree o m k h.parts.front; back = h.parts.back };
      is = record { counted = ap suc h.is.counted; joined = ap (tree o m k) h.is.joined };
    }

pub mark-of : (m r : ℕ) (k : Mark) → mark_of m r ≡ some k → (mark_word k ≡ m) × (rule_word k ≡ r)
mark-of zero zero k e = let p : unmarked ≡ k = cc in rw (← p) (refl, refl)
mark-of zero (suc r) k e = absurd (none-ne-some _ e)
mark-of (suc zero) r k e = let p : marked Forward r ≡ k = cc in rw (← p) (refl, refl)
mark-of (suc (suc zero)) r k e = let p : marked Backward r ≡ k = cc in rw (← p) (refl, refl)
mark-of (suc (suc (suc m))) r k e = absurd (none-ne-some _ e)

-- what a node that was read with its children says: the row read behind it, cut
module _ (o c m r : ℕ) (ws : List ℕ) (f : Terms) where
  adopt-is : (g : Terms) → Reads ws g → (k : Mark) → mark_of m r ≡ some k → leb c child_limit ≡ true → (p : Option Cut) → cut c g ≡ p
      → adopt o k p ≡ some f → Reads (o ∷ c ∷ m ∷ r ∷ ws) f
  unfolding words Narrow
  adopt-is g h k i l none q e = absurd (none-ne-some _ e)
  adopt-is g h k i l (some p) q e =
      let x : tree o k p.front p.back ≡ f = cc in
      let d = cut-is c g p q in
      let w = mark-of m r k i in
      let n = narrow-parts p.front p.back (rw d.joined at h.narrow) in
      rw (← x) (record {
        narrow = (omega (arith, leb-true c child_limit l, d.counted), n.0, n.1);
        spelled = rw (w.0, w.1, d.counted, h.spelled, d.joined, words-join);
      })

  mark-is : (g : Terms) → Reads ws g → (k : Option Mark) → mark_of m r ≡ k → (b : Bool) → leb c child_limit ≡ b
      → adopt_if b o k (cut c g) ≡ some f → Reads (o ∷ c ∷ m ∷ r ∷ ws) f
  mark-is g h k i false l e = absurd (none-ne-some _ e)
  mark-is g h none i true l e = absurd (none-ne-some _ e)
  mark-is g h (some k) i true l e = adopt-is g h k i l (cut c g) refl e

  over-is : (q : Option Terms) → ((g : Terms) → q ≡ some g → Reads ws g) → over o c (mark_of m r) q ≡ some f → Reads (o ∷ c ∷ m ∷ r ∷ ws) f
  unfolding over
  over-is none h e = absurd (none-ne-some _ e)
  over-is (some g) h e = mark-is g (h g refl) (mark_of m r) refl (leb c child_limit) refl e

pub read-words : (ws : List ℕ) (f : Terms) → read ws ≡ some f → Reads ws f
unfolding read words Narrow
read-words [] f e = let p : no_terms ≡ f = cc in rw (← p) (record { narrow = tt; spelled = refl })
read-words (o ∷ []) f e = absurd (none-ne-some f e)
read-words (o ∷ c ∷ []) f e = absurd (none-ne-some f e)
read-words (o ∷ c ∷ m ∷ []) f e = absurd (none-ne-some f e)
read-words (o ∷ c ∷ m ∷ r ∷ ws) f e = over-is o c m r ws f (read ws) (read-words ws) e

-- so words have one reading
pub reads-read : (ws : List ℕ) (f : Terms) → Reads ws f → read ws ≡ some f
reads-read ws f h = ap read h.spelled ∙ words-read f h.narrow

pub reads-once : (ws : List ℕ) (f g : Terms) → Reads ws f → Reads ws g → f ≡ g
reads-once ws f g h i = let p = reads-read ws f h in let q = reads-read ws g i in cc

pub words-inj : (f g : Terms) → Narrow f → Narrow g → words f ≡ words g → f ≡ g
words-inj f g h i e = reads-once (words g) f g (record { narrow = h; spelled = sym e }) (record { narrow = i; spelled = refl })
