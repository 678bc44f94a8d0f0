-- Demand 3 at the entry. For accepted tables, two of their nodes that connections join, a distance within the limit and an area that
-- the proof's words fit: the query answers that distance and those words, and the area holds them and zeros; the proof starts at
-- the left term, ends at the right, has distance + 1 terms and one mark in each but the first; and if each rule connection is an
-- instance of its listed rule, the strict checker accepts it. Beside it: 8, 9, 10 and 11, each exactly where it is the first to hold.
use Prim.Native.Nat.{ℕ, suc, ◌-◌, ◌≤◌, ◌<◌}
use mathlib.Core.List.{List, []}
use mathlib.Core.Logic.{◌↔◌}
use mathlib.Core.Path.{◌≡◌, refl, ap, ◌∙◌}
use native.Mathlib.Omega.{arith}
use lib.ListN.{length, replicate, length-replicate, length-append}
use Rattle.std.proofs.Common.{Ok, Err}
use Rattle.model.specs.Query.{written}
use Rattle.model.specs.Verdict.{rejection}
use Rattle.model.specs.declared.Refusal.{Refusal}
use Rattle.model.specs.declared.Refusal.TheVariants.{NoNode, NotJoined, TooFar, NoRoom}
use Rattle.model.specs.Query.{Answer}
use Rattle.model.specs.Limits.{distance_limit}
use Rattle.model.specs.Judged.{Judged, good, bad}
use Rattle.model.specs.Forest.{Linked}
use Rattle.model.specs.Query.{Tables, distance_in, proof_words, area_by, area_after}
use Rattle.model.specs.Tables.{judge_tables, answer_by, area_of, verdict_by}
use Rattle.flat.specs.Accepted.{AcceptedTables}
use Rattle.flat.proofs.Tables.{tables-accepted}
use Rattle.flat.proofs.Delivered.{delivered}
use Rattle.explanation.specs.Demand.{Missing, Known, Unlinked, Exceeds, Asked, Granted}
use Rattle.explanation.proofs.Answers.{Case, by_8, by-9, by-10, by-11, fit, cases, is-written}
use Rattle.explanation.proofs.Answers as answers
use Rattle.explanation.proofs.DemandTwo.{demand-2}

-- the tables are accepted, and are t
module _ (nws rws cws : List ℕ) (t : Tables) (are : judge_tables nws rws cws ≡ good t) (area l r : ℕ) where
  ok : AcceptedTables t
  ok = tables-accepted nws rws cws t are

  pub demand-3 : Asked t area l r → Granted (judge_tables nws rws cws) t area l r
  unfolding area_after
  demand-3 a =
      let d = delivered t ok l r a.linked in
      let e = is-written t l r a.known a.linked ok a.near area a.fits a.few in
      record {
        answers = rw are e;
        lent = rw are (ap (λ (v : Answer). area_by v (proof_words t l r) area) e);
        terms = d.counted;
        starts = d.between.starts;
        plain = d.between.plain;
        arrives = d.between.arrives;
        marked = d.marked;
        accepted = λ p. (demand-2 nws rws cws t are (proof_words t l r) (suc (distance_in t l r))).1 (d.proves p a.near a.few);
      }

  -- an answer is given only then
  pub answered : (d w : ℕ) → answer_by (judge_tables nws rws cws) area l r ≡ Ok (written d w) → Asked t area l r
  answered d w e = answers.answered t ok area l r d w (rw are at e)

  pub refused-8 : (answer_by (judge_tables nws rws cws) area l r ≡ Err NoNode) ↔ Missing t l r
  refused-8 = rw are (answers.refused-8 t ok area l r)

  pub refused-9 : (answer_by (judge_tables nws rws cws) area l r ≡ Err NotJoined) ↔ (Known t l r × Unlinked t l r)
  refused-9 = rw are (answers.refused-9 t ok area l r)

  pub refused-10 : (answer_by (judge_tables nws rws cws) area l r ≡ Err TooFar)
      ↔ (Known t l r × Linked t.conns l r × (distance_limit < distance_in t l r))
  refused-10 = rw are (answers.refused-10 t ok area l r)

  pub refused-11 : (answer_by (judge_tables nws rws cws) area l r ≡ Err NoRoom)
      ↔ (Known t l r × Linked t.conns l r × (distance_in t l r ≤ distance_limit) × Exceeds t area l r)
  refused-11 = rw are (answers.refused-11 t ok area l r)

-- "a query or check over bad ones returns that number"
pub bad-tables : (nws rws cws : List ℕ) (n : Refusal) → judge_tables nws rws cws ≡ bad n → (area l r : ℕ) (ws : List ℕ)
    → (answer_by (judge_tables nws rws cws) area l r ≡ Err n) × (verdict_by (judge_tables nws rws cws) ws ≡ Err (rejection n 0))
bad-tables nws rws cws n e area l r ws = (rw e refl, rw e refl)

-- a refusal leaves the area all zero, over bad tables too
pub refused-zero : (j : Judged Tables) (area l r : ℕ) (n : Refusal) → answer_by j area l r ≡ Err n → area_of j area l r ≡ replicate area 0
unfolding area_after
refused-zero (bad m) area l r n e = refl
refused-zero (good t) area l r n e = rw e refl

-- and the area is always as long as it was
module _ (nws rws cws : List ℕ) (area l r : ℕ) where
  zeros : {n : Refusal} → answer_by (judge_tables nws rws cws) area l r ≡ Err n → length (area_of (judge_tables nws rws cws) area l r) ≡ area
  zeros e = ap length (refused-zero (judge_tables nws rws cws) area l r _ e) ∙ length-replicate {A = ℕ} area 0

  pub area-kept : length (area_of (judge_tables nws rws cws) area l r) ≡ area
  area-kept = by (judge_tables nws rws cws) refl
    where
      among : (t : Tables) (are : judge_tables nws rws cws ≡ good t) → Case t area l r → length (area_of (judge_tables nws rws cws) area l r) ≡ area
      among t are (by_8 u) = zeros ((refused-8 nws rws cws t are area l r).1 u)
      among t are (by-9 k a) = zeros ((refused-9 nws rws cws t are area l r).1 (k, a))
      among t are (by-10 k j d) = zeros ((refused-10 nws rws cws t are area l r).1 (k, j, d))
      among t are (by-11 k j d o) = zeros ((refused-11 nws rws cws t are area l r).1 (k, j, d, o))
      among t are (fit a) =
          let n = length (proof_words t l r) in
          ap length (demand-3 nws rws cws t are area l r a).lent
          ∙ (length-append (proof_words t l r) (replicate (area - n) 0)
          ∙ omega (arith, a.fits, length-replicate {A = ℕ} (area - n) 0))

      by : (j : Judged Tables) → judge_tables nws rws cws ≡ j → length (area_of (judge_tables nws rws cws) area l r) ≡ area
      by (bad n) e = zeros (bad-tables nws rws cws n e area l r []).0
      by (good t) e = among t e (cases t area l r)
