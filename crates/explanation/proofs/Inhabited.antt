-- Demand 3 and the book's chains are not empty: the tables of document 01's run (P1), as words, with a witness of the premise; the query 2, 3 over an area of
-- twenty words is answered, and the checker accepts what it delivers.
use Prim.Native.Nat.{ℕ, ◌-◌}
use mathlib.Core.List.Memᴰ
use mathlib.Core.List.{List, [], ◌∷◌, ◌++◌}
use mathlib.Core.Path.{◌≡◌, refl}
use native.Mathlib.Omega.{arith}
use lib.ListN.{length, replicate}
use Rattle.std.proofs.Common.{Ok}
use Rattle.model.specs.Query.{written}
use Rattle.model.specs.declared.Direction.TheVariants.{Forward}
use Rattle.model.specs.declared.Justification.TheVariants.{Rule as by_rule, Congruence}
use Rattle.model.specs.Judged.{good}
use Rattle.model.specs.Term.{Mark, unmarked, marked, Terms, no_terms, tree, strip, words, count, Narrow}
use Rattle.model.specs.Pattern.{no_patterns, app, inst}
use Rattle.model.specs.Rule.{listed}
use Rattle.model.specs.Book.{subterm, replace, Move, LeadsBy, ChainBy, Rewriting, marking}
use Rattle.model.specs.Node.{term_of}
use Rattle.model.specs.Forest.{by, dist}
use Rattle.model.specs.Flat.{flat_proof}
use Rattle.model.specs.Premise.{Premise}
use Rattle.model.specs.Query.{Tables}
use Rattle.model.specs.Tables.{judge_tables, answer_by, area_of, verdict_by, node_words, side_words}
use Rattle.explanation.specs.Demand.{Asked, Granted}
use Rattle.checker.proofs.Book.{written-mark}
use Rattle.explanation.proofs.DemandTwo.{demand-2-book}
use Rattle.explanation.proofs.DemandThree.{demand-3}

-- words, and zeros behind them up to a size
abbrev entry : ℕ → List ℕ → List ℕ
entry size ws = ws ++ replicate (size - length ws) 0

-- Node 0 is the leaf o1, 1 the leaf o2, 2 is (o3 o1), 3 is (o3 o2): operator, count, children.
nodes : List ℕ
nodes =
    entry node_words (1 ∷ 0 ∷ []) ++ (entry node_words (2 ∷ 0 ∷ [])
    ++ (entry node_words (3 ∷ 1 ∷ 0 ∷ []) ++ entry node_words (3 ∷ 1 ∷ 1 ∷ [])))

-- Rule r7 makes o1 to o2: number, one item a side, and each side's item and zeros behind it.
rules : List ℕ
rules = 7 ∷ 1 ∷ 1 ∷ (entry side_words (1 ∷ 1 ∷ 0 ∷ []) ++ entry side_words (1 ∷ 2 ∷ 0 ∷ []))

-- 0 to 1 by r7, forward, and 2 to 3 by congruence
connections : List ℕ
connections = 0 ∷ 1 ∷ 1 ∷ 7 ∷ 1 ∷ 2 ∷ 3 ∷ 0 ∷ 0 ∷ 0 ∷ []

t : Tables
t =
    record {
      nodes =
          record { op = 1; kids = [] } ∷ record { op = 2; kids = [] } ∷ record { op = 3; kids = 0 ∷ [] } ∷ record { op = 3; kids = 1 ∷ [] } ∷ [];
      rules = record { number = 7; left = app 1 no_patterns no_patterns; right = app 2 no_patterns no_patterns } ∷ [];
      conns =
          record { current = record { 0 = 2 }; next = record { 0 = 3 }; why = Congruence }
          ∷ record { current = record { 0 = 0 }; next = record { 0 = 1 }; why = by_rule (record { 0 = 7 }) Forward } ∷ [];
    }

are : judge_tables nodes rules connections ≡ good t
unfolding judge_tables nodes rules connections t
are = refl

-- each rule connection is an instance of its listed rule: r7 has no variable, so that any substitution will do
premise : Premise t.rules t.nodes t.conns
unfolding Premise t listed term_of strip inst
premise = (
  tt,
  (
    record {
      rule = record { number = 7; left = app 1 no_patterns no_patterns; right = app 2 no_patterns no_patterns };
      is_in = refl;
      fit = record { σ = λ x. record { op = 0; mark = unmarked; kids = no_terms }; left = refl; right = refl };
    },
    tt,
  ),
)

-- nodes 2 and 3 are joined, 1 apart, by a proof of 16 words
asked : Asked t 20 2 3
unfolding t dist flat_proof words
asked =
    record {
      known = record { left = omega arith; right = omega arith };
      linked = by (Memᴰ.head refl);
      near = omega arith;
      fits = omega arith;
      few = omega arith;
    }

granted : Granted (judge_tables nodes rules connections) t 20 2 3
granted = demand-3 nodes rules connections t are 20 2 3 asked

-- so the answer is distance 1 and 16 words, the area holds P1's two terms and zeros, and the checker accepts two terms
answer-is : answer_by (judge_tables nodes rules connections) 20 2 3 ≡ Ok (written 1 16)
unfolding t dist flat_proof words
answer-is = granted.answers

offered : List ℕ
offered = (3 ∷ 1 ∷ 0 ∷ 0 ∷ 1 ∷ 0 ∷ 0 ∷ 0 ∷ []) ++ (3 ∷ 1 ∷ 0 ∷ 0 ∷ 2 ∷ 0 ∷ 1 ∷ 7 ∷ [])

area-is : area_of (judge_tables nodes rules connections) 20 2 3 ≡ offered ++ replicate 4 0
unfolding t offered dist flat_proof words count
area-is = granted.lent

verdict-is : verdict_by (judge_tables nodes rules connections) offered ≡ Ok 2
unfolding t offered dist flat_proof words count
verdict-is = granted.accepted premise

-- DEMAND 2 IN THE BOOK'S WORDS is not empty either: (o3 o1) rewrites to (o3 o2) by r7 at position 0 0, the first child of the first term,
-- and P1's words are that rewrite written down, so that the checker accepts them.
move : Move
move = record { way = Forward; number = 7; place = 0 ∷ 0 ∷ [] }

over : ℕ → Mark → Terms
over o m = tree 3 unmarked (tree o m no_terms no_terms) no_terms

leads : LeadsBy t.rules move (over 1 unmarked) (over 2 unmarked)
unfolding t move over strip listed subterm replace inst
leads =
    record {
      before = refl;
      after = refl;
      rule = record { number = 7; left = app 1 no_patterns no_patterns; right = app 2 no_patterns no_patterns };
      is_in = refl;
      σ = λ x. record { op = 0; mark = unmarked; kids = no_terms };
      redex = record { op = 1; mark = unmarked; kids = no_terms };
      contractum = record { op = 2; mark = unmarked; kids = no_terms };
      stands = refl;
      left = refl;
      right = refl;
      makes = refl;
    }

rewritten : Rewriting t.rules offered 2
unfolding t offered move over marking strip words Narrow count ChainBy
rewritten =
    record {
      first = record { op = 3; mark = unmarked; kids = tree 1 unmarked no_terms no_terms };
      rest = over 2 (marked Forward 7);
      moves = move ∷ [];
      form = record { narrow = (omega arith, (omega arith, tt, tt), (omega arith, (omega arith, tt, tt), tt)); spelled = refl };
      plain = refl;
      chain = (written-mark t.rules move (over 1 unmarked) (over 2 unmarked) leads, leads, tt);
      counted = refl;
      few_words = omega arith;
      few_terms = omega arith;
    }

rewritten-accepted : verdict_by (judge_tables nodes rules connections) offered ≡ Ok 2
rewritten-accepted = (demand-2-book nodes rules connections t are offered 2).1 rewritten
