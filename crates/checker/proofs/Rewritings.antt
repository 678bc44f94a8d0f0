-- Accepted words are exactly a chain of the book's rewrites, one a later term, each read off its term's mark: n terms, n - 1 rewrites.
-- Assumes nothing.
use Prim.Native.Nat.{ℕ, suc, ◌≤◌}
use mathlib.Core.List.{List, [], ◌∷◌}
use mathlib.Core.Logic.{◌↔◌}
use mathlib.Core.Path.{◌≡◌, refl, sym, ◌∙◌, ap, ap₂, subst}
use lib.ListN.{length}
use Rattle.std.specs.Prelude.{Ok}
use Rattle.model.specs.Limits.{term_limit, word_limit}
use Rattle.model.specs.Term.{Terms, no_terms, tree, put, one, count, marks, Reads}
use Rattle.model.specs.Rule.{Rule}
use Rattle.model.specs.Step.{is_mark}
use Rattle.model.specs.Book.{Move, ChainBy, Rewriting}
use Rattle.model.specs.Verdict.{Chain, Strict, Proves, verdict}
use Rattle.terms.proofs.Read.{reads-once}
use Rattle.terms.proofs.Marks.{no-mark, none_found, unmarked-strip, strip-unmarked}
use Rattle.checker.proofs.DemandTwo.{demand-2}
use Rattle.checker.proofs.Book.{one-move, later-book}

-- A chain of right later terms is a chain of rewrites by some moves,
chain-moves : (rs : List Rule) (s f : Terms) → Chain rs s f → (ms : List Move) × ChainBy rs s ms f
unfolding Chain ChainBy
chain-moves rs s no_terms h = ([], tt)
chain-moves rs s (tree o x k f) h =
    let b = (later-book rs s (tree o x k no_terms)).0 h.0 in
    let (ms, c) = chain-moves rs (tree o x k no_terms) f h.1 in
    (b.move ∷ ms, (b.mark, b.rewrites, c))

pub moves-chain : (rs : List Rule) (s : Terms) (ms : List Move) (f : Terms) → ChainBy rs s ms f → Chain rs s f
unfolding Chain ChainBy
moves-chain rs s [] no_terms h = tt
moves-chain rs s [] (tree o x k f) h = absurd h
moves-chain rs s (m ∷ ms) no_terms h = absurd h
moves-chain rs s (m ∷ ms) (tree o x k f) h =
    let t : Terms = tree o x k no_terms in
    ((later-book rs s t).1 (record { move = m; mark = h.0; rewrites = h.1 }), moves-chain rs t ms f h.2)

pub chain-book : (rs : List Rule) (s f : Terms) → Chain rs s f ↔ ((ms : List Move) × ChainBy rs s ms f)
chain-book rs s f = (chain-moves rs s f, λ h. moves-chain rs s h.0 f h.1)

-- one a later term,
pub chain_length : (rs : List Rule) (s : Terms) (ms : List Move) (f : Terms) → ChainBy rs s ms f → length ms ≡ count f
unfolding ChainBy count
chain_length rs s [] no_terms h = refl
chain_length rs s [] (tree o x k f) h = absurd h
chain_length rs s (m ∷ ms) no_terms h = absurd h
chain_length rs s (m ∷ ms) (tree o x k f) h = ap suc (chain_length rs (tree o x k no_terms) ms f h.2)

-- and the later terms alone tell which.
pub one-chain : (rs : List Rule) (s s' : Terms) (ms ms' : List Move) (f : Terms) → ChainBy rs s ms f → ChainBy rs s' ms' f → ms ≡ ms'
unfolding ChainBy
one-chain rs s s' [] [] f g h = refl
one-chain rs s s' [] (m' ∷ ms') no_terms g h = absurd h
one-chain rs s s' [] (m' ∷ ms') (tree o x k f) g h = absurd g
one-chain rs s s' (m ∷ ms) [] no_terms g h = absurd g
one-chain rs s s' (m ∷ ms) [] (tree o x k f) g h = absurd h
one-chain rs s s' (m ∷ ms) (m' ∷ ms') no_terms g h = absurd h
one-chain rs s s' (m ∷ ms) (m' ∷ ms') (tree o x k f) g h =
    let t : Terms = tree o x k no_terms in
    ap₂ ◌∷◌ (one-move t m m' g.0 h.0) (one-chain rs t t ms ms' f g.2 h.2)

-- a strict proof's terms
strict-rewriting : (rs : List Rule) (ws : List ℕ) (n : ℕ) (f : Terms) → Reads ws f → count f ≡ n → length ws ≤ word_limit → n ≤ term_limit
    → Strict rs f → Rewriting rs ws n
unfolding Strict count
strict-rewriting rs ws n no_terms r c w l h = absurd h
strict-rewriting rs ws n (tree o x k f) r c w l h =
    let t : Terms = tree o x k no_terms in
    let (ms, b) = chain-moves rs t f h.1 in
    record {
      first = record { op = o; mark = x; kids = k };
      rest = f;
      moves = ms;
      form = r;
      plain = unmarked-strip t (none_found t h.0);
      chain = b;
      counted = ap suc (chain_length rs t ms f b) ∙ c;
      few_words = w;
      few_terms = l;
    }

rewriting-proves : (rs : List Rule) (ws : List ℕ) (n : ℕ) → Rewriting rs ws n → Proves rs ws n
unfolding Strict count
rewriting-proves rs ws n x =
    let t = one x.first in
    let e : marks t ≡ 0 = ap marks (sym x.plain) ∙ strip-unmarked t in
    record {
      terms = put x.first x.rest;
      form = x.form;
      counted = ap suc (sym (chain_length rs t x.moves x.rest x.chain)) ∙ x.counted;
      few_words = x.few_words;
      few_terms = x.few_terms;
      strict = (no-mark is_mark refl t e, moves-chain rs t x.moves x.rest x.chain);
    }

-- An accepted proof of n terms is exactly a chain of n - 1 rewrites of the book.
pub rewriting : (rs : List Rule) (ws : List ℕ) (n : ℕ) → (verdict rs ws ≡ Ok n) ↔ Rewriting rs ws n
rewriting rs ws n = (
  λ h. let p = (demand-2 rs ws n).0 h in strict-rewriting rs ws n p.terms p.form p.counted p.few_words p.few_terms p.strict,
  λ x. (demand-2 rs ws n).1 (rewriting-proves rs ws n x),
)

-- The words tell which: two chains of the same words have the same moves.
pub one-rewriting : (rs : List Rule) (ws : List ℕ) (n : ℕ) (x : Rewriting rs ws n) (y : Rewriting rs ws n) → x.moves ≡ y.moves
one-rewriting rs ws n x y =
    let e = reads-once ws (put x.first x.rest) (put y.first y.rest) x.form y.form in
    let r : y.rest ≡ x.rest = cc in
    one-chain rs (one x.first) (one y.first) x.moves y.moves x.rest x.chain
    (subst (λ (f : Terms). ChainBy rs (one y.first) y.moves f) r y.chain)
