-- A climb takes no more connections than there are.
-- The depth of one node is not bounded by itself in an induction: what is bounded is the sum over nodes of which no two are joined.
use Prim.Native.Nat.{ℕ, suc, ◌+◌, ◌≤◌}
use mathlib.Core.Path.{◌≡◌, refl, sym, ◌∙◌}
use mathlib.Core.List.{List, [], ◌∷◌}
use mathlib.Core.Logic.{◌⊎◌, inl, inr, ⊎_elim}
use native.Mathlib.Omega.{arith}
use native.Mathlib.Decide.{ℕ_discrete}
use lib.ListN.{length}
use Rattle.model.specs.declared.Connection.{Connection}
use Rattle.model.specs.Forest.{cur, nxt, root}
use Rattle.paths.specs.Hangs.{depth, Hangs, Forest}
use Rattle.paths.proofs.Laws.{root-old, root-hung, root_kept, depth-hung, depth-kept}

abbrev Away : List Connection → ℕ → List ℕ → Type 0
Away cs n [] = Unit {0}
Away cs n (m ∷ ms) = (root cs n ≡ root cs m → ⊥) × Away cs n ms

-- nodes of which no two are joined
abbrev Apart : List Connection → List ℕ → Type 0
Apart cs [] = Unit {0}
Apart cs (n ∷ ns) = Away cs n ns × Apart cs ns

total : List Connection → List ℕ → ℕ
total cs [] = 0
total cs (n ∷ ns) = depth cs n + total cs ns

away-old : (c : Connection) (cs : List Connection) (n : ℕ) (ms : List ℕ) → Away (c ∷ cs) n ms → Away cs n ms
away-old c cs n [] a = tt
away-old c cs n (m ∷ ms) a = (λ q. a.0 (root-old c cs n m q), away-old c cs n ms a.1)

apart-old : (c : Connection) (cs : List Connection) (ns : List ℕ) → Apart (c ∷ cs) ns → Apart cs ns
apart-old c cs [] a = tt
apart-old c cs (n ∷ ns) a = (away-old c cs n ns a.0, apart-old c cs ns a.1)

module _ (c : Connection) (cs : List Connection) (h : Hangs cs c) where
  -- beside a hung node none other is hung, nor joined to the next
  rest-kept : (n : ℕ) (ms : List ℕ) → root cs n ≡ root cs (cur c) → Away (c ∷ cs) n ms → total (c ∷ cs) ms ≡ total cs ms
  unfolding total
  rest-kept n [] p a = refl
  rest-kept n (m ∷ ms) p a =
      omega (arith, rest-kept n ms p a.1, depth-kept c cs m (λ q. a.0 (root-hung c cs n p ∙ sym (root-hung c cs m q))))

  next-away : (n : ℕ) (ms : List ℕ) → root cs n ≡ root cs (cur c) → Away (c ∷ cs) n ms → Away cs (nxt c) ms
  next-away n [] p a = tt
  next-away n (m ∷ ms) p a =
      (λ q. a.0 (root-hung c cs n p ∙ q ∙ sym (root_kept c cs m (λ s. h.apart (sym s ∙ sym q)))), next-away n ms p a.1)

  record Grown (ns : List ℕ) : Type 0 where
    sum : total (c ∷ cs) ns ≡ suc (depth cs (nxt c) + total cs ns)
    away : Away cs (nxt c) ns
    other : (x : ℕ) → Away (c ∷ cs) x ns → root cs x ≡ root cs (nxt c) → ⊥

  grows : (ns : List ℕ) → Apart (c ∷ cs) ns → (total (c ∷ cs) ns ≡ total cs ns) ⊎ Grown ns
  unfolding total
  grows [] a = inl refl
  grows (n ∷ ns) a =
      elim (ℕ_discrete (root cs n) (root cs (cur c))) [
        | yes p ↦ inr (record {
          sum = omega (arith, depth-hung c cs n p, rest-kept n ns p a.0);
          away = (λ q. h.apart (sym p ∙ sym q), next-away n ns p a.0);
          other = λ x b q. b.0 (root_kept c cs x (λ s. h.apart (sym s ∙ q)) ∙ q ∙ sym (root-hung c cs n p));
        })
        | no p ↦ ⊎_elim
            (λ q. inl (omega (arith, depth-kept c cs n p)))
            (λ g. inr (record {
              sum = omega (arith, depth-kept c cs n p, g.sum);
              away = (λ q. g.other n a.0 (sym q), g.away);
              other = λ x b q. g.other x b.1 q;
            }))
            (grows ns a.1)
      ]

total-le : (cs : List Connection) (ns : List ℕ) → Forest cs → Apart cs ns → total cs ns ≤ length cs
unfolding total depth
total-le [] [] f a = omega arith
total-le [] (n ∷ ns) f a = omega (arith, total-le [] ns f a.1)
total-le (c ∷ cs) ns f a =
    ⊎_elim
    (λ q. omega (arith, total-le cs ns f.1 (apart-old c cs ns a)))
    (λ g. omega (arith, g.sum, total-le cs (nxt c ∷ ns) f.1 (g.away, apart-old c cs ns a)))
    (grows c cs f.0 ns a)

pub depth_le : (cs : List Connection) (n : ℕ) → Forest cs → depth cs n ≤ length cs
unfolding total
depth_le cs n f = omega (arith, total-le cs (n ∷ []) f (tt, tt))
