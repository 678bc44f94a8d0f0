-- The later terms between two joined nodes have the size that needed words counts for them.
use Prim.Native.Nat.{ℕ, ◌+◌}
use mathlib.Core.Path.{◌≡◌, refl, ap₂, ◌∙◌}
use mathlib.Core.Bool.{Bool, true, false}
use mathlib.Core.List.{List}
use Rattle.model.specs.declared.Connection.{Connection}
use Rattle.model.specs.declared.Justification.TheVariants.{Congruence}
use Rattle.model.specs.Term.{Terms, no_terms, join, size}
use Rattle.model.specs.Node.{Node}
use Rattle.model.specs.Forest.{cur, nxt, dist}
use Rattle.model.specs.Flat.{appended, later_step, later, appended_size, later_size_step, later_size}
use Rattle.paths.specs.Hangs.{AcceptedConnections}
use Rattle.paths.proofs.Accept.{accepted-loose}
use Rattle.terms.proofs.Rows.{size-join}
use Rattle.flat.specs.Nodes.{AcceptedNodes}
use Rattle.flat.proofs.Runs.{Known}
use Rattle.flat.proofs.Twins.{Twins, twins, twins-back}
use Rattle.flat.proofs.Appended.{appended-size}
use Rattle.flat.proofs.Walked.{walked}
use Rattle.flat.proofs.Way.{way}

-- terms of w nodes, whichever nodes they lead between
abbrev Sized : ℕ → ℕ → Terms → ℕ → Type 0
Sized l r f w = size f ≡ w

sized-none : (n : ℕ) → Sized n n no_terms 0
unfolding size
sized-none n = refl

sized-two : (l m r : ℕ) (f g : Terms) (v w : ℕ) → Sized l m f v → Sized m r g w → Sized l r (join f g) (v + w)
sized-two l m r f g v w p q = size-join f g ∙ ap₂ ◌+◌ p q

module _ (ns : List Node) (nodes : AcceptedNodes ns) where
  own : (c : Connection) (cs : List Connection) → AcceptedConnections ns cs →
      Known cs (λ x y. size (later ns cs x y) ≡ later_size ns cs x y) →
      (up : Bool) (a b : ℕ) → (c.why ≡ Congruence → Twins ns cs a b) →
      size (appended ns (later ns cs) c.why up a b) ≡ appended_size ns (dist ns cs) (later_size ns cs) c.why a b
  own c cs a known =
      appended-size ns cs (later ns cs) (dist ns cs) (later_size ns cs) (λ x y j. (way ns nodes cs a x y j).counted) known c.why

  pub later-size : (cs : List Connection) → AcceptedConnections ns cs → Known cs (λ l r. size (later ns cs l r) ≡ later_size ns cs l r)
  unfolding later later_size
  later-size =
      walked no_terms join (later_step ns) 0 ◌+◌ (later_size_step ns) Sized sized-none sized-two
      (AcceptedConnections ns) (λ c cs a. a.1) (accepted-loose ns)
      (λ c cs a known. own c cs a.1 known true (cur c) (nxt c) (twins a))
      (λ c cs a known. own c cs a.1 known false (nxt c) (cur c) (twins-back a))
