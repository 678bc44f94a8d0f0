-- THE DECISION IS EXACT: words counted from held numbers of nodes are more than an area, or than the limit, exactly where those that the
-- proof needs are; and where they are not more than the limit, they are those.
use Prim.Native.Nat.{ℕ, ◌≤◌, ◌<◌}
use mathlib.Core.Path.{◌≡◌, sym, ap, ◌∙◌}
use mathlib.Core.Bool.{◌||◌, or-true}
use mathlib.Core.List.{List}
use native.Mathlib.Decide.{dec_le}
use native.Mathlib.Omega.{arith}
use borrow.Author.Tests.{lt-ltb}
use lib.Dec.{ltb}
use Rattle.model.specs.declared.Connection.{Connection}
use Rattle.model.specs.Limits.{word_limit}
use Rattle.model.specs.Node.{Node}
use Rattle.model.specs.Flat.{needed}
use Rattle.needs.specs.Needs.{held_words}

module _ (ns : List Node) (cs : List Connection) (l r : ℕ) where
  pub held-exact : held_words ns cs l r ≤ word_limit → held_words ns cs l r ≡ needed ns cs l r
  unfolding needed
  held-exact h = omega arith

  few-exact : needed ns cs l r ≤ word_limit → held_words ns cs l r ≡ needed ns cs l r
  unfolding needed
  few-exact h = omega arith

  held-many : word_limit < needed ns cs l r → word_limit < held_words ns cs l r
  unfolding needed
  held-many h = omega arith

  -- an area of at most the limit, the limit itself among them
  pub held-over : (area : ℕ) → area ≤ word_limit → ltb area (held_words ns cs l r) ≡ ltb area (needed ns cs l r)
  held-over area h =
      elim (dec_le (needed ns cs l r) word_limit) [
        | yes p ↦ ap (ltb area) (few-exact p)
        | no p ↦
            lt-ltb area (held_words ns cs l r) (omega (arith, held-many (omega arith))) ∙ sym (lt-ltb area (needed ns cs l r) (omega arith))
      ]

  -- 11 for any area: "needed words exceed the area, or 1,048,576"
  pub held-refused : (area : ℕ) →
      (ltb area (held_words ns cs l r) || ltb word_limit (held_words ns cs l r)) ≡ (ltb area (needed ns cs l r) || ltb word_limit (needed ns cs l r))
  held-refused area =
      elim (dec_le (needed ns cs l r) word_limit) [
        | yes p ↦ ap (λ (w : ℕ). ltb area w || ltb word_limit w) (few-exact p)
        | no p ↦
            let q : word_limit < needed ns cs l r = omega arith in
            rw (lt-ltb word_limit (held_words ns cs l r) (held-many q), lt-ltb word_limit (needed ns cs l r) q)
            (or-true (ltb area (held_words ns cs l r)) ∙ sym (or-true (ltb area (needed ns cs l r))))
      ]
