-- Demand 2. The strict checker's verdict accepts n terms exactly when the words are the encoding of a strict proof of n terms within the limits.
use Prim.Native.Nat.{ℕ}
use mathlib.Core.List.{List}
use mathlib.Core.Logic.{◌↔◌}
use mathlib.Core.Path.{◌≡◌}
use Rattle.std.specs.Prelude.{Ok}
use Rattle.model.specs.Rule.{Rule}
use Rattle.model.specs.Verdict.{verdict, Proves}
use Rattle.checker.proofs.Verdicts.{verdict-sound, verdict-complete}

pub demand-2 : (rs : List Rule) (ws : List ℕ) (n : ℕ) → (verdict rs ws ≡ Ok n) ↔ Proves rs ws n
demand-2 rs ws n = (verdict-sound rs ws n, verdict-complete rs ws n)
