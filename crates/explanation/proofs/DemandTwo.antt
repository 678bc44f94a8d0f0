-- Demand 2 at the entry: over accepted tables the checker accepts n terms exactly when the words are the encoding of a strict
-- proof of n terms within the limits; and, in the words of Baader and Nipkow, exactly when they are a chain of n - 1 rewrites.
use Prim.Native.Nat.{ℕ}
use mathlib.Core.List.{List}
use mathlib.Core.Logic.{◌↔◌}
use mathlib.Core.Path.{◌≡◌}
use Rattle.std.proofs.Common.{Ok}
use Rattle.model.specs.Judged.{good}
use Rattle.model.specs.Verdict.{Proves}
use Rattle.model.specs.Query.{Tables}
use Rattle.model.specs.Tables.{judge_tables, verdict_by}
use Rattle.model.specs.Book.{Rewriting}
use Rattle.checker.proofs.DemandTwo.{demand-2 as by-checker}
use Rattle.checker.proofs.Rewritings.{rewriting}

pub demand-2 : (nws rws cws : List ℕ) (t : Tables) → judge_tables nws rws cws ≡ good t
    → (ws : List ℕ) (n : ℕ) → (verdict_by (judge_tables nws rws cws) ws ≡ Ok n) ↔ Proves t.rules ws n
demand-2 nws rws cws t e ws n = rw e (by-checker t.rules ws n)

pub demand-2-book : (nws rws cws : List ℕ) (t : Tables) → judge_tables nws rws cws ≡ good t
    → (ws : List ℕ) (n : ℕ) → (verdict_by (judge_tables nws rws cws) ws ≡ Ok n) ↔ Rewriting t.rules ws n
demand-2-book nws rws cws t e ws n = rw e (rewriting t.rules ws n)
