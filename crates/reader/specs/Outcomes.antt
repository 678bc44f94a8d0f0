-- What runs come to, computed: inputs with the status that they must give.
use Rattle.std.specs.Prelude.{ℕ, List, [], ◌∷◌, map, ◌≡◌, refl}
use Prim.Native.String.{String, ◌++◌}
use Rattle.model.specs.Text.{bytes}
use Rattle.reader.specs.Status.{outcome}

record Run : Type 0 where
  pub input : String
  pub expected : ℕ

abbrev leaf : String
leaf = "01000100\n"

abbrev term : String
term = "05000100000000\n"

abbrev runs : List Run
runs =
    -- nothing, and a table alone
    record { input = ""; expected = 0 }
    ∷ record { input = leaf; expected = 0 }
    -- a query that is answered, one that is refused, and both
    ∷ record { input = leaf ++ "0400000000\n"; expected = 0 }
    ∷ record { input = leaf ++ "0400000001\n"; expected = 1 }
    ∷ record { input = leaf ++ "0400000001\n" ++ "0400000000\n"; expected = 1 }
    -- a proof that is accepted, one that is rejected, and both
    ∷ record { input = term ++ "06\n"; expected = 0 }
    ∷ record { input = term ++ term ++ "06\n"; expected = 1 }
    ∷ record { input = term ++ term ++ "06\n" ++ term ++ "06\n"; expected = 1 }
    -- a line that is refused, also behind a query that was; a line without its line feed; an end with terms still open
    ∷ record { input = "zz\n"; expected = 2 }
    ∷ record { input = leaf ++ "0400000001\n" ++ "zz\n"; expected = 2 }
    ∷ record { input = "01000100"; expected = 2 }
    ∷ record { input = term; expected = 2 }
    ∷ []

claim : map (λ r. outcome (bytes r.input)) runs ≡ map (λ r. r.expected) runs
unfolding outcome bytes
claim = refl
