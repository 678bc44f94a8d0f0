-- Words or bytes in a lent area: written over others, and a part of them.
use Rattle.std.specs.Prelude.{ℕ, ◌+◌, List, ◌++◌, length, take, drop}

-- words written over others from a place on: what stood before them and behind them stays
unfoldable pub splice : List ℕ → ℕ → List ℕ → List ℕ
splice old at ws = take at old ++ (ws ++ drop (at + length ws) old)

-- n words from a place on
unfoldable pub part : List ℕ → ℕ → ℕ → List ℕ
part ws at n = take n (drop at ws)
