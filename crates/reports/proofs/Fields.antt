-- The fields of a report, as they are put one after another.
use Prim.Native.Nat.{ℕ, ◌≤◌, ◌<◌, ◌^◌}
use mathlib.Core.List.{List, ◌++◌, append_assoc}
use mathlib.Core.Path.{◌≡◌}
use native.Mathlib.Omega.{arith}
use lib.ListN.{length}
use Rattle.model.specs.Text.{bytes, digits}
use Rattle.letters.proofs.Digits.{few-digits}
use Rattle.reports.specs.Reports.{number_room, one_field, two_fields}

pub number_fits : (n : ℕ) → n < 2 ^ 64 → length (digits n) ≤ number_room
number_fits n h = few-digits 19 n (omega arith)

pub one-grown : (a : List ℕ) (n : ℕ) → (a ++ digits n) ++ bytes "\n" ≡ one_field a n
unfolding one_field
one-grown a n = simp append_assoc

pub two-grown : (a : List ℕ) (n : ℕ) (b : List ℕ) (m : ℕ) → ((a ++ digits n) ++ (b ++ digits m)) ++ bytes "\n" ≡ two_fields a n b m
unfolding two_fields
two-grown a n b m = simp append_assoc
