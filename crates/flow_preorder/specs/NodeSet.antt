-- A set of nodes below 64 as the bits of a number.
use Rattle.std.specs.Prelude.{Bool, ℕ, ◌/◌, ◌%◌, ◌^◌, eqb}

abbrev pub has : ℕ → ℕ → Bool
has s v = eqb (s / 2 ^ v % 2) 1
