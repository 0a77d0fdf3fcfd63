-- Numbers written to a list of bytes: how many there are places for.
use Rattle.std.specs.Prelude.{List, ℕ, ◌/◌, min, length}

-- of m numbers, as many as a list of bytes has places for
abbrev pub fitting : ℕ → List ℕ → ℕ
fitting m out = min m (length out / 4)
