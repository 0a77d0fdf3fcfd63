-- Numbers in base ten.
use Rattle.std.specs.Prelude.{true, false, List, [], ◌∷◌, ◌++◌, ℕ, zero, suc, ◌+◌, ◌/◌, ◌%◌, ltb}

-- the last k digits of n, or all if they are fewer: those of n / 10, then the last one; 48 is the byte of 0
unfoldable pub digits : ℕ → ℕ → List ℕ
digits zero n = []
digits (suc k) n = elim (ltb n 10) [ true ↦ (48 + n) ∷ [] | false ↦ digits k (n / 10) ++ ((48 + n % 10) ∷ []) ]

-- n in base ten without a needless leading 0; no number has more digits than suc n
unfoldable pub decimal : ℕ → List ℕ
decimal n = digits (suc n) n
