-- The n values g 0, g 1, ..
use Rattle.std.specs.Prelude.{◌≡◌, refl, List, [], ◌∷◌, ℕ, zero, suc, ◌<◌, length, get_or, replicate}
use Rattle.std.proofs.Common.{ap, arith}

unfoldable pub tabulate : {A : Type 0} → ℕ → (ℕ → A) → List A
tabulate zero g = []
tabulate (suc n) g = g 0 ∷ tabulate n (λ k. g (suc k))

pub tabulate_length : {A : Type 0} (n : ℕ) (g : ℕ → A) → length (tabulate n g) ≡ n
unfolding tabulate
tabulate_length zero g = refl
tabulate_length (suc n) g = ap suc (tabulate_length n (λ k. g (suc k)))

pub tabulate_at : {A : Type 0} (n : ℕ) (g : ℕ → A) (d : A) (k : ℕ) → k < n → get_or (tabulate n g) k d ≡ g k
unfolding tabulate
tabulate_at zero g d k h = absurd (omega arith)
tabulate_at (suc n) g d zero h = refl
tabulate_at (suc n) g d (suc k) h = tabulate_at n (λ k. g (suc k)) d k (omega arith)

pub tabulate_same : {A : Type 0} (n : ℕ) (g : ℕ → A) (d : A) → ((k : ℕ) → g k ≡ d) → tabulate n g ≡ replicate n d
unfolding tabulate
tabulate_same zero g d h = refl
tabulate_same (suc n) g d h = let e = tabulate_same n (λ k. g (suc k)) d (λ k. h (suc k)) in let f = h 0 in cc
