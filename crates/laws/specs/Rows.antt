-- A row: one element for each of n numbers from s on.
use Rattle.std.specs.Prelude.{◌≡◌, refl, List, [], ◌∷◌, map, ℕ, zero, suc, ◌+◌, ◌<◌, length, get_or}
use Rattle.std.proofs.Common.{ap, ◌∙◌, arith}
use Rattle.std.proofs.Math.Nat.{suc_inj}
use Rattle.std.proofs.lemmas.List.{length-map}
use Rattle.laws.specs.Equality.{cons_same}
use Rattle.laws.specs.Within.{from}

pub from_length : (n s : ℕ) → length (from n s) ≡ n
from_length zero s = refl
from_length (suc n) s = ap suc (from_length n (suc s))

module _ {A : Type 0} (φ : ℕ → A) where
  pub row_length : (n s : ℕ) → length (map φ (from n s)) ≡ n
  row_length n s = length-map (from n s) φ ∙ from_length n s

  pub row_at : (n s k : ℕ) (d : A) → k < n → get_or (map φ (from n s)) k d ≡ φ (s + k)
  row_at zero s k d h = absurd (omega arith)
  row_at (suc n) s zero d h = ap φ (omega arith)
  row_at (suc n) s (suc k) d h = row_at n (suc s) k d (omega arith) ∙ ap φ (omega arith)

  pub row_is : (n s : ℕ) (y : List A) (d : A) → length y ≡ n → ((k : ℕ) → k < n → get_or y k d ≡ φ (s + k)) → y ≡ map φ (from n s)
  row_is zero s [] d l h = refl
  row_is zero s (a ∷ y) d l h = absurd (omega arith)
  row_is (suc n) s [] d l h = absurd (omega arith)
  row_is (suc n) s (a ∷ y) d l h =
      cons_same a (φ s) y (map φ (from n (suc s))) (h 0 (omega arith) ∙ ap φ (omega arith))
      (row_is n (suc s) y d (suc_inj l) (λ k b. h (suc k) (omega arith) ∙ ap φ (omega arith)))
