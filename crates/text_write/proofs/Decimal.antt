-- The digits of a number: those of its tenth part, then the last one; and how many they are at most.
use mathlib.Core.Path.{◌≡◌, refl, ap, ◌∙◌}
use mathlib.Core.Bool.{Bool, true, false}
use mathlib.Core.List.{List, [], ◌∷◌, ◌++◌}
use Prim.Native.Nat.{ℕ, zero, suc, ◌+◌, ◌/◌, ◌%◌, ◌^◌, ◌≤◌, ◌<◌}
use native.Mathlib.Omega.{arith}
use native.Mathlib.Nat.{pow-suc}
use lib.ListN.{length, length-append}
use lib.Dec.{ltb}
use borrow.Author.Tests.{lt-ltb, le-ltb, ltb-true, ltb-false}
use Rattle.laws.specs.Members.{Every, every_append}
use Rattle.text_read.specs.Heads.{bytes, line_end}
use Rattle.text_write.specs.Decimal.{digits, decimal}

pub decimal_one : (n : ℕ) → n < 10 → decimal n ≡ (48 + n) ∷ []
unfolding decimal digits
decimal_one n h = rw (digits, lt-ltb n 10 h)

-- more places than a number has digits make no difference
digits_enough : (k j n : ℕ) → n < k → n < j → digits k n ≡ digits j n
unfolding digits
digits_enough zero j n h g = absurd (omega arith)
digits_enough (suc k) zero n h g = absurd (omega arith)
digits_enough (suc k) (suc j) n h g = go (ltb n 10) refl (λ e. digits_enough k j (n / 10) (omega (arith, ltb-false n 10 e)) (omega (arith, ltb-false n 10 e)))
  where
    go : (x : Bool) → ltb n 10 ≡ x → (ltb n 10 ≡ false → digits k (n / 10) ≡ digits j (n / 10)) → digits (suc k) n ≡ digits (suc j) n
    go true e f = rw (digits, e)
    go false e f = rw (digits, e) (ap (λ (l : List ℕ). l ++ ((48 + n % 10) ∷ [])) (f e))

pub decimal_more : (n : ℕ) → 10 ≤ n → decimal n ≡ decimal (n / 10) ++ ((48 + n % 10) ∷ [])
unfolding decimal digits
decimal_more n h = rw (digits, le-ltb n 10 h) (ap (λ (l : List ℕ). l ++ ((48 + n % 10) ∷ [])) (digits_enough n (suc (n / 10)) (n / 10) (omega arith) (omega arith)))

pub decimal_longer : (n : ℕ) → 10 ≤ n → length (decimal n) ≡ length (decimal (n / 10)) + 1
decimal_longer n h = ap length (decimal_more n h) ∙ length-append (decimal (n / 10)) _

-- a number below a power of ten has no more digits
pub decimal_size : (k n : ℕ) → n < 10 ^ suc k → length (decimal n) ≤ suc k
decimal_size zero n h = omega (arith, ap length (decimal_one n h))
decimal_size (suc k) n h = go (ltb n 10) refl (λ g. decimal_size k (n / 10) g)
  where
    go : (x : Bool) → ltb n 10 ≡ x → (n / 10 < 10 ^ suc k → length (decimal (n / 10)) ≤ suc k) → length (decimal n) ≤ suc (suc k)
    go true e f = omega (arith, ap length (decimal_one n (ltb-true n 10 e)))
    go false e f = omega (arith, decimal_longer n (ltb-false n 10 e), f (omega (arith, rw pow-suc at h)))

-- a number has a digit, and the bytes of its digits are from 48 on
pub decimal_some : (n : ℕ) → 1 ≤ length (decimal n)
decimal_some n = go (ltb n 10) refl
  where
    go : (x : Bool) → ltb n 10 ≡ x → 1 ≤ length (decimal n)
    go true e = omega (arith, ap length (decimal_one n (ltb-true n 10 e)))
    go false e = omega (arith, decimal_longer n (ltb-false n 10 e))

digits_bytes : (k n : ℕ) → Every (λ c. 48 ≤ c) (digits k n)
unfolding digits
digits_bytes zero n = tt
digits_bytes (suc k) n = go (ltb n 10) (digits_bytes k (n / 10))
  where
    go : (x : Bool) → Every (λ c. 48 ≤ c) (digits k (n / 10)) → Every (λ c. 48 ≤ c) (elim x [ true ↦ (48 + n) ∷ [] | false ↦ digits k (n / 10) ++ ((48 + n % 10) ∷ []) ])
    go true e = (omega arith, tt)
    go false e = every_append (λ c. 48 ≤ c) (digits k (n / 10)) ((48 + n % 10) ∷ []) e (omega arith, tt)

pub decimal_bytes : (n : ℕ) → Every (λ c. 48 ≤ c) (decimal n)
unfolding decimal
decimal_bytes n = digits_bytes (suc n) n

-- a line with one number
pub row_size : (head : List ℕ) (n k : ℕ) → n < 10 ^ suc k → length (head ++ decimal n ++ line_end) ≤ length head + suc k + 2
unfolding bytes
row_size head n k h = omega (arith, length-append (head ++ decimal n) line_end, length-append head (decimal n), decimal_size k n h)
