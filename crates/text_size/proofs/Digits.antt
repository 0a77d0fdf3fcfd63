-- How many digits a number has, by the powers of ten that it is not below.
use Rattle.std.proofs.Common.{◌≡◌, refl, ap, ℕ, max, zero, suc, ◌+◌, ◌*◌, ◌/◌, ◌^◌, ◌≤◌, ◌<◌, [], ◌∷◌, Bool, true, false, cond, leb, length, count_by, arith}
use borrow.Author.Tests.{le-leb, leb-true, leb-false}
use native.Mathlib.Nat.{pow-suc}
use Rattle.text_write.specs.Decimal.{decimal}
use Rattle.text_write.proofs.Decimal.{decimal_some, decimal_longer, decimal_size}

power_some : (k : ℕ) → 1 ≤ 10 ^ k
power_some zero = omega arith
power_some (suc k) = rw pow-suc (omega (arith, power_some k))

-- a number that is at least a power of ten has more digits
decimal_least : (k n : ℕ) → 10 ^ k ≤ n → suc k ≤ length (decimal n)
decimal_least zero n h = decimal_some n
decimal_least (suc k) n h =
    let g : 10 ^ k * 10 ≤ n = rw pow-suc at h in
    omega (arith, decimal_longer n (omega (arith, power_some k)), decimal_least k (n / 10) (omega arith))

-- a number between two powers of ten; 0 has a digit as 1 has
pub digits_between : (k n : ℕ) → 10 ^ k ≤ max n 1 → max n 1 < 10 * 10 ^ k → k + 1 ≡ length (decimal n)
digits_between zero n h g = omega (arith, decimal_size 0 n (omega arith), decimal_some n)
digits_between (suc k) n h g =
    let l : 10 ^ k * 10 ≤ max n 1 = rw pow-suc at h in
    let p : 1 ≤ 10 ^ k = power_some k in
    let e : n ≡ max n 1 = omega arith in
    let f : 10 ^ suc (suc k) ≡ 10 ^ suc k * 10 = pow-suc 10 (suc k) in
    omega (arith, decimal_least (suc k) n (omega arith), decimal_size (suc k) n (omega arith))

-- how many of the first k powers are at most n
abbrev pub powers : ℕ → ℕ → ℕ
powers zero n = 0
powers (suc k) n = powers k n + cond (leb (10 ^ suc k) n) 1 0

powers_all : (k n : ℕ) → 10 ^ k ≤ n → powers k n ≡ k
powers_all zero n h = refl
powers_all (suc k) n h =
    let g : 10 ^ k * 10 ≤ n = rw pow-suc at h in
    omega (arith, powers_all k n (omega arith), ap {B = ℕ} (λ b. cond b 1 0) (le-leb (10 ^ suc k) n h))

pub digits_are : (k n : ℕ) → n < 10 ^ suc k → length (decimal n) ≡ suc (powers k n)
digits_are zero n h = omega (arith, digits_between 0 n (omega arith) (omega arith))
digits_are (suc k) n h = go (leb (10 ^ suc k) n) refl (λ l. digits_are k n l)
  where
    go : (b : Bool) → leb (10 ^ suc k) n ≡ b → (n < 10 ^ suc k → length (decimal n) ≡ suc (powers k n)) → length (decimal n) ≡ suc (powers k n + cond b 1 0)
    go true e f =
        let l = leb-true (10 ^ suc k) n e in
        let next : 10 ^ suc (suc k) ≡ 10 ^ suc k * 10 = pow-suc 10 (suc k) in
        omega (arith, digits_between (suc k) n (omega (arith, l)) (omega (arith, h, next)), powers_all (suc k) n l, ap {B = ℕ} (λ b. cond b 1 0) e)
    go false e f = omega (arith, f (leb-false (10 ^ suc k) n e))

-- counted in the list of the powers that a number of 32 bits may reach
pub digits_counted : (n : ℕ) → n < 10 ^ 10 → 1 + count_by (λ power. leb power n) (10 ∷ 100 ∷ 1000 ∷ 10000 ∷ 100000 ∷ 1000000 ∷ 10000000 ∷ 100000000 ∷ 1000000000 ∷ []) ≡ length (decimal n)
digits_counted n h = omega (arith, digits_are 9 n h)
