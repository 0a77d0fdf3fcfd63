-- How many predecessors of a way have two digits: those from 10 on stand once each, and of 28 entries 19 have such a number.
use mathlib.Core.Path.{◌≡◌, refl}
use mathlib.Core.Bool.{Bool, true, false}
use mathlib.Core.List.{List, [], ◌∷◌}
use Prim.Native.Nat.{ℕ, zero, suc, ◌+◌, ◌-◌, ◌≤◌, ◌<◌}
use native.Mathlib.Omega.{arith}
use lib.Dec.{leb}
use lib.ListN.{length}
use borrow.Author.Tests.{leb-true, leb-false, lt-leb}
use Rattle.laws.specs.Members.{Every, keep, keep_if, every_map}
use Rattle.book_form.specs.Book.{Book}
use Rattle.way_theory.specs.Follow.{size}
use Rattle.way_theory.specs.Ways.{times, IsWay}
use Rattle.way_theory.specs.WayFlow.{one_if_same}
use Rattle.way_theory.proofs.OneIfSame.{same_one}
use Rattle.way_theory.proofs.Laid.{joined_small}

none_from : (k : ℕ) (w : List ℕ) → Every (λ p. p < k) w → length (keep (leb k) w) ≡ 0
none_from k [] e = refl
none_from k (p ∷ w) e = rw (lt-leb k p e.0) (none_from k w e.1)

-- a number from k on is k, or a number from k + 1 on
first_or_later : (k : ℕ) (w : List ℕ) → length (keep (leb k) w) ≤ times k w + length (keep (leb (suc k)) w)
first_or_later k [] = omega arith
first_or_later k (p ∷ w) = go (leb k p) refl (leb (suc k) p) refl (first_or_later k w)
  where
    go : (a : Bool) → leb k p ≡ a → (b : Bool) → leb (suc k) p ≡ b → length (keep (leb k) w) ≤ times k w + length (keep (leb (suc k)) w)
        → length (keep_if a p (keep (leb k) w)) ≤ one_if_same p k + times k w + length (keep_if b p (keep (leb (suc k)) w))
    go false e false f h = omega arith
    go false e true f h = omega arith
    go true e true f h = omega arith
    go true e false f h = let u = same_one p k (omega (arith, leb-true k p e, leb-false (suc k) p f)) in omega arith

-- of numbers below k + m, of which none stands twice, m at most are from k on
once_each : (m k : ℕ) (w : List ℕ) → Every (λ p. p < k + m) w → ((i : ℕ) → k ≤ i → i < k + m → times i w ≤ 1) → length (keep (leb k) w) ≤ m
once_each zero k w e h = omega (arith, none_from k w (every_map (λ p. p < k + 0) (λ p. p < k) w (λ p g. omega arith) e))
once_each (suc m) k w e h =
    omega (
      arith,
      first_or_later k w,
      h k (omega arith) (omega arith),
      once_each m (suc k) w (every_map (λ p. p < k + suc m) (λ p. p < suc k + m) w (λ p g. omega arith) e) (λ i a b. h i (omega arith) (omega arith)),
    )

pub two_digits : (b : Book) (w : List ℕ) → size b ≤ 28 → IsWay b w → length (keep (leb 10) w) ≤ 19
two_digits b w few is =
    omega (
      arith,
      once_each (size b + 1 - 10) 10 w
          (every_map (λ p. p ≤ size b) (λ p. p < 10 + (size b + 1 - 10)) w (λ p g. omega arith) (joined_small b 1 w is.joined))
          (λ i a c. is.once i (omega arith) (omega arith)),
    )
