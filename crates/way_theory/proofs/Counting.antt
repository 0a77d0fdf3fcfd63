-- Counting the predecessors of a way: each place holds 0 or one entry, so as many entries are nobody's predecessor as open a part.
use mathlib.Core.Path.{◌≡◌, refl}
use mathlib.Core.List.{List, [], ◌∷◌}
use Prim.Native.Nat.{ℕ, zero, suc, ◌+◌, ◌≤◌, ◌<◌}
use native.Mathlib.Omega.{arith}
use native.Mathlib.Decide.{ℕ_discrete}
use lib.ListN.{length}
use Rattle.laws.specs.Members.{Every}
use Rattle.laws.specs.Within.{from, from_member}
use Rattle.laws.specs.Totals.{total_of, total_add, total_none}
use Rattle.way_theory.specs.Ways.{times}
use Rattle.way_theory.specs.WayFlow.{one_if_same}
use Rattle.way_theory.proofs.OneIfSame.{same_one, other_none}

pub total_same : (p n s : ℕ) → s ≤ p → p < s + n → total_of (one_if_same p) (from n s) ≡ 1
total_same p zero s h k = absurd (omega arith)
total_same p (suc n) s h k = step (ℕ_discrete p s) (λ b. total_same p n (suc s) b (omega arith))
  where
    step : Dec (p ≡ s) → (suc s ≤ p → total_of (one_if_same p) (from n (suc s)) ≡ 1) → one_if_same p s + total_of (one_if_same p) (from n (suc s)) ≡ 1
    step (yes e) deep =
        let u = same_one p s e in
        let v = total_none (one_if_same p) (from n (suc s)) (λ a m. (let b = from_member n (suc s) a m in other_none p a (λ z. omega arith))) in omega arith
    step (no e) deep = let u = other_none p s e in let v = deep (omega arith) in omega arith

-- each place of a way holds 0 or one entry
pub total_count : (n : ℕ) (w : List ℕ) → Every (λ p. p ≤ n) w → total_of (λ i. times i w) (from n 1) + times 0 w ≡ length w
total_count n [] h = let u = total_none (λ i. 0) (from n 1) (λ a m. refl) in omega arith
total_count n (p ∷ w) h = step (ℕ_discrete p 0) (total_count n w h.1) (total_add (one_if_same p) (λ i. times i w) (from n 1))
  where
    step : Dec (p ≡ 0) → total_of (λ i. times i w) (from n 1) + times 0 w ≡ length w → total_of (λ i. one_if_same p i + times i w) (from n 1) ≡ total_of (one_if_same p) (from n 1) + total_of (λ i. times i w) (from n 1)
        → total_of (λ i. one_if_same p i + times i w) (from n 1) + (one_if_same p 0 + times 0 w) ≡ suc (length w)
    step (yes e) deep both =
        let u = same_one p 0 e in
        let v = total_none (one_if_same p) (from n 1) (λ a m. (let b = from_member n 1 a m in other_none p a (λ z. omega arith))) in omega arith
    step (no e) deep both = let u = other_none p 0 e in let v = total_same p n 1 (omega arith) (let b = h.0 in omega arith) in omega arith
