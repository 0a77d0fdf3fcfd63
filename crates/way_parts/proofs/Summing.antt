-- Totals over a list: compared member by member, over lists put together, and by how often each number stands in the list.
use mathlib.Core.Path.{◌≡◌, refl, sym, ap, ◌∙◌}
use mathlib.Core.Logic.{inl, inr}
use mathlib.Core.List.{List, [], ◌∷◌, map, flatten}
use Prim.Native.Nat.{ℕ, zero, suc, ◌+◌, ◌*◌, ◌≤◌, ◌<◌}
use native.Mathlib.Omega.{arith}
use native.Mathlib.Nat.{mul-add}
use native.Mathlib.Decide.{ℕ_discrete}
use Rattle.laws.specs.Members.{◌∈◌}
use Rattle.laws.specs.Within.{from, from_member}
use Rattle.laws.specs.Totals.{total, total_of, total_equal, total_append, total_add, total_none}
use Rattle.way_theory.specs.Ways.{times}
use Rattle.way_theory.specs.WayFlow.{one_if_same}
use Rattle.way_theory.proofs.OneIfSame.{same_one, other_none}

-- at least as much everywhere, and more at b
pub total_less : (φ χ : ℕ → ℕ) (l : List ℕ) (b : ℕ) → ((a : ℕ) → a ∈ l → φ a ≤ χ a) → b ∈ l → φ b < χ b → total_of φ l < total_of χ l
total_less φ χ [] b h m s = absurd m
total_less φ χ (a ∷ l) b h (inl q) s =
    let k = least φ χ l (λ c n. h c (inr n)) in
    let e : φ a < χ a = rw q at s in
    omega arith
  where
    least : (φ χ : ℕ → ℕ) (l : List ℕ) → ((a : ℕ) → a ∈ l → φ a ≤ χ a) → total_of φ l ≤ total_of χ l
    least φ χ [] h = omega arith
    least φ χ (a ∷ l) h = let k = least φ χ l (λ b m. h b (inr m)) in let e = h a (inl refl) in omega arith
total_less φ χ (a ∷ l) b h (inr m) s = let k = total_less φ χ l b (λ c n. h c (inr n)) m s in let e = h a (inl refl) in omega arith

-- over lists put together
pub total_flatten : (φ : ℕ → ℕ) (ls : List (List ℕ)) → total_of φ (flatten ls) ≡ total (map (λ l. total_of φ l) ls)
unfolding flatten
total_flatten φ [] = refl
total_flatten φ (l ∷ ls) = total_append φ l (flatten ls) ∙ ap (λ n. total_of φ l + n) (total_flatten φ ls)

-- by how often each of the numbers from s to s + n − 1 stands in the list
one_total : (φ : ℕ → ℕ) (a n s : ℕ) → s ≤ a → a < s + n → total_of (λ j. φ j * one_if_same a j) (from n s) ≡ φ a
one_total φ a zero s h k = absurd (omega arith)
one_total φ a (suc n) s h k = step (ℕ_discrete a s) (λ b. one_total φ a n (suc s) b (omega arith))
  where
    miss : (j : ℕ) → ¬ (a ≡ j) → φ j * one_if_same a j ≡ 0
    miss j q = rw (other_none a j q) (omega arith)

    step : Dec (a ≡ s) → (suc s ≤ a → total_of (λ j. φ j * one_if_same a j) (from n (suc s)) ≡ φ a)
        → φ s * one_if_same a s + total_of (λ j. φ j * one_if_same a j) (from n (suc s)) ≡ φ a
    step (yes e) deep =
        let u : φ s * one_if_same a s ≡ φ a = rw (same_one a s e, e) (omega arith) in
        let v = total_none (λ j. φ j * one_if_same a j) (from n (suc s)) (λ j m. miss j (λ q. (let b = from_member n (suc s) j m in omega arith))) in
        omega arith
    step (no e) deep = let u = miss s e in let v = deep (omega arith) in omega arith

pub total_by_times : (φ : ℕ → ℕ) (n s : ℕ) (l : List ℕ) → ((a : ℕ) → a ∈ l → (s ≤ a) × (a < s + n)) → total_of φ l ≡ total_of (λ j. φ j * times j l) (from n s)
total_by_times φ n s [] h = sym (total_none (λ j. φ j * 0) (from n s) (λ a m. omega arith))
total_by_times φ n s (a ∷ l) h =
    let deep = total_by_times φ n s l (λ b m. h b (inr m)) in
    let here = one_total φ a n s (h a (inl refl)).0 (h a (inl refl)).1 in
    let both = total_add (λ j. φ j * one_if_same a j) (λ j. φ j * times j l) (from n s) in
    let spread = total_equal (λ j. φ j * (one_if_same a j + times j l)) (λ j. φ j * one_if_same a j + φ j * times j l) (from n s) (λ j m. mul-add (φ j) (one_if_same a j) (times j l)) in
    omega arith
