-- How often a number stands in lists put together, in what a test keeps, and in numbers in a row; and the place where it stands once.
use mathlib.Core.Path.{◌≡◌, refl, sym, ap, ◌∙◌}
use mathlib.Core.Bool.{Bool, true, false}
use mathlib.Core.List.{List, [], ◌∷◌, ◌++◌, map, flatten}
use Prim.Native.Nat.{ℕ, zero, suc, ◌+◌, ◌≤◌, ◌<◌}
use native.Mathlib.Omega.{arith}
use lib.ListN.{length, get_or}
use Rattle.laws.specs.Members.{keep, keep_if}
use Rattle.laws.specs.Within.{from}
use Rattle.laws.specs.Totals.{total, total_of, total_equal}
use Rattle.way_theory.specs.Ways.{times}
use Rattle.way_theory.specs.WayFlow.{one_if_same}
use Rattle.way_theory.proofs.OneIfSame.{same_one, other_none, same_iff}
use Rattle.way_theory.proofs.Counting.{total_same}

times_append : (j : ℕ) (l k : List ℕ) → times j (l ++ k) ≡ times j l + times j k
times_append j [] k = omega arith
times_append j (a ∷ l) k = let h = times_append j l k in omega arith

pub times_flatten : (j : ℕ) (ls : List (List ℕ)) → times j (flatten ls) ≡ total (map (λ l. times j l) ls)
unfolding flatten
times_flatten j [] = refl
times_flatten j (l ∷ ls) = times_append j l (flatten ls) ∙ ap (λ n. times j l + n) (times_flatten j ls)

pub total_times : (j : ℕ) (l : List ℕ) → total_of (λ i. one_if_same i j) l ≡ times j l
total_times j [] = refl
total_times j (a ∷ l) = ap (λ n. one_if_same a j + n) (total_times j l)

-- in what a test keeps
differ : (p : ℕ → Bool) (a j : ℕ) → p a ≡ true → p j ≡ false → ¬ (a ≡ j)
differ p a j e f q = let z : ◌≡◌ {A = ℕ} 0 1 = cc (ap p q) in omega arith

pub times_kept_no : (p : ℕ → Bool) (j : ℕ) (l : List ℕ) → p j ≡ false → times j (keep p l) ≡ 0
times_kept_no p j [] e = refl
times_kept_no p j (a ∷ l) e = go (p a) refl (times_kept_no p j l e)
  where
    go : (t : Bool) → p a ≡ t → times j (keep p l) ≡ 0 → times j (keep_if t a (keep p l)) ≡ 0
    go true q h = let u = other_none a j (differ p a j q e) in omega arith
    go false q h = h

pub times_kept_yes : (p : ℕ → Bool) (j : ℕ) (l : List ℕ) → p j ≡ true → times j (keep p l) ≡ times j l
times_kept_yes p j [] e = refl
times_kept_yes p j (a ∷ l) e = go (p a) refl (times_kept_yes p j l e)
  where
    go : (t : Bool) → p a ≡ t → times j (keep p l) ≡ times j l → times j (keep_if t a (keep p l)) ≡ one_if_same a j + times j l
    go true q h = omega arith
    go false q h = let u = other_none a j (λ r. differ p j a e q (sym r)) in omega arith

-- in numbers in a row
pub times_from : (n s j : ℕ) → s ≤ j → j < s + n → times j (from n s) ≡ 1
times_from n s j h k =
    sym (total_times j (from n s))
    ∙ total_equal (λ i. one_if_same i j) (one_if_same j) (from n s) (λ i m. same_iff i j j i (λ q. sym q) (λ q. sym q))
    ∙ total_same j n s h k

-- two places that hold the same number, where it stands once
stands : (w : List ℕ) (i a : ℕ) → a < length w → get_or w a 0 ≡ i → 1 ≤ times i w
stands [] i a h e = absurd (omega arith)
stands (p ∷ w) i zero h e = let u = same_one p i e in omega arith
stands (p ∷ w) i (suc a) h e = let u = stands w i a (omega arith) e in omega arith

pub one_place : (w : List ℕ) (i a b : ℕ) → times i w ≤ 1 → a < length w → b < length w → get_or w a 0 ≡ i → get_or w b 0 ≡ i → a ≡ b
one_place [] i a b t h k e f = absurd (omega arith)
one_place (p ∷ w) i zero zero t h k e f = refl
one_place (p ∷ w) i zero (suc b) t h k e f = let u = same_one p i e in let v = stands w i b (omega arith) f in absurd (omega arith)
one_place (p ∷ w) i (suc a) zero t h k e f = let u = same_one p i f in let v = stands w i a (omega arith) e in absurd (omega arith)
one_place (p ∷ w) i (suc a) (suc b) t h k e f = ap suc (one_place w i a b (omega arith) (omega arith) (omega arith) e f)
