-- Totals of lists of numbers, and totals weighted by the members of a list that stands beside the numbers.
use Rattle.std.specs.Prelude.{◌≡◌, refl, List, [], ◌∷◌, ◌++◌, map, ℕ, zero, suc, ◌+◌, ◌*◌, ◌-◌, ◌≤◌, ◌<◌, length, get_or, ℤ, pos, ◌+ℤ◌}
use Rattle.std.proofs.Common.{ap, inl, inr, arith, add-zero, add-suc, mul-suc}
use Rattle.std.proofs.Math.Nat.{suc_inj}
use Rattle.std.proofs.Math.IntN.{pos-+ℤ-pos}
use Rattle.laws.specs.Linear.{lin, given}
use Rattle.laws.specs.Sum.{sum}
use Rattle.laws.specs.Members.{◌∈◌}
use Rattle.laws.specs.Within.{from, from_member}

abbrev pub total : List ℕ → ℕ
total [] = 0
total (x ∷ f) = x + total f

-- of φ over a list
abbrev pub total_of : (ℕ → ℕ) → List ℕ → ℕ
total_of φ l = total (map φ l)

pub total_equal : (φ χ : ℕ → ℕ) (l : List ℕ) → ((a : ℕ) → a ∈ l → φ a ≡ χ a) → total_of φ l ≡ total_of χ l
total_equal φ χ [] h = refl
total_equal φ χ (a ∷ l) h = let k = total_equal φ χ l (λ b m. h b (inr m)) in let e = h a (inl refl) in omega arith

pub total_append : (φ : ℕ → ℕ) (l k : List ℕ) → total_of φ (l ++ k) ≡ total_of φ l + total_of φ k
total_append φ [] k = omega arith
total_append φ (a ∷ l) k = let h = total_append φ l k in omega arith

pub total_add : (φ χ : ℕ → ℕ) (l : List ℕ) → total_of (λ a. φ a + χ a) l ≡ total_of φ l + total_of χ l
total_add φ χ [] = refl
total_add φ χ (a ∷ l) = let h = total_add φ χ l in omega arith

pub total_none : (φ : ℕ → ℕ) (l : List ℕ) → ((a : ℕ) → a ∈ l → φ a ≡ 0) → total_of φ l ≡ 0
total_none φ [] h = refl
total_none φ (a ∷ l) h = let u = h a (inl refl) in let v = total_none φ l (λ b m. h b (inr m)) in omega arith

pub total_ones : (φ : ℕ → ℕ) (l : List ℕ) → ((a : ℕ) → a ∈ l → φ a ≤ 1) → total_of φ l ≤ length l
total_ones φ [] h = omega arith
total_ones φ (a ∷ l) h = let k = total_ones φ l (λ b m. h b (inr m)) in let u = h a (inl refl) in omega arith

-- at most b for each of a list
pub total_most : (φ : ℕ → ℕ) (b : ℕ) (l : List ℕ) → ((a : ℕ) → a ∈ l → φ a ≤ b) → total_of φ l ≤ b * length l
total_most φ b [] h = omega arith
total_most φ b (a ∷ l) h = omega (arith, h a (inl refl), total_most φ b l (λ c m. h c (inr m)), mul-suc b (length l))

-- where φ is at most 1, as many are left as it misses
pub total_rest : (φ : ℕ → ℕ) (l : List ℕ) → ((a : ℕ) → a ∈ l → φ a ≤ 1) → total_of (λ a. 1 - φ a) l + total_of φ l ≡ length l
total_rest φ [] h = refl
total_rest φ (a ∷ l) h = let u = h a (inl refl) in let v = total_rest φ l (λ b m. h b (inr m)) in omega arith

pub total_last : (φ : ℕ → ℕ) (n s : ℕ) → total_of φ (from (suc n) s) ≡ total_of φ (from n s) + φ (s + n)
total_last φ zero s = let e : φ (s + 0) ≡ φ s = ap φ (omega arith) in omega arith
total_last φ (suc n) s = let h = total_last φ n (suc s) in let e : φ (suc s + n) ≡ φ (s + suc n) = ap φ (omega arith) in omega arith

-- 0 + 1 + .. + (n − 1)
abbrev pub triangle : ℕ → ℕ
triangle zero = 0
triangle (suc n) = triangle n + n

pub triangle_mono : (n m : ℕ) → triangle n ≤ triangle (n + m)
triangle_mono n zero = rw add-zero (omega arith)
triangle_mono n (suc m) = let h = triangle_mono n m in rw add-suc (omega arith)

-- what holds at most one way between two numbers holds for at most that many pairs
pub square : (r : ℕ → ℕ → ℕ) (l : List ℕ) → ((i j : ℕ) → i ∈ l → j ∈ l → r i j + r j i ≤ 1) → total_of (λ j. total_of (λ i. r i j) l) l ≤ triangle (length l)
square r [] h = omega arith
square r (x ∷ l) h =
    let deep = square r l (λ i j m n. h i j (inr m) (inr n)) in
    let side = total_add (λ j. r x j) (λ j. total_of (λ i. r i j) l) l in
    let both = total_add (λ j. r x j) (λ j. r j x) l in
    let most = total_ones (λ j. r x j + r j x) l (λ j m. h x j (inl refl) (inr m)) in
    let self = h x x (inl refl) (inl refl) in
    omega arith

sum_first : (n : ℕ) (f : ℕ → ℤ) → sum (suc n) f ≡ f 0 +ℤ sum n (λ i. f (suc i))
sum_first zero f = simp lin (omega arith)
sum_first (suc n) f = given (sum_first n f) (simp lin (omega arith))

module _ {A : Type 0} where
  abbrev pub weigh : (A → ℕ) → List A → List ℕ → ℕ
  weigh φ [] f = 0
  weigh φ (a ∷ l) [] = 0
  weigh φ (a ∷ l) (x ∷ f) = φ a * x + weigh φ l f

  pub weigh_append : (φ : A → ℕ) (l k : List A) (f g : List ℕ) → length f ≡ length l → weigh φ (l ++ k) (f ++ g) ≡ weigh φ l f + weigh φ k g
  weigh_append φ [] k [] g e = omega arith
  weigh_append φ [] k (x ∷ f) g e = absurd (omega arith)
  weigh_append φ (a ∷ l) k [] g e = absurd (omega arith)
  weigh_append φ (a ∷ l) k (x ∷ f) g e = let h = weigh_append φ l k f g (suc_inj e) in omega arith

  pub weigh_none : (φ : A → ℕ) (l : List A) (f : List ℕ) → ((a : A) → a ∈ l → φ a ≡ 0) → weigh φ l f ≡ 0
  weigh_none φ [] f h = refl
  weigh_none φ (a ∷ l) [] h = refl
  weigh_none φ (a ∷ l) (x ∷ f) h = rw (h a (inl refl), weigh_none φ l f (λ b m. h b (inr m))) (omega arith)

  pub weigh_ones : (φ : A → ℕ) (l : List A) (f : List ℕ) → length f ≡ length l → ((a : A) → a ∈ l → φ a ≡ 1) → weigh φ l f ≡ total f
  weigh_ones φ [] [] e h = refl
  weigh_ones φ [] (x ∷ f) e h = absurd (omega arith)
  weigh_ones φ (a ∷ l) [] e h = absurd (omega arith)
  weigh_ones φ (a ∷ l) (x ∷ f) e h = rw (h a (inl refl), weigh_ones φ l f (suc_inj e) (λ b m. h b (inr m))) (omega arith)

  -- a sum over indices
  pub sum_weigh : (φ : A → ℕ) (d : A) (l : List A) (f : List ℕ) (m : ℕ) → m ≡ length l → length f ≡ length l
      → (h : ℕ → ℤ) → ((k : ℕ) → h k ≡ pos (φ (get_or l k d) * get_or f k 0)) → sum m h ≡ pos (weigh φ l f)
  sum_weigh φ d [] [] m q e h g = rw q
  sum_weigh φ d [] (x ∷ f) m q e h g = absurd (omega arith)
  sum_weigh φ d (a ∷ l) [] m q e h g = absurd (omega arith)
  sum_weigh φ d (a ∷ l) (x ∷ f) m q e h g =
      rw (q, sum_first (length l) h, g 0, sum_weigh φ d l f (length l) refl (suc_inj e) (λ k. h (suc k)) (λ k. g (suc k)))
      (pos-+ℤ-pos (φ a * x) (weigh φ l f))

pub weigh_map : {A B : Type 0} (φ : B → ℕ) (k : A → B) (l : List A) (f : List ℕ) → weigh φ (map k l) f ≡ weigh (λ a. φ (k a)) l f
weigh_map φ k [] f = refl
weigh_map φ k (a ∷ l) [] = refl
weigh_map φ k (a ∷ l) (x ∷ f) = ap (λ n. φ (k a) * x + n) (weigh_map φ k l f)

-- over numbers in a row, the one with weight 1
pub weigh_from : (φ : ℕ → ℕ) (n s : ℕ) (f : List ℕ) → length f ≡ n → (k : ℕ) → k < n → φ (s + k) ≡ 1
    → ((j : ℕ) → s ≤ j → ¬ (j ≡ s + k) → φ j ≡ 0) → weigh φ (from n s) f ≡ get_or f k 0
weigh_from φ zero s f e k h one none = absurd (omega arith)
weigh_from φ (suc n) s [] e k h one none = absurd (omega arith)
weigh_from φ (suc n) s (x ∷ f) e zero h one none =
    let q : s + 0 ≡ s = omega arith in
    rw (rw q at one, weigh_none φ (from n (suc s)) f (λ j m. (let b = from_member n (suc s) j m in none j (omega arith) (λ z. omega arith)))) (omega arith)
weigh_from φ (suc n) s (x ∷ f) e (suc k) h one none =
    let q : s + suc k ≡ suc s + k = omega arith in
    rw (
      none s (omega arith) (λ z. omega arith),
      weigh_from φ n (suc s) f (suc_inj e) k (omega arith) (rw q at one) (λ j b z. none j (omega arith) (λ r. z (omega arith))),
    ) (omega arith)
