-- Sums of ℤ over the indices below n, and their laws.
use Rattle.std.specs.Prelude.{◌≡◌, refl, ◌≢◌, ℕ, zero, suc, ◌*◌, ◌<◌, ℤ, pos, ◌+ℤ◌, ◌-ℤ◌, ◌*ℤ◌, ◌≤ℤ◌}
use Rattle.std.proofs.Common.{sym, ap₂, arith}
use Rattle.std.proofs.Math.Decide.{ℕ_discrete}
use Rattle.laws.specs.Linear.{lin, ring, given}
use Rattle.laws.specs.Range.{Bounded, bounded_add, bounded_zero, bounded_more}

abbrev pub sum : ℕ → (ℕ → ℤ) → ℤ
sum zero f = pos 0
sum (suc n) f = sum n f +ℤ f n

-- what holds below suc n holds below n
lower : {P : ℕ → Type 0} (n : ℕ) → ((i : ℕ) → i < suc n → P i) → (i : ℕ) → i < n → P i
lower n h i k = h i (omega arith)

pub sum_cong : (n : ℕ) (f g : ℕ → ℤ) → ((i : ℕ) → i < n → f i ≡ g i) → sum n f ≡ sum n g
sum_cong zero f g h = refl
sum_cong (suc n) f g h = ap₂ ◌+ℤ◌ (sum_cong n f g (lower n h)) (h n (omega arith))

pub sum_mono : (n : ℕ) (f g : ℕ → ℤ) → ((i : ℕ) → i < n → f i ≤ℤ g i) → sum n f ≤ℤ sum n g
sum_mono zero f g h = simp lin (omega arith)
sum_mono (suc n) f g h = given (sum_mono n f g (lower n h)) (given (h n (omega arith)) (simp lin (omega arith)))

pub sum_add : (n : ℕ) (f g : ℕ → ℤ) → sum n (λ i. f i +ℤ g i) ≡ sum n f +ℤ sum n g
sum_add zero f g = refl
sum_add (suc n) f g = given (sum_add n f g) (simp lin (omega arith))

pub sum_sub : (n : ℕ) (f g : ℕ → ℤ) → sum n (λ i. f i -ℤ g i) ≡ sum n f -ℤ sum n g
sum_sub zero f g = refl
sum_sub (suc n) f g = given (sum_sub n f g) (simp lin (omega arith))

pub sum_scale : (n : ℕ) (c : ℤ) (f : ℕ → ℤ) → sum n (λ i. c *ℤ f i) ≡ c *ℤ sum n f
sum_scale zero c f = simp ring (omega arith)
sum_scale (suc n) c f = given (sum_scale n c f) (simp ring (omega arith))

pub sum_none : (n : ℕ) (f : ℕ → ℤ) → ((i : ℕ) → i < n → f i ≡ pos 0) → sum n f ≡ pos 0
sum_none zero f h = refl
sum_none (suc n) f h = ap₂ ◌+ℤ◌ (sum_none n f (lower n h)) (h n (omega arith))

pub sum_nonneg : (n : ℕ) (f : ℕ → ℤ) → ((i : ℕ) → i < n → pos 0 ≤ℤ f i) → pos 0 ≤ℤ sum n f
sum_nonneg zero f h = simp lin (omega arith)
sum_nonneg (suc n) f h = given (sum_nonneg n f (lower n h)) (given (h n (omega arith)) (simp lin (omega arith)))

-- a term is at most the sum of terms that are not negative
pub sum_term : (n : ℕ) (f : ℕ → ℤ) → ((i : ℕ) → i < n → pos 0 ≤ℤ f i) → (j : ℕ) → j < n → f j ≤ℤ sum n f
sum_term zero f h j k = absurd (omega arith)
sum_term (suc n) f h j k = go (ℕ_discrete j n) (sum_nonneg n f (lower n h)) (h n (omega arith)) (sum_term n f (lower n h) j)
  where
    go : Dec (j ≡ n) → pos 0 ≤ℤ sum n f → pos 0 ≤ℤ f n → (j < n → f j ≤ℤ sum n f) → f j ≤ℤ (sum n f +ℤ f n)
    go (yes e) s t r = rw e (given s (simp lin (omega arith)))
    go (no e) s t r = given (r (omega arith)) (given t (simp lin (omega arith)))

pub sum_zero_each : (n : ℕ) (f : ℕ → ℤ) → ((i : ℕ) → i < n → pos 0 ≤ℤ f i) → sum n f ≡ pos 0 → (j : ℕ) → j < n → f j ≡ pos 0
sum_zero_each n f h e j k = given (sum_term n f h j k) (given (h j k) (given e (simp lin (omega arith))))

-- two functions that differ at j alone
pub sum_change : (n : ℕ) (f g : ℕ → ℤ) (j : ℕ) → j < n → ((i : ℕ) → i < n → i ≢ j → g i ≡ f i) → sum n g ≡ sum n f +ℤ (g j -ℤ f j)
sum_change zero f g j k h = absurd (omega arith)
sum_change (suc n) f g j k h = go (ℕ_discrete j n) (λ l. sum_change n f g j l (lower n h))
  where
    go : Dec (j ≡ n) → (j < n → sum n g ≡ sum n f +ℤ (g j -ℤ f j)) → sum n g +ℤ g n ≡ (sum n f +ℤ f n) +ℤ (g j -ℤ f j)
    go (yes e) r = rw e (given (sum_cong n g f (λ i l. h i (omega arith) (omega arith))) (simp lin (omega arith)))
    go (no e) r = given (r (omega arith)) (given (h n (omega arith) (omega arith)) (simp lin (omega arith)))

-- a sum with one term that is not 0
pub sum_only : (n : ℕ) (f : ℕ → ℤ) (j : ℕ) → j < n → ((i : ℕ) → i < n → i ≢ j → f i ≡ pos 0) → sum n f ≡ f j
sum_only n f j k h = given (sum_change n (λ i. pos 0) f j k h) (given (sum_none n (λ i. pos 0) (λ i l. refl)) (simp lin (omega arith)))

-- a double sum, in either order
pub sum_swap : (n m : ℕ) (f : ℕ → ℕ → ℤ) → sum n (λ i. sum m (λ j. f i j)) ≡ sum m (λ j. sum n (λ i. f i j))
sum_swap zero m f = sym (sum_none m (λ j. pos 0) (λ j l. refl))
sum_swap (suc n) m f = given (sum_swap n m f) (given (sum_add m (λ j. sum n (λ i. f i j)) (λ j. f n j)) (simp lin (omega arith)))

pub sum_within : (n B : ℕ) (f : ℕ → ℤ) → ((i : ℕ) → i < n → Bounded B (f i)) → Bounded (n * B) (sum n f)
sum_within zero B f h = bounded_more (omega arith) bounded_zero
sum_within (suc n) B f h = bounded_more (omega arith) (bounded_add (sum_within n B f (lower n h)) (h n (omega arith)))
