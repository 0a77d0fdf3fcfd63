-- ℤ: its order and the tests of it, products and the order, what is not negative as a natural number.
use Rattle.std.specs.Prelude.{◌≡◌, refl, ◌⊎◌, ◌≢◌, Bool, true, false, not, ◌&&◌, ◌≤◌, ◌<◌, T, ℤ, pos, negsuc, neg_ℤ, ◌-ℤ◌, ◌*ℤ◌, ◌≤ℤ◌, ◌<ℤ◌}
use Rattle.std.proofs.Common.{sym, subst, inl, inr, ⊎_elim, arith}
use Rattle.std.specs.Int.Signed.{le_z, lt_z, le_z_yes, lt_z_yes, lt_z_no}
use Rattle.laws.specs.Parts.{plus, minus, le→ℕ, ℕ→le, lt→ℕ}
use Rattle.laws.specs.Linear.{lin, ring, poly, given, given2, given3, *_neg_l, *_neg_r}
use Rattle.laws.specs.Tests.{and_true, true_and}

-- one of the parts is 0
pub apart : (z : ℤ) → (plus z ≡ 0) ⊎ (minus z ≡ 0)
apart (pos n) = inr refl
apart (negsuc n) = inl refl

-- the order is total
pub le_z_or_lt : (a b : ℤ) → (a ≤ℤ b) ⊎ (b <ℤ a)
le_z_or_lt a b = go (lt_z b a) (λ t. lt_z_yes t) (λ t. lt_z_no t)
  where
    go : (c : Bool) → (T c → b <ℤ a) → (T (not c) → a ≤ℤ b) → (a ≤ℤ b) ⊎ (b <ℤ a)
    go true f g = inr (f tt)
    go false f g = inl (g tt)

pub ≤ℤ_total : (a b : ℤ) → (a ≤ℤ b) ⊎ (b ≤ℤ a)
≤ℤ_total a b = ⊎_elim inl (λ h. inr (given h (simp lin (omega arith)))) (le_z_or_lt a b)

pub ≤ℤ_antisym : {a b : ℤ} → a ≤ℤ b → b ≤ℤ a → a ≡ b
≤ℤ_antisym h k = given2 h k (simp lin (omega arith))

pub ≤ℤ_trans : {a b c : ℤ} → a ≤ℤ b → b ≤ℤ c → a ≤ℤ c
≤ℤ_trans h k = given2 h k (simp lin (omega arith))

-- the tests: an equation of the flag, as a branch of the code leaves it
pub le_z_true : (a b : ℤ) → le_z a b ≡ true → a ≤ℤ b
le_z_true a b e = le_z_yes (subst T (sym e) tt)

pub le_z_false : (a b : ℤ) → le_z a b ≡ false → b <ℤ a
le_z_false a b e = go (le_z_or_lt a b)
  where
    go : (a ≤ℤ b) ⊎ (b <ℤ a) → b <ℤ a
    go (inl h) = absurd (subst T e h.le)
    go (inr h) = h

pub lt_z_true : (a b : ℤ) → lt_z a b ≡ true → a <ℤ b
lt_z_true a b e = lt_z_yes (subst T (sym e) tt)

pub lt_z_false : (a b : ℤ) → lt_z a b ≡ false → b ≤ℤ a
lt_z_false a b e = lt_z_no (subst (λ c. T (not c)) (sym e) tt)

pub true_le_z : (a b : ℤ) → a ≤ℤ b → le_z a b ≡ true
true_le_z a b h = go (le_z a b) refl
  where
    go : (t : Bool) → le_z a b ≡ t → t ≡ true
    go true e = refl
    go false e = absurd (given2 h (le_z_false a b e) (simp lin (omega arith)))

-- equality as a test
abbrev pub eq_z : ℤ → ℤ → Bool
eq_z a b = le_z a b && le_z b a

pub eq_z_true : (a b : ℤ) → eq_z a b ≡ true → a ≡ b
eq_z_true a b e = let (h, k) = and_true (le_z a b) (le_z b a) e in ≤ℤ_antisym (le_z_true a b h) (le_z_true b a k)

pub true_eq_z : (a b : ℤ) → a ≡ b → eq_z a b ≡ true
true_eq_z a b e = true_and (le_z a b) (le_z b a) (true_le_z a b (given e (simp lin (omega arith)))) (true_le_z b a (given e (simp lin (omega arith))))

-- products and the order
parts_nonneg : (x y : ℤ) → minus x ≤ plus x → minus y ≤ plus y → minus (x *ℤ y) ≤ plus (x *ℤ y)
parts_nonneg (pos a) (pos b) h k = omega arith
parts_nonneg (pos a) (negsuc b) h k = absurd (omega arith)
parts_nonneg (negsuc a) y h k = absurd (omega arith)

pub *_nonneg : {x y : ℤ} → pos 0 ≤ℤ x → pos 0 ≤ℤ y → pos 0 ≤ℤ (x *ℤ y)
*_nonneg {x} {y} h k = ℕ→le (omega (arith, parts_nonneg x y (omega (arith, le→ℕ)) (omega (arith, le→ℕ))))

pub *_mono_l : {x y z : ℤ} → pos 0 ≤ℤ x → y ≤ℤ z → (x *ℤ y) ≤ℤ (x *ℤ z)
*_mono_l {x} {y} {z} h k = given (*_nonneg {x = x} {y = z -ℤ y} h (given k (simp lin (omega arith)))) (simp ring (omega arith))

pub *_nonpos : {x y : ℤ} → x ≤ℤ pos 0 → y ≤ℤ pos 0 → pos 0 ≤ℤ (x *ℤ y)
*_nonpos {x} {y} h k = given (*_nonneg {x = neg_ℤ x} {y = neg_ℤ y} (given h (simp lin (omega arith))) (given k (simp lin (omega arith)))) (simp ring (omega arith))

-- a ℤ that is not negative, as a natural number: for measures
pub plus_lt : {x y : ℤ} → pos 0 ≤ℤ x → x <ℤ y → plus x < plus y
plus_lt {x} {y} h k = ⊎_elim (λ e. omega (arith, le→ℕ h, lt→ℕ k)) (λ e. omega (arith, lt→ℕ k)) (apart x)

-- a product that is 0
pub data Sign (z : ℤ) : Type 0 where
  below : z <ℤ pos 0 → Sign z
  nil : z ≡ pos 0 → Sign z
  above : pos 0 <ℤ z → Sign z

pub sign : (z : ℤ) → Sign z
sign z = go (le_z_or_lt z (pos 0)) (le_z_or_lt (pos 0) z)
  where
    go : (z ≤ℤ pos 0) ⊎ (pos 0 <ℤ z) → (pos 0 ≤ℤ z) ⊎ (z <ℤ pos 0) → Sign z
    go (inr p) q = above p
    go (inl p) (inl q) = nil (≤ℤ_antisym p q)
    go (inl p) (inr q) = below q

both_above : (r d : ℤ) → r *ℤ d ≡ pos 0 → pos 0 <ℤ r → ¬ (pos 0 <ℤ d)
both_above r d e p q = given3 (*_mono_l {x = r} {y = pos 1} {z = d} (given p (simp lin (omega arith))) (given q (simp lin (omega arith)))) e p (simp lin (omega arith))

neg_zero : (x y : ℤ) → x ≡ neg_ℤ y → y ≡ pos 0 → x ≡ pos 0
neg_zero x y e z = given2 e z (simp lin (omega arith))

neg_above : (x : ℤ) → x <ℤ pos 0 → pos 0 <ℤ neg_ℤ x
neg_above x h = given h (simp lin (omega arith))

pub zero_product : (r d : ℤ) → r *ℤ d ≡ pos 0 → r ≢ pos 0 → d ≡ pos 0
zero_product r d e ne = go (sign d) (sign r)
  where
    go : Sign d → Sign r → d ≡ pos 0
    go (nil y) t = y
    go (above x) (nil p) = absurd (ne p)
    go (below x) (nil p) = absurd (ne p)
    go (above x) (above p) = absurd (both_above r d e p x)
    go (below x) (above p) = absurd (both_above r (neg_ℤ d) (neg_zero (r *ℤ neg_ℤ d) (r *ℤ d) (*_neg_r r d) e) p (neg_above d x))
    go (above x) (below p) = absurd (both_above (neg_ℤ r) d (neg_zero (neg_ℤ r *ℤ d) (r *ℤ d) (*_neg_l r d) e) (neg_above r p) x)
    go (below x) (below p) =
        absurd (both_above (neg_ℤ r) (neg_ℤ d)
        (neg_zero (neg_ℤ r *ℤ neg_ℤ d) (r *ℤ neg_ℤ d) (*_neg_l r (neg_ℤ d)) (neg_zero (r *ℤ neg_ℤ d) (r *ℤ d) (*_neg_r r d) e)) (neg_above r p) (neg_above d x))

-- a product with a difference of equals
pub times_same : (w x y : ℤ) → x ≡ y → w *ℤ (x -ℤ y) ≡ pos 0
times_same w x y e = rw e (simp poly (omega arith))
