-- Ranges of ℤ: |z| ≤ B, and the range of a width of the language.
use Rattle.std.specs.Prelude.{◌≡◌, ◌↔◌, ◌⊎◌, ℕ, ◌+◌, ◌*◌, ◌^◌, ◌≤◌, ◌<◌, suc, ℤ, pos, negsuc, neg_ℤ, ◌+ℤ◌, ◌*ℤ◌, ◌≤ℤ◌, ◌<ℤ◌}
use Rattle.std.proofs.Common.{sym, ap, subst, ◌∙◌, inl, inr, ⊎_elim, arith, mul-le-mul_left, mul-le-mul_right, to_z-of_z}
use Rattle.std.specs.Int.Signed.{mag}
use Rattle.std.specs.Int.{Width, w32, w64}
use mir.Val.{SFits, hbits, to_z, of_z}
use Rattle.std.proofs.Math.Facts.{to_z_pos, sfits_widen}
use Rattle.laws.specs.Parts.{plus, minus, le→ℕ, ℕ→le, lt→ℕ, ℕ→lt, neg_plus, neg_minus, add_parts}
use Rattle.laws.specs.Linear.{lin}
use Rattle.laws.specs.Integers.{apart}

-- |z| ≤ B
pub record Bounded (B : ℕ) (z : ℤ) : Type 0 where
  pub up : plus z ≤ B
  pub down : minus z ≤ B

pub bounded_add : {A B : ℕ} {x y : ℤ} → Bounded A x → Bounded B y → Bounded (A + B) (x +ℤ y)
bounded_add {x = x} {y = y} h k = ⊎_elim (λ e. record { up = omega arith; down = omega (arith, add_parts x y) }) (λ e. record { up = omega (arith, add_parts x y); down = omega arith }) (apart (x +ℤ y))

pub bounded_neg : {A : ℕ} {x : ℤ} → Bounded A x → Bounded A (neg_ℤ x)
bounded_neg {x = x} h = omega (arith, neg_plus x, neg_minus x)

pub bounded_more : {A B : ℕ} {x : ℤ} → A ≤ B → Bounded A x → Bounded B x
bounded_more l h = omega arith

pub bounded_zero : Bounded 0 (pos 0)
bounded_zero = omega arith

pub bounded_mul : {A B : ℕ} {x y : ℤ} → Bounded A x → Bounded B y → Bounded (A * B) (x *ℤ y)
bounded_mul {A} {B} {x = pos a} {y = pos b} h k = record { up = omega (arith, mul-le-mul_right b h.up, mul-le-mul_left A k.up); down = omega arith }
bounded_mul {A} {B} {x = pos a} {y = negsuc b} h k = bounded_neg {x = pos (a * suc b)} (record { up = omega (arith, mul-le-mul_right (suc b) h.up, mul-le-mul_left A k.down); down = omega arith })
bounded_mul {A} {B} {x = negsuc a} {y = pos b} h k = bounded_neg {x = pos (suc a * b)} (record { up = omega (arith, mul-le-mul_right b h.down, mul-le-mul_left A k.up); down = omega arith })
bounded_mul {A} {B} {x = negsuc a} {y = negsuc b} h k = record { up = omega (arith, mul-le-mul_right (suc b) h.down, mul-le-mul_left A k.down); down = omega arith }

pub bounded_iff : (B : ℕ) (z : ℤ) → Bounded B z ↔ ((z ≤ℤ pos B) × (neg_ℤ (pos B) ≤ℤ z))
bounded_iff B z = (λ h. (ℕ→le (omega arith), ℕ→le (omega (arith, neg_plus (pos B), neg_minus (pos B)))), λ h. go (apart z) (le→ℕ h.0) (le→ℕ h.1))
  where
    go : (plus z ≡ 0) ⊎ (minus z ≡ 0) → plus z + 0 ≤ B + minus z → plus (neg_ℤ (pos B)) + minus z ≤ plus z + minus (neg_ℤ (pos B)) → Bounded B z
    go (inl e) a b = omega (arith, neg_plus (pos B), neg_minus (pos B))
    go (inr e) a b = omega (arith, neg_plus (pos B), neg_minus (pos B))

-- a width's range
in_range : (H : ℕ) (z : ℤ) → mag z < H → (plus z < H) × (minus z ≤ H)
in_range H (pos n) h = omega arith
in_range H (negsuc n) h = omega arith

of_range : (H : ℕ) (z : ℤ) → plus z < H → minus z ≤ H → mag z < H
of_range H (pos n) h k = omega arith
of_range H (negsuc n) h k = omega arith

pub bounded_fits : (w : Width) (B : ℕ) (z : ℤ) → Bounded B z → B < 2 ^ hbits w → SFits w z
bounded_fits w B z h k = record { sfits = of_range (2 ^ hbits w) z (omega arith) (omega arith) }

pub fits_iff : (w : Width) (z : ℤ) → SFits w z ↔ ((z <ℤ pos (2 ^ hbits w)) × (neg_ℤ (pos (2 ^ hbits w)) ≤ℤ z))
fits_iff w z = (
  λ h. let k : (plus z < 2 ^ hbits w) × (minus z ≤ 2 ^ hbits w) = in_range (2 ^ hbits w) z h.sfits in (ℕ→lt (omega arith), ℕ→le (omega (arith, neg_plus (pos (2 ^ hbits w)), neg_minus (pos (2 ^ hbits w))))),
  λ h. record { sfits = go (apart z) (lt→ℕ h.0) (le→ℕ h.1) },
)
  where
    go : (plus z ≡ 0) ⊎ (minus z ≡ 0) → plus z + 0 < 2 ^ hbits w + minus z → plus (neg_ℤ (pos (2 ^ hbits w))) + minus z ≤ plus z + minus (neg_ℤ (pos (2 ^ hbits w))) → mag z < 2 ^ hbits w
    go (inl e) a b = of_range (2 ^ hbits w) z (omega (arith, neg_plus (pos (2 ^ hbits w)), neg_minus (pos (2 ^ hbits w)))) (omega (arith, neg_plus (pos (2 ^ hbits w)), neg_minus (pos (2 ^ hbits w))))
    go (inr e) a b = of_range (2 ^ hbits w) z (omega (arith, neg_plus (pos (2 ^ hbits w)), neg_minus (pos (2 ^ hbits w)))) (omega (arith, neg_plus (pos (2 ^ hbits w)), neg_minus (pos (2 ^ hbits w))))

-- `simp fits (omega arith)`: a statement on ranges, as a linear one
pub ruleset fits = (fits_iff, bounded_iff, lin)

-- a number of 32 bits in 64
pub widens : {z : ℤ} → SFits w32 z → SFits w64 (to_z w32 (of_z w32 z))
widens f = subst (SFits w64) (sym (to_z-of_z f)) (sfits_widen tt f)

-- the test against 0 reads bits
pub zero_of : {z : ℤ} → SFits w64 z → of_z w64 z ≡ 0 → z ≡ pos 0
zero_of f e = sym (to_z-of_z f) ∙ ap (to_z w64) e ∙ to_z_pos w64 (omega arith)

pub zero_bits : (z : ℤ) → z ≡ pos 0 → of_z w64 z ≡ 0
zero_bits z e = ap (of_z w64) e
