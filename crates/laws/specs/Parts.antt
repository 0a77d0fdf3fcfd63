-- ℤ by its two parts: z is plus z - minus z. `omega` reads the parts.
use Rattle.std.specs.Prelude.{◌≡◌, refl, ℕ, zero, suc, ◌+◌, ◌*◌, ◌-◌, ◌≤◌, ◌<◌, Bool, true, false, not, cond, T, ltb, ℤ, pos, negsuc, neg_ℤ, ◌+ℤ◌, ◌*ℤ◌, ◌≤ℤ◌, ◌<ℤ◌}
use Rattle.std.proofs.Common.{ap, arith, ltb→lt, nltb→le, leb→le, le→leb, lt→ltb}
use Rattle.std.proofs.Math.IntN.{sub_ℕ}
use Rattle.std.specs.Int.Signed.{le_z, lt_z}

abbrev pub plus : ℤ → ℕ
plus (pos n) = n
plus (negsuc n) = 0

abbrev pub minus : ℤ → ℕ
minus (pos n) = 0
minus (negsuc n) = suc n

-- the order
le_in : (a b : ℤ) → T (le_z a b) → plus a + minus b ≤ plus b + minus a
le_in (pos a) (pos b) t = omega (arith, leb→le a b t)
le_in (pos a) (negsuc b) t = absurd t
le_in (negsuc a) (pos b) t = omega arith
le_in (negsuc a) (negsuc b) t = omega (arith, leb→le b a t)

le_out : (a b : ℤ) → plus a + minus b ≤ plus b + minus a → T (le_z a b)
le_out (pos a) (pos b) h = le→leb a b (omega arith)
le_out (pos a) (negsuc b) h = omega arith
le_out (negsuc a) (pos b) h = tt
le_out (negsuc a) (negsuc b) h = le→leb b a (omega arith)

lt_in : (a b : ℤ) → T (lt_z a b) → plus a + minus b < plus b + minus a
lt_in (pos a) (pos b) t = omega (arith, ltb→lt a b t)
lt_in (pos a) (negsuc b) t = absurd t
lt_in (negsuc a) (pos b) t = omega arith
lt_in (negsuc a) (negsuc b) t = omega (arith, ltb→lt b a t)

lt_out : (a b : ℤ) → plus a + minus b < plus b + minus a → T (lt_z a b)
lt_out (pos a) (pos b) h = lt→ltb a b (omega arith)
lt_out (pos a) (negsuc b) h = omega arith
lt_out (negsuc a) (pos b) h = tt
lt_out (negsuc a) (negsuc b) h = lt→ltb b a (omega arith)

pub le→ℕ : {a b : ℤ} → a ≤ℤ b → plus a + minus b ≤ plus b + minus a
le→ℕ {a} {b} h = le_in a b h.le

pub ℕ→le : {a b : ℤ} → plus a + minus b ≤ plus b + minus a → a ≤ℤ b
ℕ→le {a} {b} h = record { le = le_out a b h }

pub lt→ℕ : {a b : ℤ} → a <ℤ b → plus a + minus b < plus b + minus a
lt→ℕ {a} {b} h = lt_in a b h.lt

pub ℕ→lt : {a b : ℤ} → plus a + minus b < plus b + minus a → a <ℤ b
ℕ→lt {a} {b} h = record { lt = lt_out a b h }

-- equations
pub eq→ℕ : {a b : ℤ} → a ≡ b → plus a + minus b ≡ plus b + minus a
eq→ℕ {a} {b} e = omega (arith, ap plus e, ap minus e)

eq_out : (a b : ℤ) → plus a + minus b ≡ plus b + minus a → a ≡ b
eq_out (pos a) (pos b) h = ap pos (omega arith)
eq_out (pos a) (negsuc b) h = absurd (omega arith)
eq_out (negsuc a) (pos b) h = absurd (omega arith)
eq_out (negsuc a) (negsuc b) h = ap negsuc (omega arith)

pub ℕ→eq : {a b : ℤ} → plus a + minus b ≡ plus b + minus a → a ≡ b
ℕ→eq {a} {b} h = eq_out a b h

-- the parts of a sum, a negation, a product
pub neg_plus : (x : ℤ) → plus (neg_ℤ x) ≡ minus x
neg_plus (pos zero) = refl
neg_plus (pos (suc n)) = refl
neg_plus (negsuc n) = refl

pub neg_minus : (x : ℤ) → minus (neg_ℤ x) ≡ plus x
neg_minus (pos zero) = refl
neg_minus (pos (suc n)) = refl
neg_minus (negsuc n) = refl

cond_ind : (c : Bool) (x y : ℤ) (P : ℤ → Type 0) → (T c → P x) → (T (not c) → P y) → P (cond c x y)
cond_ind true x y P f g = f tt
cond_ind false x y P f g = g tt

sub_parts : (a b : ℕ) → plus (sub_ℕ a b) + b ≡ a + minus (sub_ℕ a b)
sub_parts a b = cond_ind (ltb a b) (negsuc (b - suc a)) (pos (a - b)) (λ z. plus z + b ≡ a + minus z)
    (λ t. omega (arith, ltb→lt a b t)) (λ t. omega (arith, nltb→le a b t))

pub add_parts : (x y : ℤ) → plus (x +ℤ y) + (minus x + minus y) ≡ (plus x + plus y) + minus (x +ℤ y)
add_parts (pos a) (pos b) = omega arith
add_parts (pos a) (negsuc b) = omega (arith, sub_parts a (suc b))
add_parts (negsuc a) (pos b) = omega (arith, sub_parts b (suc a))
add_parts (negsuc a) (negsuc b) = omega arith

pub mul_parts : (x y : ℤ) → plus (x *ℤ y) + (plus x * minus y + minus x * plus y) ≡ (plus x * plus y + minus x * minus y) + minus (x *ℤ y)
mul_parts (pos a) (pos b) = omega arith
mul_parts (pos a) (negsuc b) = omega (arith, neg_plus (pos (a * suc b)), neg_minus (pos (a * suc b)))
mul_parts (negsuc a) (pos b) = omega (arith, neg_plus (pos (suc a * b)), neg_minus (pos (suc a * b)))
mul_parts (negsuc a) (negsuc b) = omega arith
