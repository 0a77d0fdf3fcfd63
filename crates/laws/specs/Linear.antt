-- A reader of ℤ-linear statements for `simp`: a statement is turned into one on native numbers, term by term.
-- Nonneg p m l: minus of all the l and m together are at most the pluses and p
use Rattle.std.specs.Prelude.{◌≡◌, ◌↔◌, List, [], ◌∷◌, ℕ, ◌+◌, ◌*◌, ◌≤◌, ◌<◌, ℤ, pos, neg_ℤ, ◌+ℤ◌, ◌*ℤ◌, ◌≤ℤ◌, ◌<ℤ◌}
use Rattle.std.proofs.Common.{sym, ap, ◌∙◌, arith}
use Rattle.std.proofs.Math.IntN.{*ℤ_comm}
use Rattle.laws.specs.Parts.{plus, minus, le→ℕ, ℕ→le, lt→ℕ, ℕ→lt, eq→ℕ, ℕ→eq, neg_plus, neg_minus, add_parts, mul_parts}

abbrev pub ups : List ℤ → ℕ
ups [] = 0
ups (x ∷ l) = plus x + ups l

abbrev pub downs : List ℤ → ℕ
downs [] = 0
downs (x ∷ l) = minus x + downs l

pub data Kind : Type 0 where
  is≤ is< is≡ : Kind

abbrev pub Says : Kind → ℕ → ℕ → Type 0
Says is≤ a b = a ≤ b
Says is< a b = a < b
Says is≡ a b = a ≡ b

-- m - p + (the sum of l) against 0
pub record Lin (k : Kind) (m p : ℕ) (l : List ℤ) : Type 0 where
  pub lin : Says k (m + downs l) (p + ups l)

move : (k : Kind) (m p m' p' : ℕ) (l l' : List ℤ) → (m + downs l) + (p' + ups l') ≡ (p + ups l) + (m' + downs l') → Lin k m p l ↔ Lin k m' p' l'
move is≤ m p m' p' l l' e = (λ h. record { lin = omega arith }, λ h. record { lin = omega arith })
move is< m p m' p' l l' e = (λ h. record { lin = omega arith }, λ h. record { lin = omega arith })
move is≡ m p m' p' l l' e = (λ h. record { lin = omega arith }, λ h. record { lin = omega arith })

pub r_le : (a b : ℤ) → (a ≤ℤ b) ↔ Lin is≤ 0 0 (b ∷ neg_ℤ a ∷ [])
r_le a b = (λ h. record { lin = omega (arith, le→ℕ h, neg_plus a, neg_minus a) }, λ h. ℕ→le (omega (arith, neg_plus a, neg_minus a)))

pub r_lt : (a b : ℤ) → (a <ℤ b) ↔ Lin is< 0 0 (b ∷ neg_ℤ a ∷ [])
r_lt a b = (λ h. record { lin = omega (arith, lt→ℕ h, neg_plus a, neg_minus a) }, λ h. ℕ→lt (omega (arith, neg_plus a, neg_minus a)))

pub r_eq : (a b : ℤ) → (a ≡ b) ↔ Lin is≡ 0 0 (b ∷ neg_ℤ a ∷ [])
r_eq a b = (λ h. record { lin = omega (arith, eq→ℕ h, neg_plus a, neg_minus a) }, λ h. ℕ→eq (omega (arith, neg_plus a, neg_minus a)))

module _ (k : Kind) (m p : ℕ) where
  pub r_add : (x y : ℤ) (l : List ℤ) → Lin k m p ((x +ℤ y) ∷ l) ↔ Lin k m p (x ∷ y ∷ l)
  r_add x y l = move k m p m p _ _ (omega (arith, add_parts x y))

  pub r_neg_add : (x y : ℤ) (l : List ℤ) → Lin k m p (neg_ℤ (x +ℤ y) ∷ l) ↔ Lin k m p (neg_ℤ x ∷ neg_ℤ y ∷ l)
  r_neg_add x y l = move k m p m p _ _ (omega (arith, add_parts x y, neg_plus (x +ℤ y), neg_minus (x +ℤ y), neg_plus x, neg_minus x, neg_plus y, neg_minus y))

  pub r_neg_neg : (x : ℤ) (l : List ℤ) → Lin k m p (neg_ℤ (neg_ℤ x) ∷ l) ↔ Lin k m p (x ∷ l)
  r_neg_neg x l = move k m p m p _ _ (omega (arith, neg_plus (neg_ℤ x), neg_minus (neg_ℤ x), neg_plus x, neg_minus x))

  pub r_neg : (x : ℤ) (l : List ℤ) → Lin k m p (neg_ℤ x ∷ l) ↔ Lin k (m + plus x) (p + minus x) l
  r_neg x l = move k m p (m + plus x) (p + minus x) _ _ (omega (arith, neg_plus x, neg_minus x))

  pub r_atom : (x : ℤ) (l : List ℤ) → Lin k m p (x ∷ l) ↔ Lin k (m + minus x) (p + plus x) l
  r_atom x l = move k m p (m + minus x) (p + plus x) _ _ (omega arith)

-- nothing left: the statement on native numbers
pub d_le : (m p : ℕ) → Lin is≤ m p [] ↔ (m ≤ p)
d_le m p = (λ h. omega arith, λ h. record { lin = omega arith })

pub d_lt : (m p : ℕ) → Lin is< m p [] ↔ (m < p)
d_lt m p = (λ h. omega arith, λ h. record { lin = omega arith })

pub d_eq : (m p : ℕ) → Lin is≡ m p [] ↔ (m ≡ p)
d_eq m p = (λ h. omega arith, λ h. record { lin = omega arith })

-- products: multiplied out by equations, then read by their parts
pub *_add_l : (x y z : ℤ) → (x +ℤ y) *ℤ z ≡ x *ℤ z +ℤ y *ℤ z
*_add_l x y z = ℕ→eq (omega (arith, mul_parts (x +ℤ y) z, mul_parts x z, mul_parts y z, add_parts (x *ℤ z) (y *ℤ z), ap (λ t. t * plus z) (add_parts x y), ap (λ t. t * minus z) (add_parts x y)))

pub *_add_r : (x y z : ℤ) → x *ℤ (y +ℤ z) ≡ x *ℤ y +ℤ x *ℤ z
*_add_r x y z = ℕ→eq (omega (arith, mul_parts x (y +ℤ z), mul_parts x y, mul_parts x z, add_parts (x *ℤ y) (x *ℤ z), ap (λ t. t * plus x) (add_parts y z), ap (λ t. t * minus x) (add_parts y z)))

pub *_neg_l : (x z : ℤ) → neg_ℤ x *ℤ z ≡ neg_ℤ (x *ℤ z)
*_neg_l x z = ℕ→eq (omega (arith, mul_parts (neg_ℤ x) z, mul_parts x z, neg_plus (x *ℤ z), neg_minus (x *ℤ z), ap (λ t. t * plus z) (neg_plus x), ap (λ t. t * plus z) (neg_minus x), ap (λ t. t * minus z) (neg_plus x), ap (λ t. t * minus z) (neg_minus x)))

pub *_neg_r : (x z : ℤ) → x *ℤ neg_ℤ z ≡ neg_ℤ (x *ℤ z)
*_neg_r x z = ℕ→eq (omega (arith, mul_parts x (neg_ℤ z), mul_parts x z, neg_plus (x *ℤ z), neg_minus (x *ℤ z), ap (λ t. t * plus x) (neg_plus z), ap (λ t. t * plus x) (neg_minus z), ap (λ t. t * minus x) (neg_plus z), ap (λ t. t * minus x) (neg_minus z)))

module _ (k : Kind) (m p : ℕ) where
  pub r_mul : (x y : ℤ) (l : List ℤ) → Lin k m p ((x *ℤ y) ∷ l) ↔ Lin k (m + (plus x * minus y + minus x * plus y)) (p + (plus x * plus y + minus x * minus y)) l
  r_mul x y l = move k m p (m + (plus x * minus y + minus x * plus y)) (p + (plus x * plus y + minus x * minus y)) _ _ (omega (arith, mul_parts x y))

  pub r_neg_mul : (x y : ℤ) (l : List ℤ) → Lin k m p (neg_ℤ (x *ℤ y) ∷ l) ↔ Lin k (m + (plus x * plus y + minus x * minus y)) (p + (plus x * minus y + minus x * plus y)) l
  r_neg_mul x y l = move k m p (m + (plus x * plus y + minus x * minus y)) (p + (plus x * minus y + minus x * plus y)) _ _ (omega (arith, mul_parts x y, neg_plus (x *ℤ y), neg_minus (x *ℤ y)))

  -- a numeral's multiple, the numeral on either side
  pub r_times : (n : ℕ) (x : ℤ) (l : List ℤ) → Lin k m p ((pos n *ℤ x) ∷ l) ↔ Lin k (m + n * minus x) (p + n * plus x) l
  r_times n x l = move k m p (m + n * minus x) (p + n * plus x) _ _ (omega (arith, mul_parts (pos n) x))

  pub r_neg_times : (n : ℕ) (x : ℤ) (l : List ℤ) → Lin k m p (neg_ℤ (pos n *ℤ x) ∷ l) ↔ Lin k (m + n * plus x) (p + n * minus x) l
  r_neg_times n x l = move k m p (m + n * plus x) (p + n * minus x) _ _ (omega (arith, mul_parts (pos n) x, neg_plus (pos n *ℤ x), neg_minus (pos n *ℤ x)))

  pub r_times_r : (n : ℕ) (x : ℤ) (l : List ℤ) → Lin k m p ((x *ℤ pos n) ∷ l) ↔ Lin k (m + n * minus x) (p + n * plus x) l
  r_times_r n x l = move k m p (m + n * minus x) (p + n * plus x) _ _ (omega (arith, mul_parts x (pos n)))

  pub r_neg_times_r : (n : ℕ) (x : ℤ) (l : List ℤ) → Lin k m p (neg_ℤ (x *ℤ pos n) ∷ l) ↔ Lin k (m + n * plus x) (p + n * minus x) l
  r_neg_times_r n x l = move k m p (m + n * plus x) (p + n * minus x) _ _ (omega (arith, mul_parts x (pos n), neg_plus (x *ℤ pos n), neg_minus (x *ℤ pos n)))

pub *ℤ_assoc : (x y z : ℤ) → (x *ℤ y) *ℤ z ≡ x *ℤ (y *ℤ z)
*ℤ_assoc x y z = ℕ→eq (omega (arith, mul_parts (x *ℤ y) z, mul_parts x (y *ℤ z), ap (λ t. t * plus z) (mul_parts x y), ap (λ t. t * minus z) (mul_parts x y), ap (λ t. t * plus x) (mul_parts y z), ap (λ t. t * minus x) (mul_parts y z)))

pub *_left_comm : (x y z : ℤ) → x *ℤ (y *ℤ z) ≡ y *ℤ (x *ℤ z)
*_left_comm x y z = sym (*ℤ_assoc x y z) ∙ ap (λ t. t *ℤ z) (*ℤ_comm x y) ∙ *ℤ_assoc y x z

-- THE SETS, for `simp SET (omega arith)`. The order matters: the last two rules fit every term.
-- lin: linear statements; a product is an atom, but for a numeral's multiple, `pos 2 *ℤ x`
pub ruleset lin = (r_le, r_lt, r_eq, r_add, r_neg_add, r_neg_neg, r_neg_times, r_neg_times_r, r_times, r_times_r, r_neg, r_atom, d_le, d_lt, d_eq)

-- ring: products of two, multiplied out and read by parts, so that they meet products of the native numbers
pub ruleset ring = (*_add_l, *_add_r, *_neg_l, *_neg_r, r_le, r_lt, r_eq, r_add, r_neg_add, r_neg_neg, r_neg_mul, r_mul, r_neg, r_atom, d_le, d_lt, d_eq)

-- poly: products of any degree, multiplied out, each an atom with its factors sorted
pub ruleset poly = (*_add_l, *_add_r, *_neg_l, *_neg_r, *ℤ_assoc, *ℤ_comm, *_left_comm, lin)

-- a hypothesis in scope, put before the goal, where `simp lin` reads it
pub given : {A G : Type 0} → A → (A → G) → G
given a f = f a

pub given2 : {A B G : Type 0} → A → B → (A → B → G) → G
given2 a b f = f a b

pub given3 : {A B C G : Type 0} → A → B → C → (A → B → C → G) → G
given3 a b c f = f a b c

pub given4 : {A B C D G : Type 0} → A → B → C → D → (A → B → C → D → G) → G
given4 a b c d f = f a b c d
