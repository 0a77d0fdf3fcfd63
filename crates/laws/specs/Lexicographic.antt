-- Lists of numbers in lexicographic order: at the first place where two lists differ, the smaller number comes first.
use Rattle.std.specs.Prelude.{◌≡◌, refl, ◌⊎◌, ◌↔◌, List, [], ◌∷◌, ℕ, zero, suc, ◌<◌, length, take, get_or}
use Rattle.std.proofs.Common.{inl, inr, arith}

infix 40 ◌<lex◌
abbrev pub ◌<lex◌ : List ℕ → List ℕ → Type 0
[] <lex y = ⊥
(a ∷ x) <lex [] = ⊥
(a ∷ x) <lex (b ∷ y) = (a < b) ⊎ ((a ≡ b) × (x <lex y))

pub lex_irrefl : (x : List ℕ) → ¬ (x <lex x)
lex_irrefl [] h = h
lex_irrefl (a ∷ x) (inl h) = omega arith
lex_irrefl (a ∷ x) (inr h) = lex_irrefl x h.1

pub lex_trans : (x y z : List ℕ) → x <lex y → y <lex z → x <lex z
lex_trans [] y z h k = h
lex_trans (a ∷ x) [] z h k = absurd h
lex_trans (a ∷ x) (b ∷ y) [] h k = k
lex_trans (a ∷ x) (b ∷ y) (c ∷ z) (inl h) (inl k) = inl (omega arith)
lex_trans (a ∷ x) (b ∷ y) (c ∷ z) (inl h) (inr k) = inl (omega arith)
lex_trans (a ∷ x) (b ∷ y) (c ∷ z) (inr h) (inl k) = inl (omega arith)
lex_trans (a ∷ x) (b ∷ y) (c ∷ z) (inr h) (inr k) = inr (omega arith, lex_trans x y z h.1 k.1)

-- the first place where they differ
pub record FirstDifference (x y : List ℕ) (k : ℕ) : Type 0 where
  pub in_left : k < length x
  pub in_right : k < length y
  pub equal_before : take k x ≡ take k y
  pub smaller : get_or x k 0 < get_or y k 0

lex→first : (x y : List ℕ) → x <lex y → (k : ℕ) × FirstDifference x y k
lex→first [] y h = absurd h
lex→first (a ∷ x) [] h = absurd h
lex→first (a ∷ x) (b ∷ y) (inl h) = (0, record { in_left = omega arith; in_right = omega arith; equal_before = refl; smaller = h })
lex→first (a ∷ x) (b ∷ y) (inr h) =
    let (k, d) = lex→first x y h.1 in
    (suc k, record { in_left = omega arith; in_right = omega arith; equal_before = cc (h.0, d.equal_before); smaller = d.smaller })

first→lex : (k : ℕ) (x y : List ℕ) → FirstDifference x y k → x <lex y
first→lex zero [] y d = absurd (omega arith)
first→lex zero (a ∷ x) [] d = absurd (omega arith)
first→lex zero (a ∷ x) (b ∷ y) d = inl d.smaller
first→lex (suc k) [] y d = absurd (omega arith)
first→lex (suc k) (a ∷ x) [] d = absurd (omega arith)
first→lex (suc k) (a ∷ x) (b ∷ y) d =
    inr (cc d.equal_before, first→lex k x y (record { in_left = omega arith; in_right = omega arith; equal_before = cc d.equal_before; smaller = d.smaller }))

pub lex_first_difference : (x y : List ℕ) → (x <lex y) ↔ ((k : ℕ) × FirstDifference x y k)
lex_first_difference x y = (lex→first x y, λ d. first→lex d.0 x y d.1)
