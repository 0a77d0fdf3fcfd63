-- Whether two numbers are one, as 1 or 0, and the list that marks a number in another.
use mathlib.Core.Path.{◌≡◌, refl, sym, ◌∙◌}
use mathlib.Core.Logic.{inl, inr}
use mathlib.Core.Bool.{Bool, true, false}
use mathlib.Core.List.{List, [], ◌∷◌}
use Prim.Native.Nat.{ℕ, ◌≤◌, ◌<◌}
use native.Mathlib.Omega.{arith}
use native.Mathlib.Decide.{ℕ_discrete}
use lib.Dec.{eqb}
use Rattle.laws.specs.Members.{◌∈◌, every_member}
use Rattle.laws.specs.Ascending.{Ascending}
use Rattle.laws.specs.Totals.{weigh}
use Rattle.laws.specs.Equality.{test_same, test_differ}
use Rattle.way_theory.specs.Ways.{one_if}
use Rattle.way_theory.specs.WayFlow.{one_if_same, marked}

pub same_one : (m n : ℕ) → m ≡ n → one_if_same m n ≡ 1
same_one m n q = go (eqb m n) refl
  where
    go : (t : Bool) → eqb m n ≡ t → one_if t ≡ 1
    go true e = refl
    go false e = absurd (test_differ m n e q)

pub other_none : (m n : ℕ) → ¬ (m ≡ n) → one_if_same m n ≡ 0
other_none m n q = go (eqb m n) refl
  where
    go : (t : Bool) → eqb m n ≡ t → one_if t ≡ 0
    go true e = absurd (q (test_same m n e))
    go false e = refl

pub same_iff : (m n k l : ℕ) → (m ≡ n → k ≡ l) → (k ≡ l → m ≡ n) → one_if_same m n ≡ one_if_same k l
same_iff m n k l f g = go (ℕ_discrete m n)
  where
    go : Dec (m ≡ n) → one_if_same m n ≡ one_if_same k l
    go (yes q) = same_one m n q ∙ sym (same_one k l (f q))
    go (no q) = other_none m n q ∙ sym (other_none k l (λ r. q (g r)))

pub same_small : (m n : ℕ) → one_if_same m n ≤ 1
same_small m n = go (eqb m n)
  where
    go : (t : Bool) → one_if t ≤ 1
    go true = omega arith
    go false = omega arith

-- a list that falls, and the place of p in it
abbrev pub Above : ℕ → ℕ → Type 0
Above a b = b < a

pub marked_none : (φ : ℕ → ℕ) (l : List ℕ) (p : ℕ) → ((a : ℕ) → a ∈ l → ¬ (a ≡ p)) → weigh φ l (marked p l) ≡ 0
marked_none φ [] p h = refl
marked_none φ (a ∷ l) p h = rw (other_none a p (h a (inl refl)), marked_none φ l p (λ b m. h b (inr m))) (omega arith)

pub marked_one : (φ : ℕ → ℕ) (l : List ℕ) (p : ℕ) → Ascending Above l → p ∈ l → weigh φ l (marked p l) ≡ φ p
marked_one φ [] p h m = absurd m
marked_one φ (a ∷ l) p h (inl q) =
    rw (same_one a p (sym q), marked_none φ l p (λ b m. (let g = every_member (Above a) l h.0 b m in λ z. omega arith)), q) (omega arith)
marked_one φ (a ∷ l) p h (inr m) =
    let g = every_member (Above a) l h.0 p m in
    rw (other_none a p (λ z. omega arith), marked_one φ l p h.1 m) (omega arith)
