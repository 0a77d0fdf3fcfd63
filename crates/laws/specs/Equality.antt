-- Whether two numbers, or two lists, are one, as a decision that computes.
use Rattle.std.specs.Prelude.{◌≡◌, refl, List, [], ◌∷◌, Bool, true, false, ℕ, T, eqb}
use Rattle.std.proofs.Common.{sym, subst, arith, eqb→eq}
use Rattle.std.proofs.Math.Dec.{eqb_refl}

pub test_same : (m n : ℕ) → eqb m n ≡ true → m ≡ n
test_same m n e = eqb→eq m n (rw e tt)

pub test_differ : (m n : ℕ) → eqb m n ≡ false → ¬ (m ≡ n)
test_differ m n e q = rw e at (subst (λ (k : ℕ). T (eqb m k)) q (eqb_refl m))

abbrev pub same_by_test : (m n : ℕ) (t : Bool) → eqb m n ≡ t → Dec (m ≡ n)
same_by_test m n true e = yes (test_same m n e)
same_by_test m n false e = no (test_differ m n e)

abbrev pub same_number : Discrete ℕ
same_number m n = same_by_test m n (eqb m n) refl

module _ {A : Type 0} where
  pub cons_same : (a b : A) (x y : List A) → a ≡ b → x ≡ y → ◌≡◌ {A = List A} (a ∷ x) (b ∷ y)
  cons_same a b x y p q = cc

  pub heads_same : (a b : A) (x y : List A) → ◌≡◌ {A = List A} (a ∷ x) (b ∷ y) → a ≡ b
  heads_same a b x y e = cc

  pub tails_same : (a b : A) (x y : List A) → ◌≡◌ {A = List A} (a ∷ x) (b ∷ y) → x ≡ y
  tails_same a b x y e = cc

  pub nil_cons : (b : A) (y : List A) → ¬ (◌≡◌ {A = List A} [] (b ∷ y))
  nil_cons b y e = let z : ◌≡◌ {A = ℕ} 0 1 = cc in omega arith

  abbrev pub same_cons : (a b : A) (x y : List A) → Dec (a ≡ b) → Dec (x ≡ y) → Dec (◌≡◌ {A = List A} (a ∷ x) (b ∷ y))
  same_cons a b x y (yes p) (yes q) = yes (cons_same a b x y p q)
  same_cons a b x y (yes p) (no q) = no (λ e. q (tails_same a b x y e))
  same_cons a b x y (no p) t = no (λ e. p (heads_same a b x y e))

  abbrev pub same_lists : Discrete A → Discrete (List A)
  same_lists d [] [] = yes refl
  same_lists d [] (b ∷ y) = no (nil_cons b y)
  same_lists d (a ∷ x) [] = no (λ e. nil_cons a x (sym e))
  same_lists d (a ∷ x) (b ∷ y) = same_cons a b x y (d a b) (same_lists d x y)

abbrev pub same_list : Discrete (List ℕ)
same_list = same_lists same_number
