-- Tests, the Bools that code and definitions compute: joined, as questions in a row, of a decided fact, of every member of a list, of every number below n.
use Rattle.std.specs.Prelude.{◌≡◌, refl, Bool, true, false, ◌&&◌, ◌||◌, List, [], ◌∷◌, ◌⊎◌, ℕ, zero, suc, ◌+◌, ◌<◌, length, get_or, drop}
use Rattle.std.proofs.Common.{sym, ap, ◌∙◌, inl, inr, add-one, arith, drop-cons}
use Rattle.std.proofs.Math.Decide.{ℕ_discrete}
use Rattle.std.proofs.Math.Seq.{drop-length}
use Rattle.laws.specs.Members.{◌∈◌}

-- two tests joined
pub and_true : (p q : Bool) → p && q ≡ true → (p ≡ true) × (q ≡ true)
and_true true q e = (refl, e)
and_true false q e = absurd (let z : ◌≡◌ {A = ℕ} 0 1 = cc in omega arith)

pub true_and : (p q : Bool) → p ≡ true → q ≡ true → p && q ≡ true
true_and true q e f = f
true_and false q e f = e

pub and_left : (p q : Bool) → p ≡ true → p && q ≡ q
and_left true q e = refl
and_left false q e = absurd (let z : ◌≡◌ {A = ℕ} 0 1 = cc in omega arith)

pub and_stops : (p q : Bool) → p ≡ false → p && q ≡ false
and_stops true q e = absurd (let z : ◌≡◌ {A = ℕ} 0 1 = cc in omega arith)
and_stops false q e = refl

pub and_stops_second : (p q : Bool) → q ≡ false → p && q ≡ false
and_stops_second true q e = e
and_stops_second false q e = refl

-- two tests of the code, the second only where the first holds
pub and_then : (b₁ b₂ x y : Bool) → b₁ ≡ x → b₁ ≡ true → b₂ ≡ y → b₂ ≡ x && y
and_then b₁ b₂ x y p q r = rw (sym p ∙ q) r

pub and_else : (b₁ x y : Bool) → b₁ ≡ x → b₁ ≡ false → false ≡ x && y
and_else b₁ x y p q = rw (sym p ∙ q)

-- one of two tests
pub or_cases : (p q : Bool) → p || q ≡ true → (p ≡ true) ⊎ (q ≡ true)
or_cases true q e = inl refl
or_cases false q e = inr e

pub or_left : (p q : Bool) → p ≡ true → p || q ≡ true
or_left p q e = rw e

pub or_right : (p q : Bool) → q ≡ true → p || q ≡ true
or_right true q e = refl
or_right false q e = e

-- a question of a row of them: the next one's answer where the test holds, and else this one's number
abbrev pub ask : Bool → ℕ → ℕ → ℕ
ask true n next = next
ask false n next = n

-- a decided fact as a test
abbrev pub test : {P : Type 0} → Dec P → Bool
test (yes h) = true
test (no h) = false

pub test_yes : {P : Type 0} (t : Dec P) → test t ≡ true → P
test_yes (yes h) e = h
test_yes (no h) e = absurd (let z : ◌≡◌ {A = ℕ} 0 1 = cc in omega arith)

-- a test of every member
abbrev pub all : {A : Type 0} → (A → Bool) → List A → Bool
all p [] = true
all p (a ∷ l) = p a && all p l

module _ {A : Type 0} (p : A → Bool) where
  pub all_member : (l : List A) → all p l ≡ true → (a : A) → a ∈ l → p a ≡ true
  all_member [] e a m = absurd m
  all_member (b ∷ l) e a (inl q) = ap p q ∙ (and_true (p b) (all p l) e).0
  all_member (b ∷ l) e a (inr m) = all_member l (and_true (p b) (all p l) e).1 a m

  pub member_all : (l : List A) → ((a : A) → a ∈ l → p a ≡ true) → all p l ≡ true
  member_all [] f = refl
  member_all (b ∷ l) f = true_and (p b) (all p l) (f b (inl refl)) (member_all l (λ a m. f a (inr m)))

  pub all_at : (l : List A) (d : A) (i : ℕ) → all p l ≡ true → i < length l → p (get_or l i d) ≡ true
  all_at [] d i e h = absurd (omega arith)
  all_at (a ∷ l) d zero e h = (and_true (p a) (all p l) e).0
  all_at (a ∷ l) d (suc i) e h = all_at l d i (and_true (p a) (all p l) e).1 (omega arith)

  -- for a loop from the front of l: what is left to test from place i on
  module _ (l : List A) (d : A) where
    pub all_more : (i : ℕ) → i < length l → all p l ≡ all p (drop i l) → p (get_or l i d) ≡ true → all p l ≡ all p (drop (i + 1) l)
    all_more i h e t = rw add-one (e ∙ ap (all p) (drop-cons l i d h) ∙ and_left (p (get_or l i d)) (all p (drop (suc i) l)) t)

    pub all_fails : (i : ℕ) → i < length l → all p l ≡ all p (drop i l) → p (get_or l i d) ≡ false → all p l ≡ false
    all_fails i h e t = e ∙ ap (all p) (drop-cons l i d h) ∙ and_stops (p (get_or l i d)) (all p (drop (suc i) l)) t

    pub all_done : (i : ℕ) → i ≡ length l → all p l ≡ all p (drop i l) → all p l ≡ true
    all_done i h e = e ∙ ap (λ k. all p (drop k l)) h ∙ ap (all p) (drop-length l)

-- a test of every number below n
abbrev pub all_below : ℕ → (ℕ → Bool) → Bool
all_below zero p = true
all_below (suc n) p = all_below n p && p n

pub all_below_lem : (n : ℕ) (p : ℕ → Bool) → all_below n p ≡ true → (v : ℕ) → v < n → p v ≡ true
all_below_lem zero p e v h = absurd (omega arith)
all_below_lem (suc n) p e v h = go (ℕ_discrete v n) (all_below_lem n p (and_true (all_below n p) (p n) e).0 v)
  where
    go : Dec (v ≡ n) → (v < n → p v ≡ true) → p v ≡ true
    go (yes q) r = ap p q ∙ (and_true (all_below n p) (p n) e).1
    go (no q) r = r (omega arith)

pub below_all : (n : ℕ) (p : ℕ → Bool) → ((v : ℕ) → v < n → p v ≡ true) → all_below n p ≡ true
below_all zero p f = refl
below_all (suc n) p f = true_and (all_below n p) (p n) (below_all n p (λ v h. f v (omega arith))) (f n (omega arith))
