-- Lists and their members: what holds of every member, what is kept by a test, the members of `++` and `map`, the member at a place.
use Rattle.std.specs.Prelude.{◌≡◌, refl, ◌⊎◌, List, [], ◌∷◌, ◌++◌, map, Bool, true, false, ℕ, zero, suc, ◌<◌, length, get_or}
use Rattle.std.proofs.Common.{ap, inl, inr, arith}
use Rattle.std.proofs.Math.Option.{Option, none, some}
use Rattle.std.proofs.Math.ListN.{get_elem?}

module _ {A : Type 0} where
  infix 40 ◌∈◌
  abbrev pub ◌∈◌ : A → List A → Type 0
  a ∈ [] = ⊥
  a ∈ (b ∷ l) = (a ≡ b) ⊎ (a ∈ l)

  abbrev pub Every : (A → Type 0) → List A → Type 0
  Every P [] = Unit {0}
  Every P (a ∷ l) = P a × Every P l

  abbrev pub keep_if : Bool → A → List A → List A
  keep_if true a l = a ∷ l
  keep_if false a l = l

  -- the members that pass the test, in order
  abbrev pub keep : (A → Bool) → List A → List A
  keep p [] = []
  keep p (a ∷ l) = keep_if (p a) a (keep p l)

  abbrev pub first? : List A → Option A
  first? [] = none
  first? (a ∷ l) = some a

module _ {A : Type 0} where
  pub every_member : (P : A → Type 0) (l : List A) → Every P l → (a : A) → a ∈ l → P a
  every_member P [] e a m = absurd m
  every_member P (b ∷ l) e a (inl q) = rw q e.0
  every_member P (b ∷ l) e a (inr m) = every_member P l e.1 a m

  pub member_every : (P : A → Type 0) (l : List A) → ((a : A) → a ∈ l → P a) → Every P l
  member_every P [] f = tt
  member_every P (b ∷ l) f = (f b (inl refl), member_every P l (λ a m. f a (inr m)))

  pub every_map : (P Q : A → Type 0) (l : List A) → ((a : A) → P a → Q a) → Every P l → Every Q l
  every_map P Q [] g e = tt
  every_map P Q (a ∷ l) g e = (g a e.0, every_map P Q l g e.1)

  pub every_append : (P : A → Type 0) (l k : List A) → Every P l → Every P k → Every P (l ++ k)
  every_append P [] k e d = d
  every_append P (a ∷ l) k e d = (e.0, every_append P l k e.1 d)

  pub every_map2 : (P Q R : A → Type 0) (l : List A) → ((a : A) → P a → Q a → R a) → Every P l → Every Q l → Every R l
  every_map2 P Q R [] g d e = tt
  every_map2 P Q R (a ∷ l) g d e = (g a d.0 e.0, every_map2 P Q R l g d.1 e.1)

  pub append_cases : (l k : List A) (a : A) → a ∈ (l ++ k) → (a ∈ l) ⊎ (a ∈ k)
  append_cases [] k a m = inr m
  append_cases (b ∷ l) k a (inl q) = inl (inl q)
  append_cases (b ∷ l) k a (inr m) = step (append_cases l k a m)
    where
      step : (a ∈ l) ⊎ (a ∈ k) → (a ∈ (b ∷ l)) ⊎ (a ∈ k)
      step (inl m) = inl (inr m)
      step (inr m) = inr m

  pub append_left : (l k : List A) (a : A) → a ∈ l → a ∈ (l ++ k)
  append_left [] k a m = absurd m
  append_left (b ∷ l) k a (inl q) = inl q
  append_left (b ∷ l) k a (inr m) = inr (append_left l k a m)

  pub append_right : (l k : List A) (a : A) → a ∈ k → a ∈ (l ++ k)
  append_right [] k a m = m
  append_right (b ∷ l) k a m = inr (append_right l k a m)

  -- what is kept: the members that pass
  kept_step : (p : A → Bool) (b : A) (l : List A) (a : A) (t : Bool) → p b ≡ t → (a ∈ keep p l → (a ∈ l) × (p a ≡ true))
      → a ∈ keep_if t b (keep p l) → (a ∈ (b ∷ l)) × (p a ≡ true)
  kept_step p b l a true e f (inl q) = (inl q, cc (ap p q))
  kept_step p b l a true e f (inr m) = (inr (f m).0, (f m).1)
  kept_step p b l a false e f m = (inr (f m).0, (f m).1)

  pub kept : (p : A → Bool) (l : List A) (a : A) → a ∈ keep p l → (a ∈ l) × (p a ≡ true)
  kept p [] a m = absurd m
  kept p (b ∷ l) a m = kept_step p b l a (p b) refl (kept p l a) m

  keeps_head : (p : A → Bool) (b : A) (k : List A) (a : A) (t : Bool) → p b ≡ t → p a ≡ true → a ≡ b → a ∈ keep_if t b k
  keeps_head p b k a true e h q = inl q
  keeps_head p b k a false e h q = absurd (let z : ◌≡◌ {A = ℕ} 0 1 = cc (ap p q) in omega arith)

  keeps_tail : (b : A) (k : List A) (a : A) (t : Bool) → a ∈ k → a ∈ keep_if t b k
  keeps_tail b k a true m = inr m
  keeps_tail b k a false m = m

  pub keeps : (p : A → Bool) (l : List A) (a : A) → a ∈ l → p a ≡ true → a ∈ keep p l
  keeps p [] a m h = absurd m
  keeps p (b ∷ l) a (inl q) h = keeps_head p b (keep p l) a (p b) refl h q
  keeps p (b ∷ l) a (inr m) h = keeps_tail b (keep p l) a (p b) (keeps p l a m h)

  -- the member at a place
  pub none_some : (a : A) → ¬ (◌≡◌ {A = Option A} none (some a))
  none_some a e = let z : ◌≡◌ {A = ℕ} 0 1 = cc in omega arith

  pub at_member : (l : List A) (i : ℕ) (a : A) → get_elem? l i ≡ some a → a ∈ l
  at_member [] i a e = absurd (none_some a e)
  at_member (b ∷ l) zero a e = inl (cc)
  at_member (b ∷ l) (suc i) a e = inr (at_member l i a e)

  pub get_or_member : (l : List A) (k : ℕ) (d : A) → k < length l → get_or l k d ∈ l
  get_or_member [] k d h = absurd (omega arith)
  get_or_member (a ∷ l) zero d h = inl refl
  get_or_member (a ∷ l) (suc k) d h = inr (get_or_member l k d (omega arith))

  pub first_at : (l : List A) → first? l ≡ get_elem? l 0
  first_at [] = refl
  first_at (a ∷ l) = refl

  pub first_member : (l : List A) (a : A) → first? l ≡ some a → a ∈ l
  first_member [] a e = absurd (none_some a e)
  first_member (b ∷ l) a e = inl (cc)

module _ {A B : Type 0} (f : A → B) where
  pub map_member : (l : List A) (a : A) → a ∈ l → f a ∈ map f l
  map_member [] a m = absurd m
  map_member (b ∷ l) a (inl q) = inl (ap f q)
  map_member (b ∷ l) a (inr m) = inr (map_member l a m)

  pub member_map : (l : List A) (b : B) → b ∈ map f l → (a : A) × (a ∈ l) × (b ≡ f a)
  member_map [] b m = absurd m
  member_map (a ∷ l) b (inl q) = (a, inl refl, q)
  member_map (a ∷ l) b (inr m) = let (c, n, q) = member_map l b m in (c, inr n, q)

  pub map_at : (l : List A) (k : ℕ) (d : A) (e : B) → k < length l → get_or (map f l) k e ≡ f (get_or l k d)
  map_at [] k d e h = absurd (omega arith)
  map_at (a ∷ l) zero d e h = refl
  map_at (a ∷ l) (suc k) d e h = map_at l k d e (omega arith)
