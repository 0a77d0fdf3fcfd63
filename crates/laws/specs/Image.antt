-- The image of a list: what ascends, what is kept, what is best, which line is which.
use Rattle.std.specs.Prelude.{◌≡◌, refl, List, [], ◌∷◌, map, Bool, true, false, ◌&&◌, ℕ, zero, suc}
use Rattle.std.proofs.Common.{ap, ap₂, ◌∙◌, inl, inr}
use Rattle.std.proofs.Math.Option.{Option, none, some}
use Rattle.std.proofs.Math.ListN.{get_elem?}
use Rattle.laws.specs.Members.{◌∈◌, keep, keep_if, first?, member_every, every_member, member_map}
use Rattle.laws.specs.Ascending.{Ascending}
use Rattle.laws.specs.After.{after, after_if}
use Rattle.laws.specs.Tests.{all}
use Rattle.laws.specs.Best.{best}

abbrev pub map_option : {A B : Type 0} → (A → B) → Option A → Option B
map_option f none = none
map_option f (some a) = some (f a)

module _ {A : Type 0} where
  pub all_cong : (p q : A → Bool) (l : List A) → ((a : A) → a ∈ l → p a ≡ q a) → all p l ≡ all q l
  all_cong p q [] h = refl
  all_cong p q (a ∷ l) h = ap₂ ◌&&◌ (h a (inl refl)) (all_cong p q l (λ b m. h b (inr m)))

module _ {A B : Type 0} (f : A → B) where
  -- monotone on the members is enough
  pub ascending_image : (R : A → A → Type 0) (S : B → B → Type 0) (l : List A) → ((a b : A) → a ∈ l → b ∈ l → R a b → S (f a) (f b)) → Ascending R l → Ascending S (map f l)
  ascending_image R S [] mono h = tt
  ascending_image R S (a ∷ l) mono h =
      (member_every (S (f a)) (map f l) (λ b m. later b (member_map f l b m)), ascending_image R S l (λ x y m n. mono x y (inr m) (inr n)) h.1)
    where
      later : (b : B) → (x : A) × (x ∈ l) × (b ≡ f x) → S (f a) b
      later b (x, m, q) = rw q (mono a x (inl refl) (inr m) (every_member (R a) l h.0 x m))

  pub all_image : (p : B → Bool) (l : List A) → all p (map f l) ≡ all (λ a. p (f a)) l
  all_image p [] = refl
  all_image p (a ∷ l) = ap (λ t. p (f a) && t) (all_image p l)

  keep_if_image : (t : Bool) (a : A) (k : List A) → keep_if t (f a) (map f k) ≡ map f (keep_if t a k)
  keep_if_image true a k = refl
  keep_if_image false a k = refl

  pub keep_image : (p : B → Bool) (q : A → Bool) (l : List A) → ((a : A) → a ∈ l → p (f a) ≡ q a) → keep p (map f l) ≡ map f (keep q l)
  keep_image p q [] h = refl
  keep_image p q (a ∷ l) h = ap₂ (λ t k. keep_if t (f a) k) (h a (inl refl)) (keep_image p q l (λ b m. h b (inr m))) ∙ keep_if_image (q a) a (keep q l)

  pub best_image : (r : B → B → Bool) (s : A → A → Bool) (l : List A) → ((a b : A) → a ∈ l → b ∈ l → r (f a) (f b) ≡ s a b) → best r (map f l) ≡ map f (best s l)
  best_image r s l h =
      keep_image (λ x. all (r x) (map f l)) (λ a. all (s a) l) l
      (λ a m. all_image (r (f a)) l ∙ all_cong (λ b. r (f a) (f b)) (s a) l (λ b n. h a b m n))

  pub line_image : (l : List A) (k : ℕ) → get_elem? (map f l) k ≡ map_option f (get_elem? l k)
  line_image [] k = refl
  line_image (a ∷ l) zero = refl
  line_image (a ∷ l) (suc k) = line_image l k

  pub first_image : (l : List A) → first? (map f l) ≡ map_option f (first? l)
  first_image [] = refl
  first_image (a ∷ l) = refl

  if_image : {P : Type 0} (t : Dec P) (l : List A) (later : Option A) → after_if t (map f l) (map_option f later) ≡ map_option f (after_if t l later)
  if_image (yes h) l later = first_image l
  if_image (no h) l later = refl

  pub after_image : {G : Type 0} (d : Discrete G) (copy : B → G) (g : G) (l : List A) → after d copy g (map f l) ≡ map_option f (after d (λ a. copy (f a)) g l)
  after_image d copy g [] = refl
  after_image d copy g (a ∷ l) = ap (after_if (d (copy (f a)) g) (map f l)) (after_image d copy g l) ∙ if_image (d (copy (f a)) g) l (after d (λ a. copy (f a)) g l)
