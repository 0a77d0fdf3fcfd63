-- Lists that ascend strictly in some order (lists without a repeat, for one): what is kept of one, `++` and `map`, the first member, two with the same members,
-- the member after a member.
use Rattle.std.specs.Prelude.{◌≡◌, refl, ◌⊎◌, List, [], ◌∷◌, ◌++◌, map, Bool, true, false, zero, suc}
use Rattle.std.proofs.Common.{sym, ap, subst, ◌∙◌, inl, inr}
use Rattle.std.proofs.Math.Option.{none, some}
use Rattle.laws.specs.Members.{◌∈◌, Every, keep_if, keep, first?, every_member, member_every, append_cases, kept, at_member, none_some}
use Rattle.laws.specs.After.{after, after_if, Apart, after_yes, after_no}

abbrev pub Ascending : {A : Type 0} → (A → A → Type 0) → List A → Type 0
Ascending R [] = Unit {0}
Ascending R (a ∷ l) = Every (R a) l × Ascending R l

-- no member stands twice
abbrev pub Distinct : {A : Type 0} → List A → Type 0
Distinct l = Ascending (λ a b. ¬ (b ≡ a)) l

-- what has distinct images is distinct
module _ {A B : Type 0} (f : A → B) where
  apart_of : (a : A) (l : List A) → Every (λ y. ¬ (y ≡ f a)) (map f l) → Every (λ x. ¬ (x ≡ a)) l
  apart_of a [] e = tt
  apart_of a (x ∷ l) e = ((λ q. e.0 (ap f q)), apart_of a l e.1)

  pub distinct_of : (l : List A) → Distinct (map f l) → Distinct l
  distinct_of [] h = tt
  distinct_of (a ∷ l) h = (apart_of a l h.0, distinct_of l h.1)

module _ {A : Type 0} where
  ascending_keep_if : (R : A → A → Type 0) (t : Bool) (b : A) (k : List A) → Every (R b) k → Ascending R k → Ascending R (keep_if t b k)
  ascending_keep_if R true b k e h = (e, h)
  ascending_keep_if R false b k e h = h

  pub ascending_keep : (R : A → A → Type 0) (p : A → Bool) (l : List A) → Ascending R l → Ascending R (keep p l)
  ascending_keep R p [] h = tt
  ascending_keep R p (b ∷ l) h =
      ascending_keep_if R (p b) b (keep p l)
      (member_every (R b) (keep p l) (λ a m. every_member (R b) l h.0 a (kept p l a m).0))
      (ascending_keep R p l h.1)

  pub ascending_append : (R : A → A → Type 0) (l k : List A) → Ascending R l → Ascending R k → ((a b : A) → a ∈ l → b ∈ k → R a b) → Ascending R (l ++ k)
  ascending_append R [] k h g f = g
  ascending_append R (a ∷ l) k h g f =
      (member_every (R a) (l ++ k) (λ b m. step b (append_cases l k b m)), ascending_append R l k h.1 g (λ x y m n. f x y (inr m) n))
    where
      step : (b : A) → (b ∈ l) ⊎ (b ∈ k) → R a b
      step b (inl m) = every_member (R a) l h.0 b m
      step b (inr m) = f a b (inl refl) m

module _ {A : Type 0} (R : A → A → Type 0) (irr : (a : A) → ¬ R a a) (tra : (a b c : A) → R a b → R b c → R a c) where
  head_least : (a : A) (l : List A) → Ascending R (a ∷ l) → (b : A) → b ∈ (a ∷ l) → (b ≡ a) ⊎ R a b
  head_least a l h b (inl q) = inl q
  head_least a l h b (inr m) = inr (every_member (R a) l h.0 b m)

  pub first_is : (l : List A) → Ascending R l → (y : A) → y ∈ l → ((z : A) → z ∈ l → ¬ R z y) → first? l ≡ some y
  first_is [] h y m f = absurd m
  first_is (a ∷ l) h y (inl q) f = ap some (sym q)
  first_is (a ∷ l) h y (inr m) f = absurd (f a (inl refl) (every_member (R a) l h.0 y m))

  -- two with the same members are one list
  heads_meet : (a b : A) → (a ≡ b) ⊎ R b a → (b ≡ a) ⊎ R a b → a ≡ b
  heads_meet a b (inl q) k = q
  heads_meet a b (inr h) (inl q) = sym q
  heads_meet a b (inr h) (inr k) = absurd (irr a (tra a b a k h))

  behind_head : (a : A) (l k : List A) (b x : A) → Every (R a) l → a ≡ b → x ∈ l → x ∈ (b ∷ k) → x ∈ k
  behind_head a l k b x e q m (inl p) =
      absurd (irr a (subst (λ (y : A). R a y) (p ∙ sym q) (every_member (R a) l e x m)))
  behind_head a l k b x e q m (inr n) = n

  pub same_members : (l k : List A) → Ascending R l → Ascending R k → ((a : A) → a ∈ l → a ∈ k) → ((a : A) → a ∈ k → a ∈ l) → l ≡ k
  same_members [] [] h g f b = refl
  same_members [] (y ∷ k) h g f b = absurd (b y (inl refl))
  same_members (x ∷ l) [] h g f b = absurd (f x (inl refl))
  same_members (x ∷ l) (y ∷ k) h g f b =
      let q : x ≡ y = heads_meet x y (head_least y k g x (f x (inl refl))) (head_least x l h y (b y (inl refl))) in
      let r : l ≡ k = same_members l k h.1 g.1
      (λ z m. behind_head x l k y z h.0 q m (f z (inr m)))
      (λ z m. behind_head y k l x z g.0 (sym q) m (b z (inr m))) in
      cc

  -- no member stands twice
  not_head : (a : A) (l : List A) (x : A) → Every (R a) l → x ∈ l → ¬ (a ≡ x)
  not_head a l x e m q = irr a (subst (λ (y : A). R a y) (sym q) (every_member (R a) l e x m))

  pub ascending_apart : (l : List A) → Ascending R l → Apart (λ a. a) l
  ascending_apart [] h i j a b p q e = absurd (none_some a p)
  ascending_apart (x ∷ l) h zero zero a b p q e = refl
  ascending_apart (x ∷ l) h zero (suc j) a b p q e =
      absurd (let k : x ≡ b = cc in not_head x l b h.0 (at_member l j b q) k)
  ascending_apart (x ∷ l) h (suc i) zero a b p q e =
      absurd (let k : x ≡ a = cc in not_head x l a h.0 (at_member l i a p) k)
  ascending_apart (x ∷ l) h (suc i) (suc j) a b p q e = ap suc (ascending_apart l h.1 i j a b p q e)

  -- the member after x
  module _ (d : Discrete A) where
    both_none : {P : Type 0} (t : Dec P) → after_if {A = A} t [] none ≡ none
    both_none (yes h) = refl
    both_none (no h) = refl

    pub after_none : (l : List A) → Ascending R l → (x : A) → ((z : A) → z ∈ l → ¬ R x z) → after d (λ a. a) x l ≡ none
    after_none [] h x f = refl
    after_none (a ∷ []) h x f = both_none (d a x)
    after_none (a ∷ b ∷ l) h x f =
        after_no (d a x) (b ∷ l) (after d (λ a. a) x (b ∷ l)) (λ q. f b (inr (inl refl)) (rw (sym q) h.0.0))
        ∙ after_none (b ∷ l) h.1 x (λ z m. f z (inr m))

    pub after_is : (l : List A) → Ascending R l → (x y : A) → x ∈ l → y ∈ l → R x y → ((z : A) → z ∈ l → R x z → ¬ R z y) → after d (λ a. a) x l ≡ some y
    after_is [] h x y m n r f = absurd m
    after_is (a ∷ l) h x y (inl p) (inl q) r f = absurd (irr a (rw (p, q) at r))
    after_is (a ∷ []) h x y (inl p) (inr n) r f = absurd n
    after_is (a ∷ b ∷ l) h x y (inl p) (inr (inl q)) r f = after_yes (d a x) (b ∷ l) (after d (λ a. a) x (b ∷ l)) (sym p) ∙ ap some (sym q)
    after_is (a ∷ b ∷ l) h x y (inl p) (inr (inr n)) r f =
        absurd (f b (inr (inl refl)) (rw p h.0.0) (every_member (R b) l h.1.0 y n))
    after_is (a ∷ l) h x y (inr m) (inl q) r f =
        absurd (irr a (tra a x a (every_member (R a) l h.0 x m) (rw q at r)))
    after_is (a ∷ l) h x y (inr m) (inr n) r f =
        after_no (d a x) l (after d (λ a. a) x l) (not_head a l x h.0 m)
        ∙ after_is l h.1 x y m n r (λ z k. f z (inr k))
