-- The member that follows the first one that looks like g: `copy a` is how a member looks.
use Rattle.std.specs.Prelude.{◌≡◌, refl, ◌↔◌, List, [], ◌∷◌, ◌++◌, ℕ, zero, suc, length}
use Rattle.std.proofs.Common.{sym, ap, ◌∙◌, inl, inr, append_assoc, arith}
use Rattle.std.proofs.Math.Option.{Option, none, some}
use Rattle.std.proofs.Math.ListN.{get_elem?}
use Rattle.laws.specs.Members.{◌∈◌, first?, first_at, none_some}

abbrev pub after_if : {A P : Type 0} → Dec P → List A → Option A → Option A
after_if (yes h) l later = first? l
after_if (no h) l later = later

abbrev pub after : {A G : Type 0} → Discrete G → (A → G) → G → List A → Option A
after d copy g [] = none
after d copy g (a ∷ l) = after_if (d (copy a) g) l (after d copy g l)

-- no two places look alike
abbrev pub Apart : {A G : Type 0} → (A → G) → List A → Type 0
Apart {A} copy l = (i j : ℕ) (a b : A) → get_elem? l i ≡ some a → get_elem? l j ≡ some b → copy a ≡ copy b → i ≡ j

pub after_yes : {A P : Type 0} (t : Dec P) (l : List A) (later : Option A) → P → after_if t l later ≡ first? l
after_yes (yes h) l later p = refl
after_yes (no h) l later p = absurd (h p)

pub after_no : {A P : Type 0} (t : Dec P) (l : List A) (later : Option A) → ¬ P → after_if t l later ≡ later
after_no (yes h) l later n = absurd (n h)
after_no (no h) l later n = refl

-- what follows the member at place i
module _ {A G : Type 0} (d : Discrete G) (copy : A → G) where
  at_step : (b : A) (l : List A) (g : G) (t : Dec (copy b ≡ g)) (i : ℕ) (a : A) → (copy b ≡ g → i ≡ 0) → get_elem? (b ∷ l) i ≡ some a → copy a ≡ g
      → ((j : ℕ) → get_elem? l j ≡ some a → after d copy g l ≡ get_elem? l (suc j))
      → after_if t l (after d copy g l) ≡ get_elem? l i
  at_step b l g (yes e) i a z h q deep = rw (z e) (first_at l)
  at_step b l g (no e) zero a z h q deep = absurd (let k : b ≡ a = cc in e (ap copy k ∙ q))
  at_step b l g (no e) (suc i) a z h q deep = deep i h

  pub after_at : (l : List A) → Apart copy l → (i : ℕ) (a : A) (g : G) → get_elem? l i ≡ some a → copy a ≡ g → after d copy g l ≡ get_elem? l (suc i)
  after_at [] apart i a g h q = absurd (none_some a h)
  after_at (b ∷ l) apart i a g h q =
      at_step b l g (d (copy b) g) i a (λ e. sym (apart 0 i b a refl h (e ∙ sym q))) h q
      (λ j k. after_at l (λ i j v u p q e. (let z : suc i ≡ suc j = apart (suc i) (suc j) v u p q e in omega arith)) j a g k q)

-- the member between pre and rest, and the one after it
at_seam : {A : Type 0} (pre : List A) (v : A) (rest : List A) → get_elem? (pre ++ (v ∷ rest)) (length pre) ≡ some v
at_seam [] v rest = refl
at_seam (a ∷ pre) v rest = at_seam pre v rest

past_seam : {A : Type 0} (pre : List A) (v : A) (rest : List A) → get_elem? (pre ++ (v ∷ rest)) (suc (length pre)) ≡ first? rest
past_seam [] v rest = rw (first_at rest)
past_seam (a ∷ pre) v rest = past_seam pre v rest

pub after_in : {A G : Type 0} (d : Discrete G) (copy : A → G) (l : List A) → Apart copy l → (pre rest : List A) (v : A) → pre ++ (v ∷ rest) ≡ l
    → after d copy (copy v) l ≡ first? rest
after_in d copy l apart pre rest v e =
    after_at d copy l apart (length pre) v (copy v) (rw (← e) (at_seam pre v rest)) refl ∙ rw (← e) (past_seam pre v rest)

pub one_on : {A : Type 0} (l pre rest : List A) (v : A) → pre ++ (v ∷ rest) ≡ l → (pre ++ (v ∷ [])) ++ rest ≡ l
one_on l pre rest v e = rw append_assoc e

-- two looks that single out the same members
after_if_same : {A P Q : Type 0} (t : Dec P) (s : Dec Q) (l : List A) (x y : Option A) → P ↔ Q → x ≡ y → after_if t l x ≡ after_if s l y
after_if_same (yes p) (yes q) l x y h e = refl
after_if_same (yes p) (no q) l x y h e = absurd (q (h.0 p))
after_if_same (no p) (yes q) l x y h e = absurd (p (h.1 q))
after_if_same (no p) (no q) l x y h e = e

pub after_same : {A G H : Type 0} (d : Discrete G) (copy : A → G) (g : G) (e : Discrete H) (copy' : A → H) (g' : H) (l : List A)
    → ((a : A) → a ∈ l → (copy a ≡ g) ↔ (copy' a ≡ g')) → after d copy g l ≡ after e copy' g' l
after_same d copy g e copy' g' [] h = refl
after_same d copy g e copy' g' (a ∷ l) h =
    after_if_same (d (copy a) g) (e (copy' a) g') l (after d copy g l) (after e copy' g' l) (h a (inl refl)) (after_same d copy g e copy' g' l (λ b m. h b (inr m)))
