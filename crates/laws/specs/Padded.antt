-- An array of k places that holds a list: the list, and d in the places that are left; and an array filled one place after another.
use Rattle.std.specs.Prelude.{◌≡◌, refl, List, [], ◌∷◌, ◌++◌, map, ℕ, zero, suc, ◌+◌, ◌-◌, ◌≤◌, ◌<◌, length, get_or, take, drop, set, replicate}
use Rattle.std.proofs.Common.{sym, ap, ◌∙◌, add-one, arith, length-append, take-suc, length-take-le, take_at}
use Rattle.std.proofs.lemmas.List.{length-map, length-replicate, set_at}
use Rattle.std.proofs.Math.Seq.{append_snoc, take-length}
use Rattle.laws.specs.Snoc.{map_more}
use Rattle.laws.specs.Store.{set_cases}

abbrev pub padded : {A : Type 0} → ℕ → A → List A → List A
padded k d l = l ++ replicate (k - length l) d

pub padded_length : {A : Type 0} (k : ℕ) (d : A) (l : List A) → length l ≤ k → length (padded k d l) ≡ k
padded_length k d l h = length-append l (replicate (k - length l) d) ∙ omega (arith, length-replicate (k - length l) d)

-- the first places hold the list
pub take_padded : {A : Type 0} (k : ℕ) (d : A) (l : List A) → take (length l) (padded k d l) ≡ l
take_padded k d l = take_at l (replicate (k - length l) d) (length l) refl

-- one place more holds an element
pub padded_more : {A : Type 0} (k : ℕ) (d : A) (l : List A) (a : A) → length l < k → set (padded k d l) (length l) a ≡ padded k d (l ++ (a ∷ []))
padded_more k d l a h =
    ap (λ (n : ℕ). set (l ++ replicate n d) (length l) a) left ∙ set_at l d (replicate (k - length (l ++ (a ∷ []))) d) a (length l) refl ∙ sym (append_snoc l a (replicate (k - length (l ++ (a ∷ []))) d))
  where
    left : k - length l ≡ suc (k - length (l ++ (a ∷ [])))
    left = omega (arith, length-append l (a ∷ []))

-- read with d where there is nothing, an array is its list
pub padded_at : {A : Type 0} (k : ℕ) (d : A) (l : List A) (i : ℕ) → get_or (padded k d l) i d ≡ get_or l i d
padded_at k d l i = go l i (k - length l)
  where
    same : (m i : ℕ) → get_or (replicate m d) i d ≡ d
    same zero i = refl
    same (suc m) zero = refl
    same (suc m) (suc i) = same m i

    go : (l : List _) (i m : ℕ) → get_or (l ++ replicate m d) i d ≡ get_or l i d
    go [] i m = same m i
    go (a ∷ l) zero m = refl
    go (a ∷ l) (suc i) m = go l i m

-- what is left of places that all hold d
pub drop_replicate : {A : Type 0} (n m : ℕ) (d : A) → drop n (replicate m d) ≡ replicate (m - n) d
drop_replicate zero m d = let z : m - 0 ≡ m = omega arith in rw z
drop_replicate (suc n) zero d = let z : 0 - suc n ≡ 0 = omega arith in rw z
drop_replicate (suc n) (suc m) d = let z : suc m - suc n ≡ m - n = omega arith in rw z (drop_replicate n m d)

-- an array whose first places are written over
pub part_written : {A : Type 0} (l rest : List A) (n : ℕ) → length l ≡ n → (n ≤ length (l ++ rest)) × (take n (l ++ rest) ≡ l)
part_written l rest n e = (omega (arith, length-append l rest), take_at l rest n e)

module _ {A B : Type 0} (f : A → B) (l : List A) (k : ℕ) (d : B) where
  -- f of the first i members of l, and d behind them
  abbrev pub filled : ℕ → List B
  filled i = padded k d (map f (take i l))

  length_first : (i : ℕ) → i ≤ length l → length (map f (take i l)) ≡ i
  length_first i h = length-map (take i l) f ∙ length-take-le i l h

  pub filled_more : (e : A) (i : ℕ) (s : List B) (b : B) → s ≡ filled i → i < length l → i < k → b ≡ f (get_or l i e) → set s i b ≡ filled (i + 1)
  filled_more e i s b p h g q =
      ap (λ x. set x i b) p
      ∙ ap (λ n. set (map f (take i l) ++ replicate n d) i b) left
      ∙ set_at (map f (take i l)) d (replicate (k - suc i) d) b i (length_first i (omega arith))
      ∙ ap (λ x. map f (take i l) ++ (x ∷ replicate (k - suc i) d)) q
      ∙ sym (append_snoc (map f (take i l)) (f (get_or l i e)) (replicate (k - suc i) d))
      ∙ ap (λ t. t ++ replicate (k - suc i) d) (sym (map_more f (take i l) (get_or l i e)))
      ∙ ap (λ t. map f t ++ replicate (k - suc i) d) (sym (take-suc l i e h))
      ∙ ap (λ n. map f (take (suc i) l) ++ replicate n d) right
      ∙ ap filled (sym (add-one i))
    where
      left : k - length (map f (take i l)) ≡ suc (k - suc i)
      left = omega (arith, length_first i (omega arith))

      right : k - suc i ≡ k - length (map f (take (suc i) l))
      right = omega (arith, length_first (suc i) (omega arith))

  pub filled_all : (i : ℕ) → i ≡ length l → filled i ≡ padded k d (map f l)
  filled_all i e = ap filled e ∙ ap (λ t. padded k d (map f t)) (take-length l)

-- what holds of the first i members holds of one more, once it is set
pub set_more : {A : Type 0} (P : ℕ → A → Type 0) (l : List A) (i : ℕ) (a d : A) → i < length l → ((k : ℕ) → k < i → P k (get_or l k d)) → P i a
    → (k : ℕ) → k < i + 1 → P k (get_or (set l i a) k d)
set_more P l i a d h all here k m = set_cases (λ j x. j < i + 1 → P j x) l i a d h (λ _. here) (λ j q s. all j (omega arith)) k m
