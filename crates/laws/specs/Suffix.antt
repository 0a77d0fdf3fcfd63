-- The suffix of a list from an index on.
use Rattle.std.specs.Prelude.{◌≡◌, List, [], ◌∷◌, ℕ, zero, suc, ◌+◌, ◌-◌, ◌<◌, length, take, drop, get_or}
use Rattle.std.proofs.Common.{arith, add-one, length-drop, drop-cons, take_all}
use Rattle.laws.specs.Equality.{heads_same, tails_same, nil_cons}

-- its first element and the rest, with the index as code counts
pub drop_step : (l : List ℕ) (i : ℕ) → i < length l → drop i l ≡ get_or l i 0 ∷ drop (i + 1) l
drop_step l i h = rw (add-one, drop-cons l i 0)

-- a suffix known to have a front: that is the element at the index, and the rest follows it
pub record Front {A : Type 0} (d : A) (l : List A) (i : ℕ) (a : A) (rest : List A) : Type 0 where
  pub inside : i < length l
  pub here : get_or l i d ≡ a
  pub later : drop (suc i) l ≡ rest

pub drop_front : {A : Type 0} (d : A) (l : List A) (i : ℕ) (a : A) (rest : List A) → drop i l ≡ a ∷ rest → Front d l i a rest
drop_front d [] zero a rest e = absurd (nil_cons a rest e)
drop_front d [] (suc i) a rest e = absurd (nil_cons a rest e)
drop_front d (x ∷ l) zero a rest e = record { inside = omega arith; here = heads_same x a l rest e; later = tails_same x a l rest e }
drop_front d (x ∷ l) (suc i) a rest e =
    let f = drop_front d l i a rest e in
    record { inside = omega (arith, f.inside); here = f.here; later = f.later }

-- the part of a slice from an index to the end
pub take_rest : (s : List ℕ) (n : ℕ) → take (length s - n) (drop n s) ≡ drop n s
take_rest s n = take_all (length s - n) (drop n s) (rw length-drop (omega arith))
