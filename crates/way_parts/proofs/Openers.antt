-- As many parts as 0 stands in the way.
use mathlib.Core.Path.{◌≡◌, refl, ap, ◌∙◌}
use mathlib.Core.Bool.{Bool, true, false}
use mathlib.Core.List.{List, [], ◌∷◌}
use Prim.Native.Nat.{ℕ, suc, ◌+◌, ◌-◌, ◌<◌}
use native.Mathlib.Omega.{arith}
use lib.Dec.{eqb}
use lib.ListN.{length, length-map, get_or}
use Rattle.laws.specs.Members.{keep, keep_if}
use Rattle.laws.specs.Within.{from}
use Rattle.way_theory.specs.Ways.{one_if, times}
use Rattle.way_parts.specs.Parts.{predecessor, openers, part_of, parts}

-- the numbers from s on whose place in w holds 0
kept_zeros : (w : List ℕ) (s : ℕ) (f : ℕ → ℕ) → ((k : ℕ) → k < length w → f (s + k) ≡ get_or w k 0) → length (keep (λ j. eqb (f j) 0) (from (length w) s)) ≡ times 0 w
kept_zeros [] s f h = refl
kept_zeros (p ∷ w) s f h = ap (λ x. length (keep_if (eqb x 0) s rest)) head ∙ go (eqb p 0) (kept_zeros w (suc s) f later)
  where
    rest : List ℕ
    rest = keep (λ j. eqb (f j) 0) (from (length w) (suc s))

    head : f s ≡ p
    head =
        let z : s + 0 ≡ s = omega arith in
        rw z at (h 0 (omega arith))

    later : (k : ℕ) → k < length w → f (suc s + k) ≡ get_or w k 0
    later k l =
        let z : s + suc k ≡ suc s + k = omega arith in
        rw z at (h (suc k) (omega arith))

    go : (t : Bool) → length rest ≡ times 0 w → length (keep_if t s rest) ≡ one_if t + times 0 w
    go true e = omega arith
    go false e = omega arith

pub as_many_parts : (w : List ℕ) → length (parts w) ≡ times 0 w
unfolding parts
as_many_parts w =
    length-map (openers w) (part_of w)
    ∙ kept_zeros w 1 (predecessor w) (λ k h. (let z : 1 + k - 1 ≡ k = omega arith in ap (λ i. get_or w i 0) z))
