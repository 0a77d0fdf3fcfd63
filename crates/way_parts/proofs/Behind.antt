-- The entries behind the first j whose predecessor is i.
use mathlib.Core.Path.{◌≡◌, refl, sym, ap, ◌∙◌}
use mathlib.Core.List.{List, [], ◌∷◌}
use Prim.Native.Nat.{ℕ, suc, ◌+◌, ◌-◌, ◌≤◌, ◌<◌}
use native.Mathlib.Omega.{arith}
use native.Mathlib.Numerals.{add-one}
use lib.Dec.{eqb}
use lib.ListN.{length, get_or}
use borrow.Author.Tests.{eq-eqb, ne_eqb}
use Rattle.laws.specs.Members.{keep, keep_if}
use Rattle.laws.specs.Within.{from}
use Rattle.way_parts.specs.Parts.{predecessor, successors}

unfoldable pub behind : List ℕ → ℕ → ℕ → List ℕ
behind w i j = keep (λ k. eqb (predecessor w k) i) (from (length w - j) (suc j))

pub behind_none : (w : List ℕ) (i : ℕ) → successors w i ≡ behind w i 0
unfolding behind
behind_none w i = let e : length w - 0 ≡ length w = omega arith in rw e refl

pub behind_all : (w : List ℕ) (i j : ℕ) → length w ≤ j → behind w i j ≡ []
unfolding behind
behind_all w i j h = let e : length w - j ≡ 0 = omega arith in rw e refl

module _ (w : List ℕ) (i j : ℕ) (h : j < length w) where
  pub behind_more : behind w i j ≡ keep_if (eqb (predecessor w (suc j)) i) (suc j) (behind w i (suc j))
  unfolding behind
  behind_more =
      let e : length w - j ≡ suc (length w - suc j) = omega arith in
      ap (λ n. keep (λ k. eqb (predecessor w k) i) (from n (suc j))) e

  at_place : predecessor w (suc j) ≡ get_or w j 0
  at_place = let e : suc j - 1 ≡ j = omega arith in ap (λ k. get_or w k 0) e

  pub behind_found : get_or w j 0 ≡ i → behind w i j ≡ (j + 1) ∷ behind w i (j + 1)
  behind_found q = rw add-one (behind_more ∙ ap (λ t. keep_if t (suc j) (behind w i (suc j))) (eq-eqb (predecessor w (suc j)) i (at_place ∙ q)))

  pub behind_passed : ¬ (get_or w j 0 ≡ i) → behind w i j ≡ behind w i (j + 1)
  behind_passed q = rw add-one (behind_more ∙ ap (λ t. keep_if t (suc j) (behind w i (suc j))) (ne_eqb (predecessor w (suc j)) i (λ r. q (sym at_place ∙ r))))
