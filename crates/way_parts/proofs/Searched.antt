-- The entry that is played next, by a search through the way.
use Rattle.std.proofs.Common.{◌≡◌, refl, sym, ap, ◌∙◌, Bool, true, false, ℕ, zero, suc, ◌+◌, ◌-◌, ◌≤◌, ◌<◌, List, length, get_or, drop, drop-cons, add-one, eqb, arith, option_map}
use Rattle.std.specs.List.{position, position_from}
use Rattle.std.proofs.lemmas.Iterator.Adapters.{position_from-zero}
use Rattle.std.proofs.lemmas.List.{drop_all}
use borrow.Author.Tests.{eqb-true, eq-eqb}
use Rattle.laws.specs.Members.{first?}
use Rattle.laws.specs.Optional.{optional}
use Rattle.way_parts.specs.Parts.{successor}
use Rattle.way_parts.proofs.Behind.{behind, behind_none, behind_all, behind_found, behind_passed}

module _ (w : List ℕ) (i : ℕ) where
  searched_from : (n j : ℕ) → length w - j ≡ n → optional (first? (behind w i j)) ≡ option_map (λ k. k + 1) (position_from (λ p. eqb p i) j (drop j w))
  searched_from zero j e =
      let h : length w ≤ j = omega arith in
      rw (behind_all w i j h, drop_all j w h) refl
  searched_from (suc n) j e = go (eqb (get_or w j 0) i) refl (searched_from n (j + 1) (omega arith))
    where
      h : j < length w
      h = omega arith

      go : (b : Bool) → eqb (get_or w j 0) i ≡ b → optional (first? (behind w i (j + 1))) ≡ option_map (λ k. k + 1) (position_from (λ p. eqb p i) (j + 1) (drop (j + 1) w)) → optional (first? (behind w i j)) ≡ option_map (λ k. k + 1) (position_from (λ p. eqb p i) j (drop j w))
      go true q r = rw (behind_found w i j h (eqb-true _ _ q), drop-cons w j 0 h, q) refl
      go false q r = rw (behind_passed w i j h (λ p. cc (eq-eqb _ _ p)), drop-cons w j 0 h, q) (rw (ap (λ k. drop k w) (add-one j)) at r)

  pub searched : optional (successor w i) ≡ option_map (λ k. k + 1) (position (λ p. eqb p i) w)
  searched = ap (λ s. optional (first? s)) (behind_none w i) ∙ searched_from (length w) 0 (omega arith) ∙ ap (option_map (λ k. k + 1)) (sym (position_from-zero (λ p. eqb p i) w))
