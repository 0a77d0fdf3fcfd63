-- The places of an array that holds the playing order, for a loop over them.
use mathlib.Core.Path.{◌≡◌, refl, ap, ◌∙◌}
use mathlib.Core.List.{List, ◌∷◌}
use Prim.Native.Nat.{ℕ, ◌+◌, ◌-◌, ◌≤◌, ◌<◌}
use native.Mathlib.Omega.{arith}
use native.Mathlib.Numerals.{add-one}
use lib.ListN.{length, get_or, drop, replicate, get_or-append}
use lib.Seq.{drop-cons}
use Rattle.laws.specs.Members.{get_or_member}
use Rattle.laws.specs.Padded.{padded}
use Rattle.way_parts.specs.Parts.{playing_order}
use Rattle.way_parts.specs.Acyclic.{Acyclic}
use Rattle.way_parts.proofs.Once.{in_order_inside, order_length}

module _ (w : List ℕ) (ok : Acyclic w) (order : List ℕ) (q : order ≡ padded 28 0 (playing_order w)) (k : ℕ) (h : k < length w) where
  same_place : get_or order k 0 ≡ get_or (playing_order w) k 0
  same_place =
      ap (λ x. get_or x k 0) q
      ∙ get_or-append (playing_order w) (replicate (28 - length (playing_order w)) 0) 0 k (omega (arith, order_length w ok))

  -- an entry
  pub place_inside : (1 ≤ get_or order k 0) × (get_or order k 0 ≤ length w)
  place_inside =
      let m = in_order_inside w ok (get_or (playing_order w) k 0) (get_or_member (playing_order w) k 0 (omega (arith, order_length w ok))) in
      omega (arith, same_place, m)

  -- the first of what is left
  pub place_next : drop k (playing_order w) ≡ get_or order k 0 ∷ drop (k + 1) (playing_order w)
  place_next = rw (add-one, drop-cons (playing_order w) k 0 (omega (arith, order_length w ok)), same_place) refl
