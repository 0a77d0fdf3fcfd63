-- Who is played next after whom.
use mathlib.Core.Path.{◌≡◌, refl, sym, ap, ◌∙◌}
use mathlib.Core.Logic.{inl}
use mathlib.Core.List.{List, [], ◌∷◌}
use mathlib.Core.Option.{Option, none, some}
use Prim.Native.Nat.{ℕ, ◌-◌, ◌≤◌, ◌<◌}
use native.Mathlib.Omega.{arith}
use native.Mathlib.Decide.{ℕ_discrete}
use lib.Dec.{eqb}
use lib.ListN.{length}
use borrow.Author.Tests.{eq-eqb}
use Rattle.laws.specs.Equality.{test_same}
use Rattle.laws.specs.Members.{◌∈◌, first?, first_member, kept, keeps}
use Rattle.laws.specs.Within.{from, from_member, member_from}
use Rattle.way_theory.specs.Ways.{times}
use Rattle.way_theory.specs.WayFlow.{one_if_same}
use Rattle.way_theory.proofs.OneIfSame.{same_one, other_none}
use Rattle.way_parts.specs.Parts.{predecessor, successors, successor}
use Rattle.way_parts.specs.Acyclic.{Acyclic}
use Rattle.way_parts.proofs.HowOften.{one_place}

pub record IsSuccessor (w : List ℕ) (i j : ℕ) : Type 0 where
  pub low : 1 ≤ j
  pub high : j ≤ length w
  pub is : predecessor w j ≡ i

pub is_successor : (w : List ℕ) (i j : ℕ) → j ∈ successors w i → IsSuccessor w i j
is_successor w i j m =
    let (a, e) = kept (λ j. eqb (predecessor w j) i) (from (length w) 1) j m in
    let b = from_member (length w) 1 j a in
    record { low = omega arith; high = omega arith; is = test_same (predecessor w j) i e }

among_successors : (w : List ℕ) (i j : ℕ) → IsSuccessor w i j → j ∈ successors w i
among_successors w i j f =
    keeps (λ j. eqb (predecessor w j) i) (from (length w) 1) j (member_from (length w) 1 j f.low (omega (arith, f.high))) (eq-eqb (predecessor w j) i f.is)

pub successor_is : (w : List ℕ) (i j : ℕ) → successor w i ≡ some j → IsSuccessor w i j
successor_is w i j e = is_successor w i j (first_member (successors w i) j e)

first_only : {A : Type 0} (l : List A) (a : A) → a ∈ l → ((b : A) → b ∈ l → b ≡ a) → first? l ≡ some a
first_only [] a m f = absurd m
first_only (b ∷ l) a m f = ap some (f b (inl refl))

-- 1 where the entry is j
abbrev pub one_if_is : Option ℕ → ℕ → ℕ
one_if_is none j = 0
one_if_is (some i) j = one_if_same i j

module _ (w : List ℕ) (ok : Acyclic w) where
  -- nobody else follows i
  only_successor : (i j : ℕ) → 1 ≤ i → IsSuccessor w i j → successor w i ≡ some j
  only_successor i j h f = first_only (successors w i) j (among_successors w i j f) (λ k m. same k (is_successor w i k m))
    where
      few : times i w ≤ 1
      few = ok.single i h (rw f.is at (ok.inside j f.low f.high))

      same : (k : ℕ) → IsSuccessor w i k → k ≡ j
      same k g =
          let e = one_place w i (k - 1) (j - 1) few (omega (arith, g.low, g.high)) (omega (arith, f.low, f.high)) g.is f.is in
          omega (arith, g.low, f.low)

  -- j is played next after i exactly if i is its predecessor
  pub next_exactly : (i j : ℕ) → 1 ≤ j → j ≤ length w → 1 ≤ predecessor w j → one_if_is (successor w i) j ≡ one_if_same i (predecessor w j)
  next_exactly i j h k b = go (ℕ_discrete i (predecessor w j))
    where
      miss : (o : Option ℕ) → successor w i ≡ o → ¬ (i ≡ predecessor w j) → one_if_is o j ≡ 0
      miss none e q = refl
      miss (some m) e q = other_none m j (λ r. q (sym (successor_is w i m e).is ∙ ap (predecessor w) r))

      go : Dec (i ≡ predecessor w j) → one_if_is (successor w i) j ≡ one_if_same i (predecessor w j)
      go (yes q) =
          ap (λ o. one_if_is o j) (ap (successor w) q ∙ only_successor (predecessor w j) j b (record { low = h; high = k; is = refl }))
          ∙ same_one j j refl
          ∙ sym (same_one i (predecessor w j) q)
      go (no q) = miss (successor w i) refl q ∙ sym (other_none i (predecessor w j) q)

  pub rank_rises : (i k : ℕ) → 1 ≤ i → IsSuccessor w i k → ok.rank i < ok.rank k
  rank_rises i k h f =
      let r : predecessor w k ≡ i = f.is in
      rw r at (ok.rises k f.low f.high (omega arith))
