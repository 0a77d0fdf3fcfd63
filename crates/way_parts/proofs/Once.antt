-- The parts have every entry once, and nothing else.
use mathlib.Core.Path.{◌≡◌, refl, sym, ap, ◌∙◌}
use mathlib.Core.List.{List, [], ◌∷◌, map, flatten}
use mathlib.Core.Option.{Option, none, some}
use Prim.Native.Nat.{ℕ, zero, suc, ◌+◌, ◌*◌, ◌≤◌}
use native.Mathlib.Omega.{arith}
use native.Mathlib.Decide.{ℕ_discrete}
use lib.Dec.{eqb}
use lib.ListN.{length}
use borrow.Author.Tests.{eq-eqb, ne_eqb}
use Rattle.laws.specs.Members.{◌∈◌, Every, every_append, every_member}
use Rattle.laws.specs.Within.{from, from_member}
use Rattle.laws.specs.Rows.{from_length}
use Rattle.laws.specs.Totals.{total, total_of, total_equal, total_add}
use Rattle.way_theory.specs.Ways.{times}
use Rattle.way_theory.specs.WayFlow.{one_if_same}
use Rattle.way_theory.proofs.OneIfSame.{other_none}
use Rattle.way_parts.specs.Parts.{predecessor, successor, openers, played_from, part_of, parts, playing_order}
use Rattle.way_parts.specs.Acyclic.{Acyclic}
use Rattle.way_parts.proofs.Summing.{total_by_times}
use Rattle.way_parts.proofs.HowOften.{times_flatten, total_times, times_kept_no, times_kept_yes, times_from}
use Rattle.way_parts.proofs.Successors.{IsSuccessor, is_successor, successor_is, one_if_is, next_exactly}
use Rattle.way_parts.proofs.Induction.{part_induction, every_part}

total_map : {A : Type 0} (f : List ℕ → ℕ) (g : A → List ℕ) (l : List A) → total (map f (map g l)) ≡ total (map (λ a. f (g a)) l)
total_map f g [] = refl
total_map f g (a ∷ l) = ap (λ n. f (g a) + n) (total_map f g l)

every_flatten : (P : ℕ → Type 0) (ls : List (List ℕ)) → Every (λ l. Every P l) ls → Every P (flatten ls)
unfolding flatten
every_flatten P [] h = tt
every_flatten P (l ∷ ls) h = every_append P l (flatten ls) h.0 (every_flatten P ls h.1)

total_length : (l : List ℕ) → total_of (λ j. 1) l ≡ length l
total_length [] = refl
total_length (a ∷ l) = let h = total_length l in omega arith

module _ (w : List ℕ) (ok : Acyclic w) where
  -- an entry with a predecessor is played one step later than that
  one_later : (j : ℕ) → 1 ≤ j → j ≤ length w → 1 ≤ predecessor w j → (n : ℕ) (o : Option ℕ)
      → times j (played_from w (suc n) o) ≡ one_if_is o j + times (predecessor w j) (played_from w n o)
  one_later j h k b zero none = refl
  one_later j h k b (suc n) none = refl
  one_later j h k b zero (some i) = refl
  one_later j h k b (suc n) (some i) =
      let deep = one_later j h k b n (successor w i) in
      let e = next_exactly w ok i j h k b in
      omega arith

  -- an entry that opens a part is played after no other
  never_after : (j : ℕ) → predecessor w j ≡ 0 → (n i : ℕ) → 1 ≤ i → times j (played_from w n (successor w i)) ≡ 0
  never_after j z zero i h = refl
  never_after j z (suc n) i h = go (never_after j z n) (successor w i) refl
    where
      go : ((k : ℕ) → 1 ≤ k → times j (played_from w n (successor w k)) ≡ 0) → (o : Option ℕ) → successor w i ≡ o → times j (played_from w (suc n) o) ≡ 0
      go deep none e = refl
      go deep (some k) e =
          let f = successor_is w i k e in
          let r : predecessor w k ≡ i = f.is in
          let u = other_none k j (λ q. (let s : predecessor w k ≡ predecessor w j = ap (predecessor w) q in omega arith)) in
          let v = deep k f.low in
          omega arith

  -- how often the parts have j, if each is cut after n entries
  abbrev count : ℕ → ℕ → ℕ
  count n j = total_of (λ i. times j (played_from w n (some i))) (openers w)

  opens : (j : ℕ) → 1 ≤ j → j ≤ length w → predecessor w j ≡ 0 → times j (openers w) ≡ 1
  opens j h k e =
      times_kept_yes (λ j. eqb (predecessor w j) 0) j (from (length w) 1) (eq-eqb (predecessor w j) 0 e) ∙ times_from (length w) 1 j h (omega arith)

  opens_not : (j : ℕ) → 1 ≤ predecessor w j → times j (openers w) ≡ 0
  opens_not j b = times_kept_no (λ j. eqb (predecessor w j) 0) j (from (length w) 1) (ne_eqb (predecessor w j) 0 (λ e. omega arith))

  count_opener : (j : ℕ) → 1 ≤ j → j ≤ length w → predecessor w j ≡ 0 → (n : ℕ) → count (suc n) j ≡ 1
  count_opener j h k e n =
      total_equal (λ i. times j (played_from w (suc n) (some i))) (λ i. one_if_same i j) (openers w) (λ i m. (let v = never_after j e n i (is_successor w 0 i m).low in omega arith))
      ∙ total_times j (openers w)
      ∙ opens j h k e

  count_later : (j : ℕ) → 1 ≤ j → j ≤ length w → 1 ≤ predecessor w j → (n : ℕ) → count (suc n) j ≡ count n (predecessor w j)
  count_later j h k b n =
      let p = predecessor w j in
      let e = total_equal (λ i. times j (played_from w (suc n) (some i))) (λ i. one_if_same i j + times p (played_from w n (some i))) (openers w) (λ i m. one_later j h k b n (some i)) in
      let f = total_add (λ i. one_if_same i j) (λ i. times p (played_from w n (some i))) (openers w) in
      let g = total_times j (openers w) in
      let z = opens_not j b in
      omega arith

  count_one : (n j : ℕ) → 1 ≤ j → j ≤ length w → ok.rank j ≤ n → count n j ≡ 1
  count_one zero j h k r = absurd (let b = ok.low j h k in omega arith)
  count_one (suc n) j h k r = go (ℕ_discrete (predecessor w j) 0) (count_one n)
    where
      go : Dec (predecessor w j ≡ 0) → ((i : ℕ) → 1 ≤ i → i ≤ length w → ok.rank i ≤ n → count n i ≡ 1) → count (suc n) j ≡ 1
      go (yes e) deep = count_opener j h k e n
      go (no e) deep =
          let b : 1 ≤ predecessor w j = omega arith in
          count_later j h k b n ∙ deep (predecessor w j) b (ok.inside j h k) (let l = ok.rises j h k b in omega arith)

  pub in_one_part : (j : ℕ) → 1 ≤ j → j ≤ length w → total (map (λ p. times j p) (parts w)) ≡ 1
  unfolding parts part_of
  in_one_part j h k = total_map (λ p. times j p) (part_of w) (openers w) ∙ count_one (length w) j h k (ok.high j h k)

  pub in_order_once : (j : ℕ) → 1 ≤ j → j ≤ length w → times j (playing_order w) ≡ 1
  unfolding playing_order
  in_order_once j h k = times_flatten j (parts w) ∙ in_one_part j h k

  -- nothing else is in them
  abbrev Inside : ℕ → Type 0
  Inside a = (1 ≤ a) × (a ≤ length w)

  part_inside : (j : ℕ) → IsSuccessor w 0 j → Every Inside (part_of w j)
  part_inside j f =
      let (l, e, p) = part_induction w ok (λ i l. Every Inside l) (record { last = λ i e. tt; back = λ i k l h e f p. ((f.low, f.high), p) }) j f.low f.high in
      rw e ((f.low, f.high), p)

  pub in_order_inside : (a : ℕ) → a ∈ playing_order w → (1 ≤ a) × (a ≤ length w)
  unfolding playing_order
  in_order_inside a m =
      every_member Inside (playing_order w) (every_flatten Inside (parts w) (every_part w (λ p. Every Inside p) part_inside)) a m

  -- what is summed over the parts is summed over the entries
  pub order_total : (φ : ℕ → ℕ) → total_of φ (playing_order w) ≡ total_of φ (from (length w) 1)
  order_total φ =
      total_by_times φ (length w) 1 (playing_order w) (λ a m. (let b = in_order_inside a m in omega arith))
      ∙ total_equal (λ j. φ j * times j (playing_order w)) φ (from (length w) 1)
      (λ j m. (let b = from_member (length w) 1 j m in rw (in_order_once j (omega arith) (omega arith)) (omega arith)))

  pub order_length : length (playing_order w) ≡ length w
  order_length = sym (total_length (playing_order w)) ∙ order_total (λ j. 1) ∙ total_length (from (length w) 1) ∙ from_length (length w) 1
