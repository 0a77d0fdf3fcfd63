-- A way of a book is acyclic: time rises from predecessor to successor, and the rank of an entry counts those that start no later.
use mathlib.Core.Path.{◌≡◌, refl, sym, ◌∙◌}
use mathlib.Core.Bool.{Bool, true, false}
use mathlib.Core.List.{List, [], ◌∷◌}
use Prim.Native.Nat.{ℕ, zero, suc, ◌+◌, ◌-◌, ◌≤◌, ◌<◌}
use native.Mathlib.Omega.{arith}
use lib.Dec.{leb}
use lib.ListN.{length, get_or}
use borrow.Author.Tests.{leb-true, le-leb, lt-leb}
use Rattle.laws.specs.Members.{every_member, get_or_member}
use Rattle.laws.specs.Within.{member_from}
use Rattle.laws.specs.Rows.{from_length}
use Rattle.laws.specs.Totals.{total_of, total_ones, total_none}
use Rattle.book_form.specs.Book.{Book}
use Rattle.book_form.specs.WithinLimits.{WithinLimits}
use Rattle.way_theory.specs.Follow.{size, entry_at, may_follow}
use Rattle.way_theory.specs.Ways.{one_if, permits, Joined, IsWay}
use Rattle.way_theory.specs.FullWays.{numbers}
use Rattle.way_theory.proofs.Laid.{joined_small}
use Rattle.way_theory.proofs.Spare.{follow_given, follow_time}
use Rattle.way_theory.proofs.Size.{timed}
use Rattle.way_parts.specs.Parts.{predecessor}
use Rattle.way_parts.specs.Acyclic.{Acyclic}
use Rattle.way_parts.proofs.Summing.{total_less}

joined_at : (book : Book) (j : ℕ) (w : List ℕ) (k : ℕ) → Joined book j w → k < length w → permits book (get_or w k 0) (j + k) ≡ true
joined_at book j [] k h l = absurd (omega arith)
joined_at book j (p ∷ w) zero h l = let e : j + 0 ≡ j = omega arith in rw e h.1
joined_at book j (p ∷ w) (suc k) h l = let e : j + suc k ≡ suc j + k = omega arith in rw e (joined_at book (suc j) w k h.2 (omega arith))

permitted_follows : (book : Book) (i j : ℕ) → 1 ≤ i → permits book i j ≡ true → may_follow book i j ≡ true
permitted_follows book zero j h e = absurd (omega arith)
permitted_follows book (suc i) j h e = sym (follow_given book (suc i) j) ∙ e

module _ (book : Book) (w : List ℕ) (way : IsWay book w) where
  predecessor_inside : (j : ℕ) → 1 ≤ j → j ≤ length w → predecessor w j ≤ size book
  predecessor_inside j h k =
      every_member (λ p. p ≤ size book) w (joined_small book 1 w way.joined) (predecessor w j) (get_or_member w (j - 1) 0 (omega arith))

  -- an entry may follow its predecessor
  pub join_follows : (j : ℕ) → 1 ≤ j → j ≤ length w → 1 ≤ predecessor w j → may_follow book (predecessor w j) j ≡ true
  join_follows j h k b =
      let e : 1 + (j - 1) ≡ j = omega arith in
      permitted_follows book (predecessor w j) j b (rw e at (joined_at book 1 w (j - 1) way.joined (omega arith)))

-- whether entry i starts no later than entry j
abbrev no_later : Book → ℕ → ℕ → Bool
no_later book j i = leb (entry_at book i).start (entry_at book j).start

unfoldable rank_in : Book → ℕ → ℕ
rank_in book j = total_of (λ i. one_if (no_later book j i)) (numbers book)

one_if_lem : (t : Bool) → one_if t ≤ 1
one_if_lem true = omega arith
one_if_lem false = omega arith

no_later_self : (book : Book) (j : ℕ) → no_later book j j ≡ true
no_later_self book j = le-leb (entry_at book j).start (entry_at book j).start (omega arith)

rank_low : (book : Book) (j : ℕ) → 1 ≤ j → j ≤ size book → 1 ≤ rank_in book j
unfolding rank_in
rank_low book j a b =
    let z = total_none (λ i. 0) (numbers book) (λ i m. refl) in
    let u = total_less (λ i. 0) (λ i. one_if (no_later book j i)) (numbers book) j (λ i m. omega arith) (member_from (size book) 1 j a (omega arith)) (rw (no_later_self book j) (omega arith)) in
    omega arith

rank_high : (book : Book) (j : ℕ) → rank_in book j ≤ size book
unfolding rank_in
rank_high book j = let m = total_ones (λ i. one_if (no_later book j i)) (numbers book) (λ i n. one_if_lem (no_later book j i)) in omega (arith, from_length (size book) 1)

rank_earlier : (book : Book) (i j : ℕ) → 1 ≤ j → j ≤ size book → (entry_at book i).start < (entry_at book j).start → rank_in book i < rank_in book j
unfolding rank_in
rank_earlier book i j h k s =
    total_less (λ a. one_if (no_later book i a)) (λ a. one_if (no_later book j a)) (numbers book) j (λ a m. least a (no_later book i a) refl) (member_from (size book) 1 j h (omega arith))
    (rw (lt-leb (entry_at book j).start (entry_at book i).start s, no_later_self book j) (omega arith))
  where
    least : (a : ℕ) (t : Bool) → no_later book i a ≡ t → one_if t ≤ one_if (no_later book j a)
    least a true e = let b = leb-true (entry_at book a).start (entry_at book i).start e in rw (le-leb (entry_at book a).start (entry_at book j).start (omega arith)) (omega arith)
    least a false e = omega arith

pub way_acyclic : (book : Book) → WithinLimits book → (w : List ℕ) → IsWay book w → Acyclic w
way_acyclic book ok w way =
    let l = way.all_entries in
    record {
      few = omega (arith, ok.few);
      single = λ i a b. way.once i a (omega arith);
      inside = λ j a b. omega (arith, predecessor_inside book w way j a b);
      rank = rank_in book;
      rises = rises;
      low = λ j a b. rank_low book j a (omega arith);
      high = λ j a b. omega (arith, rank_high book j);
    }
  where
    rises : (j : ℕ) → 1 ≤ j → j ≤ length w → 1 ≤ predecessor w j → rank_in book (predecessor w j) < rank_in book j
    rises j a b c =
        let t = follow_time book (predecessor w j) j (join_follows book w way j a b c) in
        let u = timed book ok (predecessor w j) c (predecessor_inside book w way j a b) in
        rank_earlier book (predecessor w j) j a (omega (arith, way.all_entries)) (omega arith)
