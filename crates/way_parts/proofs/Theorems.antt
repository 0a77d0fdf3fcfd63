-- The parts of a way: they end, every entry stands in exactly one of them, once, so that there is one where there are entries, what is summed over
-- them is summed over the book, and in each of them the entries follow one another in time.
use mathlib.Core.Path.{◌≡◌, sym, ap, ◌∙◌}
use mathlib.Core.Bool.{true}
use mathlib.Core.List.{List, [], ◌∷◌, map}
use Prim.Native.Nat.{ℕ, ◌≤◌}
use native.Mathlib.Omega.{arith}
use lib.ListN.{length}
use Rattle.laws.specs.Members.{◌∈◌, Every}
use Rattle.laws.specs.Within.{from}
use Rattle.laws.specs.Totals.{total, total_of}
use Rattle.book_form.specs.Book.{Book}
use Rattle.book_form.specs.WithinLimits.{WithinLimits}
use Rattle.way_theory.specs.Follow.{size, may_follow}
use Rattle.way_theory.specs.Ways.{times, IsWay}
use Rattle.way_theory.specs.FullWays.{numbers}
use Rattle.way_theory.proofs.Spare.{follow_time, follow_ticks}
use Rattle.way_parts.specs.Parts.{part_of, parts, playing_order, IsPart}
use Rattle.way_parts.specs.Ticks.{ticks_of, FollowInTime}
use Rattle.way_parts.proofs.Summing.{total_flatten}
use Rattle.way_parts.proofs.Successors.{IsSuccessor}
use Rattle.way_parts.proofs.Induction.{part_induction, every_part}
use Rattle.way_parts.proofs.Once.{in_one_part, in_order_inside, order_total, order_length}
use Rattle.way_parts.proofs.Openers.{as_many_parts}
use Rattle.way_parts.proofs.Links.{parts_linked}
use Rattle.way_parts.proofs.Ranks.{way_acyclic, join_follows}

module _ (book : Book) (ok : WithinLimits book) (w : List ℕ) (way : IsWay book w) where
  -- each is a part: its first entry opens it, each other follows its predecessor, and nobody follows the last
  pub parts_end_lem : Every (IsPart w) (parts w)
  parts_end_lem = parts_linked w (way_acyclic book ok w way)

  -- "Every entry stands on exactly one sheet", once
  pub stands_once : (j : ℕ) → 1 ≤ j → j ≤ size book → total (map (λ p. times j p) (parts w)) ≡ 1
  stands_once j h k = in_one_part w (way_acyclic book ok w way) j h (omega (arith, way.all_entries))

  -- and nothing else does
  pub stands_inside : (j : ℕ) → j ∈ playing_order w → (1 ≤ j) × (j ≤ size book)
  stands_inside j m = let b = in_order_inside w (way_acyclic book ok w way) j m in omega (arith, way.all_entries)

  pub summed : (φ : ℕ → ℕ) → total_of φ (playing_order w) ≡ total_of φ (numbers book)
  summed φ = order_total w (way_acyclic book ok w way) φ ∙ ap (λ n. total_of φ (from n 1)) way.all_entries

  -- "the ticks played on all sheets sum to those of the book"
  pub ticks_summed : total (map (λ p. total_of (ticks_of book) p) (parts w)) ≡ total_of (ticks_of book) (numbers book)
  unfolding playing_order
  ticks_summed = sym (total_flatten (ticks_of book) (parts w)) ∙ summed (ticks_of book)

  pub as_many : length (playing_order w) ≡ size book
  as_many = order_length w (way_acyclic book ok w way) ∙ way.all_entries

  -- a part number has one digit
  pub parts_few : length (parts w) ≤ book.players
  parts_few = omega (arith, as_many_parts w, way.openings)

  -- where there are entries, one of them opens a part
  pub openings_some : 1 ≤ size book → 1 ≤ times 0 w
  openings_some h = omega (arith, as_many_parts w, go (parts w) (stands_once 1 (omega arith) h))
    where
      go : (l : List (List ℕ)) → total (map (λ p. times 1 p) l) ≡ 1 → 1 ≤ length l
      go [] e = absurd (omega (arith, e))
      go (p ∷ l) e = omega arith

  -- no gap and no spare is less than 0
  pub parts_in_time : Every (FollowInTime book) (parts w)
  parts_in_time = every_part w (FollowInTime book) timely
    where
      after : (i k : ℕ) (l : List ℕ) → 1 ≤ i → IsSuccessor w i k → FollowInTime book (k ∷ l) → FollowInTime book (i ∷ k ∷ l)
      after i k l h f p =
          let y : may_follow book i k ≡ true = rw f.is at (join_follows book w way k f.low f.high (rw f.is h)) in
          (follow_time book i k y, follow_ticks book i k y, p)

      timely : (j : ℕ) → IsSuccessor w 0 j → FollowInTime book (part_of w j)
      timely j f =
          let (l, e, p) = part_induction w (way_acyclic book ok w way) (λ i l. FollowInTime book (i ∷ l)) (record { last = λ i e. tt; back = λ i k l h e f p. after i k l h f p }) j f.low f.high in
          rw e p
