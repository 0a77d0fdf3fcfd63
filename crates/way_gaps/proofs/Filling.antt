-- The array filled, entry after entry in book order; and what it holds of an entry.
use mathlib.Core.Path.{◌≡◌, refl, ap, ap₂, sym, ◌∙◌}
use mathlib.Core.Option.{Option as Maybe, none, some}
use mathlib.Core.List.{List, map, map-id}
use Prim.Native.Nat.{ℕ, zero, suc, ◌+◌, ◌-◌, ◌≤◌, ◌<◌}
use native.Mathlib.Omega.{arith}
use lib.ListN.{length, get_or, set}
use lib.IntN.{ℤ}
use Rattle.std.specs.Prelude.{Option}
use Rattle.laws.specs.Optional.{optional}
use Rattle.laws.specs.Rows.{from_length, row_at}
use Rattle.laws.specs.Padded.{padded_at, filled, filled_more, filled_all}
use Rattle.book_lines.specs.declared.entries.BookEntry.{BookEntry}
use Rattle.book_form.specs.Book.{Book}
use Rattle.book_form.specs.declared.CheckedBook.{CheckedBook}
use Rattle.way_theory.specs.Follow.{size, spare, ticks_in}
use Rattle.way_theory.specs.FullWays.{numbers}
use Rattle.way_joins.specs.Tables.{TimingOf, HasTiming}
use Rattle.way_joins.specs.Joins.{Spares}
use Rattle.way_joins.proofs.Lookup as joins
use Rattle.way_parts.specs.Acyclic.{Acyclic}
use Rattle.way_parts.proofs.Ranks.{way_acyclic}
use Rattle.way_gaps.specs.declared.JoinTicks.{JoinTicks}
use Rattle.way_gaps.specs.Gaps.{gap_before, spare_before, ticks_before, no_ticks, ticks_told, JoinTicksOf, TicksTo, HasWay, TellsTicks}

-- what the array holds of entry j
module _ (b : Book) (w : List ℕ) (x : List JoinTicks) (d : JoinTicksOf b w x) (j : ℕ) (h : 1 ≤ j) (k : j ≤ size b) where
  pub ticks_at : get_or x (j - 1) no_ticks ≡ ticks_before b w j
  ticks_at =
      ap (λ (y : List JoinTicks). get_or y (j - 1) no_ticks) d
      ∙ padded_at 28 no_ticks (map (ticks_before b w) (numbers b)) (j - 1)
      ∙ row_at (ticks_before b w) (size b) 1 (j - 1) no_ticks (omega arith)
      ∙ ap (ticks_before b w) (omega arith)

  pub gap_at : (get_or x (j - 1) no_ticks).gap ≡ gap_before b w j
  gap_at = ap (λ (t : JoinTicks). t.gap) ticks_at

  pub spare_at_lem : (get_or x (j - 1) no_ticks).spare ≡ spare_before b w j
  spare_at_lem = ap (λ (t : JoinTicks). t.spare) ticks_at

told_in : (o : Maybe ℤ) → ticks_told (optional o) ≡ ticks_in o
told_in none = refl
told_in (some z) = refl

-- where there is a join, the gap and the spare by what a checked book has
module _ {c : CheckedBook} where
  pub ticks_found : (i j : ℕ) → 1 ≤ i → i ≤ c.count → 1 ≤ j → j ≤ c.count → (g : ℕ) → g ≡ (joins.kept_at c j).start - (joins.kept_at c i).finish
      → (z : Option ℤ) → Spares c i j z → (t : ℕ) → t ≡ ticks_told z → TicksTo c i j (record { gap = g; spare = t })
  ticks_found zero j a b p q g e z s t f = absurd (omega arith)
  ticks_found (suc i) j a b p q g e z s t f = record {
    each = λ book h. ap₂ (λ g t. (let r : JoinTicks = record { gap = g; spare = t } in r))
        (e ∙ ap₂ ◌-◌ (ap (λ (e : BookEntry). e.start) (joins.entry_is h j p q)) (ap (λ (e : BookEntry). e.finish) (joins.entry_is h (suc i) a b)))
        (f ∙ ap ticks_told (s.each book h) ∙ told_in (spare book (suc i) j));
  }

-- those of the first k entries are written
pub record Filled (c : CheckedBook) (w : List ℕ) (x : List JoinTicks) (k : ℕ) : Type 0 where
  pub each : (b : Book) → TimingOf b c → x ≡ filled (ticks_before b w) (numbers b) 28 no_ticks k
  pub some : k ≤ length w

module _ {c : CheckedBook} {w : List ℕ} (has : HasWay c w) where
  pub has_timing : HasTiming c
  has_timing = record { book = has.book; timing = has.timing }

  acyclic : Acyclic w
  acyclic = way_acyclic has.book has.timing.limits w has.way

  pub count_is : c.count ≡ length w
  count_is = joins.count_is has.timing ∙ sym has.way.all_entries

  pub few : length w ≤ 28
  few = acyclic.few

  pub predecessor_inside : (k : ℕ) → k < length w → get_or w k 0 ≤ length w
  predecessor_inside k h =
      let e : k + 1 - 1 ≡ k = omega arith in
      rw e at (acyclic.inside (k + 1) (omega arith) (omega arith))

  as_long : (b : Book) → TimingOf b c → length (numbers b) ≡ length w
  as_long b h = from_length (size b) 1 ∙ sym (joins.count_is h) ∙ count_is

  -- one entry more
  pub fill_more : {x : List JoinTicks} (k : ℕ) → k < length w → Filled c w x k → (t : JoinTicks) → TicksTo c (get_or w k 0) (k + 1) t → Filled c w (set x k t) (k + 1)
  fill_more {x} k h d t found = record { each = more; some = omega arith }
    where
      more : (b : Book) → TimingOf b c → set x k t ≡ filled (ticks_before b w) (numbers b) 28 no_ticks (k + 1)
      more b H =
          let same : k + 1 - 1 ≡ k = omega arith in
          let l = as_long b H in
          let entry : get_or (numbers b) k 0 ≡ k + 1 =
          ap (λ l. get_or l k 0) (sym (map-id (numbers b))) ∙ row_at (λ j. j) (size b) 1 k 0 (omega (arith, l, from_length (size b) 1)) ∙ omega arith in
          filled_more (ticks_before b w) (numbers b) 28 no_ticks 0 k x t (d.each b H) (omega (arith, l)) (omega (arith, few)) (rw (entry, same) (found.each b H))

  -- after the last entry
  pub fill_all : (x : List JoinTicks) (k : ℕ) → length w ≤ k → Filled c w x k → TellsTicks c w x
  fill_all x k h d = record { each = λ b H. d.each b H ∙ filled_all (ticks_before b w) (numbers b) 28 no_ticks k (omega (arith, as_long b H, d.some)) }
