-- Document 02, requests 2 and 7: what stands between an entry of a way and its predecessor.
use Rattle.std.specs.Prelude.{◌≡◌, List, map, ℕ, zero, suc, ◌-◌, ℤ, Option, Some, None}
use Rattle.laws.specs.Parts.{plus}
use Rattle.laws.specs.Padded.{padded}
use Rattle.book_form.specs.Book.{Book}
use Rattle.book_form.specs.declared.CheckedBook.{CheckedBook}
use Rattle.way_theory.specs.Follow.{entry_at, spare_ticks}
use Rattle.way_theory.specs.Ways.{IsWay}
use Rattle.way_theory.specs.FullWays.{numbers}
use Rattle.way_joins.specs.Tables.{TimingOf}
use Rattle.way_parts.specs.Parts.{predecessor}
use Rattle.way_gaps.specs.declared.JoinTicks.{JoinTicks}

-- "G being the ticks from one entry's F to the next one's S"; in a part that S is never before the F (`parts_in_time`)
abbrev pub gap : Book → ℕ → ℕ → ℕ
gap book i j = (entry_at book j).start - (entry_at book i).finish

-- the gap and the spare ticks of the join from i to j; there is none from 0
abbrev pub gap_to : Book → ℕ → ℕ → ℕ
gap_to b zero j = 0
gap_to b (suc i) j = gap b (suc i) j

abbrev pub spare_to : Book → ℕ → ℕ → ℕ
spare_to b zero j = 0
spare_to b (suc i) j = spare_ticks b (suc i) j

abbrev pub ticks_to : Book → ℕ → ℕ → JoinTicks
ticks_to b i j = record { gap = gap_to b i j; spare = spare_to b i j }

-- those of the join to entry j of w
abbrev pub gap_before : Book → List ℕ → ℕ → ℕ
gap_before b w j = gap_to b (predecessor w j) j

abbrev pub spare_before : Book → List ℕ → ℕ → ℕ
spare_before b w j = spare_to b (predecessor w j) j

abbrev pub ticks_before : Book → List ℕ → ℕ → JoinTicks
ticks_before b w j = ticks_to b (predecessor w j) j

-- where there is no join
abbrev pub no_ticks : JoinTicks
no_ticks = record { gap = 0; spare = 0 }

-- those of all entries, in book order
abbrev pub JoinTicksOf : Book → List ℕ → List JoinTicks → Type 0
JoinTicksOf b w x = x ≡ padded 28 no_ticks (map (ticks_before b w) (numbers b))

-- what the functions take and hand back: a spare as a number of ticks
abbrev pub ticks_told : Option ℤ → ℕ
ticks_told None = 0
ticks_told (Some z) = plus z

-- of each book that has this timing
pub record TicksTo (c : CheckedBook) (i j : ℕ) (r : JoinTicks) : Type 0 where
  pub each : (b : Book) → TimingOf b c → r ≡ ticks_to b i j

-- w is a way of a book that has this timing
pub record HasWay (c : CheckedBook) (w : List ℕ) : Type 0 where
  pub book : Book
  pub timing : TimingOf book c
  pub way : IsWay book w

pub record TellsTicks (c : CheckedBook) (w : List ℕ) (r : List JoinTicks) : Type 0 where
  pub each : (b : Book) → TimingOf b c → JoinTicksOf b w r
