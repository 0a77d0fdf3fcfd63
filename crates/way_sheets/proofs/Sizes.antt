-- "the sheets of any of its ways take at most" 79 "bytes for each entry".
use mathlib.Core.Path.{◌≡◌}
use mathlib.Core.Option.{some}
use mathlib.Core.List.{List, ◌++◌}
use Prim.Native.Nat.{ℕ, zero, suc, ◌*◌, ◌-◌, ◌≤◌, ◌<◌}
use native.Mathlib.Omega.{arith}
use lib.ListN.{length, length-append}
use Rattle.laws.specs.Within.{from_member}
use Rattle.laws.specs.Rows.{from_length}
use Rattle.laws.specs.Totals.{total_most}
use Rattle.text_read.specs.Heads.{bytes, space, line_end, name_end, part_head, gap_head, newline}
use Rattle.text_write.specs.Decimal.{decimal}
use Rattle.text_write.proofs.Decimal.{decimal_size, row_size}
use Rattle.book_lines.specs.Lines.{Entry}
use Rattle.book_form.specs.Book.{Book, parse}
use Rattle.book_form.specs.WithinLimits.{WithinLimits}
use Rattle.book_form.proofs.Names.{names_short}
use Rattle.way_theory.specs.Follow.{size, entry_at}
use Rattle.way_theory.specs.Ways.{IsWay}
use Rattle.way_theory.specs.FullWays.{numbers}
use Rattle.way_theory.proofs.Fair.{fair_entry_lem}
use Rattle.way_theory.proofs.Spare.{spare_ticks_small}
use Rattle.way_parts.specs.Parts.{predecessor}
use Rattle.way_gaps.specs.Gaps.{gap_to, spare_to}
use Rattle.way_sheets.specs.Lines.{part_line, play_line, gap_line}
use Rattle.way_sheets.specs.Sheets.{sheets}
use Rattle.way_sheets.specs.EntrySize.{lead_size, entry_size}
use Rattle.way_sheets.proofs.Summed.{play_size_lem, sheets_summed}

-- what the name and the numbers of an entry keep
record Small (e : Entry) : Type 0 where
  short : length e.name ≤ 16
  begins : e.start < 1000000
  ends : e.finish < 10000000

play_most : (e : Entry) → Small e → length (play_line e.name e.start e.finish) ≤ 46
unfolding bytes
play_most e ok =
    omega (
      arith,
      ok.short,
      play_size_lem e.name e.start e.finish,
      length-append name_end (decimal e.start),
      decimal_size 5 e.start ok.begins,
      row_size space e.finish 6 ok.ends,
    )

gap_most : (g r : ℕ) → g < 1000000 → r < 1000000 → length (gap_line g r) ≤ 20
unfolding bytes gap_line
gap_most g r h k =
    omega (
      arith,
      length-append (gap_head ++ decimal g) (space ++ decimal r ++ line_end),
      length-append gap_head (decimal g),
      decimal_size 5 g h,
      row_size space r 5 k,
    )

-- a part number has one digit
part_most : (n : ℕ) → n < 10 → length (part_line n) ≤ 8
unfolding bytes part_line
part_most n h = omega (arith, length-append (part_head ++ decimal n) newline, length-append part_head (decimal n), decimal_size 0 n h)

-- what stands beside the line of an entry, and the entry
lead_most : (i g r : ℕ) → g < 1000000 → r < 1000000 → lead_size i g r ≤ 20
unfolding bytes
lead_most zero g r h k = omega (arith, part_most 1 (omega arith))
lead_most (suc i) g r h k = gap_most g r h k

-- a gap and a spare are no more than the start behind them
gap_small : (book : Book) (i j : ℕ) → gap_to book i j ≤ (entry_at book j).start
gap_small book zero j = omega arith
gap_small book (suc i) j = omega arith

spare_small : (book : Book) (i j : ℕ) → spare_to book i j ≤ (entry_at book j).start
spare_small book zero j = omega arith
spare_small book (suc i) j = omega (arith, spare_ticks_small book (suc i) j)

entry_most : (book : Book) (w : List ℕ) (j : ℕ) → Small (entry_at book j) → entry_size book w j ≤ 79
unfolding entry_size
entry_most book w j ok =
    let i = predecessor w j in
    let g : gap_to book i j < 1000000 = omega (arith, gap_small book i j, ok.begins) in
    let r : spare_to book i j < 1000000 = omega (arith, spare_small book i j, ok.begins) in
    omega (arith, lead_most i (gap_to book i j) (spare_to book i j) g r, play_most (entry_at book j) ok)

-- the entries of a book that the bytes s hold
small_entries : (s : List ℕ) (book : Book) → parse s ≡ some book → WithinLimits book → (j : ℕ) → 1 ≤ j → j ≤ size book → Small (entry_at book j)
small_entries s book e ok j h k =
    let f = fair_entry_lem (entry_at book j) (ok.fair_entries (j - 1) (omega arith)) in
    record { short = names_short s book e (j - 1) (omega arith); begins = omega (arith, f.ends_later, f.finish_high); ends = omega (arith, f.finish_high) }

-- 02, request 7: "The room of request 2 becomes 79 bytes for each entry"
pub sheets_size : (s : List ℕ) (book : Book) → parse s ≡ some book → WithinLimits book → (w : List ℕ) → IsWay book w → length (sheets book w) ≤ 79 * size book
sheets_size s book e ok w way =
    omega (
      arith,
      sheets_summed book w ok way,
      total_most (entry_size book w) 79 (numbers book) (λ j m. (let (h, k) = from_member (size book) 1 j m in entry_most book w j (small_entries s book e ok j h (omega arith)))),
      from_length (size book) 1,
    )
