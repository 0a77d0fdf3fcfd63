-- Document 02, request 8: "exactly how many bytes the sheets will take", as a sum over the entries (`sheets_summed`).
use Rattle.std.specs.Prelude.{List, ◌++◌, ℕ, zero, suc, ◌+◌, length}
use Rattle.text_read.specs.Heads.{space, line_end, name_end, play_head}
use Rattle.text_write.specs.Decimal.{decimal}
use Rattle.book_form.specs.Book.{Book}
use Rattle.way_parts.specs.Parts.{predecessor}
use Rattle.way_gaps.specs.Gaps.{gap_before, spare_before}
use Rattle.way_sheets.specs.Lines.{part_line, gap_line}
use Rattle.way_sheets.specs.Sheets.{play_of}

-- the line of an entry whose name has n bytes (`play_size_lem`)
abbrev pub play_size : ℕ → ℕ → ℕ → ℕ
play_size n start finish = length play_head + n + length (name_end ++ decimal start) + length (space ++ decimal finish ++ line_end)

-- what an entry with predecessor i takes beside its own line: the line between the two; or, where it opens a part, the first and the last line of
-- that part, whose number has one digit
abbrev pub lead_size : ℕ → ℕ → ℕ → ℕ
lead_size zero g r = length (part_line 1) + length line_end
lead_size (suc i) g r = length (gap_line g r)

-- what entry j takes on the sheets of w
unfoldable pub entry_size : Book → List ℕ → ℕ → ℕ
entry_size book w j = lead_size (predecessor w j) (gap_before book w j) (spare_before book w j) + length (play_of book j)
