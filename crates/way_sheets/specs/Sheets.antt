-- Document 02, requests 2 and 7: the sheets of a way.
use Rattle.std.specs.Prelude.{List, [], ◌∷◌, ◌++◌, ℕ, suc}
use Rattle.text_read.specs.Heads.{line_end}
use Rattle.book_form.specs.Book.{Book}
use Rattle.way_theory.specs.Follow.{entry_at, spare_ticks}
use Rattle.way_parts.specs.Parts.{parts}
use Rattle.way_gaps.specs.Gaps.{gap}
use Rattle.way_sheets.specs.Lines.{part_line, play_line, gap_line}

-- the line of entry j: "W", "S" and "F" are its name, start and finish
abbrev pub play_of : Book → ℕ → List ℕ
play_of book j = play_line (entry_at book j).name (entry_at book j).start (entry_at book j).finish

-- "for each entry in playing order `(play (name W) S F)`, with `(gap G)` between two": what follows entry i in its part. 02, request 7: "every
-- `(gap G)` becomes `(gap G R)` with R the spare", which in a part is never below 0 (`parts_in_time`)
unfoldable pub plays_after : Book → ℕ → List ℕ → List ℕ
plays_after book i [] = []
plays_after book i (j ∷ p) = gap_line (gap book i j) (spare_ticks book i j) ++ play_of book j ++ plays_after book j p

unfoldable pub plays : Book → List ℕ → List ℕ
plays book [] = []
plays book (j ∷ p) = play_of book j ++ plays_after book j p

-- "A part is the line `(part N`, then .., then `)`."
unfoldable pub sheet : Book → ℕ → List ℕ → List ℕ
sheet book n p = part_line n ++ plays book p ++ line_end

-- "numbered from 1": the sheets of parts whose first has the number n
unfoldable pub sheets_from : Book → ℕ → List (List ℕ) → List ℕ
sheets_from book n [] = []
sheets_from book n (p ∷ ps) = sheet book n p ++ sheets_from book (suc n) ps

-- "For a least-cost way, write the parts by rising entry number of their opening entries, numbered from 1."
unfoldable pub sheets : Book → List ℕ → List ℕ
sheets book w = sheets_from book 1 (parts w)
