-- Document 02, requests 2 and 7: the lines of a sheet as bytes. "Each of these is a line of its own, closed by byte 10."
use Rattle.std.specs.Prelude.{List, ◌++◌, ℕ}
use Rattle.text_read.specs.Heads.{space, line_end, name_end, part_head, play_head, gap_head, newline}
use Rattle.text_write.specs.Decimal.{decimal}

-- "the line `(part N`"
unfoldable pub part_line : ℕ → List ℕ
part_line n = part_head ++ decimal n ++ newline

-- "`(play (name W) S F)`"
unfoldable pub play_line : List ℕ → ℕ → ℕ → List ℕ
play_line name start finish = play_head ++ name ++ (name_end ++ decimal start) ++ (space ++ decimal finish ++ line_end)

-- 02, request 7: "every `(gap G)` becomes `(gap G R)`"
unfoldable pub gap_line : ℕ → ℕ → List ℕ
gap_line g r = gap_head ++ decimal g ++ (space ++ decimal r ++ line_end)
