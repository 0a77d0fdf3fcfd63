-- The line that is told with a refusal.
use Rattle.std.specs.Prelude.{Bool, cond, List, [], ℕ, ◌+◌, length, eqb, unwrap_or}
use Rattle.std.proofs.Math.Option.{Option, none, some}
use Rattle.book_lines.specs.Questions.{moves, entries, first_bad}
use Rattle.book_form.specs.Book.{Book, parse}
use Rattle.book_form.specs.Questions.{header}

-- The lines that a question is put to: the number of the first, and what each of them answers. "(first line 1)": the players are line 2, the moves
-- begin at line 4, the entries follow them. 11, 12 and 16 are put to no line.
abbrev pub lines_asked : Book → ℕ → ℕ × List Bool
lines_asked b question =
    cond (eqb question 13) (2, header b.players b.fee)
    (cond (eqb question 14) (4, moves [] b.moves)
    (cond (eqb question 15) (4 + length b.moves, entries b.entries)
    (1, [])))

-- 02, request 3: "Refusals 13, 14 and 15 now carry the lowest line number that fails that question." Others carry 0.
abbrev pub first_bad_line : Book → ℕ → ℕ
first_bad_line b question = unwrap_or (first_bad (lines_asked b question).0 (lines_asked b question).1) 0

abbrev pub first_bad_in : Option Book → ℕ → ℕ
first_bad_in none question = 0
first_bad_in (some b) question = first_bad_line b question

-- the line that is told of the bytes s with the number of a question
abbrev pub line_told : List ℕ → ℕ → ℕ
line_told s question = first_bad_in (parse s) question
