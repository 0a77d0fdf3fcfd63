-- Moves by their pair, and entries by their number, as arrays hold them.
use Rattle.std.specs.Prelude.{ℕ, ◌+◌, ◌*◌, ◌-◌, ◌/◌, ◌%◌, List, [], map, length, Option, option_map}
use Rattle.laws.specs.Tabulate.{tabulate}
use Rattle.laws.specs.Padded.{padded}
use Rattle.laws.specs.Optional.{optional}
use Rattle.book_lines.specs.declared.moves.Move.{Move}
use Rattle.book_lines.specs.declared.moves.PairMove.{PairMove}
use Rattle.book_lines.specs.declared.entries.BookEntry.{BookEntry}
use Rattle.book_lines.specs.Lines.{Entry}
use Rattle.book_lines.specs.Questions.{move_of}

-- what a move says of its pair
abbrev pub said : Move → PairMove
said m = record { ticks = m.ticks; cost = m.cost }

-- the place of the pair a, b in a table
abbrev pub place : ℕ → ℕ → ℕ
place a b = (a - 1) * 16 + (b - 1)

-- what the line of the pair of place k says; nothing where there is no line
abbrev pub cell : List Move → ℕ → Option PairMove
cell ms k = option_map said (optional (move_of ms (k / 16 + 1) (k % 16 + 1)))

-- of each ordered pair of instruments, 1 1 to 16 16
abbrev pub table : List Move → List (Option PairMove)
table ms = tabulate 256 (cell ms)

-- an entry of a book of `total` bytes: where its name begins, and how many bytes it has
abbrev pub book_entry : ℕ → Entry → BookEntry
book_entry total e = record { arrives = e.arrives; leaves = e.leaves; start = e.start; finish = e.finish; name = total - e.left; length = length e.name }

-- where there is no entry
abbrev pub blank_entry : BookEntry
blank_entry = record { arrives = 0; leaves = 0; start = 0; finish = 0; name = 0; length = 0 }

-- the entries in 28 places
abbrev pub entries_in : ℕ → List Entry → List BookEntry
entries_in total es = padded 28 blank_entry (map (book_entry total) es)

-- where there is no entry
abbrev pub nobody : Entry
nobody = record { name = []; left = 0; arrives = 0; leaves = 0; start = 0; finish = 0 }
