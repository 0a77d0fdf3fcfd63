-- The form of a book.
use Rattle.std.specs.Prelude.{ℕ, List, [], ◌∷◌, get_or}
use Rattle.std.proofs.Math.Option.{Option, none, some}
use Rattle.text_read.specs.Reader.{Reader, Parsed, fails, reads, ◌>>=◌, ◌>>◌, give, text, row, many}
use Rattle.text_read.specs.Heads.{line_end, book_line, players_head, fee_head}
use Rattle.book_lines.specs.declared.moves.Move.{Move}
use Rattle.book_lines.specs.Lines.{move, Entry, entry}

pub record Book : Type 0 where
  pub players : ℕ
  pub fee : ℕ
  pub moves : List Move
  pub entries : List Entry

-- "Order: `(book`, `(players P)`, `(fee C)`, any count of `(move A B T C)`, any count of `(entry (name W) I S F)`, then `)`"; by request 5
-- of 02 also of `(entry (name W) A B S F)`
unfoldable pub opening : Reader (ℕ × ℕ)
opening = do
  text book_line
  ps ← row players_head 1
  cs ← row fee_head 1
  give (get_or ps 0 0, get_or cs 0 0)

unfoldable pub book : Reader Book
book = do
  o ← opening
  ms ← many move
  es ← many entry
  text line_end
  give (record { players = o.0; fee = o.1; moves = ms; entries = es })

-- ".. and nothing more"
unfoldable pub whole : Parsed Book → Option Book
whole fails = none
whole (reads b []) = some b
whole (reads b (x ∷ s)) = none

-- the book that the bytes s hold, if they keep the form
unfoldable pub parse : List ℕ → Option Book
parse s = whole (book s)
