-- The line of a move and the line of an entry.
use Rattle.std.specs.Prelude.{ℕ, List, ◌∷◌, get_or}
use Rattle.text_read.specs.Reader.{Reader, ◌>>=◌, ◌>>◌, ◌<|>◌, give, remaining, text, word, row}
use Rattle.text_read.specs.Heads.{move_head, entry_head, name_end}
use Rattle.book_lines.specs.declared.moves.Move.{Move}

-- "`(move A B T C)`"
abbrev pub move_from : List ℕ → Move
move_from ns = record { source = get_or ns 0 0; target = get_or ns 1 0; ticks = get_or ns 2 0; cost = get_or ns 3 0 }

unfoldable pub move : Reader Move
move = do
  ns ← row move_head 4
  give (move_from ns)

-- An entry, with how many bytes of the book are left where W begins. A join arrives at A, and leaves from B.
pub record Entry : Type 0 where
  pub name : List ℕ
  pub left : ℕ
  pub arrives : ℕ
  pub leaves : ℕ
  pub start : ℕ
  pub finish : ℕ

-- 02, request 5: "An entry may now have two instruments, `(entry (name W) A B S F)`: it begins on A and ends on B."
unfoldable pub long_form : Reader (List ℕ)
long_form = row name_end 4

-- "`(entry (name W) I S F)`": "The short form means that both are the same."
abbrev pub both_same : List ℕ → List ℕ
both_same ns = get_or ns 0 0 ∷ ns

unfoldable pub short_form : Reader (List ℕ)
short_form = do
  ns ← row name_end 3
  give (both_same ns)

abbrev pub entry_from : List ℕ → ℕ → List ℕ → Entry
entry_from name left ns =
    record { name = name; left = left; arrives = get_or ns 0 0; leaves = get_or ns 1 0; start = get_or ns 2 0; finish = get_or ns 3 0 }

unfoldable pub entry : Reader Entry
entry = do
  text entry_head
  left ← remaining
  w ← word
  ns ← short_form <|> long_form
  give (entry_from w left ns)
