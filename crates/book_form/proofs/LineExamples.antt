-- Books in which several lines fail a question, by the definitions alone: the number and the line that are told.
use Prim.Native.Nat.{ℕ}
use mathlib.Core.Path.{◌≡◌, refl}
use mathlib.Core.List.{List, [], ◌∷◌, map}
use Rattle.text_read.specs.Reader.{then_read, ◌>>=◌, ◌>>◌, ◌<|>◌, give, guard, remaining, begins, text, front, run, value_from, number, word, row, more, up_to, many}
use Rattle.text_read.specs.Heads.{bytes}
use Rattle.book_lines.specs.Lines.{move, long_form, short_form, entry}
use Rattle.book_lines.specs.Questions.{moves, all_pass, first_bad}
use Rattle.book_form.specs.Book.{opening, book, whole, parse}
use Rattle.book_form.specs.Questions.{book_refusal}
use Rattle.book_form.specs.LineTold.{line_told}

-- both numbers of 13; a pair on line 5 that an earlier line has, and an instrument 17 on line 6; two entries that do not end after they start
abbrev books : List (List ℕ)
books =
    bytes "(book\n(players 9)\n(fee 1000001)\n(move 17 1 0 0)\n)\n"
    ∷ bytes "(book\n(players 2)\n(fee 6)\n(move 1 2 24 3)\n(move 1 2 24 3)\n(move 17 1 0 0)\n(entry (name a) 1 1 1)\n)\n"
    ∷ bytes "(book\n(players 2)\n(fee 6)\n(move 1 2 24 3)\n(entry (name a) 1 0 1)\n(entry (name b) 1 2 2)\n(entry (name c) 1 4 3)\n)\n"
    ∷ []

told : map {B = ℕ × ℕ} (λ s. (book_refusal s, line_told s (book_refusal s))) books ≡ (13, 2) ∷ (14, 5) ∷ (15, 6) ∷ []
unfolding bytes then_read ◌>>=◌ ◌>>◌ ◌<|>◌ give guard remaining begins text front run value_from number word row more up_to many move long_form short_form entry opening book whole parse moves all_pass first_bad
told = refl
