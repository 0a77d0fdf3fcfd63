-- The book of 01's listing, by the definitions alone.
use Prim.Native.Nat.{ℕ}
use mathlib.Core.Path.{◌≡◌, refl}
use mathlib.Core.Option.{some}
use mathlib.Core.List.{List, [], ◌∷◌}
use Rattle.text_read.specs.Reader.{then_read, ◌>>=◌, ◌>>◌, ◌<|>◌, give, guard, remaining, begins, text, front, run, value_from, number, word, row, more, up_to, many}
use Rattle.text_read.specs.Heads.{bytes}
use Rattle.book_lines.specs.Lines.{move, long_form, short_form, entry}
use Rattle.book_lines.specs.Questions.{moves, all_pass}
use Rattle.book_form.specs.Book.{opening, book, whole, parse}
use Rattle.book_form.specs.Questions.{book_refusal}

abbrev pub sample : List ℕ
sample =
    bytes "(book\n(players 2)\n(fee 6)\n(move 1 2 24 3)\n(move 2 1 24 3)\n(entry (name snare) 1 0 96)\n(entry (name xylo) 2 120 200)\n(entry (name snare2) 1 240 300)\n)\n"

sample_read : parse sample ≡ some (record {
  players = 2;
  fee = 6;
  moves = record { source = 1; target = 2; ticks = 24; cost = 3 } ∷ record { source = 2; target = 1; ticks = 24; cost = 3 } ∷ [];
  entries =
      record { name = bytes "snare"; left = 79; arrives = 1; leaves = 1; start = 0; finish = 96 }
      ∷ record { name = bytes "xylo"; left = 51; arrives = 2; leaves = 2; start = 120; finish = 200 }
      ∷ record { name = bytes "snare2"; left = 21; arrives = 1; leaves = 1; start = 240; finish = 300 }
      ∷ [];
})
unfolding bytes then_read ◌>>=◌ ◌>>◌ ◌<|>◌ give guard remaining begins text front run value_from number word row more up_to many move long_form short_form entry opening book whole parse
sample_read = refl

sample_accepted : book_refusal sample ≡ 0
unfolding bytes then_read ◌>>=◌ ◌>>◌ ◌<|>◌ give guard remaining begins text front run value_from number word row more up_to many move long_form short_form entry opening book whole parse moves all_pass
sample_accepted = refl
