-- Document 01's example book, as bytes: the spares of its entries, and the codes of the call.
use mathlib.Core.Path.{◌≡◌, refl}
use mathlib.Core.List.{[], ◌∷◌, map}
use mathlib.Core.Option.{Option, none, some}
use Prim.Native.Nat.{ℕ}
use lib.IntN.{ℤ, pos, negsuc}
use Rattle.text_read.specs.Reader.{then_read, ◌>>=◌, ◌>>◌, ◌<|>◌, give, guard, remaining, begins, text, front, run, value_from, number, word, row, more, up_to, many}
use Rattle.text_read.specs.Heads.{bytes}
use Rattle.book_lines.specs.Lines.{move, long_form, short_form, entry}
use Rattle.book_lines.specs.Questions as lines
use Rattle.book_form.specs.Book.{opening, book, whole, parse}
use Rattle.book_form.proofs.Example.{sample}
use Rattle.call_spare.specs.SpareCall.{spare_question, spare_at}

abbrev spare_from : ℕ × ℕ → Option ℤ
spare_from p = spare_at (parse sample) p.0 p.1

-- snare (1, 0 to 96), xylo (2, 120 to 200) and snare2 (1, 240 to 300), with moves of 24 ticks: to the tick, with 16 ticks to spare, on one instrument,
-- too late by 224 and by 300, and an entry against itself
spares : map spare_from ((1, 2) ∷ (2, 3) ∷ (1, 3) ∷ (2, 1) ∷ (3, 1) ∷ (1, 1) ∷ [])
    ≡ some (pos 0) ∷ some (pos 16) ∷ some (pos 144) ∷ some (negsuc 223) ∷ some (negsuc 299) ∷ none ∷ []
unfolding bytes then_read ◌>>=◌ ◌>>◌ ◌<|>◌ give guard remaining begins text front run value_from number word row more up_to many move long_form short_form entry opening book whole parse
spares = refl

abbrev asked_of : ℕ × ℕ → ℕ
asked_of p = spare_question sample p.0 p.1

-- "an entry outside 1 to E is met with 19"
codes : map asked_of ((1, 3) ∷ (3, 3) ∷ (0, 1) ∷ (1, 0) ∷ (4, 1) ∷ (1, 4) ∷ []) ≡ 0 ∷ 0 ∷ 19 ∷ 19 ∷ 19 ∷ 19 ∷ []
unfolding bytes then_read ◌>>=◌ ◌>>◌ ◌<|>◌ give guard remaining begins text front run value_from number word row more up_to many move long_form short_form entry opening book whole parse lines.moves lines.all_pass
codes = refl
