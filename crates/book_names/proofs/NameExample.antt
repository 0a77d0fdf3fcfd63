-- The names in the book of 01's listing, by the definitions alone.
use mathlib.Core.Path.{◌≡◌, refl}
use Rattle.text_read.specs.Reader.{then_read, ◌>>=◌, ◌>>◌, ◌<|>◌, give, guard, remaining, begins, text, front, run, value_from, number, word, row, more, up_to, many}
use Rattle.text_read.specs.Heads.{bytes}
use Rattle.book_lines.specs.Lines.{move, long_form, short_form, entry}
use Rattle.book_lines.specs.Questions.{moves, all_pass}
use Rattle.book_form.specs.Book.{opening, book, whole, parse}
use Rattle.book_form.proofs.Example.{sample}
use Rattle.book_names.specs.Name.{name_refusal, name_of}

sample_named : (name_of sample 2 ≡ bytes "xylo") × (name_refusal sample 4 ≡ 19)
unfolding bytes then_read ◌>>=◌ ◌>>◌ ◌<|>◌ give guard remaining begins text front run value_from number word row more up_to many move long_form short_form entry opening book whole parse moves all_pass
sample_named = (refl, refl)
