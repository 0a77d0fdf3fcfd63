-- The definitions at work on bytes: calls of document 01's example book.
use mathlib.Core.Path.{◌≡◌, refl}
use mathlib.Core.List.{List, [], ◌∷◌}
use Prim.Native.Nat.{ℕ}
use native.Mathlib.Decide.{ℕ_discrete}
use Rattle.laws.specs.Rules.{first, next}
use Rattle.laws.specs.Seen.{refused, end, item}
use Rattle.laws.specs.Run.{respond}
use Rattle.text_read.specs.Reader.{then_read, ◌>>=◌, ◌>>◌, ◌<|>◌, give, guard, remaining, begins, text, front, run, value_from, number, word, row, more, up_to, many}
use Rattle.text_read.specs.Heads.{bytes}
use Rattle.book_lines.specs.Lines.{move, long_form, short_form, entry}
use Rattle.book_lines.specs.Questions as lines
use Rattle.book_form.specs.Book.{opening, book, whole, parse}
use Rattle.book_form.proofs.Example.{sample}
use Rattle.way_theory.specs.FullWays.{way_list, full_ways}
use Rattle.bytes_read.specs.Words.{encode_words}
use Rattle.call_book.specs.BookRules.{book_rules}

abbrev lent : List ℕ
lent = encode_words (9 ∷ 9 ∷ 9 ∷ 7 ∷ [])

starts : respond (book_rules sample) (first lent) ≡ item (0 ∷ 0 ∷ 1 ∷ [])
unfolding way_list full_ways bytes then_read ◌>>=◌ ◌>>◌ ◌<|>◌ give guard remaining begins text front run value_from number word row more up_to many move long_form short_form entry opening book whole parse lines.moves lines.all_pass
starts = refl

goes_on : respond (book_rules sample) (next (encode_words (0 ∷ 0 ∷ 1 ∷ [])) lent) ≡ item (0 ∷ 1 ∷ 2 ∷ [])
unfolding way_list full_ways bytes then_read ◌>>=◌ ◌>>◌ ◌<|>◌ give guard remaining begins text front run value_from number word row more up_to many move long_form short_form entry opening book whole parse lines.moves lines.all_pass ℕ_discrete
goes_on = refl

ends : respond (book_rules sample) (next (encode_words (0 ∷ 1 ∷ 2 ∷ [])) lent) ≡ end
unfolding way_list full_ways bytes then_read ◌>>=◌ ◌>>◌ ◌<|>◌ give guard remaining begins text front run value_from number word row more up_to many move long_form short_form entry opening book whole parse lines.moves lines.all_pass ℕ_discrete
ends = refl

-- 18: a way that is not least-cost, and an item with a number more; 17: room for two numbers, and bytes that are no whole numbers
dearer : respond (book_rules sample) (next (encode_words (0 ∷ 0 ∷ 2 ∷ [])) lent) ≡ refused 18
unfolding way_list full_ways bytes then_read ◌>>=◌ ◌>>◌ ◌<|>◌ give guard remaining begins text front run value_from number word row more up_to many move long_form short_form entry opening book whole parse lines.moves lines.all_pass ℕ_discrete
dearer = refl

longer : respond (book_rules sample) (next (encode_words (0 ∷ 0 ∷ 1 ∷ 0 ∷ [])) lent) ≡ refused 18
unfolding way_list full_ways bytes then_read ◌>>=◌ ◌>>◌ ◌<|>◌ give guard remaining begins text front run value_from number word row more up_to many move long_form short_form entry opening book whole parse lines.moves lines.all_pass ℕ_discrete
longer = refl

short : respond (book_rules sample) (first (encode_words (9 ∷ 9 ∷ []))) ≡ refused 17
unfolding way_list full_ways bytes then_read ◌>>=◌ ◌>>◌ ◌<|>◌ give guard remaining begins text front run value_from number word row more up_to many move long_form short_form entry opening book whole parse lines.moves lines.all_pass
short = refl

odd : respond (book_rules sample) (first (9 ∷ lent)) ≡ refused 17
unfolding way_list full_ways bytes then_read ◌>>=◌ ◌>>◌ ◌<|>◌ give guard remaining begins text front run value_from number word row more up_to many move long_form short_form entry opening book whole parse lines.moves lines.all_pass
odd = refl
