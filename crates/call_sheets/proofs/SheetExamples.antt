-- Document 01's example book, as bytes: the sheets of its two ways, and the codes of the call.
use mathlib.Core.Path.{◌≡◌, refl}
use mathlib.Core.List.{List, [], ◌∷◌, map, flatten}
use Prim.Native.Nat.{ℕ}
use native.Mathlib.Decide.{ℕ_discrete}
use Rattle.text_read.specs.Reader.{then_read, ◌>>=◌, ◌>>◌, ◌<|>◌, give, guard, remaining, begins, text, front, run, value_from, number, word, row, more, up_to, many}
use Rattle.text_read.specs.Heads.{bytes}
use Rattle.text_write.specs.Decimal.{digits, decimal}
use Rattle.bytes_read.specs.Words.{encode_words}
use Rattle.book_lines.specs.Lines.{move, long_form, short_form, entry}
use Rattle.book_lines.specs.Questions as lines
use Rattle.book_form.specs.Book.{opening, book, whole, parse}
use Rattle.book_form.proofs.Example.{sample}
use Rattle.way_theory.specs.FullWays.{way_list, full_ways}
use Rattle.way_parts.specs.Parts.{part_of, parts}
use Rattle.way_sheets.specs.Lines.{part_line, play_line, gap_line}
use Rattle.way_sheets.specs.Sheets.{plays_after, plays, sheet, sheets_from, sheets}
use Rattle.call_sheets.specs.SheetCalls.{sheets_question, sheets_in}

two_sheets : sheets_in (parse sample) (0 ∷ 0 ∷ 1 ∷ []) ≡ bytes "(part 1\n(play (name snare) 0 96)\n(gap 144 144)\n(play (name snare2) 240 300)\n)\n(part 2\n(play (name xylo) 120 200)\n)\n"
unfolding bytes then_read ◌>>=◌ ◌>>◌ ◌<|>◌ give guard remaining begins text front run value_from number word row more up_to many move long_form short_form entry opening book whole parse digits decimal part_of parts flatten part_line play_line gap_line plays_after plays sheet sheets_from sheets
two_sheets = refl

one_sheet : sheets_in (parse sample) (0 ∷ 1 ∷ 2 ∷ []) ≡ bytes "(part 1\n(play (name snare) 0 96)\n(gap 24 0)\n(play (name xylo) 120 200)\n(gap 40 16)\n(play (name snare2) 240 300)\n)\n"
unfolding bytes then_read ◌>>=◌ ◌>>◌ ◌<|>◌ give guard remaining begins text front run value_from number word row more up_to many move long_form short_form entry opening book whole parse digits decimal part_of parts flatten part_line play_line gap_line plays_after plays sheet sheets_from sheets
one_sheet = refl

abbrev asked_of : List ℕ × ℕ → ℕ
asked_of c = sheets_question sample (encode_words c.0) c.1

-- "refusal 21 comes in writing when the lent list is shorter than that and at no other time": room, a byte fewer, a way that is dearer, two numbers in
-- a list without room
codes : map asked_of ((0 ∷ 0 ∷ 1 ∷ [], 115) ∷ (0 ∷ 0 ∷ 1 ∷ [], 114) ∷ (0 ∷ 1 ∷ 2 ∷ [], 114) ∷ (0 ∷ 1 ∷ 2 ∷ [], 113) ∷ (0 ∷ 0 ∷ 2 ∷ [], 237) ∷ (0 ∷ 0 ∷ [], 0) ∷ []) ≡ 0 ∷ 21 ∷ 0 ∷ 21 ∷ 18 ∷ 18 ∷ []
unfolding way_list full_ways bytes then_read ◌>>=◌ ◌>>◌ ◌<|>◌ give guard remaining begins text front run value_from number word row more up_to many move long_form short_form entry opening book whole parse lines.moves lines.all_pass ℕ_discrete digits decimal part_of parts flatten part_line play_line gap_line plays_after plays sheet sheets_from sheets
codes = refl
