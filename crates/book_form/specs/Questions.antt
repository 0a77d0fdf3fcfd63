-- The questions put to a book, 11 to 16. "Each question is put of the whole input before the next."
use Rattle.std.specs.Prelude.{ℕ, Bool, ◌&&◌, List, [], ◌∷◌, length, leb}
use Rattle.std.proofs.Math.Option.{Option, none, some}
use Rattle.laws.specs.Tests.{ask}
use Rattle.book_lines.specs.Questions.{moves, entries, all_pass}
use Rattle.book_form.specs.declared.BookRefusal.{BookRefusal}
use Rattle.book_form.specs.declared.BookRefusal.TheVariants.{TooLong, Malformed, BadHeader, BadMove, BadEntry, TooMany}
use Rattle.book_form.specs.Book.{Book, parse}

-- 13, put to the lines of the players and of the fee: "Is P 1 to 8 and the fee at most 1,000,000?"
abbrev pub header : ℕ → ℕ → List Bool
header players fee = (leb 1 players && leb players 8) ∷ leb fee 1000000 ∷ []

abbrev pub ask_book : Book → ℕ
ask_book b =
    ask (all_pass (header b.players b.fee)) 13
    (ask (all_pass (moves [] b.moves)) 14
    (ask (all_pass (entries b.entries)) 15
    (ask (leb (length b.entries) 28) 16
    0)))

-- "Does it keep the form above? If not, 12."
abbrev pub ask_form : Option Book → ℕ
ask_form none = 12
ask_form (some b) = ask_book b

-- the number of the first question that the bytes s fail, or 0. "Has it at most 16,384 bytes? If not, 11."
abbrev pub book_refusal : List ℕ → ℕ
book_refusal s = ask (leb (length s) 16384) 11 (ask_form (parse s))

-- the number of each refusal
abbrev pub question_of : BookRefusal → ℕ
question_of TooLong = 11
question_of Malformed = 12
question_of (BadHeader k) = 13
question_of (BadMove k) = 14
question_of (BadEntry k) = 15
question_of TooMany = 16

-- the line that each refusal carries, 0 if none
abbrev pub line_of : BookRefusal → ℕ
line_of TooLong = 0
line_of Malformed = 0
line_of (BadHeader k) = k
line_of (BadMove k) = k
line_of (BadEntry k) = k
line_of TooMany = 0
