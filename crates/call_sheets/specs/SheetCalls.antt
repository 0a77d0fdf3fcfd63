-- Document 02, requests 2, 7 and 8: the calls of the part sheets. s is the book, g the way given, r the reply.
use Rattle.std.specs.Prelude.{◌≡◌, List, [], ℕ, leb, length}
use Rattle.std.proofs.Math.Option.{Option, none, some}
use Rattle.laws.specs.Tests.{ask}
use Rattle.bytes_read.specs.Words.{words, over}
use Rattle.book_form.specs.Book.{Book, parse}
use Rattle.book_form.specs.Questions.{book_refusal}
use Rattle.book_form.specs.LineTold.{line_told}
use Rattle.way_theory.specs.BookBytes.{ways}
use Rattle.way_sheets.specs.Sheets.{sheets}
use Rattle.call_reply.specs.declared.Reply.{Reply}
use Rattle.call_reply.specs.Replies.{or_else, if_ok, value_reply}
use Rattle.call_reply.specs.ByteLists.{listed}

-- the sheets of the way w of a book that keeps the form
abbrev pub sheets_in : Option Book → List ℕ → List ℕ
sheets_in none w = []
sheets_in (some b) w = sheets b w

abbrev pub sheets_text : List ℕ → List ℕ → List ℕ
sheets_text s g = sheets_in (parse s) (words g)

-- 02, request 8: "The room call too now refuses a list that is no least-cost way with 18, after 16."
abbrev pub room_question : List ℕ → List ℕ → ℕ
room_question s g =
    or_else (book_refusal s)
    (ask (listed g (ways s)) 18
    0)

-- "The call now takes the chosen way beside the book and gives exactly how many bytes the sheets will take, without writing them."
abbrev pub BookSheetsRoom : List ℕ → List ℕ → Reply → Type 0
BookSheetsRoom s g r = r ≡ (let q = room_question s g in value_reply q (line_told s q) (length (sheets_text s g)))

-- "Once 11 to 16 and 18 are passed, refusal 21 comes in writing when the lent list is shorter than that and at no other time."
abbrev pub sheets_question : List ℕ → List ℕ → ℕ → ℕ
sheets_question s g bytes =
    or_else (room_question s g)
    (ask (leb (length (sheets_text s g)) bytes) 21
    0)

-- 02, request 2: "The call gives how many bytes it wrote; bytes after the sheets stay untouched."
pub record BookSheets (s g before : List ℕ) (r : Reply) (after : List ℕ) : Type 0 where
  pub reply_is : r ≡ (let q = sheets_question s g (length before) in value_reply q (line_told s q) (length (sheets_text s g)))
  pub text_is : after ≡ if_ok (sheets_question s g (length before)) (over (sheets_text s g) before) before
