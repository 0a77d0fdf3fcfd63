-- Document 02, request 7: the call of the spare of a join. s is the book, i the earlier entry and j the later one, r the reply.
use Rattle.std.specs.Prelude.{◌≡◌, ◌&&◌, List, ℕ, ℤ, Option, Some, None}
use Rattle.std.proofs.Math.Option.{Option as Maybe, none, some}
use Rattle.laws.specs.Optional.{optional}
use Rattle.laws.specs.Tests.{ask}
use Rattle.book_form.specs.Book.{Book, parse}
use Rattle.book_form.specs.Questions.{book_refusal}
use Rattle.book_form.specs.LineTold.{line_told}
use Rattle.book_names.specs.Name.{is_entry}
use Rattle.way_theory.specs.Follow.{spare}
use Rattle.way_theory.specs.BookBytes.{entry_count}
use Rattle.call_reply.specs.declared.Reply.{Reply}
use Rattle.call_reply.specs.Replies.{or_else, code_alone, reply_unless}

-- "The engraving program may put the test for two entries of a book; an entry outside 1 to E is met with 19."
abbrev pub spare_question : List ℕ → ℕ → ℕ → ℕ
spare_question s i j =
    or_else (book_refusal s)
    (ask (is_entry (entry_count s) i && is_entry (entry_count s) j) 19
    0)

-- the number and the value of each answer: "that test now gives the signed spare .. A missing move has an answer of its own"
abbrev pub spare_reply : Option ℤ → Reply
spare_reply None = code_alone 103
spare_reply (Some z) = record { code = 0; line = 0; value = z }

-- the spare in a book that keeps the form
abbrev pub spare_at : Maybe Book → ℕ → ℕ → Maybe ℤ
spare_at none i j = none
spare_at (some b) i j = spare b i j

abbrev pub BookSpare : List ℕ → ℕ → ℕ → Reply → Type 0
BookSpare s i j r = r ≡ (let q = spare_question s i j in reply_unless q (line_told s q) (spare_reply (optional (spare_at (parse s) i j))))
