-- What the calls of the sheets begin with: questions 11 to 16 and 18. s is the book, g the way given.
use Rattle.std.specs.Prelude.{◌≡◌, List, ℕ, length, Result, Ok, MatchResult}
use Rattle.book_form.specs.declared.CheckedBook.{CheckedBook}
use Rattle.book_check.specs.BookCheck.{ChecksBook}
use Rattle.call_reply.specs.declared.Reply.{Reply}
use Rattle.call_way_bytes.specs.Refusals.{Refuses, Asked}
use Rattle.call_way_bytes.specs.declared.WayRefusal.{WayRefusal}
use Rattle.call_sheets.specs.SheetCalls.{room_question, sheets_question, BookSheets}

-- past them, the checked book
abbrev pub AdmitsWay : List ℕ → List ℕ → Result CheckedBook WayRefusal → Type 0
AdmitsWay s g r = Asked s (room_question s g) (λ c. ChecksBook s (Ok c)) r

-- writing before its refusals are replies: answered, or the question that it fails, with the lent list as it was
abbrev pub Answered : (s g before after : List ℕ) → Result Reply WayRefusal → Type 0
Answered s g before after r = MatchResult r (λ reply. BookSheets s g before reply after) (λ refusal. Refuses s (sheets_question s g (length before)) refusal × (after ≡ before))
