-- What the judging promises: a refusal or the checked book, from what the lines gave.
use Rattle.std.specs.Prelude.{ℕ, cond, leb, Option, Some, None, Result, Ok, Err}
use Rattle.book_lines.specs.declared.moves.Moves.{Moves}
use Rattle.book_lines.specs.declared.entries.Entries.{Entries}
use Rattle.book_lines.specs.Questions.{first_bad}
use Rattle.book_form.specs.declared.Opening.{Opening}
use Rattle.book_form.specs.declared.CheckedBook.{CheckedBook}
use Rattle.book_form.specs.declared.BookRefusal.{BookRefusal}
use Rattle.book_form.specs.declared.BookRefusal.TheVariants.{BadHeader, BadMove, BadEntry, TooMany}
use Rattle.book_form.specs.Questions.{header}

-- the refusal by the first line that fails a question, if one does, and else what the next questions give
abbrev pub unless_bad : Option ℕ → (ℕ → BookRefusal) → Result CheckedBook BookRefusal → Result CheckedBook BookRefusal
unless_bad (Some line) refusal next = Err (refusal line)
unless_bad None refusal next = next

-- the first line that fails 13, if one does
abbrev pub header_bad : Opening → Option ℕ
header_bad o = first_bad 2 (header o.players o.fee)

abbrev pub held_of : Opening → Moves → Entries → CheckedBook
held_of o m e = record { players = o.players; fee = o.fee; moves = m.table; count = e.count; entries = e.entries }

-- by the first lines that fail 13, 14 and 15, and the count of entries
abbrev pub judged_of : Opening → Moves → Entries → Result CheckedBook BookRefusal
judged_of o m e =
    unless_bad (header_bad o) BadHeader
    (unless_bad m.bad BadMove
    (unless_bad e.bad BadEntry
    (cond (leb e.count 28) (Ok (held_of o m e)) (Err TooMany))))
