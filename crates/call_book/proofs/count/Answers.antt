use Rattle.book_check.proofs.Accepting.{accepted, accepted_holds, accepted_held}
use Rattle.call_book.proofs.BookEntries.{counts}
use Rattle.call_book.proofs.count.Goals as goal

pub start-requires : goal.start-requires
start-requires c = accepted_held (accepted c.in-Ok.ensures)

pub count-requires : goal.count-requires
count-requires c = let past = accepted c.in-Ok.ensures in
    record { book = past.book; enumerates = (c.start.ensures.each past.book (accepted_holds past)).enumerates }

pub returns-in-Ok : goal.returns-in-Ok
returns-in-Ok c = let past = accepted c.in-Ok.ensures in
    let begun = (c.start.ensures.each past.book (accepted_holds past)).enumerates in
    counts c.args.book.now c.in-Ok.checked past c.args.cap c.count.result (c.count.ensures.1.each past.book begun) _ c.count_reply.ensures
