use Rattle.std.proofs.Common.{rules, ap, ◌∙◌}
use Rattle.laws.specs.Rules.{next}
use Rattle.way_enumerate.specs.WayEnumerator.{way_at, way_after}
use Rattle.call_book.proofs.BookEntries.{admit_fails, fails_given, room_way, answers_next}
use Rattle.call_book.proofs.next_way.Goals as goal

pub returns-in_err-checked : goal.returns-in_err-checked
returns-in_err-checked c =
    let fails = admit_fails c.args.book.now (next c.args.given.now c.args.way.now) _ c.in_err-checked.ensures in
    search rules

pub returns-in_err-ways : goal.returns-in_err-ways
returns-in_err-ways c = let a = c.args in
    let past = c.in_ok-checked.ensures.1 in
    let (strange, refusal_is) = c.in_err-ways.ensures.each past.book past.holds in
    let fails = fails_given a.book.now a.way.now c.in_ok-checked.checked past a.given.now strange in
    search rules

pub hand_way-requires : goal.hand_way-requires
hand_way-requires c = let a = c.args in
    let past = c.in_ok-checked.ensures.1 in
    let (given, found) = c.in_ok-ways.ensures.each past.book past.holds in
    let on-next = c.next.ensures.each past.book found.enumerates in
    (record { book = past.book; enumerates = on-next.enumerates }, room_way a.book.now a.way.now c.in_ok-checked.checked past c.next.result on-next.enumerates)

pub returns : goal.returns
returns c = let a = c.args in
    let past = c.in_ok-checked.ensures.1 in
    let (given, found) = c.in_ok-ways.ensures.each past.book past.holds in
    let on-next = c.next.ensures.each past.book found.enumerates in
    answers_next a.book.now a.way.now c.in_ok-checked.checked past a.given.now (way_at past.book c.next.result) given
    (on-next.way_is ∙ ap (way_after past.book) found.way_is) c.hand_way.result _ (rw c.number.ensures at (c.hand_way.ensures.each past.book on-next.enumerates))
