-- `book_check::check` meets its contract: each part of the book is read where the one before it ended.
use Prim.Native.Nat.{ℕ}
use mathlib.Core.List.{List}
use Rattle.laws.specs.Suffix.{take_rest}
use Rattle.text_read.specs.Reader.{◌>>=◌, ◌>>◌, give, text, many, ReadAs}
use Rattle.text_read.specs.Heads.{line_end}
use Rattle.book_lines.specs.Lines.{move, entry}
use Rattle.book_form.specs.Book.{opening, book}
use Rattle.book_form.specs.declared.Opening.{Opening}
use Rattle.text_read.proofs.Sequence.{From, begin, next, next_read, stops, ends_drop}
use Rattle.book_check.proofs.Form.{parse_fails, parse_closed, parse_open}
use Rattle.book_check.proofs.BookChecking.{long_right, form_right, PassesFound, judged_right}
use Rattle.book_check.proofs.check.Goals as goal

-- What is left after the first lines.
opens : (s : List ℕ) (o : Opening) {t : List ℕ} → ReadAs s (opening s) (o.players, o.fee) t
    → From (book s) (many move >>= (λ ms. many entry >>= (λ es. text line_end >>= (λ _. give (record { players = o.players; fee = o.fee; moves = ms; entries = es }))))) s t
unfolding book ◌>>◌
opens s o r = next_read _ _ (begin book _) r

pub returns-then-book-gt16384 : goal.returns-then-book-gt16384
returns-then-book-gt16384 c = long_right c.args.book.now c.if-book-gt16384.true

pub returns-in_default : goal.returns-in_default
unfolding book ◌>>◌
returns-in_default c = let s = c.args.book.now in
    form_right s c.if-book-gt16384.false (parse_fails s (stops _ _ (begin book s) c.in_default.ensures))

pub returns-then-not-closes : goal.returns-then-not-closes
returns-then-not-closes c =
    let s = c.args.book.now in
    let m = c.read_moves-m.ensures in
    let e = c.read_entries-e.ensures in
    let opened = opens s c.in-Some.o c.in-Some.ensures in
    let moved = next _ _ opened m.is (ends_drop _ _ m.within) in
    let listed = next _ _ moved (rw take_rest at e.is) (ends_drop _ _ (rw take_rest at e.within)) in
    form_right s c.if-book-gt16384.false (parse_open _ _ _ _ listed (rw (take_rest, take_rest) at c.closes.ensures) c.if-not-closes.true)

pub returns : goal.returns
returns c =
    let s = c.args.book.now in
    let o = c.in-Some.o in
    let m = c.read_moves-m.ensures in
    let e = c.read_entries-e.ensures in
    let opened = opens s o c.in-Some.ensures in
    let moved = next _ _ opened m.is (ends_drop _ _ m.within) in
    let listed = next _ _ moved (rw take_rest at e.is) (ends_drop _ _ (rw take_rest at e.within)) in
    let found : PassesFound s o c.read_moves-m.result c.read_entries-e.result =
    record {
      move_list = m.list;
      entry_list = e.list;
      parsed = parse_closed _ _ _ _ listed (rw (take_rest, take_rest) at c.closes.ensures) c.if-not-closes.false;
      moves_bad = m.bad;
      table_is = m.table_is;
      count = e.count;
      entries_bad = rw m.line at e.bad;
      entries_are = e.entries_are;
    } in
    rw c.judge.ensures (judged_right s o _ _ found c.if-book-gt16384.false)
