-- An entry by the array of the checked book.
use Rattle.std.proofs.Common.{◌≡◌, ap, ◌∙◌, List, ℕ, ◌-◌, ◌≤◌, arith, length, get_or}
use Rattle.book_lines.specs.Columns.{book_entry, blank_entry}
use Rattle.book_lines.specs.declared.entries.BookEntry.{BookEntry}
use Rattle.book_form.specs.declared.CheckedBook.{CheckedBook}
use Rattle.book_form.proofs.Judging.{entry_in}
use Rattle.way_theory.specs.Follow.{size, entry_at}
use Rattle.way_gaps.specs.declared.JoinTicks.{JoinTicks}
use Rattle.way_sheets.specs.Writing.{HasSheets}

module _ (s : List ℕ) (c : CheckedBook) (w : List ℕ) (x : List JoinTicks) (has : HasSheets s c w x) (j : ℕ) (h : 1 ≤ j) (k : j ≤ size has.book) where
  entry_is : get_or c.entries (j - 1) blank_entry ≡ book_entry (length s) (entry_at has.book j)
  entry_is = ap (λ (y : CheckedBook). get_or y.entries (j - 1) blank_entry) has.is ∙ entry_in (length s) has.book.entries (j - 1) blank_entry (omega arith)

  pub start_is : (get_or c.entries (j - 1) blank_entry).start ≡ (entry_at has.book j).start
  start_is = ap (λ (e : BookEntry). e.start) entry_is

  pub finish_is : (get_or c.entries (j - 1) blank_entry).finish ≡ (entry_at has.book j).finish
  finish_is = ap (λ (e : BookEntry). e.finish) entry_is

  pub length_is : (get_or c.entries (j - 1) blank_entry).length ≡ length (entry_at has.book j).name
  length_is = ap (λ (e : BookEntry). e.length) entry_is
