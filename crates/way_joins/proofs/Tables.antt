-- A checked book that holds a book has its tables, and with them its timing.
use mathlib.Core.Path.{◌≡◌, ap, ◌∙◌}
use mathlib.Core.List.{List, [], ◌∷◌, ◌++◌, map}
use Prim.Native.Nat.{ℕ}
use lib.ListN.{length-map, replicate}
use Rattle.book_lines.specs.declared.entries.BookEntry.{BookEntry}
use Rattle.book_lines.specs.Lines.{Entry}
use Rattle.book_lines.specs.Columns.{table, book_entry, blank_entry, entries_in}
use Rattle.book_form.specs.declared.CheckedBook.{CheckedBook}
use Rattle.book_form.specs.Book.{Book}
use Rattle.book_form.specs.Held.{Holds, Held}
use Rattle.way_theory.specs.Follow.{size}
use Rattle.way_joins.specs.Tables.{ticks_of, cost_of, nameless, Tables, tables_in, TimingOf, HasTiming, TablesOf, HasTables}

-- how many bytes the book has bears on the names alone
unnamed : (total : ℕ) (es : List Entry) → map nameless (entries_in total es) ≡ map nameless (entries_in 0 es)
unnamed total es = go es _ _ (rw (length-map, length-map))
  where
    go : (es : List Entry) (n m : ℕ) → n ≡ m → map nameless (map (book_entry total) es ++ replicate n blank_entry) ≡ map nameless (map (book_entry 0) es ++ replicate m blank_entry)
    go [] n m q = ap (λ n. map nameless (replicate n blank_entry)) q
    go (e ∷ es) n m q = ap (λ l. nameless (book_entry 0 e) ∷ l) (go es n m q)

abbrev with_entries : Book → List BookEntry → Tables
with_entries b es = record { timing = record { count = size b; ticks = map ticks_of (table b.moves); entries = es }; fee = b.fee; costs = map cost_of (table b.moves) }

module _ {b : Book} {c : CheckedBook} where
  pub holds_tables : Holds b c → TablesOf b c
  holds_tables h = record { limits = h.limits; are = ap tables_in h.is ∙ ap (with_entries b) (unnamed h.total b.entries) }

  pub tables_timing : TablesOf b c → TimingOf b c
  tables_timing t = record { limits = t.limits; are = ap (λ (t : Tables). t.timing) t.are }

  pub holds_timing : Holds b c → TimingOf b c
  holds_timing h = tables_timing (holds_tables h)

module _ {c : CheckedBook} where
  pub held_tables : Held c → HasTables c
  held_tables h = record { book = h.book; tables = holds_tables h.holds }

  pub has_timing : HasTables c → HasTiming c
  has_timing h = record { book = h.book; timing = tables_timing h.tables }

  pub held_timing : Held c → HasTiming c
  held_timing h = has_timing (held_tables h)
