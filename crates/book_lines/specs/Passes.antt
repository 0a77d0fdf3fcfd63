-- What the functions over lines promise: one line, and the passes over the moves and over the entries.
use Rattle.std.specs.Prelude.{ℕ, ◌+◌, ◌-◌, ◌≤◌, ◌≡◌, Bool, cond, ◌&&◌, List, [], ◌∷◌, ◌++◌, length, take, drop, get_or, set, Option, Some, None, is_none}
use Rattle.text_read.specs.Reader.{reads, many, ReadAs}
use Rattle.book_lines.specs.declared.moves.Move.{Move}
use Rattle.book_lines.specs.declared.moves.PairMove.{PairMove}
use Rattle.book_lines.specs.declared.moves.Moves.{Moves}
use Rattle.book_lines.specs.declared.entries.EntryLine.{EntryLine}
use Rattle.book_lines.specs.declared.entries.EntryNumbers.{EntryNumbers}
use Rattle.book_lines.specs.declared.entries.BookEntry.{BookEntry}
use Rattle.book_lines.specs.declared.entries.Entries.{Entries}
use Rattle.book_lines.specs.Lines.{move, Entry, entry}
use Rattle.book_lines.specs.Questions.{fair_move, stands, moves, fair_entry, entries, first_bad}
use Rattle.book_lines.specs.Columns.{place, said, table, entries_in}

-- the first bad line after one line more, which is line `line`: `bad` is that of the lines before it, if any (`first_bad_more`, proofs/FirstBad.antt)
abbrev pub first_bad_after : Option ℕ → Bool → ℕ → Option ℕ
first_bad_after (Some k) passes line = Some k
first_bad_after None passes line = cond passes None (Some line)

-- the place of the pair of m in a table
abbrev pub place_of : Move → ℕ
place_of m = place m.source m.target

-- m may stand, by the table of the lines before it
abbrev pub may_stand : List (Option PairMove) → Move → Bool
may_stand table m = fair_move m && is_none (get_or table (place_of m) None)

-- m is put into the table if it may stand
pub record Put (m : Move) (table table' : List (Option PairMove)) (r : Bool) : Type 0 where
  pub is : r ≡ may_stand table m
  pub table_is : table' ≡ cond (may_stand table m) (set table (place_of m) (Some (said m))) table

-- the moves that the table takes, after `taken`: each that may stand by those taken before it. Where every line passes 14, that is all.
unfoldable pub kept : List Move → List Move → List Move
kept taken [] = taken
kept taken (m ∷ later) = kept (cond (stands taken m) (taken ++ (m ∷ [])) taken) later

-- the moves at the front of s
pub record MovesRead (s : List ℕ) (r : Moves) : Type 0 where
  pub list : List Move
  pub is : many move s ≡ reads list (drop r.used s)
  pub within : r.used ≤ length s
  pub few : length list ≤ r.used
  pub line : r.line ≡ 4 + length list
  pub bad : r.bad ≡ first_bad 4 (moves [] list)
  pub table_is : r.table ≡ table (kept [] list)

-- A B S F
abbrev pub numbers_of : EntryNumbers → List ℕ
numbers_of r = r.arrives ∷ r.leaves ∷ r.start ∷ r.finish ∷ []

-- the entry that a line of s tells of
abbrev pub entry_of : List ℕ → EntryLine → Entry
entry_of s r = record { name = take r.length (drop (length s - r.left) s); left = r.left; arrives = r.arrives; leaves = r.leaves; start = r.start; finish = r.finish }

-- the entry at the front of s, and the bytes `after` that follow it
pub record EntryRead (s : List ℕ) (r : EntryLine) (after : List ℕ) : Type 0 where
  pub right : ReadAs s (entry s) (entry_of s r) after
  pub begins : r.left ≤ length s
  pub ends : r.length ≤ r.left

-- 15, which does not ask for the name
abbrev pub fair_line : EntryLine → Bool
fair_line r = fair_entry (entry_of [] r)

-- the entry of a line, of a book of `total` bytes
abbrev pub told : ℕ → EntryLine → BookEntry
told total e = record { arrives = e.arrives; leaves = e.leaves; start = e.start; finish = e.finish; name = total - e.left; length = e.length }

-- the entries at the front of s, whose first line is `first`; the first 28 of them are handed on
pub record EntriesRead (s : List ℕ) (first total : ℕ) (r : Entries) : Type 0 where
  pub list : List Entry
  pub is : many entry s ≡ reads list (drop r.used s)
  pub within : r.used ≤ length s
  pub count : r.count ≡ length list
  pub bad : r.bad ≡ first_bad first (entries list)
  pub entries_are : r.entries ≡ entries_in total (take 28 list)
