-- The name of an entry.
use Rattle.std.specs.Prelude.{ℕ, zero, suc, ◌-◌, ◌<◌, ◌≡◌, Bool, ◌&&◌, List, [], length, get_or, leb}
use Rattle.book_lines.specs.Lines.{Entry}
use Rattle.book_form.specs.Book.{parse}
use Rattle.laws.specs.Tests.{ask}
use Rattle.book_form.specs.Questions.{book_refusal}
use Rattle.book_form.specs.Checked.{entries_of}
use Rattle.book_lines.specs.Columns.{nobody}

-- "is the entry from 1 to E?"
abbrev pub is_entry : ℕ → ℕ → Bool
is_entry e j = leb 1 j && leb j e

-- "For a name, put straight after 16: is the entry from 1 to E? If not, 19."
abbrev pub ask_entry : ℕ → List Entry → ℕ → ℕ
ask_entry zero es j = ask (is_entry (length es) j) 19 0
ask_entry (suc q) es j = suc q

abbrev pub name_refusal : List ℕ → ℕ → ℕ
name_refusal s j = ask_entry (book_refusal s) (entries_of (parse s)) j

-- "A refused name call gives the empty part"
abbrev pub or_empty_part : ℕ → List ℕ → List ℕ
or_empty_part zero name = name
or_empty_part (suc q) name = []

-- "Entries are numbered 1 to E in book order"
abbrev pub name_of : List ℕ → ℕ → List ℕ
name_of s j = or_empty_part (name_refusal s j) (get_or (entries_of (parse s)) (j - 1) nobody).name

-- what a name call promises: "the empty part, which no name is"
pub record NameGiven (s : List ℕ) (j : ℕ) (part : List ℕ) : Type 0 where
  pub is : part ≡ name_of s j
  pub some : name_refusal s j ≡ 0 → 0 < length part
