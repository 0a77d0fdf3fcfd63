-- The name of an entry, as C gets it: "the part of the book that holds it".
use Rattle.std.specs.Prelude.{◌≡◌, List, ℕ, ◌+◌, ◌-◌, ◌≤◌, length, take, drop, get_or}
use Rattle.book_lines.specs.Columns.{nobody}
use Rattle.book_form.specs.Book.{parse}
use Rattle.book_form.specs.Checked.{entries_of}
use Rattle.book_names.specs.Name.{NameGiven, name_refusal}
use Rattle.book_names.specs.declared.Span.{Span}

-- the part of s that a span tells of
abbrev pub spanned : List ℕ → Span → List ℕ
spanned s r = take r.length (drop r.start s)

-- where the name of entry j was read: so many bytes of s are left from there on
abbrev pub name_start : List ℕ → ℕ → ℕ
name_start s j = length s - (get_or (entries_of (parse s)) (j - 1) nobody).left

-- the span of the name of entry j, at the place where it was read; all zeros if it is refused
pub record BookName (s : List ℕ) (j : ℕ) (r : Span) : Type 0 where
  pub within : r.start + r.length ≤ length s
  pub given : NameGiven s j (spanned s r)
  pub here : name_refusal s j ≡ 0 → r.start ≡ name_start s j
  pub zero : ¬ (name_refusal s j ≡ 0) → r ≡ record { start = 0; length = 0 }

-- "a second call on the same book and entry gives the number of the refusal, or 0"
abbrev pub BookNameRefusal : List ℕ → ℕ → ℕ → Type 0
BookNameRefusal s j r = r ≡ name_refusal s j
