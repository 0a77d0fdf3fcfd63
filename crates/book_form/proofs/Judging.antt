-- What the two tests of question 13 find, and an entry of a checked book.
use Prim.Native.Nat.{ℕ, zero, suc, ◌-◌, ◌<◌}
use mathlib.Core.Path.{◌≡◌, refl, ◌∙◌}
use mathlib.Core.Bool.{Bool, true, false}
use mathlib.Core.List.{List, [], ◌∷◌, map}
use native.Mathlib.Omega.{arith}
use lib.ListN.{length, length-map, get_or, replicate, get_or-append}
use Rattle.std.specs.Prelude.{None}
use Rattle.book_lines.specs.declared.entries.BookEntry.{BookEntry}
use Rattle.book_lines.specs.Lines.{Entry}
use Rattle.book_lines.specs.Columns.{book_entry, blank_entry, entries_in, nobody}
use Rattle.book_lines.specs.Questions.{first_bad}
use Rattle.book_lines.specs.Passes.{first_bad_after}

-- the lines of the players and of the fee
pub two_lines : (players fee : Bool) → first_bad_after (first_bad_after None players 2) fee 3 ≡ first_bad 2 (players ∷ fee ∷ [])
unfolding first_bad
two_lines true true = refl
two_lines true false = refl
two_lines false fee = refl

-- an entry, in the array of them
pub entry_in : (total : ℕ) (es : List Entry) (n : ℕ) (d : BookEntry) → n < length es → get_or (entries_in total es) n d ≡ book_entry total (get_or es n nobody)
entry_in total es n d h = get_or-append (map (book_entry total) es) (replicate (28 - length (map (book_entry total) es)) blank_entry) d n (rw length-map h) ∙ at es n h
  where
    at : (es : List Entry) (n : ℕ) → n < length es → get_or (map (book_entry total) es) n d ≡ book_entry total (get_or es n nobody)
    at [] n h = absurd (omega arith)
    at (e ∷ es) zero h = refl
    at (e ∷ es) (suc n) h = at es n (omega arith)
