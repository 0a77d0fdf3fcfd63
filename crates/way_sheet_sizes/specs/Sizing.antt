-- What the size of the sheets is worked out from, and what it is.
use Rattle.std.specs.Prelude.{◌≡◌, Bool, List, ℕ, leb, length}
use Rattle.book_form.specs.declared.CheckedBook.{CheckedBook}
use Rattle.way_gaps.specs.declared.JoinTicks.{JoinTicks}
use Rattle.way_sheets.specs.Sheets.{sheets}
use Rattle.way_sheets.specs.Writing.{HasSheets}

-- the checked book of some bytes, a way of it, and its gaps and spares
pub record HasSize (c : CheckedBook) (w : List ℕ) (x : List JoinTicks) : Type 0 where
  pub text : List ℕ
  pub has : HasSheets text c w x

-- 02, request 8: "exactly how many bytes the sheets will take"
pub record IsSizeOf (c : CheckedBook) (w : List ℕ) (x : List JoinTicks) (r : ℕ) : Type 0 where
  pub each : (s : List ℕ) (has : HasSheets s c w x) → r ≡ length (sheets has.book w)

-- "when the lent list is shorter than that and at no other time", turned round
pub record FitsIn (c : CheckedBook) (w : List ℕ) (x : List JoinTicks) (bytes : ℕ) (r : Bool) : Type 0 where
  pub each : (s : List ℕ) (has : HasSheets s c w x) → r ≡ leb (length (sheets has.book w)) bytes
