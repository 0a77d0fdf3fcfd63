-- What a writer does: it writes pieces one behind another, and changes nothing else of the list.
use Rattle.std.specs.Prelude.{◌≡◌, List, ℕ, ◌+◌, ◌≤◌, length}
use Rattle.laws.specs.Appended.{Appended}
use Rattle.text_write.specs.declared.Writer.{Writer}

-- the list has room for a piece
pub record HasRoomFor (w : Writer) (piece : List ℕ) : Type 0 where
  pub fits : w.at + length piece ≤ length w.out.now

-- the piece is written, into the list that was lent
pub record Writes (before : Writer) (piece : List ℕ) (after : Writer) : Type 0 where
  pub lent : after.out.ghost_name ≡ before.out.ghost_name
  pub appended : Appended before.out.now before.at piece after.out.now after.at
