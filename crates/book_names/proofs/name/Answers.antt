-- `name` meets its contract: the part that the span tells of.
use native.Mathlib.Nat.{add-sub_cancel_left}
use Rattle.book_names.proofs.name.Goals as goal

pub returns : goal.returns
returns c = rw add-sub_cancel_left c.place-at.ensures.given
