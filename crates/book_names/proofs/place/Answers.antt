-- `place` meets its contract.
use mathlib.Core.Path.{sym, ◌∙◌}
use Rattle.book_names.proofs.Naming.{somewhere}
use Rattle.book_names.proofs.place.Goals as goal

pub returns-in-Ok : goal.returns-in-Ok
returns-in-Ok c = somewhere _ _ _ c.in-Ok.ensures (sym c.is_entry.ensures ∙ c.if-is_entry.true)
