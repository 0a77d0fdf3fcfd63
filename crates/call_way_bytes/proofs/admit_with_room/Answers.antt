use mathlib.Core.Path.{sym, ◌∙◌}
use Rattle.call_way_bytes.proofs.Admitting.{admitted}
use Rattle.call_way_bytes.proofs.admit_with_room.Goals as goal

pub returns : goal.returns
returns c = admitted c.args.book.now c.in_ok-checked.checked c.in_ok-checked.ensures c.args.bytes (sym c.has_room.ensures ∙ c.if-not-has_room.false)
