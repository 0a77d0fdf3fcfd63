use Rattle.std.proofs.Common.{◌++◌}
use Rattle.text_read.specs.Heads.{bytes, line_end}
use Rattle.text_write.specs.Decimal.{decimal}
use Rattle.text_write.proofs.Writing.{writes_then, room_then}
use Rattle.text_write.proofs.Writer.row.Goals as goal

pub text-requires : goal.text-requires
unfolding bytes
text-requires c = room_then (c.args.head.now ++ decimal c.args.n) line_end c.item.ensures c.requires

pub returns : goal.returns
unfolding bytes
returns c = writes_then c.item.ensures c.text.ensures
