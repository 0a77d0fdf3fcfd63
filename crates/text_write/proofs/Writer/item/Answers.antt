use Rattle.text_write.proofs.Writing.{writes_then}
use Rattle.text_write.proofs.Writer.item.Goals as goal

pub returns : goal.returns
returns c = writes_then c.text.ensures c.number.ensures
