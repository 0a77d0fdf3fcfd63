use Rattle.std.proofs.Common.{arith}
use Rattle.text_write.proofs.Decimal.{decimal_one, decimal_more}
use Rattle.text_write.proofs.Writing.{writes_then, room_first, room_then}
use Rattle.text_write.proofs.Writer.+number.Goals as goal

pub digit-requires : goal.digit-requires
digit-requires t c = (omega arith, rw (decimal_one c.args.n c.if-n-lt10.true) at c.requires)

pub returns-then-n-lt10 : goal.returns-then-n-lt10
returns-then-n-lt10 t c = rw (decimal_one c.args.n c.if-n-lt10.true) c.digit.ensures

pub number-requires : goal.number-requires
number-requires t c = (omega arith, room_first _ _ (rw (decimal_more c.args.n c.if-n-lt10.false) at c.requires))

pub digit-requires-2 : goal.digit-requires-2
digit-requires-2 t c = (omega arith, room_then _ _ c.number.ensures (rw (decimal_more c.args.n c.if-n-lt10.false) at c.requires))

pub returns : goal.returns
returns t c = rw (decimal_more c.args.n c.if-n-lt10.false) (writes_then c.number.ensures c.digit-2.ensures)
