-- The codes of replies that have no item and no value, and are no refusals.
use Rattle.std.specs.Prelude.{ℕ}
use Rattle.call_reply.specs.declared.Code.{Code}
use Rattle.call_reply.specs.declared.Code.TheVariants.{None, End, More, NoMove}

abbrev pub number_of : Code → ℕ
number_of None = 100
number_of End = 101
number_of More = 102
number_of NoMove = 103
