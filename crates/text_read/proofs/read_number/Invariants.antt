-- `text_read::read_number` meets its contract: the bytes passed are digits of that value.
use Rattle.std.proofs.Common.{◌≡◌}
use Rattle.text_read.proofs.Runs.{Digits}
use Rattle.text_read.proofs.read_number.Given as goal

abbrev pub invariant-loop-b : goal.invariant-loop-b
invariant-loop-b l = record { same : l.length ≡ l.b-index; digits : Digits l.rest l.value l.b-index }
