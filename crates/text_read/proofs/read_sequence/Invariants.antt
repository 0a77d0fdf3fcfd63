-- `text_read::read_sequence` meets its contract: after each number, the first of the others stands behind `before`.
use Rattle.std.proofs.Common.{◌≡◌, ◌-◌, ◌<◌, length, take}
use Rattle.text_read.proofs.Rows.{Known}
use Rattle.text_read.proofs.read_sequence.Given as goal

abbrev pub invariant-loop-value : goal.invariant-loop-value
invariant-loop-value g l = record {
  some : 0 < length l.before;
  places : length l.value-items ≡ g.row.N;
  known : Known l.head l.rest g.row.N (take l.value-index l.value-items) (g.row.N - l.value-index) l.before l.after;
}
