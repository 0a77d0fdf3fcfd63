use Rattle.std.proofs.Common.{◌≡◌, take, map, length}
use Rattle.bytes_read.specs.Words.{encode_words, over}
use Rattle.bytes_write.proofs.write_numbers.Given as goal

abbrev pub invariant-loop-i : goal.invariant-loop-i
invariant-loop-i g l = record { is : l.out ≡ over (encode_words (take l.i (map g.T.Word.word l.xs))) l.initial.out; long : length l.out ≡ length l.initial.out }
