use Rattle.std.proofs.Common.{◌≡◌, ℕ}
use Rattle.laws.specs.Padded.{filled}
use Rattle.bytes_read.specs.Words.{words}
use Rattle.bytes_read.proofs.read_words.Given as goal

abbrev pub invariant-loop-i : goal.invariant-loop-i
invariant-loop-i l = l.r ≡ filled (λ (n : ℕ). n) (words l.b) 512 0 l.i
