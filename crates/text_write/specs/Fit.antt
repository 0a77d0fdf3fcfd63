-- A text handed over in a list that may be too short for it.
use Rattle.std.specs.Prelude.{cond, List, ℕ, leb, length}
use Rattle.bytes_read.specs.Words.{over}

-- a text over the front of a list that has room for it; a shorter list stays as it was
abbrev pub fit : List ℕ → List ℕ → List ℕ
fit v out = cond (leb (length v) (length out)) (over v out) out
