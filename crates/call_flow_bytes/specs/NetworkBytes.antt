-- A network as bytes.
use Rattle.std.specs.Prelude.{List, ℕ}
use Rattle.bytes_read.specs.Words.{ints}
use Rattle.net_model.specs.Network.{Net}
use Rattle.net_model.specs.Input.{net_of}

-- "The network comes as n balances and five numbers an arc (tail, head, l, u, c), all signed 32-bit."
abbrev pub net : List ℕ → List ℕ → Net
net bs xs = net_of (ints bs) (ints xs)
