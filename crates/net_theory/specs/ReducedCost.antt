-- The reduced cost of an arc, by a potential.
use Rattle.std.specs.Prelude.{ℕ, ℤ, ◌+ℤ◌, ◌-ℤ◌}
use Rattle.net_model.specs.Network.{Net, tail, head, cost}

abbrev pub reduced : Net → (ℕ → ℤ) → ℕ → ℤ
reduced N π a = (cost N a +ℤ π (tail N a)) -ℤ π (head N a)
