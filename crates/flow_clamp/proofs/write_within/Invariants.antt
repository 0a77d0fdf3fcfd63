use Rattle.std.proofs.Common.{◌≡◌, [], ℕ, ◌+◌, ◌*◌, ◌<◌, min, get_or}
use Rattle.net_model.specs.Network.{low, up}
use Rattle.net_model.specs.Struct.{net_from}
use Rattle.flow_clamp.proofs.write_within.Given as goal

abbrev pub invariant-loop-a : goal.invariant-loop-a
invariant-loop-a l = (k : ℕ) → k < l.a → get_or l.flow k 0 ≡ min (up (net_from [] l.arcs) k) (low (net_from [] l.arcs) k + get_or l.capacity (2 * k + 1) 0)
