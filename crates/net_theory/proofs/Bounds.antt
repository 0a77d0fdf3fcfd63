-- A flow is within the bounds.
use mathlib.Core.List.{List}
use Prim.Native.Nat.{ℕ}
use Rattle.net_model.specs.Network.{Net, IsFlow}
use Rattle.net_theory.specs.Bounds.{InBounds}

pub flow_bounds : (N : Net) (f : List ℕ) → IsFlow N f → InBounds N f
flow_bounds N f h = record { all_arcs = h.all_arcs; above = h.above; below = h.below }
