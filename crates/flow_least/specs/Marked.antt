-- A least-cost flow with the marks by which the others are found.
use Rattle.std.specs.Prelude.{◌≡◌, Bool, List, ℕ, length, ℤ}
use Rattle.net_model.specs.Network.{Net, arcs}
use Rattle.flow_arc.specs.FreeMarks.{FreeMarks}

-- under some potential, `free` marks arcs of reduced cost 0, among them all on which least-cost flows differ, and f is a least-cost flow
pub record Marked (N : Net) (free : List Bool) (f : List ℕ) : Type 0 where
  pub potential : ℕ → ℤ
  pub marks_len : length free ≡ arcs N
  pub marks : FreeMarks N potential free f
