-- An accepted network, with a number for each arc, is one in which it can be tested whether these are a flow; and numbers within its bounds are small.
use mathlib.Core.Path.{◌≡◌}
use mathlib.Core.List.{List}
use Prim.Native.Nat.{ℕ}
use native.Mathlib.Omega.{arith}
use lib.ListN.{length}
use Rattle.net_model.specs.Network.{Net, arcs}
use Rattle.net_model.specs.Accepted.{AcceptedNet}
use Rattle.net_theory.specs.Bounds.{InBounds}
use Rattle.net_theory.proofs.Limits.{small_ends, small_bounds, small_balances}
use Rattle.flow_test.specs.Excess.{SmallNumbers}
use Rattle.flow_test.specs.FlowTest.{Testable}

pub accepted_testable : (N : Net) → AcceptedNet N → (f : List ℕ) → length f ≡ arcs N → Testable N f
accepted_testable N ok f e = record {
  ends = small_ends N ok;
  bounds = small_bounds N ok;
  balances = small_balances N ok;
  ordered = ok.low_up;
  flow_len = e;
}

-- what the sums ask
pub small_numbers : (N : Net) (f : List ℕ) → Testable N f → (g : List ℕ) → InBounds N g → SmallNumbers N g
small_numbers N f T g k = record { ends = T.ends; balances = T.balances; flow_len = k.all_arcs; flow_small = λ a i. omega (arith, k.below a i, T.bounds.ups_small a i) }
