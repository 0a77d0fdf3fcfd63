use mathlib.Core.Path.{refl, sym}
use native.Mathlib.Omega.{arith}
use lib.Seq.{length-take-le}
use Rattle.demands.proofs.ThreeCalls.{run_one, flow_within, run_three}
use Rattle.demands.proofs.run_flows.Goals as goal

pub returns-then-code-ne0 : goal.returns-then-code-ne0
returns-then-code-ne0 c = run_one _ _ _ _ c.desk_network_first_priced-one.ensures _ _ _ _ c.if-code-ne0.true

pub slice_bounds-desk_network_next-end : goal.slice_bounds-desk_network_next-end
slice_bounds-desk_network_next-end c = let a = c.args in
    omega (arith, flow_within a.balances.now a.arcs.now _ _ c.desk_network_first_priced-one.ensures c.if-code-ne0.false)

pub slice_bounds-desk_network_next-end-2 : goal.slice_bounds-desk_network_next-end-2
slice_bounds-desk_network_next-end-2 c = let a = c.args in
    let within = flow_within a.balances.now a.arcs.now _ _ c.desk_network_first_priced-one.ensures c.if-code-ne0.false in
    sym (length-take-le _ _ (omega (arith, within)))

pub returns : goal.returns
returns c = run_three _ _ _ _ c.desk_network_first_priced-one.ensures c.if-code-ne0.false _ _ _ _ _ c.desk_network_next-two.ensures c.desk_network_next-three.ensures _ refl
