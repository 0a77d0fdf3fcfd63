use Rattle.std.proofs.Common.{◌≡◌, ap, ◌∙◌}
use Rattle.laws.specs.Count.{counted}
use Rattle.net_model.specs.FullList.{count_flows}
use Rattle.net_model.specs.Struct.{net_in}
use Rattle.call_flow_bytes.specs.FlowSteps.{StandsFor}
use Rattle.call_flow_bytes.proofs.Admitting.{stands_for}
use Rattle.call_network.proofs.NetworkEntries.{counts}
use Rattle.call_network.proofs.count.Goals as goal

pub start-requires : goal.start-requires
start-requires c = (stands_for c.args.balances.now c.args.arcs.now c.in-Ok.net c.in-Ok.ensures.0 c.in-Ok.ensures.1).sound

pub returns-in-Ok : goal.returns-in-Ok
returns-in-Ok c = let a = c.args in
    let past : StandsFor a.balances.now a.arcs.now c.in-Ok.net = stands_for a.balances.now a.arcs.now c.in-Ok.net c.in-Ok.ensures.0 c.in-Ok.ensures.1 in
    let counted_is : counted a.cap c.count.result ≡ count_flows (net_in c.in-Ok.net) a.cap = c.count.ensures.1 ∙ ap (λ s. count_flows (net_in s) a.cap) c.start.ensures.1 in
    c.count_reply.ensures ∙ counts a.balances.now a.arcs.now c.in-Ok.net past a.cap c.count.result counted_is
