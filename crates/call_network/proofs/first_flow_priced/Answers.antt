use Rattle.std.proofs.Common.{rules}
use Rattle.std.proofs.Math.Option.{some}
use Rattle.laws.specs.Rules.{first}
use Rattle.call_network.specs.NetworkCalls.{lends}
use Rattle.call_network.proofs.NetworkEntries.{admit_fails}
use Rattle.call_network.proofs.first_flow_priced.Goals as goal

pub returns-in_err-net : goal.returns-in_err-net
returns-in_err-net c =
    let fails = admit_fails c.args.balances.now c.args.arcs.now (first (lends c.args.flows.now (some c.args.prices.now))) _ c.in_err-net.ensures in
    search rules
