use Rattle.net_model.specs.Struct.{net_from}
use Rattle.net_theory.proofs.Bounds.{flow_bounds}
use Rattle.net_model.specs.Network.{Net, IsFlow}
use Rattle.flow_relax.proofs.Accepted.{accepted_relaxable}
use Rattle.flow_least.proofs.Question8.{not_least, shown}
use Rattle.flow_least.proofs.least_labels.Goals as goal

pub returns-in-Some : goal.returns-in-Some
returns-in-Some c =
    let N : Net = net_from c.args.balances.now c.args.arcs.now in
    let F : IsFlow N c.args.flow.now = c.if-not-is_flow.ensures in
    not_least N c.args.flow.now c.requires.0.well_formed (accepted_relaxable N c.requires.0 c.args.flow.now (flow_bounds N c.args.flow.now F)) F c.find_cycle.new.labels _ c.find_cycle.new.out _ c.in-Some.ensures

pub returns-in-None : goal.returns-in-None
returns-in-None c =
    let N : Net = net_from c.args.balances.now c.args.arcs.now in
    let F : IsFlow N c.args.flow.now = c.if-not-is_flow.ensures in
    shown N c.args.flow.now c.requires.0.well_formed (accepted_relaxable N c.requires.0 c.args.flow.now (flow_bounds N c.args.flow.now F)) F c.find_cycle.new.labels _ c.find_cycle.new.out c.in-None.ensures
