use mathlib.Core.List.{[]}
use Rattle.net_model.specs.Struct.{net_from}
use Rattle.flow_cancel.proofs.Cancelling.{falls, relaxable_again}
use Rattle.flow_cancel.proofs.cancel_all.Goals as goal

pub cycles-smaller : goal.cycles-smaller
cycles-smaller c =
    let h = c.cycles-test.ensures in
    falls (net_from [] c.args.arcs.now) c.cycles.flow c.cancel.new.flow (relaxable_again (net_from [] c.args.arcs.now) c.cycles.flow c.cancel.new.flow c.cycles.invariant.0 h.0.within) h.1
