use mathlib.Core.List.{[]}
use Rattle.net_model.specs.Struct.{net_from}
use Rattle.flow_push.proofs.Pushing.{pushable_room}
use Rattle.flow_cancel.proofs.Cancelling.{cycle_of, cycle_codes, able, cancelled}
use Rattle.flow_cancel.proofs.cancel.Goals as goal

pub bottleneck-d-requires : goal.bottleneck-d-requires
bottleneck-d-requires c =
    let cycle = cycle_of (net_from [] c.args.arcs.now) c.args.flow.now c.args.need c.find_cycle.new.labels _ c.find_cycle.new.out c.in-Some.len c.in-Some.ensures in
    (c.requires.0.within, cycle_codes (net_from [] c.args.arcs.now) c.args.flow.now c.args.need _ cycle.1)

pub push-requires : goal.push-requires
push-requires c =
    let cycle = cycle_of (net_from [] c.args.arcs.now) c.args.flow.now c.args.need c.find_cycle.new.labels _ c.find_cycle.new.out c.in-Some.len c.in-Some.ensures in
    pushable_room (net_from [] c.args.arcs.now) c.bottleneck-d.result _ c.args.flow.now c.requires.0.bounds (able (net_from [] c.args.arcs.now) c.args.flow.now c.requires.0 c.args.need _ cycle.1 _ c.bottleneck-d.ensures)

pub returns-in-Some : goal.returns-in-Some
returns-in-Some c =
    let cycle = cycle_of (net_from [] c.args.arcs.now) c.args.flow.now c.args.need c.find_cycle.new.labels _ c.find_cycle.new.out c.in-Some.len c.in-Some.ensures in
    cancelled (net_from [] c.args.arcs.now) c.args.flow.now c.requires.0 c.args.need _ cycle.1 _ c.bottleneck-d.ensures _ c.push.ensures
