use Rattle.std.proofs.Common.{◌≡◌, [], ◌-◌, get_or, ap, ◌∙◌, arith}
use Rattle.net_model.specs.Struct.{net_from}
use Rattle.net_theory.proofs.ArcReads.{arc_at}
use Rattle.flow_push.specs.Pushing.{bottleneck}
use Rattle.flow_push.proofs.Pushing.{pushable_room}
use Rattle.flow_arc.specs.WalksAbove.{takes}
use Rattle.flow_arc.proofs.WalksAbove.{take_able, takes_le, taken_off}
use Rattle.flow_arc.proofs.take_off.Goals as goal

pub overflow_sub-flow : goal.overflow_sub-flow
overflow_sub-flow c =
    let N = net_from [] c.args.arcs.now in
    let at = arc_at [] c.args.arcs.now c.args.a c.requires.2 in
    let d-is : c.bottleneck-d.result ≡ takes N c.args.flow.now c.args.a c.args.codes.now = c.bottleneck-d.ensures ∙ ap (λ l. bottleneck N c.args.flow.now (get_or c.args.flow.now c.args.a 0 - l) c.args.codes.now) at.low_is in
    omega (arith, takes_le N c.args.flow.now c.args.a c.args.codes.now c.requires.4)

pub push-requires : goal.push-requires
push-requires c =
    let N = net_from [] c.args.arcs.now in
    let at = arc_at [] c.args.arcs.now c.args.a c.requires.2 in
    let d-is : c.bottleneck-d.result ≡ takes N c.args.flow.now c.args.a c.args.codes.now = c.bottleneck-d.ensures ∙ ap (λ l. bottleneck N c.args.flow.now (get_or c.args.flow.now c.args.a 0 - l) c.args.codes.now) at.low_is in
    pushable_room N _ _ _ c.requires.0 (take_able N c.args.flow.now c.args.a c.args.codes.now c.requires.4 _ d-is c.requires.1 at.inside c.requires.3)

pub returns : goal.returns
returns c =
    let N = net_from [] c.args.arcs.now in
    let at = arc_at [] c.args.arcs.now c.args.a c.requires.2 in
    let d-is : c.bottleneck-d.result ≡ takes N c.args.flow.now c.args.a c.args.codes.now = c.bottleneck-d.ensures ∙ ap (λ l. bottleneck N c.args.flow.now (get_or c.args.flow.now c.args.a 0 - l) c.args.codes.now) at.low_is in
    taken_off N c.args.flow.now c.args.a c.args.codes.now c.requires.4 _ d-is _ c.requires.1 at.inside c.requires.3 c.push.ensures
