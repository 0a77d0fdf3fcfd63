use Rattle.std.proofs.Common.{[], pos, ◌-ℤ◌, neg_ℤ, ℤ, subst, ap, ◌∙◌, rules}
use mir.Syntax.{w64}
use mir.Val.{to_z, of_z}
use mir.Facts.{to_z-of_z}
use Rattle.net_model.specs.Residual.{codes, src, dst}
use Rattle.net_model.specs.Struct.{net_from}
use Rattle.net_model.proofs.Walks.{walk_below}
use Rattle.net_theory.specs.FreeArcs.{goes}
use Rattle.flow_path.specs.Reaching.{FindsWalk}
use Rattle.flow_push.proofs.Pushing.{pushable_room}
use Rattle.flow_feasible.proofs.Sending.{sends_to_yes, able}
use Rattle.flow_feasible.proofs.Widths.{turned_fits, zero_sub}
use Rattle.flow_feasible.proofs.send_to.Goals as goal

pub bottleneck-d-requires : goal.bottleneck-d-requires
bottleneck-d-requires c =
    let N = net_from [] c.args.arcs.now in
    let walk = (subst (FindsWalk N c.args.flow.now c.args.free.now c.args.s c.args.t 0 _ c.find_walk.new.codes) c.in-Some.is c.find_walk.ensures).1 in
    (c.requires.0.within, walk_below (codes N) (src N) (dst N) (goes N c.args.flow.now c.args.free.now) c.args.s c.args.t _ walk.walk)

pub push-requires : goal.push-requires
push-requires c =
    let N = net_from [] c.args.arcs.now in
    let walk = (subst (FindsWalk N c.args.flow.now c.args.free.now c.args.s c.args.t 0 _ c.find_walk.new.codes) c.in-Some.is c.find_walk.ensures).1 in
    pushable_room N c.bottleneck-d.result _ _ c.requires.0.searchable.bounds
    (able N c.args.flow.now c.args.free.now c.args.s c.args.t c.args.most c.requires.0.within _ walk c.min-cap.result c.bottleneck-d.result c.bottleneck-d.ensures)

pub returns-in-Some : goal.returns-in-Some
returns-in-Some c =
    let N = net_from [] c.args.arcs.now in
    let excess : ℤ = to_z w64 (of_z w64 c.args.x) in
    let walk = (subst (FindsWalk N c.args.flow.now c.args.free.now c.args.s c.args.t 0 _ c.find_walk.new.codes) c.in-Some.is c.find_walk.ensures).1 in
    sends_to_yes N c.args.flow.now c.args.free.now c.args.s c.args.t c.args.most c.requires.0.within _ walk c.min-cap.result c.bottleneck-d.result c.bottleneck-d.ensures _ c.capped.result
    (to_z w64 (of_z w64 (pos 0 -ℤ excess))) c.args.x c.push.ensures (search rules) c.capped.ensures
    (to_z-of_z (turned_fits excess c.args.x (to_z-of_z c.ranges.x) c.requires.4) ∙ zero_sub excess ∙ ap neg_ℤ (to_z-of_z c.ranges.x)) c.requires.3
