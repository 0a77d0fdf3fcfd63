use Rattle.std.proofs.Common.{[], suc, ◌∙◌}
use Rattle.net_model.specs.Network.{tail, head}
use Rattle.net_model.specs.Struct.{net_from}
use Rattle.net_theory.proofs.ArcReads.{arc_at}
use Rattle.flow_push.proofs.Pushing.{pushable_room}
use Rattle.flow_arc.proofs.Found.{found, not_found}
use Rattle.flow_arc.proofs.Lists.{whole, free_walk_whole}
use Rattle.flow_arc.proofs.WalksAbove.{walk_capacity_above, put_able, put_within}
use Rattle.flow_arc.proofs.Raising.{unblocked, raised_one}
use Rattle.flow_arc.proofs.raise.Goals as goal

pub push-requires : goal.push-requires
push-requires c =
    let N = net_from [] c.args.arcs.now in
    let f = c.args.flow.now in
    let free = c.args.free.now in
    let a = c.args.a in
    let at = arc_at [] c.args.arcs.now a c.requires.1 in
    let walk = found N f free _ _ (head N a) (tail N a) a (c.from-from.ensures ∙ at.head_is) (c.from-to.ensures ∙ at.tail_is) _ _ _ c.in-Some.len c.in-Some.is c.find_walk.ensures in
    pushable_room N 1 _ _ c.requires.0.searchable.bounds (put_able N f a _ (walk_capacity_above N f free _ _ a _ walk) c.requires.0.within at.inside c.requires.2.1)

pub returns-in-Some : goal.returns-in-Some
returns-in-Some c =
    let N = net_from [] c.args.arcs.now in
    let f = c.args.flow.now in
    let free = c.args.free.now in
    let a = c.args.a in
    let at = arc_at [] c.args.arcs.now a c.requires.1 in
    let walk = found N f free _ _ (head N a) (tail N a) a (c.from-from.ensures ∙ at.head_is) (c.from-to.ensures ∙ at.tail_is) _ _ _ c.in-Some.len c.in-Some.is c.find_walk.ensures in (
      put_within N f a _ (walk_capacity_above N f free _ _ a _ walk) _ c.requires.0.within at.inside c.requires.2.1 c.push.ensures,
      λ b d π ti. raised_one (whole N b d) π free f a at.inside ti _ _ c.requires.2.0 c.requires.2.1 (free_walk_whole N b d f free _ _ _ _ walk) c.push.ensures,
    )

-- there is a walk
pub returns-in_default : goal.returns-in_default
returns-in_default c =
    let N = net_from [] c.args.arcs.now in
    let at = arc_at [] c.args.arcs.now c.args.a c.requires.1 in
    absurd (unblocked N c.args.flow.now c.args.free.now (head N c.args.a) (tail N c.args.a) (suc c.args.a) c.requires.2.2
    (not_found N c.args.flow.now c.args.free.now _ _ (head N c.args.a) (tail N c.args.a) c.args.a (c.from-from.ensures ∙ at.head_is) (c.from-to.ensures ∙ at.tail_is) _ _ _ c.in_default.is c.find_walk.ensures))
