use Rattle.std.proofs.Common.{[], ◌∙◌, inl, inr, suc, take, arith, rules}
use Rattle.net_model.specs.Network.{tail, head}
use Rattle.net_model.specs.Struct.{net_from}
use Rattle.net_theory.proofs.ArcReads.{arc_at}
use Rattle.net_theory.proofs.Ready.{searchable_again}
use Rattle.flow_arc.proofs.Found.{found, not_found}
use Rattle.flow_arc.proofs.Lists.{whole, free_walk_whole, not_lowerable_whole, exact_whole}
use Rattle.flow_arc.proofs.Candidates.{not_lowerable_least}
use Rattle.flow_arc.proofs.WalksAbove.{walk_capacity_above}
use Rattle.flow_arc.proofs.Lowering.{low_step, low_done}
use Rattle.flow_arc.proofs.lower.Goals as goal

pub find_walk-requires : goal.find_walk-requires
find_walk-requires c =
    let N = net_from [] c.args.arcs.now in
    let at = arc_at [] c.args.arcs.now c.args.a c.requires.1 in
    let ends = c.requires.0.searchable.ends in
    let t = ends.tail_in c.args.a at.inside in
    let h = ends.head_in c.args.a at.inside in
    (searchable_again N c.args.flow.now c.loop-flow.flow c.args.free.now c.loop-flow.auto.flow c.requires.0.searchable, omega arith, omega arith, search rules)

pub take_off-requires : goal.take_off-requires
take_off-requires c =
    let N = net_from [] c.args.arcs.now in
    let f = c.loop-flow.flow in
    let free = c.args.free.now in
    let a = c.args.a in
    let at = arc_at [] c.args.arcs.now a c.requires.1 in
    let walk = found N f free _ _ (tail N a) (head N a) a (c.from-from.ensures ∙ at.tail_is) (c.from-to.ensures ∙ at.head_is) _ _ _ c.in-Some.len c.in-Some.is c.find_walk.ensures in
    (c.requires.0.searchable.bounds, c.loop-flow.invariant.0, c.requires.1, omega arith, walk_capacity_above N f free _ _ a _ walk)

pub loop-flow-preserved : goal.loop-flow-preserved
loop-flow-preserved c =
    let N = net_from [] c.args.arcs.now in
    let f = c.loop-flow.flow in
    let free = c.args.free.now in
    let a = c.args.a in
    let at = arc_at [] c.args.arcs.now a c.requires.1 in
    let walk = found N f free _ _ (tail N a) (head N a) a (c.from-from.ensures ∙ at.tail_is) (c.from-to.ensures ∙ at.head_is) _ _ _ c.in-Some.len c.in-Some.is c.find_walk.ensures in
    let codes = take c.in-Some.len c.find_walk.new.codes in (
      c.take_off.ensures.within,
      λ b d π ti. low_step (whole N b d) π free c.args.flow.now a at.inside f _ codes (c.loop-flow.invariant.1 b d π ti) c.if-not-free-a.false (omega arith)
          (free_walk_whole N b d f free _ _ _ _ walk) (exact_whole N b d f _ a codes c.take_off.ensures.exact),
    )

pub returns-in-None : goal.returns-in-None
returns-in-None c =
    let N = net_from [] c.args.arcs.now in
    let f = c.loop-flow.flow in
    let free = c.args.free.now in
    let a = c.args.a in
    let at = arc_at [] c.args.arcs.now a c.requires.1 in
    let blocked = not_found N f free _ _ (tail N a) (head N a) a (c.from-from.ensures ∙ at.tail_is) (c.from-to.ensures ∙ at.head_is) _ _ _ c.in-None.is c.find_walk.ensures in (
      c.loop-flow.invariant.0,
      λ b d π ti. let t = c.loop-flow.invariant.1 b d π ti in
          low_done (whole N b d) π free c.args.flow.now a at.inside f t (not_lowerable_least (whole N b d) π free f t.free_still a at.inside (not_lowerable_whole N b d f free (suc a) a (inr (inr blocked)))),
    )

pub returns : goal.returns
returns c =
    let N = net_from [] c.args.arcs.now in
    let f = c.loop-flow.flow in
    let free = c.args.free.now in
    let a = c.args.a in
    let at = arc_at [] c.args.arcs.now a c.requires.1 in (
      c.loop-flow.invariant.0,
      λ b d π ti. let t = c.loop-flow.invariant.1 b d π ti in
          low_done (whole N b d) π free c.args.flow.now a at.inside f t (not_lowerable_least (whole N b d) π free f t.free_still a at.inside (inr (inl (omega arith)))),
    )
