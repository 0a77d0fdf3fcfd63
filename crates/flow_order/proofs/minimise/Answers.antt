use Rattle.std.proofs.Common.{[], ◌≤◌, subst, add-one, arith}
use Rattle.net_model.specs.Network.{arcs}
use Rattle.net_model.specs.Struct.{net_from}
use Rattle.net_theory.proofs.ArcReads.{arcs_lent}
use Rattle.flow_closure.specs.Candidates.{FirstLowerable}
use Rattle.flow_arc.proofs.Certified.{free_any}
use Rattle.flow_arc.proofs.Lists.{whole}
use Rattle.flow_order.proofs.Candidates.{none_lowerable_whole, min_pass}
use Rattle.flow_order.proofs.Minimising.{min_step, min_done}
use Rattle.flow_order.proofs.minimise.Goals as goal

pub loop-a-preserved : goal.loop-a-preserved
loop-a-preserved c =
    let N = net_from [] c.args.arcs.now in
    let l = c.loop-a in
    let first = subst (FirstLowerable N l.flow c.args.free.now l.from) c.in-Some.is c.first_lowerable.ensures in
    let a = c.in-Some.a in
    let w = first.0 in (
      omega arith,
      omega (arith, arcs_lent [] c.args.arcs.now),
      c.lower.ensures.0,
      λ b d π ti.
          let t = l.invariant.3 b d π ti in
          let x = free_any (whole N b d) π c.args.free.now c.args.flow.now l.flow ti t.least in
          rw add-one (min_step (whole N b d) c.args.flow.now l.flow _ c.args.k a (omega arith)
          (min_pass (whole N b d) π c.args.free.now l.flow x c.args.flow.now c.args.k l.from a (none_lowerable_whole N b d l.flow c.args.free.now l.from a w) t) (c.lower.ensures.1 b d π x)),
    )

pub returns : goal.returns
returns c =
    let N = net_from [] c.args.arcs.now in
    let l = c.loop-a in
    let none = subst (FirstLowerable N l.flow c.args.free.now l.from) c.in_default.is c.first_lowerable.ensures in (
      l.invariant.2,
      λ b d π ti.
          let t = l.invariant.3 b d π ti in
          let x = free_any (whole N b d) π c.args.free.now c.args.flow.now l.flow ti t.least in
          let stays : arcs N ≤ arcs N = omega arith in
          min_done (whole N b d) c.args.flow.now l.flow c.args.k (arcs N) stays
          (min_pass (whole N b d) π c.args.free.now l.flow x c.args.flow.now c.args.k l.from (arcs N) (none_lowerable_whole N b d l.flow c.args.free.now l.from (arcs N) none) t),
    )
