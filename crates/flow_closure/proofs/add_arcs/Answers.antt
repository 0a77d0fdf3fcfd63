use Rattle.std.proofs.Common.{[], ◌-◌, arith}
use Rattle.net_theory.proofs.ArcReads.{arc_at}
use Rattle.flow_closure.proofs.Closure.{closure_skip}
use Rattle.flow_closure.proofs.Candidates.{before_arc, closure_more, tail_in, head_in}
use Rattle.flow_closure.proofs.add_arcs.Goals as goal

pub add_arc-requires : goal.add_arc-requires
add_arc-requires c = let l = c.loop-a in
    let at = arc_at [] c.args.arcs.now (l.a - 1) (omega arith) in
    (l.invariant.preorder, tail_in _ _ _ c.requires.0 _ _ at, head_in _ _ _ c.requires.0 _ _ at)

pub loop-a-preserved-then-free-a : goal.loop-a-preserved-then-free-a
loop-a-preserved-then-free-a c = let l = c.loop-a in
    let at = arc_at [] c.args.arcs.now (l.a - 1) (omega arith) in
    closure_more _ _ _ c.requires.0 _ _ at l.rows c.if-free-a.true _ (before_arc _ _ _ l.a l.rows c.loop-a-test.true l.invariant) c.add_arc.ensures

pub loop-a-preserved : goal.loop-a-preserved
loop-a-preserved c = let l = c.loop-a in closure_skip _ _ _ _ _ (before_arc _ _ _ l.a l.rows c.loop-a-test.true l.invariant) c.if-free-a.false
