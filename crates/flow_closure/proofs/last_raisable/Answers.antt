use Rattle.std.proofs.Common.{[], ◌-◌, arith, inl, sym, ◌∙◌}
use Rattle.net_theory.proofs.ArcReads.{arc_at}
use Rattle.flow_closure.proofs.Closure.{closure_skip}
use Rattle.flow_closure.proofs.Candidates.{before_arc, closure_more, tail_in, head_in, raisable, not_raisable, raisable_step, raisable_last}
use Rattle.flow_closure.proofs.last_raisable.Goals as goal

pub closes_raised-requires : goal.closes_raised-requires
closes_raised-requires c = let l = c.loop-a in
    let at = arc_at [] c.args.arcs.now (l.a - 1) (omega arith) in
    (l.invariant.0.preorder.rows_len, tail_in _ _ _ c.requires _ _ at, head_in _ _ _ c.requires _ _ at)

pub returns-then-closes_raised : goal.returns-then-closes_raised
returns-then-closes_raised c = let l = c.loop-a in
    let at = arc_at [] c.args.arcs.now (l.a - 1) (omega arith) in
    let cl = before_arc _ _ _ l.a l.rows c.loop-a-test.true l.invariant.0 in
    raisable_last _ _ _ l.a c.loop-a-test.true l.invariant.1 (raisable _ _ _ c.requires _ _ at l.rows c.if-free-a.true _ cl (sym c.closes_raised.ensures ∙ c.if-closes_raised.true))

pub add_arc-requires : goal.add_arc-requires
add_arc-requires c = let l = c.loop-a in
    let at = arc_at [] c.args.arcs.now (l.a - 1) (omega arith) in
    (l.invariant.0.preorder, tail_in _ _ _ c.requires _ _ at, head_in _ _ _ c.requires _ _ at)

pub loop-a-preserved-then-free-a : goal.loop-a-preserved-then-free-a
loop-a-preserved-then-free-a c = let l = c.loop-a in
    let at = arc_at [] c.args.arcs.now (l.a - 1) (omega arith) in
    let cl = before_arc _ _ _ l.a l.rows c.loop-a-test.true l.invariant.0 in (
      closure_more _ _ _ c.requires _ _ at l.rows c.if-free-a.true _ cl c.add_arc.ensures,
      raisable_step _ _ _ l.a c.loop-a-test.true l.invariant.1 (not_raisable _ _ _ c.requires _ _ at l.rows c.if-free-a.true _ cl (sym c.closes_raised.ensures ∙ c.if-closes_raised.false)),
    )

pub loop-a-preserved : goal.loop-a-preserved
loop-a-preserved c = let l = c.loop-a in (
  closure_skip _ _ _ _ _ (before_arc _ _ _ l.a l.rows c.loop-a-test.true l.invariant.0) c.if-free-a.false,
  raisable_step _ _ _ l.a c.loop-a-test.true l.invariant.1 (inl c.if-free-a.false),
)
