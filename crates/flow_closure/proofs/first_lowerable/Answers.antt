use Rattle.std.proofs.Common.{[], ◌-◌, arith, inl, sym, ◌∙◌}
use Rattle.net_theory.proofs.ArcReads.{arc_at}
use Rattle.flow_closure.proofs.Closure.{closure_skip}
use Rattle.flow_closure.proofs.Candidates.{before_arc, closure_more, tail_in, head_in, lowerable, not_lowerable, lowerable_step, lowerable_first, lowerable_from}
use Rattle.flow_closure.proofs.first_lowerable.Goals as goal
use Rattle.flow_closure.proofs.first_lowerable.Goals.{then-closes_lowered, else-closes_lowered}

pub closes_lowered-requires : goal.closes_lowered-requires
closes_lowered-requires c = let l = c.loop-a in
    let at = arc_at [] c.args.arcs.now (l.a - 1) (omega arith) in
    (l.invariant.1.preorder.rows_len, tail_in _ _ _ c.requires.0 _ _ at, head_in _ _ _ c.requires.0 _ _ at)

pub add_arc-requires : goal.add_arc-requires
add_arc-requires c = let l = c.loop-a in
    let at = arc_at [] c.args.arcs.now (l.a - 1) (omega arith) in
    (l.invariant.1.preorder, tail_in _ _ _ c.requires.0 _ _ at, head_in _ _ _ c.requires.0 _ _ at)

pub loop-a-preserved-then-free-a : goal.loop-a-preserved-then-free-a
loop-a-preserved-then-free-a c = let l = c.loop-a in
    let at = arc_at [] c.args.arcs.now (l.a - 1) (omega arith) in
    let cl = before_arc _ _ _ l.a l.rows (omega arith) l.invariant.1 in (
      omega arith,
      closure_more _ _ _ c.requires.0 _ _ at l.rows c.if-free-a.true _ cl c.add_arc.ensures,
      elim c.if-closes_lowered.branch [
        | then-closes_lowered w ↦ rw w.first-is (lowerable_first _ _ _ _ at.inside (lowerable _ _ _ c.requires.0 _ _ at l.rows c.if-free-a.true _ cl (sym c.closes_lowered.ensures ∙ w.if-closes_lowered.true)))
        | else-closes_lowered w ↦ rw w.first-is (lowerable_step _ _ _ l.a _ (omega arith) l.invariant.2 (not_lowerable _ _ _ c.requires.0 _ _ at l.rows c.if-free-a.true _ cl (sym c.closes_lowered.ensures ∙ w.if-closes_lowered.false)))
      ],
    )

pub loop-a-preserved : goal.loop-a-preserved
loop-a-preserved c = let l = c.loop-a in (
  omega arith,
  closure_skip _ _ _ _ _ (before_arc _ _ _ l.a l.rows (omega arith) l.invariant.1) c.if-free-a.false,
  lowerable_step _ _ _ l.a _ (omega arith) l.invariant.2 (inl c.if-free-a.false),
)

pub returns : goal.returns
returns c = let l = c.loop-a in lowerable_from _ _ _ _ l.a l.first l.invariant.0 c.loop-a-test.false l.invariant.2
