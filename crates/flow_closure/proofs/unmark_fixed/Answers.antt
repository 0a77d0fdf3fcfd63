use Rattle.std.proofs.Common.{[], arith, sym, ◌∙◌}
use Rattle.net_model.specs.Struct.{net_from}
use Rattle.net_theory.proofs.ArcReads.{arc_at, arcs_lent}
use Rattle.flow_closure.proofs.Candidates.{tail_in, head_in}
use Rattle.flow_closure.proofs.Narrowing.{right_unmarked, right_marked, narrowing_step, narrowing_done}
use Rattle.flow_closure.proofs.unmark_fixed.Goals as goal
use Rattle.flow_closure.proofs.unmark_fixed.Goals.{then-mark, else-mark}

pub on_cycle-requires : goal.on_cycle-requires
on_cycle-requires c =
    let at = arc_at [] c.args.arcs.now c.loop-a.a (omega (arith, arcs_lent [] c.args.arcs.now)) in
    (c.add_arcs.ensures.preorder.rows_len, tail_in _ _ _ c.requires _ _ at, head_in _ _ _ c.requires _ _ at)

pub loop-a-preserved : goal.loop-a-preserved
loop-a-preserved c = let l = c.loop-a in
    let at = arc_at [] c.args.arcs.now l.a (omega (arith, arcs_lent [] c.args.arcs.now)) in
    let same = l.invariant.rest l.a (omega arith) in
    narrowing_step (net_from [] c.args.arcs.now) c.args.flow.now c.args.free.now l.free l.a c.if-mark.mark (omega arith) l.invariant (elim c.if-mark.branch [
      | then-mark w ↦ right_marked (net_from [] c.args.arcs.now) c.args.flow.now c.args.free.now c.requires l.a _ at _ c.add_arcs.ensures (sym same ∙ w.if-mark.true) c.if-mark.mark (w.mark-is ∙ w.on_cycle.ensures)
      | else-mark w ↦ right_unmarked (net_from [] c.args.arcs.now) c.args.flow.now c.args.free.now l.a c.if-mark.mark (sym same ∙ w.if-mark.false) (w.mark-is ∙ w.if-mark.false)
    ])

pub returns : goal.returns
returns c = narrowing_done _ _ _ c.loop-a.free c.loop-a.a (omega arith) c.loop-a.invariant
