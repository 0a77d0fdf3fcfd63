use Rattle.std.proofs.Common.{[], ◌+◌, arith}
use Rattle.net_model.specs.Struct.{net_from}
use Rattle.flow_arc.proofs.Certified.{free_any}
use Rattle.flow_arc.proofs.Lists.{whole}
use Rattle.flow_order.proofs.Counting.{item_next, item_last, item_beyond}
use Rattle.flow_order.proofs.count.Goals as goal

pub returns-then-not-next-clause-counts : goal.returns-then-not-next-clause-counts
returns-then-not-next-clause-counts c = λ b d π ti e.
    let M = whole (net_from [] c.args.arcs.now) b d in
    let l = c.loop-n in
    let line = l.invariant.2 b d π ti e in
    item_last M l.n l.flow line ti.well_formed c.args.cap _ c.next.result (omega arith) c.if-not-next.true (c.next.ensures.1 c.if-not-next.true) (c.next.ensures.2 b d π (free_any M π c.args.free.now c.args.flow.now l.flow ti line.least))

pub loop-n-preserved : goal.loop-n-preserved
loop-n-preserved c = (
  omega arith,
  c.next.ensures.0,
  λ b d π ti e.
      let M = whole (net_from [] c.args.arcs.now) b d in
      let l = c.loop-n in
      let line = l.invariant.2 b d π ti e in
      item_next M l.n l.flow line ti.well_formed _ c.next.result c.if-not-next.false (c.next.ensures.2 b d π (free_any M π c.args.free.now c.args.flow.now l.flow ti line.least)),
)

pub returns-clause-counts : goal.returns-clause-counts
returns-clause-counts c = λ b d π ti e. item_beyond (whole (net_from [] c.args.arcs.now) b d) c.loop-n.n c.loop-n.flow (c.loop-n.invariant.2 b d π ti e) c.args.cap (omega arith)

-- the last turn
pub returns-else-not-next-clause-counts : goal.returns-else-not-next-clause-counts
returns-else-not-next-clause-counts c = λ b d π ti e.
    let M = whole (net_from [] c.args.arcs.now) b d in
    let l = c.loop-n in
    let line = l.invariant.2 b d π ti e in
    let next = item_next M l.n l.flow line ti.well_formed _ c.next.result c.if-not-next.false (c.next.ensures.2 b d π (free_any M π c.args.free.now c.args.flow.now l.flow ti line.least)) in
    item_beyond M (l.n + 1) _ next c.args.cap (omega arith)
