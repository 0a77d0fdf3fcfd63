use mathlib.Core.List.{[]}
use native.Mathlib.Omega.{arith}
use Rattle.net_model.specs.Struct.{net_from}
use Rattle.flow_negative_cycle.proofs.StepsBack.{collecting_none, node, collecting_more, collecting_done}
use Rattle.flow_negative_cycle.proofs.collect.Goals as goal

pub loop-w-init : goal.loop-w-init
loop-w-init c = collecting_none (net_from [] c.args.arcs.now) c.requires.0 c.args.preds.now c.args.x c.args.out.now c.requires.2 c.requires.3

pub offset_bounds-preds-w : goal.offset_bounds-preds-w
offset_bounds-preds-w c =
    let l = c.loop-w in
    omega (arith, node (net_from [] c.args.arcs.now) c.requires.0 c.args.preds.now c.args.x c.args.out.now l.out l.w l.len l.invariant)

pub bounds-preds-w : goal.bounds-preds-w
bounds-preds-w c =
    let l = c.loop-w in
    omega (arith, node (net_from [] c.args.arcs.now) c.requires.0 c.args.preds.now c.args.x c.args.out.now l.out l.w l.len l.invariant)

pub returns-then-w-x : goal.returns-then-w-x
returns-then-w-x c =
    let l = c.loop-w in
    rw c.from-c.ensures (collecting_done (net_from [] c.args.arcs.now) c.requires.0 c.args.preds.now c.args.x c.args.out.now l.out l.w l.len l.invariant c.source-w.result (rw c.from-c.ensures at c.source-w.ensures) c.if-w-x.true)

pub loop-w-preserved : goal.loop-w-preserved
loop-w-preserved c =
    let l = c.loop-w in
    rw c.from-c.ensures (collecting_more (net_from [] c.args.arcs.now) c.requires.0 c.args.preds.now c.args.x c.args.out.now l.out l.w l.len l.invariant c.source-w.result (rw c.from-c.ensures at c.source-w.ensures) c.if-w-x.false)
