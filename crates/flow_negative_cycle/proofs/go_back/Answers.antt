use mathlib.Core.Path.{refl}
use mathlib.Core.List.{[]}
use native.Mathlib.Omega.{arith}
use Rattle.net_model.specs.Struct.{net_from}
use Rattle.net_theory.proofs.ArcReads.{arcs_lent}
use Rattle.flow_negative_cycle.specs.Predecessors.{ended}
use Rattle.flow_negative_cycle.proofs.StepsBack.{going_none, going_more, going_ends}
use Rattle.flow_negative_cycle.proofs.go_back.Goals as goal

pub loop-i-init : goal.loop-i-init
loop-i-init c = going_none (net_from [] c.args.arcs.now) c.requires.0 c.args.preds.now c.args.v c.requires.2

pub returns-then-m-c : goal.returns-then-m-c
returns-then-m-c c =
    let l = c.loop-i in
    ended refl l._i (going_ends (net_from [] c.args.arcs.now) c.requires.0 c.args.preds.now c.args.v l._i l.w l.invariant (omega arith) (omega (arith, arcs_lent [] c.args.arcs.now)))

pub loop-i-preserved : goal.loop-i-preserved
loop-i-preserved c =
    let l = c.loop-i in
    going_more (net_from [] c.args.arcs.now) c.requires.0 c.args.preds.now c.args.v l._i l.w c.source-w.result l.invariant (omega arith) (omega (arith, arcs_lent [] c.args.arcs.now)) (rw c.from-c.ensures at c.source-w.ensures)
