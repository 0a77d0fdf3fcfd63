use mathlib.Core.Path.{refl}
use mathlib.Core.List.{[]}
use native.Mathlib.Omega.{arith}
use Rattle.net_model.specs.Struct.{net_from}
use Rattle.flow_relax.specs.Labels.{state, relaxed_all}
use Rattle.flow_relax.proofs.Arcs.{turn_sized, round_none}
use Rattle.flow_relax.proofs.Rounds.{arc_more}
use Rattle.flow_relax.proofs.round.Goals as goal

pub loop-a-init : goal.loop-a-init
unfolding relaxed_all
loop-a-init c = refl

pub relax_arc-last-requires : goal.relax_arc-last-requires
relax_arc-last-requires c =
    (c.requires.0, turn_sized c.args.arcs.now c.args.flow.now c.requires.0 c.args.need _ c.requires.1 c.loop-a.a c.loop-a-test.true _ _ _ c.loop-a.invariant, c.loop-a-test.true, c.requires.2)

pub loop-a-preserved : goal.loop-a-preserved
loop-a-preserved c = arc_more (net_from [] c.args.arcs.now) c.args.flow.now c.requires.0 c.args.need (state c.args.labels.now c.args.preds.now 64) _ _ c.loop-a.a c.loop-a.invariant c.relax_arc-last.ensures

pub returns-else-last-lt64-clause-round : goal.returns-else-last-lt64-clause-round
returns-else-last-lt64-clause-round c =
    round_none c.args.arcs.now c.args.flow.now c.requires.0 c.args.need c.args.labels.now c.args.preds.now c.requires.1.labels_len c.loop-a.a (omega arith) _ _ _ c.loop-a.invariant (omega arith)
