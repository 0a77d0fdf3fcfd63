use mathlib.Core.Path.{refl}
use mathlib.Core.List.{[]}
use native.Mathlib.Omega.{arith}
use Rattle.net_model.specs.Struct.{net_from}
use Rattle.flow_relax.specs.Labels.{state, relaxed_all}
use Rattle.flow_relax.proofs.Rounds.{arc_more}
use Rattle.flow_relax.proofs.Arcs.{round_none}
use Rattle.flow_prices.proofs.Arcs.{turn_walks}
use Rattle.flow_prices.proofs.round.Goals as goal

pub loop-a-init : goal.loop-a-init
unfolding relaxed_all
loop-a-init c = refl

pub relax_arc-last-requires : goal.relax_arc-last-requires
relax_arc-last-requires c =
    (c.requires.0, c.requires.1, turn_walks c.args.arcs.now c.args.flow.now c.requires.0 _ c.requires.2 c.loop-a.a c.loop-a-test.true c.loop-a.labels c.loop-a.last c.loop-a.invariant, c.loop-a-test.true)

pub loop-a-preserved : goal.loop-a-preserved
loop-a-preserved c = arc_more (net_from [] c.args.arcs.now) c.args.flow.now c.requires.0 1 (state c.args.labels.now [] 64) _ _ c.loop-a.a c.loop-a.invariant c.relax_arc-last.ensures

pub returns-else-last-lt64 : goal.returns-else-last-lt64
returns-else-last-lt64 c = round_none c.args.arcs.now c.args.flow.now c.requires.0 1 c.args.labels.now [] c.requires.2.len c.loop-a.a (omega arith) _ _ _ c.loop-a.invariant (omega arith)
