use native.Mathlib.Omega.{arith}
use mathlib.Core.List.{[]}
use Rattle.std.proofs.lemmas.Int.{ints}
use Rattle.flow_relax.specs.Labels.{state}
use Rattle.flow_relax.proofs.Arcs.{arc_limits}
use Rattle.flow_prices.proofs.Arcs.{asks_forward, asks_backward, both}
use Rattle.flow_prices.proofs.relax_arc.Goals as goal

pub relax-next-requires : goal.relax-next-requires
relax-next-requires c =
    let i = arc_limits c.args.arcs.now c.args.flow.now c.requires.0 c.args.a c.requires.3 in
    asks_forward c.args.arcs.now c.args.flow.now c.requires.0 c.requires.1 c.args.a c.requires.3 c.args.labels.now c.requires.2 _ (omega (arith, ints))

pub relax-requires : goal.relax-requires
relax-requires c =
    let i = arc_limits c.args.arcs.now c.args.flow.now c.requires.0 c.args.a c.requires.3 in
    asks_backward c.args.arcs.now c.args.flow.now c.requires.0 c.requires.1 c.args.a c.requires.3 (state c.args.labels.now [] c.args.last) (state c.relax-next.new.labels [] c.relax-next.result) c.requires.2 _ (omega (arith, ints))
    c.relax-next.ensures _ (omega (arith, ints))

pub returns : goal.returns
returns c =
    let i = arc_limits c.args.arcs.now c.args.flow.now c.requires.0 c.args.a c.requires.3 in
    both c.args.arcs.now c.args.flow.now c.requires.0 c.requires.1 c.args.a c.requires.3 (state c.args.labels.now [] c.args.last) (state c.relax-next.new.labels [] c.relax-next.result) c.requires.2 _ (omega (arith, ints))
    c.relax-next.ensures _ _ (omega (arith, ints)) c.relax.ensures

pub overflow_sub-arc : goal.overflow_sub-arc
overflow_sub-arc c = let i = arc_limits c.args.arcs.now c.args.flow.now c.requires.0 c.args.a c.requires.3 in omega (arith, ints)
