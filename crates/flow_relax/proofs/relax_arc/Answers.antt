use mathlib.Core.Path.{refl}
use native.Mathlib.Omega.{arith}
use lib.IntN.{pos, ◌-ℤ◌}
use mir.Syntax.{w64}
use mir.Val.{to_z, of_z}
use Rattle.std.proofs.lemmas.Int.{ints}
use Rattle.flow_relax.specs.Labels.{state}
use Rattle.flow_relax.proofs.Arcs.{arc_limits, forward, backward, asks_forward, asks_backward}
use Rattle.flow_relax.proofs.relax_arc.Goals as goal

pub relax-next-requires : goal.relax-next-requires
relax-next-requires c =
    asks_forward c.args.arcs.now c.args.flow.now c.requires.0 c.args.a c.requires.2 c.args.need _ _ _ c.from-t.ensures c.from-h.ensures (omega (arith, ints)) (state c.args.labels.now c.args.preds.now c.args.last)
    w64 65536000000 c.requires.1 (omega arith)

pub overflow_add-backward : goal.overflow_add-backward
overflow_add-backward c = let i = arc_limits c.args.arcs.now c.args.flow.now c.requires.0 c.args.a c.requires.2 in omega arith

pub relax-requires : goal.relax-requires
relax-requires c =
    let s = state c.args.labels.now c.args.preds.now c.args.last in
    let x = to_z w64 (of_z w64 c.from-c.result) in
    let y = to_z w64 (of_z w64 (pos 0 -ℤ x)) in
    let i = arc_limits c.args.arcs.now c.args.flow.now c.requires.0 c.args.a c.requires.2 in
    let forth = forward c.args.arcs.now c.args.flow.now c.requires.0 c.args.a c.requires.2 c.args.need _ _ x c.from-t.ensures c.from-h.ensures (omega (arith, ints)) s _ _ refl c.relax-next.ensures in
    asks_backward c.args.arcs.now c.args.flow.now c.requires.0 c.args.a c.requires.2 c.args.need _ _ x c.from-t.ensures c.from-h.ensures (omega (arith, ints)) s w64 65536000000 c.requires.1 (omega arith) _ _ _
    y forth (omega (arith, ints))

pub returns : goal.returns
returns c =
    let s = state c.args.labels.now c.args.preds.now c.args.last in
    let x = to_z w64 (of_z w64 c.from-c.result) in
    let y = to_z w64 (of_z w64 (pos 0 -ℤ x)) in
    let i = arc_limits c.args.arcs.now c.args.flow.now c.requires.0 c.args.a c.requires.2 in
    let forth = forward c.args.arcs.now c.args.flow.now c.requires.0 c.args.a c.requires.2 c.args.need _ _ x c.from-t.ensures c.from-h.ensures (omega (arith, ints)) s _ _ refl c.relax-next.ensures in
    backward c.args.arcs.now c.args.flow.now c.requires.0 c.args.a c.requires.2 c.args.need _ _ x c.from-t.ensures c.from-h.ensures (omega (arith, ints)) s _ forth
    _ y _ _ refl (omega (arith, ints)) (omega arith) c.relax.ensures
