use borrow.Author.Rules.{rules}
use mathlib.Core.Path.{refl, sym, ◌∙◌}
use lib.ListN.{drop}
use mir.Syntax.{w64}
use mir.Facts.{to_z-of_z}
use Rattle.laws.specs.Padded.{part_written}
use Rattle.flow_least.proofs.Marked.{marked_any}
use Rattle.flow_enumerate.specs.Enumerator.{state_net, state_flow}
use Rattle.flow_enumerate.specs.declared.Place.TheVariants.{End}
use Rattle.flow_enumerate.proofs.Steps.{step_off, step_on, cost_on, same_cost}
use Rattle.flow_enumerate.proofs.Enumerator.follow.Goals as goal

pub returns-else-next : goal.returns-else-next
returns-else-next c =
    let x = c.args.self in
    let m = c.requires.0.marked c.requires.1 in
    let n = (rw c.arcs.ensures at c.next.ensures.2) (state_net x).balances (state_net x).costs m.potential m.marks in
    step_off x c.requires.0.sound _ _ End (λ _. refl) _ (n.end c.if-next.false)

pub returns-then-next : goal.returns-then-next
returns-then-next c =
    let x = c.args.self in
    let m = c.requires.0.marked c.requires.1 in
    let n = (rw c.arcs.ensures at c.next.ensures.2) (state_net x).balances (state_net x).costs m.potential m.marks in
    let least = n.least c.if-next.true in
    step_on x c.requires.0.sound _ _ End _ c.next.new.flow _ (n.follows c.if-next.true)
    (part_written c.next.new.flow (drop x.net.arcs x.flow) x.net.arcs (least.flow.all_arcs ∙ sym c.requires.0.sound.arcs_held)).1
    (to_z-of_z {w = w64} {z = x.cost} (search rules) ∙ cost_on x c.requires.0 c.requires.1 ∙ same_cost (state_net x) (state_flow x) c.next.new.flow m.marks.least least)
    (marked_any (state_net x) _ (state_flow x) c.next.new.flow m least)
