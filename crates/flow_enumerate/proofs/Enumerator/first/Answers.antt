use borrow.Author.Rules.{rules}
use mathlib.Core.Path.{sym, subst, ◌∙◌}
use mathlib.Core.Bool.{Bool}
use mathlib.Core.List.{List}
use lib.ListN.{drop}
use mir.Syntax.{w64}
use mir.Facts.{to_z-of_z}
use Rattle.laws.specs.Padded.{part_written}
use Rattle.net_theory.proofs.Bounds.{flow_bounds}
use Rattle.flow_least.specs.Marked.{Marked}
use Rattle.flow_least.proofs.Premises.{summable}
use Rattle.flow_enumerate.specs.Enumerator.{state_net}
use Rattle.flow_enumerate.specs.declared.Place.TheVariants.{None}
use Rattle.flow_enumerate.proofs.Held.{as_many}
use Rattle.flow_enumerate.proofs.Steps.{step_on, first_found}
use Rattle.flow_enumerate.proofs.Enumerator.first.Goals as goal

pub first_flow-requires : goal.first_flow-requires
first_flow-requires c =
    let x = c.args.self in
    let k = c.requires.sound in
    rw (c.arcs.ensures, c.balances.ensures) (k.accepted, as_many x.net k x.flow (search rules), as_many x.net k x.free (search rules))

pub cost_of-requires : goal.cost_of-requires
cost_of-requires c =
    let x = c.args.self in
    let k = c.requires.sound in
    let g = c.first_flow.new.flow in
    let told = first_found (state_net x) g _ c.first_flow.new.free c.first_flow.result (rw (c.arcs.ensures, c.balances.ensures) at c.first_flow.ensures) c.if-not-first_flow.false in
    let kept = told.1.marks.least.flow.all_arcs ∙ sym k.arcs_held in
    rw (c.arcs-2.ensures, (part_written g (drop x.net.arcs x.flow) x.net.arcs kept).1) (summable (state_net x) k.accepted g (flow_bounds (state_net x) g told.1.marks.least.flow))

pub returns : goal.returns
returns c =
    let x = c.args.self in
    let k = c.requires.sound in
    let g = c.first_flow.new.flow in
    let told = first_found (state_net x) g _ c.first_flow.new.free c.first_flow.result (rw (c.arcs.ensures, c.balances.ensures) at c.first_flow.ensures) c.if-not-first_flow.false in
    let kept = told.1.marks.least.flow.all_arcs ∙ sym k.arcs_held in
    let written = (part_written g (drop x.net.arcs x.flow) x.net.arcs kept).1 in
    step_on x k _ _ None _ g _ told.0 written
    (to_z-of_z {w = w64} (record { sfits = c.cost_of.type_inv }) ∙ (rw (c.arcs-2.ensures, written) at c.cost_of.ensures))
    (subst (λ (y : List Bool). Marked (state_net x) y g) (sym (part_written c.first_flow.new.free (drop x.net.arcs x.free) x.net.arcs (told.1.marks_len ∙ sym k.arcs_held)).1) told.1)
