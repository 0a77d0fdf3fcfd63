use mathlib.Core.Path.{◌≡◌, refl, sym, ◌∙◌}
use lib.ListN.{length, get_or}
use lib.IntN.{pos}
use Rattle.net_model.specs.Network.{Net, arcs}
use Rattle.net_model.specs.Struct.{net_from}
use Rattle.net_theory.proofs.ArcReads.{arcs_lent}
use Rattle.flow_cancel.proofs.Cheapest.{cheapest}
use Rattle.flow_least.proofs.Marked.{labels_whole, marked_by, marked_narrowed, first_marked, no_first}
use Rattle.flow_least.proofs.first_flow.Goals as goal

pub returns-then-not-starting_flow : goal.returns-then-not-starting_flow
returns-then-not-starting_flow c =
    let s = c.starting_flow.ensures in
    (no_first (net_from c.args.balances.now c.args.arcs.now) c.requires.0.well_formed (s.none c.if-not-starting_flow.true), s.within, refl)

pub returns : goal.returns
returns c =
    let N : Net = net_from c.args.balances.now c.args.arcs.now in
    let wf = c.requires.0.well_formed in
    let least =
    cheapest N c.starting_flow.new.flow c.cancel_negative_cycles.new.flow wf (c.starting_flow.ensures.found c.if-not-starting_flow.false) c.cancel_negative_cycles.ensures.0
    (λ v. get_or c.cancel_negative_cycles.new.labels v (pos 0)) c.cancel_negative_cycles.ensures.1.feasible in
    let many : length c.args.arcs.now ≡ arcs N = sym (arcs_lent c.args.balances.now c.args.arcs.now) in
    let marked =
    marked_by N c.cancel_negative_cycles.new.flow wf least c.cancel_negative_cycles.new.labels (labels_whole N c.cancel_negative_cycles.new.flow c.cancel_negative_cycles.new.labels c.cancel_negative_cycles.ensures.1)
    c.mark_tight.new.marks (c.mark_tight.auto.marks ∙ c.requires.2 ∙ many) (length c.args.arcs.now) many c.mark_tight.ensures in
    let left = marked_narrowed N c.cancel_negative_cycles.new.flow c.mark_tight.new.marks c.unmark_fixed.new.free marked c.unmark_fixed.auto.free c.unmark_fixed.ensures in
    first_marked N c.unmark_fixed.new.free c.cancel_negative_cycles.new.flow c.minimise.new.flow left (c.minimise.ensures.1 N.balances N.costs left.potential left.marks)
