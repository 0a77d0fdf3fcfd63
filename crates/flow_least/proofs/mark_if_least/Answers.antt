use mathlib.Core.Path.{◌≡◌, sym, ◌∙◌}
use lib.ListN.{length}
use Rattle.net_model.specs.Network.{Net, arcs}
use Rattle.net_model.specs.Struct.{net_from}
use Rattle.net_theory.proofs.ArcReads.{arcs_lent}
use Rattle.flow_least.proofs.Marked.{marked_by}
use Rattle.flow_least.proofs.mark_if_least.Goals as goal

pub returns-in-Some : goal.returns-in-Some
returns-in-Some c =
    let N : Net = net_from c.args.balances.now c.args.arcs.now in
    let many : length c.args.arcs.now ≡ arcs N = sym (arcs_lent c.args.balances.now c.args.arcs.now) in
    marked_by N c.args.flow.now c.requires.0.well_formed c.in-Some.ensures.0 c.in-Some.labels c.in-Some.ensures.1 c.mark_tight.new.marks (c.mark_tight.auto.marks ∙ c.requires.2 ∙ many) (length c.args.arcs.now) many c.mark_tight.ensures
