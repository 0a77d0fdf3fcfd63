use Rattle.std.proofs.Common.{sym, ◌∙◌, length, pos, arith}
use lib.ListN.{replicate}
use lib.Seq.{length-take-le}
use Rattle.laws.specs.Range.{zero_of, zero_bits}
use Rattle.net_model.specs.Struct.{net_from}
use Rattle.net_theory.proofs.ArcReads.{arcs_lent}
use Rattle.flow_feasible.proofs.Answer.{no_balance, all_free, costs_lent}
use Rattle.flow_feasible.proofs.feasible.Goals as goal

pub returns-then-total-ne0 : goal.returns-then-total-ne0
returns-then-total-ne0 c = let N = net_from c.args.balances.now c.args.arcs.now in
    no_balance N c.args.flow.now c.requires.0 (costs_lent c.args.balances.now c.args.arcs.now) c.args.flow.now c.requires.1 (λ e. c.if-total-ne0.true (zero_bits c.total.result (c.total.ensures ∙ e)))

pub from_bounds-requires : goal.from_bounds-requires
from_bounds-requires c =
    let N = net_from c.args.balances.now c.args.arcs.now in
    let lent = arcs_lent c.args.balances.now c.args.arcs.now in (
      c.requires.0,
      c.requires.1,
      all_free N (length c.args.arcs.now) (sym lent) (omega (arith, c.requires.0.ends.few)),
      length-take-le (length c.args.balances.now) (replicate 64 (pos 0)) c.requires.0.balances.few_nodes,
      sym c.total.ensures ∙ zero_of (record { sfits = c.total.type_inv }) c.if-total-ne0.false,
    )
