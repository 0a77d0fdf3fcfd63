use Rattle.std.proofs.Common.{subst, arith}
use Rattle.net_model.specs.Struct.{net_from}
use Rattle.net_theory.specs.Graph.{costed}
use Rattle.net_theory.proofs.Graph.{within_with}
use Rattle.flow_test.proofs.Accepted.{small_numbers}
use Rattle.flow_feasible.specs.Sending.{FirstExcess}
use Rattle.flow_feasible.proofs.Answer.{ready_of, all_sent, no_flow_left, falls, costs_lent}
use Rattle.flow_feasible.proofs.from_bounds.Goals as goal

pub excess_of-requires : goal.excess_of-requires
excess_of-requires c = let N = net_from c.args.balances.now c.args.arcs.now in
    (small_numbers N c.args.flow.now c.requires.0 c.loop-s.flow c.loop-s.invariant.0, c.loop-s.invariant.1)

pub returns-in-None : goal.returns-in-None
returns-in-None c = let N = net_from c.args.balances.now c.args.arcs.now in
    let none = subst (FirstExcess c.excess_of.new.excess) c.in-None.is c.first_excess.ensures in
    all_sent N c.args.flow.now c.requires.0 (costs_lent c.args.balances.now c.args.arcs.now) c.loop-s.flow c.loop-s.invariant.0 c.excess_of.new.excess c.excess_of.ensures c.requires.4 none

pub send-requires : goal.send-requires
send-requires c = let N = net_from c.args.balances.now c.args.arcs.now in
    let first = subst (FirstExcess c.excess_of.new.excess) c.in-Some.is c.first_excess.ensures in (
      ready_of N c.args.flow.now c.requires.0 (costs_lent c.args.balances.now c.args.arcs.now) c.args.free.now c.requires.2 c.loop-s.flow c.loop-s.invariant.0,
      first.0,
      omega (arith, c.excess_of.ensures.len, c.requires.0.balances.few_nodes),
      first.1,
      c.excess_of.ensures.small,
    )

pub returns-then-not-send : goal.returns-then-not-send
returns-then-not-send c = let N = net_from c.args.balances.now c.args.arcs.now in
    let first = subst (FirstExcess c.excess_of.new.excess) c.in-Some.is c.first_excess.ensures in
    no_flow_left N c.args.flow.now c.requires.0 (costs_lent c.args.balances.now c.args.arcs.now) c.loop-s.flow c.loop-s.invariant.0 c.excess_of.new.excess c.excess_of.ensures c.args.free.now c.requires.2 c.in-Some.s first.0
    first.1 (c.send.ensures.stuck c.if-not-send.true) _ (within_with (costed N) c.args.balances.now N.heads N.costs _ c.send.ensures.within)

pub loop-s-smaller : goal.loop-s-smaller
loop-s-smaller c = let N = net_from c.args.balances.now c.args.arcs.now in
    let first = subst (FirstExcess c.excess_of.new.excess) c.in-Some.is c.first_excess.ensures in
    falls N c.args.flow.now c.requires.0 (costs_lent c.args.balances.now c.args.arcs.now) c.loop-s.flow c.loop-s.invariant.0 c.excess_of.new.excess c.excess_of.ensures _ c.in-Some.s first.0 (c.send.ensures.done c.if-not-send.false)

pub loop-s-preserved : goal.loop-s-preserved
loop-s-preserved c = let N = net_from c.args.balances.now c.args.arcs.now in
    (within_with (costed N) c.args.balances.now N.heads N.costs _ c.send.ensures.within, c.excess_of.ensures.len)
