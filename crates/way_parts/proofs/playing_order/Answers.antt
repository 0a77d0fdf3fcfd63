use Rattle.std.proofs.Common.{arith}
use Rattle.way_parts.proofs.AllParts.{opened_yes, order_begin, order_room, order_more, order_same, order_end}
use Rattle.way_parts.proofs.Once.{order_length}
use Rattle.way_parts.proofs.playing_order.Goals as goal
use Rattle.way_parts.proofs.playing_order.Goals.{then-i-eq0, else-i-eq0}

pub loop-k-init : goal.loop-k-init
loop-k-init c = order_begin _ _

pub put_part-at-requires : goal.put_part-at-requires
put_part-at-requires c = let h = c.loop-k-test.true in
    (c.requires, omega arith, omega arith, rw (opened_yes c.args.way.now c.loop-k.k c.if-i-eq0.true) at (order_room c.loop-k.invariant h (omega (arith, c.requires.few, order_length _ c.requires))))

pub loop-k-preserved : goal.loop-k-preserved
loop-k-preserved c =
    let d = c.loop-k.invariant in
    let h = c.loop-k-test.true in
    elim c.if-i-eq0.branch [
      | then-i-eq0 w ↦ rw (w.order-is, w.at-is) (order_more d h (rw (opened_yes c.args.way.now c.loop-k.k w.if-i-eq0.true) w.put_part-at.ensures))
      | else-i-eq0 w ↦ rw (w.order-is, w.at-is) (order_same d h w.if-i-eq0.false)
    ]

pub returns : goal.returns
returns c = order_end c.loop-k.invariant c.loop-k-test.false
