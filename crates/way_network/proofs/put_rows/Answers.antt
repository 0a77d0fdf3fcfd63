use Rattle.std.proofs.Common.{◌+◌, ◌*◌, ap, ◌∙◌, arith}
use Rattle.way_network.specs.Network.{arc_with, put_arc}
use Rattle.way_network.proofs.Put.{entries_on, ends_on, rows_done}
use Rattle.way_network.proofs.put_rows.Goals as goal
use Rattle.way_network.proofs.put_rows.Goals.{else-loop-j-2-test, then-loop-j-2-test+else-j-e-2}

pub loop-j-preserved : goal.loop-j-preserved
loop-j-preserved c = entries_on c.args.e c.args.players c.args.net.now c.loop-j.net c.put_arc.new.net c.loop-j.j c.loop-j.invariant c.loop-j-test.true (c.put_arc.ensures ∙ ap (put_arc c.loop-j.net) c.arc_with.ensures)

pub loop-j-2-preserved : goal.loop-j-2-preserved
loop-j-2-preserved c =
    ends_on c.args.e c.args.players c.args.net.now c.loop-j-2.net c.put_arc-in-loop-j-2.new.net c.loop-j-2.j c.loop-j-2.invariant c.loop-j-2-test.true
    (c.put_arc-in-loop-j-2.ensures ∙ ap (put_arc c.loop-j-2.net) c.arc_with-in-loop-j-2.ensures)

pub returns : goal.returns
returns c =
    let s = c.args.net.now in
    let e = c.args.e in
    let p = c.args.players in
    let j = c.loop-j-2.j in
    let net = c.put_arc-2.new.net in
    let last = c.put_arc-2.ensures ∙ ap (put_arc c.loop-j-2-test.net) c.arc_with-2.ensures in
    elim c.loop-j-2-test.branch [
      | else-loop-j-2-test w ↦ rows_done e p s c.loop-j-2.net net j c.loop-j-2.invariant (omega arith) (last ∙ ap (λ n. put_arc n (arc_with 0 (2 * e + 1) 0 p 0)) w.net-is)
      | then-loop-j-2-test+else-j-e-2 w ↦
          rows_done e p s w.put_arc-in-loop-j-2.new.net net (j + 1)
          (ends_on e p s c.loop-j-2.net w.put_arc-in-loop-j-2.new.net j c.loop-j-2.invariant w.loop-j-2-test.true (w.put_arc-in-loop-j-2.ensures ∙ ap (put_arc c.loop-j-2.net) w.arc_with-in-loop-j-2.ensures))
          (omega arith) (last ∙ ap (λ n. put_arc n (arc_with 0 (2 * e + 1) 0 p 0)) w.net-is)
    ]
