use Rattle.std.proofs.Common.{◌≡◌, ◌+◌, ◌-◌, ◌∙◌, ap, sym, arith, subst}
use Rattle.way_joins.proofs.Tables.{tables_timing}
use Rattle.way_joins.proofs.Lookup.{few}
use Rattle.way_network.specs.Network.{put_arc}
use Rattle.way_network.proofs.Put.{JoinsLeft, joins_start, joins_skip, joins_put, joins_done, cost_small}
use Rattle.way_network.proofs.put_joins.Goals as goal
use Rattle.way_network.proofs.put_joins.Goals.{in-Some, in_default}

pub loop-i-init : goal.loop-i-init
loop-i-init c = joins_start c.args.book.now c.args.j c.args.net.now

pub arc_with-requires : goal.arc_with-requires
arc_with-requires c =
    let n = few (tables_timing c.requires.0.tables) in
    (omega (arith, n, c.loop-i.invariant.upto), omega (arith, n, c.requires.2), cost_small c.args.book.now c.loop-i.i c.args.j c.in-Some.cost c.requires.0 c.in-Some.ensures)

pub loop-i-preserved : goal.loop-i-preserved
loop-i-preserved c =
    let book = c.args.book.now in
    let i = c.loop-i.i in
    let net = c.match-join_of.net in
    let z : i ≡ i - 1 + 1 = omega arith in
    subst (JoinsLeft book c.args.j c.args.net.now net) z (elim c.match-join_of.branch [
      | in-Some w ↦ joins_put book c.args.j c.args.net.now c.loop-i.net net i w.in-Some.cost c.loop-i.invariant w.in-Some.ensures (w.net-is ∙ w.put_arc.ensures ∙ ap (put_arc c.loop-i.net) w.arc_with.ensures)
      | in_default w ↦ subst (λ n. JoinsLeft book c.args.j c.args.net.now n i) (sym w.net-is) (joins_skip book c.args.j c.args.net.now c.loop-i.net i c.loop-i.invariant w.in_default.ensures)
    ])

pub returns-after-join_of : goal.returns-after-join_of
returns-after-join_of c =
    let book = c.args.book.now in
    let i = c.loop-i.i in
    let net = c.match-join_of.net in
    let z : i ≡ 0 = omega arith in
    joins_done book c.args.j c.args.net.now net (subst (JoinsLeft book c.args.j c.args.net.now net) z (elim c.match-join_of.branch [
      | in-Some w ↦ joins_put book c.args.j c.args.net.now c.loop-i.net net i w.in-Some.cost c.loop-i.invariant w.in-Some.ensures (w.net-is ∙ w.put_arc.ensures ∙ ap (put_arc c.loop-i.net) w.arc_with.ensures)
      | in_default w ↦ subst (λ n. JoinsLeft book c.args.j c.args.net.now n i) (sym w.net-is) (joins_skip book c.args.j c.args.net.now c.loop-i.net i c.loop-i.invariant w.in_default.ensures)
    ]))
