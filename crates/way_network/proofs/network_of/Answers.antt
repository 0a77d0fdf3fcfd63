use Rattle.std.proofs.Common.{◌+◌, refl, ap, ◌∙◌, arith}
use Rattle.way_joins.proofs.Tables.{held_tables, holds_timing}
use Rattle.way_joins.proofs.Lookup.{few}
use Rattle.way_network.proofs.Put.{blocks_on, blocks_room, rows_room, all_put, makes_net}
use Rattle.way_network.specs.Network.{put_arcs, rows_by}
use Rattle.way_network.proofs.network_of.Goals as goal
use Rattle.way_network.proofs.network_of.Goals.{else-loop-j-test, then-loop-j-test+else-j-e}

pub put_joins-requires : goal.put_joins-requires
put_joins-requires c = (held_tables c.requires, c.loop-j.invariant.low, c.loop-j-test.true, blocks_room _ _ c.requires refl c.loop-j.net c.loop-j.j c.loop-j.invariant)

pub loop-j-preserved : goal.loop-j-preserved
loop-j-preserved c = blocks_on _ _ c.loop-j.net c.put_joins.new.net c.loop-j.j c.loop-j.invariant c.loop-j-test.true c.put_joins.ensures

pub put_rows-requires : goal.put_rows-requires
put_rows-requires c =
    let n = few (holds_timing c.requires.holds) in (
      n,
      elim c.loop-j-test.branch [
        | else-loop-j-test w ↦ rw w.net-is (rows_room _ _ c.requires refl c.loop-j.net c.loop-j.j c.loop-j.invariant)
        | then-loop-j-test+else-j-e w ↦ rw w.net-is (rows_room _ _ c.requires refl w.put_joins.new.net (c.loop-j.j + 1) (blocks_on _ _ c.loop-j.net w.put_joins.new.net c.loop-j.j c.loop-j.invariant w.loop-j-test.true w.put_joins.ensures))
      ],
    )

pub returns : goal.returns
returns c =
    let book = c.args.book.now in
    let net = c.put_rows.new.net in
    let j = c.loop-j.j in
    makes_net book _ refl refl net c.balances_of.ensures refl (λ b h. elim c.loop-j-test.branch [
      | else-loop-j-test w ↦ all_put book _ c.loop-j.net net j c.loop-j.invariant (omega arith) (c.put_rows.ensures ∙ ap (λ n. put_arcs n (rows_by book.count book.players)) w.net-is) b h
      | then-loop-j-test+else-j-e w ↦
          all_put book _ w.put_joins.new.net net (j + 1) (blocks_on _ _ c.loop-j.net w.put_joins.new.net j c.loop-j.invariant w.loop-j-test.true w.put_joins.ensures) (omega arith)
          (c.put_rows.ensures ∙ ap (λ n. put_arcs n (rows_by book.count book.players)) w.net-is) b h
    ])
