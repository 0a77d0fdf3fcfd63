use Rattle.std.proofs.Common.{[]}
use Rattle.net_theory.proofs.ArcReads.{arc_at}
use Rattle.net_theory.proofs.Reach.{round_left, count_le}
use Rattle.flow_path.proofs.Reaching.{turn_arc}
use Rattle.flow_path.proofs.Search.round.Goals as goal

pub spread_arc-requires : goal.spread_arc-requires
spread_arc-requires c = let s = c.loop-a.self in (c.requires.0, count_le _ _ _ _ _ _ _ s.rank s.via s.count c.loop-a.invariant.tree, c.loop-a-test.true)

pub returns-then-self-t-ne0 : goal.returns-then-self-t-ne0
returns-then-self-t-ne0 c = let a = c.loop-a in
    let o = c.spread_arc.new.self in
    round_left _ _ _ _ _ _ _ o.rank o.via c.args.t c.args.self.now.count o.count _
    (turn_arc _ c.args.flow.now c.args.free.now a.a a.self.rank a.self.via a.self.count c.args.s c.args.from c.args.self.now.count o.rank o.via o.count c.requires.0.ends a.auto.a (arc_at [] c.args.arcs.now a.a c.loop-a-test.true).inside a.invariant c.spread_arc.ensures) c.if-self-t-ne0.true

pub loop-a-preserved : goal.loop-a-preserved
loop-a-preserved c = let a = c.loop-a in
    let o = c.spread_arc.new.self in
    turn_arc _ c.args.flow.now c.args.free.now a.a a.self.rank a.self.via a.self.count c.args.s c.args.from c.args.self.now.count o.rank o.via o.count c.requires.0.ends a.auto.a (arc_at [] c.args.arcs.now a.a c.loop-a-test.true).inside a.invariant c.spread_arc.ensures
