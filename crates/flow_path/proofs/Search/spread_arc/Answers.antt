use Rattle.std.proofs.Common.{[], arith}
use Rattle.net_theory.proofs.ArcReads.{arc_at}
use Rattle.flow_path.proofs.Reaching.{spread_few, arc_tried}
use Rattle.flow_path.proofs.Search.spread_arc.Goals as goal

pub spread-requires : goal.spread-requires
spread-requires c =
    let x = arc_at [] c.args.arcs.now c.args.a c.requires.2 in
    let t = c.requires.0.ends.tail_in c.args.a x.inside in
    let h = c.requires.0.ends.head_in c.args.a x.inside in
    (omega arith, omega arith, omega arith)

pub spread-requires-2 : goal.spread-requires-2
spread-requires-2 c =
    let x = arc_at [] c.args.arcs.now c.args.a c.requires.2 in
    let t = c.requires.0.ends.tail_in c.args.a x.inside in
    let h = c.requires.0.ends.head_in c.args.a x.inside in
    (omega arith, omega arith, omega (arith, spread_few _ _ _ _ _ _ _ _ _ _ c.spread.ensures))

pub returns : goal.returns
returns c =
    let o = c.spread.new.self in
    arc_tried _ c.args.flow.now c.args.free.now c.args.a c.args.self.now.rank c.args.self.now.via c.args.self.now.count _ (arc_at [] c.args.arcs.now c.args.a c.requires.2) _ _ c.from-u.ensures c.from-v.ensures
    o.rank o.via o.count _ _ _ c.if-not-free-a.false c.spread.ensures c.spread-2.ensures
