use Rattle.std.proofs.Common.{refl, arith}
use Rattle.std.proofs.lemmas.List.{get_or-replicate}
use Rattle.flow_path.proofs.Tracing.{reach_blocked, reach_falls, reach_walk}
use Rattle.flow_path.proofs.find_walk.Goals as goal

pub reach-requires : goal.reach-requires
reach-requires c = (c.requires.0, c.requires.1, c.requires.2, record { rank_len = refl {a = 64}; zeros = λ v h. get_or-replicate 64 v 0 0 h })

pub returns-then-search-t-eq0 : goal.returns-then-search-t-eq0
returns-then-search-t-eq0 c = let o = c.reach.new.self in
    (reach_blocked _ c.args.flow.now c.args.free.now c.args.s c.args.t c.args.from o.rank o.via o.count c.reach.ensures c.if-search-t-eq0.true, refl)

pub trace-requires : goal.trace-requires
trace-requires c = let o = c.reach.new.self in (
  record {
    falls = reach_falls _ c.args.flow.now c.args.free.now c.args.s c.args.t c.args.from o.rank o.via o.count c.reach.ensures c.requires.0.ends;
    node = c.requires.2;
    reached = omega arith;
  },
  c.requires.3,
)

pub returns : goal.returns
returns c = let o = c.reach.new.self in
    (c.trace.ensures.fits, reach_walk _ c.args.flow.now c.args.free.now c.args.s c.args.t c.args.from o.rank o.via o.count c.reach.ensures _ c.trace.ensures.traced, c.trace.ensures.rest)
