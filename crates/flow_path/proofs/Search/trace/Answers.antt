use Rattle.std.proofs.Common.{◌≡◌, ℕ, ◌<◌, length, get_or, ap, arith}
use Rattle.std.proofs.lemmas.List.{length-set}
use Rattle.laws.specs.Store.{drop_set_next}
use Rattle.net_theory.proofs.Trace.{any_done}
use Rattle.flow_path.proofs.Tracing.{trace_more}
use Rattle.flow_path.proofs.Search.trace.Goals as goal

pub loop-v-preserved : goal.loop-v-preserved
loop-v-preserved c =
    let a = c.loop-v in
    let T = a.invariant in
    let rank = c.args.self.now.rank in
    let falls = c.requires.0.falls in
    let more : 1 < get_or rank a.v 0 = c.loop-v-test.true in
    let before : get_or rank c.source-v.result 0 ≡ get_or rank _ 0 = ap (λ v. get_or rank v 0) c.source-v.ensures in
    let next_in = falls.next_in a.v T.node more in
    let next_reached = falls.next_reached a.v T.node more in
    let next_less = falls.next_less a.v T.node more in
    let small = falls.small c.args.t c.requires.0.node in
    let capacity-left : a.len < length a.codes = omega arith in
    record {
      node = omega arith;
      reached = omega arith;
      same_len = omega (arith, length-set {A = ℕ});
      far = omega arith;
      traced = trace_more 64 _ _ _ rank c.args.self.now.via a.codes c.args.t a.v a.len _ capacity-left T.node more c.source-v.ensures T.traced;
      rest = drop_set_next a.codes c.args.codes.now a.len _ T.rest;
    }

pub returns : goal.returns
returns c =
    let T = c.loop-v.invariant in
    let small = c.requires.0.falls.small c.args.t c.requires.0.node in
    record {
      fits = omega arith;
      traced = any_done 64 _ _ _ c.args.self.now.rank c.args.self.now.via c.args.t c.loop-v.v _ T.node T.reached (omega arith) T.traced;
      rest = T.rest;
    }
