use Rattle.std.proofs.Common.{arith, rules}
use Rattle.net_theory.proofs.Reach.{tree_start, count_le}
use Rattle.flow_path.proofs.Search.reach.Goals as goal

pub loop-self-init : goal.loop-self-init
loop-self-init c = tree_start 64 _ _ _ _ _ c.args.s c.args.self.now.rank c.args.self.now.via c.requires.3.rank_len (search rules) c.requires.1 c.requires.3.zeros

pub loop-self-smaller : goal.loop-self-smaller
loop-self-smaller c = let o = c.round.new.self in
    omega (arith, c.round.ensures.grows, c.if-self-before.false, count_le _ _ _ _ _ _ _ o.rank o.via o.count c.round.ensures.tree)
