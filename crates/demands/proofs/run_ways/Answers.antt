use mathlib.Core.Path.{refl}
use Rattle.demands.proofs.ThreeCalls.{run_one_way, run_three_ways}
use Rattle.demands.proofs.run_ways.Goals as goal

pub returns-then-code-ne0 : goal.returns-then-code-ne0
returns-then-code-ne0 c = run_one_way _ _ _ c.desk_first-one.ensures _ _ _ _ c.if-code-ne0.true

pub returns : goal.returns
returns c = run_three_ways _ _ _ c.desk_first-one.ensures c.if-code-ne0.false _ _ _ _ _ c.desk_next-two.ensures c.desk_next-three.ensures _ refl
