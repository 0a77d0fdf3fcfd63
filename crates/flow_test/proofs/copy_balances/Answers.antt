use Rattle.std.proofs.Common.{arith, rules, pos, ext_get_or}
use Rattle.std.proofs.lemmas.Grind.{common_steps}
use Rattle.std.proofs.lemmas.Int.{ints, to_z-of_z}
use Rattle.flow_test.proofs.copy_balances.Goals as goal

pub loop-v-preserved : goal.loop-v-preserved
loop-v-preserved c = grind (arith, common_steps, ints, to_z-of_z)

pub returns : goal.returns
returns c = ext_get_or (pos 0) _ _ (search rules) (λ v h. c.loop-v.invariant v (omega arith))
