use Rattle.std.proofs.Common.{◌≡◌, get_or, pos}
use Rattle.laws.specs.Sum.{sum}
use Rattle.flow_feasible.proofs.total.Given as goal

abbrev pub invariant-loop-balance : goal.invariant-loop-balance
invariant-loop-balance l = l.sum ≡ sum l.balance-index (λ v. get_or l.balances v (pos 0))
