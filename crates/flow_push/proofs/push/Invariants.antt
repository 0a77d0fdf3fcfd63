use Rattle.std.proofs.Common.{drop}
use Rattle.net_theory.specs.Push.{push_all}
use Rattle.flow_push.proofs.Pushing.{PushTurn}
use Rattle.flow_push.proofs.push.Given as goal

abbrev pub invariant-loop-c : goal.invariant-loop-c
invariant-loop-c l = PushTurn l.d (push_all l.d l.codes l.initial.flow) l.flow (drop l.c-index l.codes)
