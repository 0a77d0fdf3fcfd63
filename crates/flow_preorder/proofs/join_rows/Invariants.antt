use Rattle.flow_preorder.specs.Preorder.{JoinedRows}
use Rattle.flow_preorder.proofs.join_rows.Given as goal

abbrev pub invariant-loop-row : goal.invariant-loop-row
invariant-loop-row l = JoinedRows l.initial.rows l.rows l.t l.p l.row-index
