use Rattle.text_read.specs.Heads.{bytes}
use Rattle.text_read.proofs.Rows.{passed_none, none_headed, none_numbered, row_ended, going_on}
use Rattle.text_read.proofs.read_numbers.Goals as goal

pub loop-k-init : goal.loop-k-init
loop-k-init c = passed_none _ _ c.requires

pub returns-in_err-read_text : goal.returns-in_err-read_text
returns-in_err-read_text c = rw c.from_residual.ensures (λ n low high. none_headed c.loop-k.invariant c.in_err-read_text.ensures n low)

pub returns-in_err-number : goal.returns-in_err-number
returns-in_err-number c =
    rw c.from_residual-in_err-number.ensures (λ n low high. none_numbered c.loop-k.invariant c.in_ok-read_text.ensures c.in_err-number.ensures n low)

pub returns-in-Some : goal.returns-in-Some
unfolding bytes
returns-in-Some c = row_ended c.loop-k.invariant c.in_ok-read_text.ensures c.loop-k-test.true c.in_ok-number.ensures c.in-Some.ensures

pub loop-k-preserved : goal.loop-k-preserved
unfolding bytes
loop-k-preserved c = going_on c.loop-k.invariant c.in_ok-read_text.ensures c.loop-k-test.true c.in_ok-number.ensures c.in_default.ensures
