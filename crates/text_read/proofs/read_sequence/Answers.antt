use Rattle.std.proofs.Common.{arith, suc, ◌≡◌, ◌+◌, ◌-◌, ◌∙◌, length-set, take_all}
use Rattle.std.proofs.lemmas.List.{length-replicate, take_more_set}
use Rattle.text_read.specs.Heads.{bytes}
use Rattle.text_read.proofs.Rows.{known_none, no_head, no_number, one_more, all_known}
use Rattle.text_read.proofs.read_sequence.Goals as goal

pub loop-value-init : goal.loop-value-init
loop-value-init g c = record { some = c.requires.head; places = length-replicate g.row.N 0; known = known_none _ _ _ _ (omega arith) }

pub returns-in_err-read_text : goal.returns-in_err-read_text
returns-in_err-read_text g c =
    let left : g.row.N - c.loop-value.value-index ≡ suc (g.row.N - (c.loop-value.value-index + 1)) = omega (arith, c.loop-value-test.true) in
    rw c.from_residual.ensures (no_head c.loop-value.invariant.known left (c.in_err-read_text.ensures))

pub returns-in_err-number : goal.returns-in_err-number
returns-in_err-number g c =
    let left : g.row.N - c.loop-value.value-index ≡ suc (g.row.N - (c.loop-value.value-index + 1)) = omega (arith, c.loop-value-test.true) in
    rw c.from_residual-in_err-number.ensures (no_number c.loop-value.invariant.known left c.in_ok-read_text.ensures (c.in_err-number.ensures))

pub loop-value-preserved : goal.loop-value-preserved
unfolding bytes
loop-value-preserved g c =
    let v = c.loop-value in
    let left : g.row.N - v.value-index ≡ suc (g.row.N - (v.value-index + 1)) = omega (arith, c.loop-value-test.true) in
    record {
      some = omega arith;
      places = length-set v.value-items v.value-index c.in_ok-number.number ∙ v.invariant.places;
      known = rw (take_more_set v.value-items v.value-index c.in_ok-number.number (omega (arith, c.loop-value-test.true, v.invariant.places)))
          (one_more v.invariant.known left c.in_ok-read_text.ensures c.in_ok-number.ensures);
    }

pub returns : goal.returns
returns g c =
    let v = c.loop-value in
    rw (take_all v.value-index v.value-items (omega (arith, v.invariant.places, c.loop-value-test.false))) at
    (all_known v.invariant.known (omega (arith, c.loop-value-test.false)) c.requires.some)
