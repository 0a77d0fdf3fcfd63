use Rattle.std.proofs.Common.{arith, refl, sym, ◌≡◌, ◌<◌, ◌∙◌, true, get_or}
use Rattle.std.proofs.lemmas.List.Sums.{prefix_len-le-length}
use Rattle.std.specs.List.{prefix_len}
use Rattle.text_read.specs.Reader.{digit}
use Rattle.text_read.proofs.Runs.{digits_none, digits_more, digits_room, digit_range, digits_stop, digits_all, number_read, number_none}
use Rattle.text_read.proofs.read_number.Goals as goal
use Rattle.text_read.proofs.read_number.Goals.{else-loop-b-test, then-loop-b-test+then-not-is_ascii_digit, then-loop-b-test+else-not-is_ascii_digit+then-length-eq8}

pub loop-b-init : goal.loop-b-init
loop-b-init c = record { same = refl; digits = digits_none c.args.rest.now }

pub overflow_mul-value : goal.overflow_mul-value
overflow_mul-value c = let v = c.loop-b.invariant in
    let few : c.loop-b.b-index < 8 = omega (arith, v.digits.few, v.same, c.if-length-eq8.false) in
    omega (arith, digits_room v.digits few)

pub overflow_add-value : goal.overflow_add-value
overflow_add-value c = let v = c.loop-b.invariant in
    let few : c.loop-b.b-index < 8 = omega (arith, v.digits.few, v.same, c.if-length-eq8.false) in
    let here : digit (get_or c.args.rest.now c.loop-b.b-index 0) ≡ true = sym c.is_ascii_digit.ensures.value ∙ c.if-not-is_ascii_digit.false in
    omega (arith, digits_room v.digits few, digit_range (get_or c.args.rest.now c.loop-b.b-index 0) here, c.from.ensures)

pub loop-b-preserved : goal.loop-b-preserved
loop-b-preserved c = let v = c.loop-b.invariant in
    let few : c.loop-b.b-index < 8 = omega (arith, v.digits.few, v.same, c.if-length-eq8.false) in
    let here : digit (get_or c.args.rest.now c.loop-b.b-index 0) ≡ true = sym c.is_ascii_digit.ensures.value ∙ c.if-not-is_ascii_digit.false in
    record { same = omega (arith, v.same); digits = rw c.from.ensures (digits_more v.digits c.loop-b-test.true here few) }

pub split_at-requires : goal.split_at-requires
split_at-requires c = omega (arith, c.loop-b.invariant.same, c.loop-b.invariant.digits.within, prefix_len-le-length digit c.args.rest.now)

pub returns-then-is_plain : goal.returns-then-is_plain
returns-then-is_plain c =
    let v = c.loop-b.invariant in
    let ended : c.loop-b.b-index < 8 → c.loop-b.b-index ≡ prefix_len digit c.args.rest.now = λ h. elim c.loop-b-test.branch [
      | else-loop-b-test w ↦ digits_all v.digits w.loop-b-test.false
      | then-loop-b-test+then-not-is_ascii_digit w ↦ digits_stop v.digits w.loop-b-test.true (sym w.is_ascii_digit.ensures.value ∙ w.if-not-is_ascii_digit.true)
      | then-loop-b-test+else-not-is_ascii_digit+then-length-eq8 w ↦ absurd (omega (arith, h, v.same, w.if-length-eq8.true))
    ] in
    rw (c.split_at.ensures.back, v.same)
    (number_read v.digits ended (rw (c.split_at.ensures.front, v.same) at (sym c.is_plain.ensures ∙ c.if-is_plain.true)))

pub returns-else-is_plain : goal.returns-else-is_plain
returns-else-is_plain c =
    let v = c.loop-b.invariant in
    let ended : c.loop-b.b-index < 8 → c.loop-b.b-index ≡ prefix_len digit c.args.rest.now = λ h. elim c.loop-b-test.branch [
      | else-loop-b-test w ↦ digits_all v.digits w.loop-b-test.false
      | then-loop-b-test+then-not-is_ascii_digit w ↦ digits_stop v.digits w.loop-b-test.true (sym w.is_ascii_digit.ensures.value ∙ w.if-not-is_ascii_digit.true)
      | then-loop-b-test+else-not-is_ascii_digit+then-length-eq8 w ↦ absurd (omega (arith, h, v.same, w.if-length-eq8.true))
    ] in
    number_none v.digits ended (rw (c.split_at.ensures.front, v.same) at (sym c.is_plain.ensures ∙ c.if-is_plain.false))
