use mathlib.Core.Path.{sym, ◌∙◌}
use Rattle.call_sheets.proofs.AdmittedWay.{past, holds, held, strange, given}
use Rattle.call_sheets.proofs.admit_way.Goals as goal

pub is_given-requires : goal.is_given-requires
is_given-requires c = held _ c.args.given.now _ c.in_ok-checked.ensures

pub returns-then-not-is_given : goal.returns-then-not-is_given
returns-then-not-is_given c =
    let h = c.in_ok-checked.ensures in
    let g = c.args.given.now in
    strange _ g _ h (sym (c.is_given.ensures.each (past _ g _ h).book (holds _ g _ h)) ∙ c.if-not-is_given.true)

pub returns : goal.returns
returns c =
    let h = c.in_ok-checked.ensures in
    let g = c.args.given.now in
    (given _ g _ h (sym (c.is_given.ensures.each (past _ g _ h).book (holds _ g _ h)) ∙ c.if-not-is_given.false), h)
