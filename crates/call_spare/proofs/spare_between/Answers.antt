use mathlib.Core.Path.{◌≡◌, sym, ◌∙◌}
use mathlib.Core.Bool.{true, ◌&&◌}
use Rattle.laws.specs.Tests.{true_and}
use Rattle.book_names.specs.Name.{is_entry}
use Rattle.call_spare.proofs.Sparing.{inside, told}
use Rattle.call_spare.proofs.spare_between.Goals as goal

pub spare_of-requires : goal.spare_of-requires
spare_of-requires c =
    inside _ _ _ _ c.in-Ok.ensures (true_and _ _ (sym c.is_entry.ensures ∙ c.if-is_entry.true) (sym c.is_entry-then-is_entry.ensures ∙ c.if-is_entry-2.true))

pub returns-in-Ok : goal.returns-in-Ok
returns-in-Ok c =
    let n = c.in-Ok.checked.count in
    let both : (is_entry n c.args.earlier && is_entry n c.args.later) ≡ true = true_and _ _ (sym c.is_entry.ensures ∙ c.if-is_entry.true) (sym c.is_entry-then-is_entry.ensures ∙ c.if-is_entry-2.true) in
    rw c.spare_reply.ensures (told _ _ _ _ c.in-Ok.ensures both _ c.spare_of.ensures)
