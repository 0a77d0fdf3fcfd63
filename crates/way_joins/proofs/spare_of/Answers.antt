use mathlib.Core.Path.{◌≡◌, ◌∙◌}
use lib.IntN.{ℤ}
use mir.Syntax.{w32}
use mir.Val.{to_z, of_z}
use borrow.Author.Rules.{rules}
use Rattle.way_joins.proofs.Lookup.{small, spare_is}
use Rattle.way_joins.proofs.spare_of.Goals as goal

pub spare_with-requires : goal.spare_with-requires
spare_with-requires c =
    let (h, p, q, r, s) = c.requires in
    small h _ _ p q r s _ c.in_ok-road.ensures

-- the spare, by its bits
pub returns : goal.returns
returns c =
    let z : ℤ = c.spare_with.result in
    let same : to_z w32 (of_z w32 z) ≡ z = search rules in
    let (_, p, q, r, s) = c.requires in
    record { each = λ b h. spare_is h _ _ p q r s _ (c.in_ok-road.ensures.ticks b h) _ (same ∙ c.spare_with.ensures) }
