use mathlib.Core.Path.{refl}
use Rattle.way_enumerate.specs.WayEnumerator.{way_at, way_after}
use Rattle.way_enumerate.proofs.Enumerating.{steps_to, follows}
use Rattle.way_enumerate.proofs.WayEnumerator.next.Goals as goal

pub next-requires : goal.next-requires
next-requires c = c.requires.enumerates.stands

pub returns : goal.returns
returns c = let s = c.args.self in
    record { each = λ b h. steps_to b s _ h refl _ _ c.next.ensures (way_after b (way_at b s)) (follows b s h) }
