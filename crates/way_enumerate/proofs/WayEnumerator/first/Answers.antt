use mathlib.Core.Path.{refl, ap, ◌∙◌}
use Rattle.laws.specs.Image.{map_option}
use Rattle.net_model.specs.FullList.{first_flow}
use Rattle.way_theory.specs.FullWays.{first_way}
use Rattle.way_theory.specs.WayFlow.{way_of}
use Rattle.way_enumerate.proofs.Reading.{first_read}
use Rattle.way_enumerate.proofs.Enumerating.{net_of_book, steps_to}
use Rattle.way_enumerate.proofs.WayEnumerator.first.Goals as goal

pub first-requires : goal.first-requires
first-requires c = c.requires.enumerates.stands

pub returns : goal.returns
returns c = let s = c.args.self in
    record { each = λ b h. steps_to b s _ h refl _ _ c.first.ensures (first_way b) (ap (λ N. map_option (way_of b) (first_flow N)) (net_of_book b s h) ∙ first_read b) }
