use mathlib.Core.Path.{ap, ◌∙◌}
use Rattle.net_model.specs.FullList.{count_flows}
use Rattle.way_theory.proofs.LineByLine.{count_matched}
use Rattle.way_enumerate.proofs.Enumerating.{net_of_book}
use Rattle.way_enumerate.proofs.WayEnumerator.count.Goals as goal

pub count-requires : goal.count-requires
count-requires c = c.requires.enumerates.stands

pub returns : goal.returns
returns c = let cap = c.args.cap in
    (c.count.ensures.0, record { each = λ b h. c.count.ensures.1 ∙ ap (λ N. count_flows N cap) (net_of_book b c.args.self h) ∙ count_matched b cap })
