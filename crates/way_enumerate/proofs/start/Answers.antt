use Rattle.way_enumerate.proofs.Enumerating.{net_sound, on_start}
use Rattle.way_enumerate.proofs.start.Goals as goal

pub start-requires : goal.start-requires
start-requires c = net_sound c.args.book.now c.network_of.result c.network_of.ensures c.requires

pub returns : goal.returns
returns c = record { each = λ b h. on_start c.args.book.now c.network_of.result c.network_of.ensures b h c.start.result c.start.ensures.0 c.start.ensures.1 c.start.ensures.2 }
