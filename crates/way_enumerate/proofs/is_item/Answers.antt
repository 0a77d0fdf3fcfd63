use Rattle.way_enumerate.proofs.Enumerating.{net_sound, net_ends, few_arcs, tested}
use Rattle.way_enumerate.proofs.is_item.Goals as goal

pub arcs-requires : goal.arcs-requires
arcs-requires c = few_arcs _ (net_sound c.args.book.now c.network_of-net.result c.network_of-net.ensures c.requires.0)

pub flow_of-flow-requires : goal.flow_of-flow-requires
flow_of-flow-requires c = (rw c.arcs.ensures (net_ends c.args.book.now c.network_of-net.result c.network_of-net.ensures c.requires.0), c.requires.1)

pub is_item-requires : goal.is_item-requires
is_item-requires c = net_sound c.args.book.now c.network_of-net.result c.network_of-net.ensures c.requires.0

pub returns : goal.returns
returns c =
    let t = c.is_item in
    let lays = rw c.arcs.ensures at c.flow_of-flow.ensures in
    record { each = λ b h. tested c.args.book.now c.network_of-net.result c.network_of-net.ensures b h c.args.given.now c.flow_of-flow.result c.requires.1 lays t.result t.ensures }
