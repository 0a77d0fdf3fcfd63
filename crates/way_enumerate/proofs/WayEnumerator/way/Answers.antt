use Rattle.way_enumerate.proofs.Enumerating.{few_arcs, has_flow, tells}
use Rattle.way_enumerate.proofs.WayEnumerator.way.Goals as goal

pub arcs-requires : goal.arcs-requires
arcs-requires c = few_arcs c.args.self.now.flows.net c.requires.0.enumerates.stands.sound

pub way_of-requires : goal.way_of-requires
way_of-requires c = rw c.arcs.ensures (has_flow c.args.self.now c.requires.0 c.requires.1)

pub returns : goal.returns
returns c = tells c.args.self.now c.way_of.result c.requires.1 (rw c.arcs.ensures at c.way_of.ensures)
