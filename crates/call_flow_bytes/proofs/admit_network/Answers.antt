use Rattle.call_flow_bytes.proofs.Admitting.{admitted}
use Rattle.call_flow_bytes.proofs.admit_network.Goals as goal

pub returns : goal.returns
returns c = let a = c.args in
    admitted a.balances.now a.arcs.now a.bytes c.in_ok-net.net c.in_ok-net.ensures.0 c.in_ok-net.ensures.1 c.in_ok-ask_room.ensures
