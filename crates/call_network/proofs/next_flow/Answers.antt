use Rattle.std.proofs.Common.{rules, ◌≡◌, subst, true, ap, ◌∙◌}
use Rattle.laws.specs.Rules.{next}
use Rattle.bytes_read.specs.Words.{words}
use Rattle.net_model.specs.FullList.{next_flow, full_list}
use Rattle.net_model.specs.Struct.{net_in}
use Rattle.flow_enumerate.specs.Enumerator.{item_of, item_after}
use Rattle.call_reply.specs.ByteLists.{listed}
use Rattle.call_flow_bytes.specs.NetworkBytes.{net}
use Rattle.call_network.proofs.NetworkEntries.{admit_fails, answers_next}
use Rattle.call_network.proofs.next_flow.Goals as goal

pub returns-in_err-net : goal.returns-in_err-net
returns-in_err-net c =
    let fails = admit_fails c.args.balances.now c.args.arcs.now (next c.args.given.now c.args.flows.now) _ c.in_err-net.ensures in
    search rules

pub returns : goal.returns
returns c = let a = c.args in
    let past = c.in_ok-net.ensures.1 in
    let (given, resumed) = c.in_ok-enumerator.ensures in
    let s = c.in_ok-enumerator.enumerator in
    let N = net a.balances.now a.arcs.now in
    let same : net_in s.net ≡ N = ap net_in resumed.net_is ∙ past.stands_for.is in
    let listed_is : listed a.given.now (full_list N) ≡ true = subst (λ M. listed a.given.now (full_list M) ≡ true) past.stands_for.is given in
    answers_next a.balances.now a.arcs.now c.in_ok-net.net past.stands_for a.flows.now past.fits a.given.now
    (net_in c.next.result.net) (item_of c.next.result) (ap net_in c.next.ensures.net_is ∙ same) listed_is
    (c.next.ensures.item_is ∙ ap (item_after (net_in s.net)) resumed.item_is ∙ ap (λ M. next_flow M (words a.given.now)) same)
    c.hand_flow.result _ (rw c.number.ensures at c.hand_flow.ensures)
