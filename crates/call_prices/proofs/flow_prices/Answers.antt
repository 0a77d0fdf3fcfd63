use Rattle.std.proofs.Common.{◌≡◌, length, subst, true, ap, ◌∙◌, rules}
use Rattle.net_model.specs.FullList.{full_list}
use Rattle.net_model.specs.Struct.{net_in}
use Rattle.flow_enumerate.specs.Enumerator.{item_of}
use Rattle.call_reply.specs.ByteLists.{listed}
use Rattle.call_flow_bytes.specs.FlowSteps.{StandsFor}
use Rattle.call_flow_bytes.proofs.Admitting.{stands_for}
use Rattle.call_prices.specs.PriceCall.{prices_question}
use Rattle.call_prices.proofs.Answers.{strange, answers}
use Rattle.call_prices.proofs.flow_prices.Goals as goal

pub resume_flow-requires : goal.resume_flow-requires
resume_flow-requires c = (stands_for c.args.balances.now c.args.arcs.now c.in_ok-net.net c.in_ok-net.ensures.0 c.in_ok-net.ensures.1).sound

pub returns : goal.returns
returns c = let a = c.args in
    let past : StandsFor a.balances.now a.arcs.now c.in_ok-net.net = stands_for a.balances.now a.arcs.now c.in_ok-net.net c.in_ok-net.ensures.0 c.in_ok-net.ensures.1 in
    let (given, resumed) = c.in_ok-enumerator.ensures in
    let s = c.in_ok-enumerator.enumerator in
    rw c.value_alone.ensures
    (answers a.balances.now a.arcs.now a.given.now a.prices.now c.in_ok-net.net past c.in_ok-ask_room.ensures
    (net_in s.net) (item_of s) (ap net_in resumed.net_is ∙ past.is) (subst (λ M. listed a.given.now (full_list M) ≡ true) past.is given) resumed.item_is
    _ (search rules) _ c.hand_prices.ensures)

pub returns-in_err-enumerator : goal.returns-in_err-enumerator
returns-in_err-enumerator c = let a = c.args in
    let past : StandsFor a.balances.now a.arcs.now c.in_ok-net.net = stands_for a.balances.now a.arcs.now c.in_ok-net.net c.in_ok-net.ensures.0 c.in_ok-net.ensures.1 in
    let (not_listed, refusal_is) = c.in_err-enumerator.ensures in
    let eight : prices_question a.balances.now a.arcs.now a.given.now (length a.prices.now) ≡ 8 = strange a.balances.now a.arcs.now a.given.now a.prices.now c.in_ok-net.net past c.in_ok-ask_room.ensures not_listed in
    let told = c.from_residual-in_err-enumerator.ensures in
    search (rules, eight, refusal_is, told)
