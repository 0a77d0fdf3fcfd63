use Rattle.std.proofs.Common.{rules, to_z, of_z, w64}
use mathlib.Core.Path.{◌≡◌, sym, ap, ◌∙◌}
use Rattle.call_reply.specs.Replies.{value_alone}
use Rattle.call_reply.proofs.Places.{is_item}
use Rattle.call_way_bytes.proofs.HandingWays.{hands_way}
use Rattle.call_way_bytes.proofs.hand_way.Goals as goal

pub returns : goal.returns
returns c = let ways = c.args.ways.now in
    let on = is_item ways.flows.place (sym c.on_item.ensures ∙ c.if-not-on_item.false) in
    let kept : to_z w64 (of_z w64 ways.flows.cost) ≡ ways.flows.cost = search rules in
    hands_way ways c.args.code c.args.way.now _ on c.way-numbers.result _ c.way-numbers.ensures c.hand_numbers.ensures.list_is (c.hand_numbers.ensures.reply_is ∙ ap value_alone kept)
