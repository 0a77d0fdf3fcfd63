use mathlib.Core.Path.{◌≡◌, sym, ap, ◌∙◌}
use mathlib.Core.Option.{some}
use native.Mathlib.Omega.{arith}
use lib.ListN.{length, take}
use Rattle.bytes_read.specs.Words.{encode_ints, over}
use Rattle.net_model.specs.Struct.{net_in}
use Rattle.flow_enumerate.specs.Enumerator.{item_of, state_flow}
use Rattle.call_reply.proofs.Places.{is_item, an_item}
use Rattle.call_reply.proofs.Room.{room_fits}
use Rattle.call_flow_bytes.proofs.Prices.{prices_held}
use borrow.Author.Rules.{rules}
use Rattle.call_flow_bytes.proofs.hand_prices.Goals as goal

pub prices-requires : goal.prices-requires
prices-requires c = (c.requires.0, is_item c.args.enumerator.now.place (sym c.on_item.ensures ∙ c.if-on_item.true))

pub returns-then-on_item : goal.returns-then-on_item
returns-then-on_item c = let s = c.args.enumerator.now in
    let n = s.net.nodes in
    let ps = c.prices.result in
    let out = c.args.prices.now in
    let e : item_of s ≡ some (state_flow s) = an_item s.place (state_flow s) (sym c.on_item.ensures ∙ c.if-on_item.true) in
    let k : length ps ≡ 64 = search rules in
    rw e (
      take n ps,
      prices_held (net_in s.net) (state_flow s) n ps c.prices.type_inv.0 c.requires.0.sound.nodes_held
          (omega (arith, k, c.requires.0.sound.nodes_held, c.requires.0.sound.accepted.few_nodes)) c.prices.type_inv.1.1 c.prices.ensures.prices,
      ap some (c.write_ints.ensures ∙ ap (λ m. over (encode_ints (take m ps)) out) (room_fits n out c.requires.1)),
    )
