use mathlib.Core.Path.{sym, ap, ◌∙◌}
use Prim.Native.Nat.{◌<◌}
use native.Mathlib.Omega.{arith}
use Rattle.laws.specs.Image.{map_option}
use Rattle.flow_enumerate.specs.Enumerator.{state_flow}
use Rattle.text_listing.proofs.Sizes.{none_size, refused_size}
use Rattle.book_check.proofs.Accepting.{accepted, accepted_holds, accepted_held}
use Rattle.way_theory.specs.WayFlow.{way_of}
use Rattle.call_reply.specs.Replies.{code_alone}
use Rattle.call_reply.proofs.Places.{no_item_by_test, is_item, an_item}
use Rattle.call_listing.proofs.Texts.{refusal_few, writes_none, writes_ways}
use Rattle.call_listing.proofs.write_listing.Goals as goal

pub put_alone-requires : goal.put_alone-requires
put_alone-requires c = let k = c.from.result in
    let few : k < 100 = omega (arith, c.from.ensures, c.number-number.ensures, c.in-Err.ensures.question, refusal_few c.args.book.now) in
    omega (arith, c.requires, refused_size k few)

pub start-requires : goal.start-requires
start-requires c = accepted_held (accepted c.in-Ok.ensures)

pub first-ways-requires : goal.first-ways-requires
first-ways-requires c = let past = accepted c.in-Ok.ensures in
    record { book = past.book; enumerates = (c.start.ensures.each past.book (accepted_holds past)).enumerates }

pub put_alone-requires-then-not-on_item : goal.put_alone-requires-then-not-on_item
put_alone-requires-then-not-on_item c = omega (arith, c.requires, none_size)

pub returns-then-not-on_item : goal.returns-then-not-on_item
returns-then-not-on_item c = let past = accepted c.in-Ok.ensures in
    let begun = (c.start.ensures.each past.book (accepted_holds past)).enumerates in
    let there = c.first-ways.ensures.each past.book begun in
    let w = c.first-ways.result in
    writes_none _ _ _ _ past.ok past.book past.parsed
    (sym there.way_is ∙ ap (map_option (way_of past.book)) (no_item_by_test w.flows.place (state_flow w.flows) (sym c.on_item.ensures ∙ c.if-not-on_item.true)))
    c.code_alone.result (c.code_alone.ensures ∙ ap code_alone c.number.ensures) c.put_alone-then-not-on_item.ensures

pub list-requires : goal.list-requires
list-requires c = let past = accepted c.in-Ok.ensures in
    let begun = (c.start.ensures.each past.book (accepted_holds past)).enumerates in
    let there = c.first-ways.ensures.each past.book begun in
    let on = sym c.on_item.ensures ∙ c.if-not-on_item.false in
    (record { book = past.book; enumerates = there.enumerates; first = there.way_is; on = is_item c.first-ways.result.flows.place on }, omega (arith, c.requires))

pub returns : goal.returns
returns c = let past = accepted c.in-Ok.ensures in
    let begun = (c.start.ensures.each past.book (accepted_holds past)).enumerates in
    let there = c.first-ways.ensures.each past.book begun in
    let w = c.first-ways.result in
    let on = sym c.on_item.ensures ∙ c.if-not-on_item.false in
    writes_ways _ _ _ _ past.ok past.book past.parsed (way_of past.book (state_flow w.flows))
    (sym there.way_is ∙ ap (map_option (way_of past.book)) (an_item w.flows.place (state_flow w.flows) on))
    (c.list.ensures.each past.book there.enumerates there.way_is)
