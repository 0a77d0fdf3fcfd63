use Prim.Native.Nat.{◌≤◌}
use native.Mathlib.Omega.{arith}
use mir.Syntax.{w64}
use mir.Facts.{to_z_pos}
use Rattle.way_list.specs.Room.{listing_room}
use Rattle.call_listing.proofs.Texts.{few, lists, lists_nothing}
use Rattle.call_listing.proofs.list.Goals as goal

pub returns-in-Some : goal.returns-in-Some
returns-in-Some c = lists_nothing c.args.book.now _ c.write_listing-written.new.out c.blank-room.ensures c.write_listing-written.result c.write_listing-written.ensures
    c.args.text.now c.in-Some.reply c.in-Some.is

pub returns : goal.returns
returns c =
    let a = c.args in
    let w = c.write_listing-written in
    let short : w.result.len ≤ listing_room = few a.book.now _ w.new.out c.blank-room.ensures w.result w.ensures in
    rw (c.value_alone.ensures, to_z_pos w64 {n = w.result.len} (omega (arith, short)))
    (lists a.book.now _ w.new.out c.blank-room.ensures w.result w.ensures a.text.now c.copy_if_room.new.out c.in_default.is c.copy_if_room.ensures)
