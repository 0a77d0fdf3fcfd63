use mathlib.Core.Path.{sym}
use Prim.Native.Nat.{◌≤◌}
use lib.ListN.{length}
use lib.Seq.{length-take-le}
use Rattle.call_listing.proofs.Texts.{in_room, prints}
use Rattle.call_listing.proofs.printed.Goals as goal

pub slice_bounds-room-end : goal.slice_bounds-room-end
slice_bounds-room-end c =
    let inside : c.write_listing-written.result.len ≤ length c.write_listing-written.new.out = in_room c.args.book.now _ c.write_listing-written.new.out c.blank-room.ensures c.write_listing-written.result c.write_listing-written.ensures in
    inside

pub slice_bounds-copy_if_room-end : goal.slice_bounds-copy_if_room-end
slice_bounds-copy_if_room-end c =
    let inside : c.write_listing-written.result.len ≤ length c.write_listing-written.new.out = in_room c.args.book.now _ c.write_listing-written.new.out c.blank-room.ensures c.write_listing-written.result c.write_listing-written.ensures in
    sym (length-take-le c.write_listing-written.result.len c.write_listing-written.new.out inside)

pub returns : goal.returns
returns c = let a = c.args in
    prints a.book.now _ c.write_listing-written.new.out c.blank-room.ensures c.write_listing-written.result c.write_listing-written.ensures a.text.now
    c.copy_if_room.new.out c.copy_if_room.ensures
