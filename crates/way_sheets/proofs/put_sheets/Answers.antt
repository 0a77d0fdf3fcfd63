use Rattle.std.proofs.Common.{◌≡◌, refl, ap, List, ℕ, ◌+◌, ◌-◌, ◌≤◌, ◌<◌, length, take, get_or, arith, rules}
use Rattle.laws.specs.Padded.{padded}
use Rattle.book_lines.specs.Columns.{blank_entry}
use Rattle.book_form.specs.declared.CheckedBook.{CheckedBook}
use Rattle.text_write.proofs.Writing.{writes_then, room_first, room_then}
use Rattle.way_parts.specs.Parts.{playing_order}
use Rattle.way_gaps.specs.declared.JoinTicks.{JoinTicks}
use Rattle.way_sheets.specs.Writing.{HasRoom}
use Rattle.way_sheets.proofs.Turn.{put_none, begun_few, acyclic, as_long, entry_inside, name_inside, put_room, put_more, last_room, written, sheets_held}
use Rattle.way_sheets.proofs.put_sheets.Goals as goal

-- the entry of a turn is one of the way, and its name lies in the bytes
module _ (s : List ℕ) (b : CheckedBook) (w : List ℕ) (x : List JoinTicks) (room : ℕ) (roomy : HasRoom s b w x room) (order : List ℕ) (o : order ≡ padded 28 0 (playing_order w)) where
  all : length (take (length w) order) ≡ length w
  all = as_long s b w x room roomy (take (length w) order) (ap (take (length w)) o)

  module _ (k : ℕ) (h : k < length (take (length w) order)) where
    abbrev entry : ℕ
    entry = get_or (take (length w) order) k 0

    inside : (1 ≤ entry) × (entry ≤ length w) × (length w ≤ 28)
    inside = let e = entry_inside s b w x room roomy (take (length w) order) (ap (take (length w)) o) k h in (e.0, e.1, (acyclic s b w x room roomy).few)

    named : let e = get_or b.entries (entry - 1) blank_entry in e.name + e.length ≤ length s
    named = let e = entry_inside s b w x room roomy (take (length w) order) (ap (take (length w)) o) k h in name_inside s b w x room roomy entry e.0 e.2

pub playing_order-order-requires : goal.playing_order-order-requires
playing_order-order-requires c = acyclic _ _ _ _ _ c.requires

pub loop-number-init : goal.loop-number-init
loop-number-init c = put_none _ _ _ refl

pub overflow_sub-j : goal.overflow_sub-j
overflow_sub-j c = omega (arith, inside _ _ _ _ _ c.requires _ c.playing_order-order.ensures _ c.loop-number-test.true)

pub bounds-way-j : goal.bounds-way-j
bounds-way-j c = omega (arith, inside _ _ _ _ _ c.requires _ c.playing_order-order.ensures _ c.loop-number-test.true)

pub bounds-book-j : goal.bounds-book-j
bounds-book-j c = omega (arith, inside _ _ _ _ _ c.requires _ c.playing_order-order.ensures _ c.loop-number-test.true)

pub overflow_add-name : goal.overflow_add-name
overflow_add-name c = omega (arith, named _ _ _ _ _ c.requires _ c.playing_order-order.ensures _ c.loop-number-test.true)

pub slice_bounds-name-end : goal.slice_bounds-name-end
slice_bounds-name-end c = named _ _ _ _ _ c.requires _ c.playing_order-order.ensures _ c.loop-number-test.true

pub bounds-ticks-j : goal.bounds-ticks-j
bounds-ticks-j c = omega (arith, inside _ _ _ _ _ c.requires _ c.playing_order-order.ensures _ c.loop-number-test.true)

pub put_lead-requires : goal.put_lead-requires
put_lead-requires c =
    let d = c.loop-number.invariant in (
      omega (arith, begun_few _ _ _ _ _ c.requires d, inside _ _ _ _ _ c.requires _ c.playing_order-order.ensures _ c.loop-number-test.true, all _ _ _ _ _ c.requires _ c.playing_order-order.ensures, c.loop-number-test.true),
      room_first _ _ (put_room _ _ _ _ _ c.requires _ (ap (take (length c.args.way.now)) c.playing_order-order.ensures) _ c.loop-number-test.true d refl (omega arith)),
    )

pub put_play_line-requires : goal.put_play_line-requires
put_play_line-requires c =
    room_then _ _ c.put_lead.ensures
    (put_room _ _ _ _ _ c.requires _ (ap (take (length c.args.way.now)) c.playing_order-order.ensures) _ c.loop-number-test.true c.loop-number.invariant refl (omega arith))

pub begun-n-requires : goal.begun-n-requires
begun-n-requires c =
    omega (arith, begun_few _ _ _ _ _ c.requires c.loop-number.invariant, inside _ _ _ _ _ c.requires _ c.playing_order-order.ensures _ c.loop-number-test.true, all _ _ _ _ _ c.requires _ c.playing_order-order.ensures, c.loop-number-test.true)

pub loop-number-preserved : goal.loop-number-preserved
loop-number-preserved c =
    put_more _ _ _ _ _ c.requires _ (ap (take (length c.args.way.now)) c.playing_order-order.ensures) _ c.loop-number-test.true c.loop-number.invariant
    (writes_then c.put_lead.ensures c.put_play_line.ensures) c.begun-n.ensures

pub put_closing-requires : goal.put_closing-requires
put_closing-requires c = last_room _ _ _ _ _ c.requires c.loop-number.invariant (omega (arith, c.loop-number-test.false, all _ _ _ _ _ c.requires _ c.playing_order-order.ensures)) refl (omega arith)

pub returns : goal.returns
returns c =
    sheets_held (search rules)
    (written _ _ _ _ _ c.requires c.loop-number.invariant (omega (arith, c.loop-number-test.false, all _ _ _ _ _ c.requires _ c.playing_order-order.ensures)) refl c.put_closing.ensures)
