use mathlib.Core.Path.{sym}
use Prim.Native.Nat.{◌≤◌}
use native.Mathlib.Omega.{arith}
use lib.Seq.{length-take-le}
use mir.Syntax.{w64}
use mir.Facts.{to_z_pos}
use Rattle.laws.specs.Range.{fits}
use Rattle.call_sheets.proofs.AdmittedWay.{inside, has_way}
use Rattle.call_sheets.proofs.Sheeting.{has_size_lem, size_few, room_told}
use Rattle.call_sheets.proofs.room.Goals as goal

pub slice_bounds-numbers-end : goal.slice_bounds-numbers-end
slice_bounds-numbers-end c = let (ok, h) = c.in-Ok.ensures in inside _ _ _ h ok _ c.read_words-numbers.ensures

pub slice_bounds-way-end : goal.slice_bounds-way-end
slice_bounds-way-end c = let (ok, h) = c.in-Ok.ensures in sym (length-take-le _ c.read_words-numbers.result (inside _ _ _ h ok _ c.read_words-numbers.ensures))

pub join_ticks-ticks-requires : goal.join_ticks-ticks-requires
join_ticks-ticks-requires c = let (ok, h) = c.in-Ok.ensures in has_way _ _ _ h ok _ c.read_words-numbers.ensures

pub size_of-n-requires : goal.size_of-n-requires
size_of-n-requires c = let (ok, h) = c.in-Ok.ensures in has_size_lem _ _ _ h ok _ c.read_words-numbers.ensures _ c.join_ticks-ticks.ensures

pub overflow_cast-n : goal.overflow_cast-n
overflow_cast-n c =
    let (ok, h) = c.in-Ok.ensures in
    let few : c.size_of-n.result ≤ 2212 = size_few _ _ _ h ok _ c.read_words-numbers.ensures _ c.join_ticks-ticks.ensures _ c.size_of-n.ensures in
    simp fits (omega (arith, few))

pub returns-in-Ok : goal.returns-in-Ok
returns-in-Ok c =
    let (ok, h) = c.in-Ok.ensures in
    let few : c.size_of-n.result ≤ 2212 = size_few _ _ _ h ok _ c.read_words-numbers.ensures _ c.join_ticks-ticks.ensures _ c.size_of-n.ensures in
    rw (c.value_alone.ensures, to_z_pos w64 {n = c.size_of-n.result} (omega (arith, few)))
    (room_told _ _ _ h ok _ c.read_words-numbers.ensures _ c.join_ticks-ticks.ensures _ c.size_of-n.ensures)
