use mathlib.Core.Path.{refl}
use Prim.Native.Nat.{◌≤◌}
use native.Mathlib.Omega.{arith}
use mir.Syntax.{w64}
use mir.Facts.{to_z_pos}
use Rattle.laws.specs.Range.{fits}
use Rattle.call_sheets.proofs.AdmittedWay.{has_way}
use Rattle.call_sheets.proofs.Sheeting.{has_size_lem, too_short, has_room, written_few, written}
use Rattle.call_sheets.proofs.write_sheets.Goals as goal

pub join_ticks-ticks-requires : goal.join_ticks-ticks-requires
join_ticks-ticks-requires c = let (ok, h) = c.in_ok-checked.ensures in has_way _ _ _ h ok _ c.read_words-numbers.ensures

pub fits_in-requires : goal.fits_in-requires
fits_in-requires c = let (ok, h) = c.in_ok-checked.ensures in has_size_lem _ _ _ h ok _ c.read_words-numbers.ensures _ c.join_ticks-ticks.ensures

pub returns-then-not-fits_in : goal.returns-then-not-fits_in
returns-then-not-fits_in c =
    let (ok, h) = c.in_ok-checked.ensures in
    (too_short _ _ _ h ok _ c.read_words-numbers.ensures _ c.join_ticks-ticks.ensures c.args.text.now _ c.fits_in.ensures c.if-not-fits_in.true, refl)

pub put_sheets-n-requires : goal.put_sheets-n-requires
put_sheets-n-requires c =
    let (ok, h) = c.in_ok-checked.ensures in
    has_room _ _ _ h ok _ c.read_words-numbers.ensures _ c.join_ticks-ticks.ensures c.args.text.now _ c.fits_in.ensures c.if-not-fits_in.false

pub overflow_cast-n : goal.overflow_cast-n
overflow_cast-n c =
    let (ok, h) = c.in_ok-checked.ensures in
    let few : c.put_sheets-n.result ≤ 2212 =
    written_few _ _ _ h ok _ c.read_words-numbers.ensures _ c.join_ticks-ticks.ensures c.args.text.now _ c.fits_in.ensures c.if-not-fits_in.false _ _ c.put_sheets-n.ensures in
    simp fits (omega (arith, few))

pub returns : goal.returns
returns c =
    let (ok, h) = c.in_ok-checked.ensures in
    let few : c.put_sheets-n.result ≤ 2212 =
    written_few _ _ _ h ok _ c.read_words-numbers.ensures _ c.join_ticks-ticks.ensures c.args.text.now _ c.fits_in.ensures c.if-not-fits_in.false _ _ c.put_sheets-n.ensures in
    rw (c.value_alone.ensures, to_z_pos w64 {n = c.put_sheets-n.result} (omega (arith, few)))
    (written _ _ _ h ok _ c.read_words-numbers.ensures _ c.join_ticks-ticks.ensures c.args.text.now _ c.fits_in.ensures c.if-not-fits_in.false _ _ c.put_sheets-n.ensures)
