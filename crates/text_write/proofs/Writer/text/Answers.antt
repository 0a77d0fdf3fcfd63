use Rattle.std.proofs.Common.{◌+◌, ◌<◌, slice_index_or, add-one, take-suc, length-drop, length-set, length, arith}
use Rattle.laws.specs.Appended.{appended_one, appended_then}
use Rattle.text_write.proofs.Writer.text.Goals as goal

pub loop-byte-preserved : goal.loop-byte-preserved
loop-byte-preserved c =
    let l = c.loop-byte in
    let w = c.args.head.now in
    let before = length-drop l.byte-index w in
    let here : l.self.at < length l.self.out.now = omega (arith, l.invariant.1.fits, before, c.loop-byte-test.true) in (
      record {
        lent = l.invariant.0.lent;
        appended = rw (add-one l.byte-index, take-suc w l.byte-index 0 c.loop-byte-test.true) (appended_then l.invariant.0.appended (appended_one l.self.out.now l.self.at (slice_index_or w l.byte-index 0) here));
      },
      record { fits = omega (arith, l.invariant.1.fits, before, length-drop (l.byte-index + 1) w, length-set l.self.out.now l.self.at (slice_index_or w l.byte-index 0), c.loop-byte-test.true) },
    )
