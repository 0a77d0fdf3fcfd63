use Prim.Native.Nat.{◌<◌, ◌≤◌}
use mathlib.Core.Path.{◌≡◌}
use mathlib.Core.List.{[], ◌∷◌, ◌++◌}
use native.Mathlib.Omega.{arith}
use lib.ListN.{set}
use Rattle.book_lines.specs.Lines.{entry}
use Rattle.book_lines.specs.Passes.{entry_of, told}
use Rattle.text_read.proofs.Lines.{lines_none, lines_more, lines_all}
use Rattle.book_lines.proofs.EntryPass.{known_entries_none, known_entries_more}
use Rattle.book_lines.proofs.entries.read_entries.Goals as goal
use Rattle.book_lines.proofs.entries.read_entries.Goals.{then-count-lt28, else-count-lt28}

pub loop-e-init : goal.loop-e-init
loop-e-init c = ([], lines_none entry _, known_entries_none _ _)

pub returns : goal.returns
returns c = let v = c.loop-e.invariant in
    record {
      list = v.0;
      is = lines_all v.1 c.in_default.ensures;
      within = omega arith;
      count = v.2.count_is;
      bad = v.2.bad_is;
      entries_are = v.2.entries_are;
    }

pub loop-e-preserved : goal.loop-e-preserved
loop-e-preserved c =
    let stored : c.loop-e.count < 28 → c.if-count-lt28.entries ≡ set c.loop-e.entries c.loop-e.count (told c.args.total c.in-Some.e) = λ h. elim c.if-count-lt28.branch [
      | then-count-lt28 w ↦ rw w.told.ensures at w.entries-is
      | else-count-lt28 w ↦ absurd (omega (arith, h, w.if-count-lt28.false))
    ] in
    let passed_over : 28 ≤ c.loop-e.count → c.if-count-lt28.entries ≡ c.loop-e.entries = λ h. elim c.if-count-lt28.branch [
      | then-count-lt28 w ↦ absurd (omega (arith, h, w.if-count-lt28.true))
      | else-count-lt28 w ↦ w.entries-is
    ] in
    let v = c.loop-e.invariant in
    let r = c.in-Some.e in
    let t = c.loop-e.rest.now in
    let e = c.in-Some.ensures in (
      v.0 ++ (entry_of t r ∷ []),
      lines_more v.1 e.right,
      rw (c.first_bad-bad.ensures, c.is_fair.ensures)
          (known_entries_more _ _ v.0 _ _ _ _ _ t r v.2 stored passed_over e),
    )
