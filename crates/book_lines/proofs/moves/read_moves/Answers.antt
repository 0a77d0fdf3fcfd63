use mathlib.Core.List.{[], ◌∷◌, ◌++◌}
use native.Mathlib.Omega.{arith}
use Rattle.book_lines.specs.Lines.{move}
use Rattle.text_read.proofs.Lines.{lines_none, lines_more, lines_all}
use Rattle.book_lines.proofs.MovePass.{known_moves_none, known_moves_more}
use Rattle.book_lines.proofs.moves.read_moves.Goals as goal

pub loop-m-init : goal.loop-m-init
loop-m-init c = ([], lines_none move _, known_moves_none)

pub returns : goal.returns
returns c =
    let v = c.loop-m.invariant in
    record {
      list = v.0;
      is = lines_all v.1 c.in_default.ensures;
      within = omega arith;
      few = omega (arith, v.1.shorter);
      line = v.2.line_is;
      bad = v.2.bad_is;
      table_is = v.2.table_is;
    }

pub loop-m-preserved : goal.loop-m-preserved
loop-m-preserved c =
    let v = c.loop-m.invariant in
    let m = c.in-Some.m in (
      v.0 ++ (m ∷ []),
      lines_more v.1 c.in-Some.ensures,
      rw c.first_bad-bad.ensures (known_moves_more v.0 m _ _ _ _ _ v.2 c.put_move-passes.ensures),
    )
