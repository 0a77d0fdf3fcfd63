use Rattle.std.proofs.Common.{[], sym, ◌∙◌, arith, w32}
use mir.Facts.{to_z-of_z}
use Rattle.bytes_read.proofs.Words.{number_read, ints_past}
use Rattle.bytes_read.proofs.read_i32.Goals as goal

pub returns-in-Some : goal.returns-in-Some
returns-in-Some c =
    let front = c.as_chunks.ensures.front_len in
    rw (to_z-of_z {w = w32} (record { sfits = c.from_le_bytes.type_inv }))
    (c.from_le_bytes.ensures ∙ sym (number_read c.args.b.now c.args.i _ c.in-Some.four.now c.as_chunks.ensures.front (omega (arith, c.in-Some.ensures.lookup.3.0, front)) (c.in-Some.ensures.lookup.3.1 [])))

pub returns-in-None : goal.returns-in-None
returns-in-None c = sym (ints_past c.args.b.now c.args.i (omega (arith, c.in-None.ensures.lookup.3, c.as_chunks.ensures.front_len)))
