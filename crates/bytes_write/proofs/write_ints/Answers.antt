use Rattle.std.proofs.Common.{◌/◌, length, take, map, ap, ◌∙◌}
use Rattle.std.proofs.lemmas.List.{take-map, take_min}
use Rattle.bytes_read.specs.Words.{unsigned, encode_words, over}
use Rattle.bytes_write.proofs.Writing.{take_twice}
use Rattle.bytes_write.proofs.write_ints.Goals as goal

pub returns : goal.returns
returns c =
    let xs = c.args.xs.now in
    let out = c.args.out.now in
    let n = length out / 4 in
    c.write_numbers.ensures ∙ ap (λ l. over (encode_words l) out) (rw (c.min.ensures, take_min c.args.m xs) (take-map unsigned n (take c.args.m xs) ∙ ap (map unsigned) (take_twice n c.args.m xs)))
