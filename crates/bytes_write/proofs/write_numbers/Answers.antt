use Rattle.std.proofs.Common.{◌≡◌, ◌*◌, ◌+◌, ◌<◌, ◌/◌, ◌≤◌, length, take, map, min, ap, ◌∙◌, arith, length-take}
use Rattle.std.proofs.lemmas.List.{length-map, take_min}
use Rattle.bytes_read.specs.Words.{encode_words, over}
use Rattle.bytes_write.proofs.Writing.{written_more, length_over, word_of_item}
use Rattle.bytes_write.proofs.write_numbers.Goals as goal

pub loop-i-preserved : goal.loop-i-preserved
loop-i-preserved g c =
    let words = map g.T.Word.word c.args.xs.now in
    let out = c.args.out.now in
    let i = c.loop-i.i in
    let k = c.min-k.result in
    let few : (i < k) × (i < length c.args.xs.now) × (4 * i + 4 ≤ length out) = omega (arith, length-take k c.args.xs.now, c.min-k.ensures) in
    let long : length words ≡ length c.args.xs.now = length-map c.args.xs.now g.T.Word.word in
    let is = written_more words out c.loop-i.out c.copy_from_slice.new.self i _ c.word.result c.loop-i.invariant.is (omega arith) (omega arith)
    (c.copy_from_slice.ensures.after ∙ c.to_le_bytes.ensures) (c.word.ensures ∙ word_of_item g.T.Word.word c.args.xs.now k i c.x-item.result few.0 few.1 c.x-item.is) in
    record { is = is; long = ap length is ∙ length_over words out (i + 1) (omega arith) (omega arith) }

pub returns : goal.returns
returns g c =
    let words = map g.T.Word.word c.args.xs.now in
    let n = length c.args.out.now / 4 in
    let e : c.loop-i.i ≡ min n (length words) = omega (arith, length-map c.args.xs.now g.T.Word.word, length-take c.min-k.result c.args.xs.now, c.min-k.ensures) in
    c.loop-i.invariant.is ∙ ap (λ l. over (encode_words l) c.args.out.now) (ap (λ k. take k words) e ∙ take_min n words)
