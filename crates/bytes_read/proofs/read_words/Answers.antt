use Rattle.std.proofs.Common.{◌≡◌, ℕ, ◌<◌, ◌/◌, [], length, get_or, take, min, ap, ◌∙◌, arith}
use Rattle.std.proofs.lemmas.List.{map-id, get_or-take, length-take, take_min}
use Rattle.std.specs.Simd.{first_chunks}
use Rattle.laws.specs.Padded.{padded, filled_more}
use Rattle.bytes_read.specs.Words.{words}
use Rattle.bytes_read.proofs.Words.{word_of_chunk, length_words}
use Rattle.bytes_read.proofs.read_words.Goals as goal

pub loop-i-preserved : goal.loop-i-preserved
loop-i-preserved c =
    let b = c.args.b.now in
    let i = c.loop-i.i in
    let m = c.min-m.result in
    let fours = c.as_chunks.result.0.now in
    let few : (i < m) × (i < 512) × (i < length b / 4) = omega (arith, length-take m fours, c.as_chunks.ensures.front_len, c.min-m.ensures) in
    let taken : get_or (take m fours) i [] ≡ get_or (first_chunks 4 (length b / 4) b) i [] = rw c.as_chunks.ensures.front (get_or-take m (first_chunks 4 (length b / 4) b) i [] few.0) in
    filled_more (λ (n : ℕ). n) (words b) 512 0 0 i c.loop-i.r c.from_le_bytes.result c.loop-i.invariant
    (omega (arith, length_words b, few.2)) few.1 (c.from_le_bytes.ensures ∙ word_of_chunk b i (get_or (take m fours) i []) few.2 taken)

pub returns : goal.returns
returns c =
    let b = c.args.b.now in
    let i = c.loop-i.i in
    let e : i ≡ min 512 (length (words b)) = omega (arith, length_words b, length-take c.min-m.result c.as_chunks.result.0.now, c.as_chunks.ensures.front_len, c.min-m.ensures) in
    c.loop-i.invariant ∙ ap (padded 512 0) (map-id (take i (words b)) ∙ ap (λ k. take k (words b)) e ∙ take_min 512 (words b))
