-- `text_read::read_word` meets its contract: the longest front of letters and digits, if it is short.
use Rattle.std.proofs.Common.{sym, ◌∙◌}
use Rattle.text_read.proofs.Runs.{short_within, short_stands, short_fails}
use Rattle.text_read.proofs.read_word.Goals as goal

pub split_at-requires : goal.split_at-requires
split_at-requires c = short_within _ c.min.ensures c.count_word_bytes.ensures

pub returns-then-is_short : goal.returns-then-is_short
returns-then-is_short c =
    let front = c.split_at.ensures.front in
    rw (front, c.split_at.ensures.back) (short_stands c.args.rest.now c.min.ensures c.count_word_bytes.ensures (rw front at (sym c.is_short.ensures ∙ c.if-is_short.true)))

pub returns-else-is_short : goal.returns-else-is_short
returns-else-is_short c = short_fails c.args.rest.now c.min.ensures c.count_word_bytes.ensures (rw c.split_at.ensures.front at (sym c.is_short.ensures ∙ c.if-is_short.false))
