-- By the line of the two instruments.
use Rattle.way_joins.proofs.Lookup.{told_stay, told_none, told_line, pair, roads}
use Rattle.way_joins.proofs.road_between.Goals as goal

pub place_of-requires : goal.place_of-requires
place_of-requires c =
    let (h, p, q, r, s) = c.requires in
    let x = pair h _ _ p q r s in
    (x.source_low, x.source_high, x.target_low, x.target_high)

pub returns-in-None : goal.returns-in-None
returns-in-None c =
    let (h, p, q, r, s) = c.requires in
    roads h _ _ p q r s c.if-i-j.false _ c.place_of.ensures.0 _ (told_stay _ _ _ c.in-None.is c.if-a-b.true)

pub returns-in_default : goal.returns-in_default
returns-in_default c =
    let (h, p, q, r, s) = c.requires in
    roads h _ _ p q r s c.if-i-j.false _ c.place_of.ensures.0 _ (told_none _ _ _ c.in-None.is c.if-a-b.false)

pub returns-in_default-2 : goal.returns-in_default-2
returns-in_default-2 c =
    let (h, p, q, r, s) = c.requires in
    roads h _ _ p q r s c.if-i-j.false _ c.place_of.ensures.0 _ (told_line _ _ _ c.in_default.is)
