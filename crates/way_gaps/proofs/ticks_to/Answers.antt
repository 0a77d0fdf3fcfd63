use native.Mathlib.Omega.{arith}
use Rattle.way_gaps.proofs.Filling.{ticks_found}
use Rattle.way_gaps.proofs.ticks_to.Goals as goal

pub returns : goal.returns
returns c =
    let (_, p, q, r) = c.requires in
    ticks_found _ _ (omega (arith, c.if-i-eq0.false)) p q r _ c.saturating_sub.ensures _ c.spare_of-spare.ensures _ c.ticks_told.ensures
