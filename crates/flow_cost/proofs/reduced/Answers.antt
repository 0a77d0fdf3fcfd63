use native.Mathlib.Omega.{arith}
use Rattle.std.proofs.lemmas.Int.{ints}
use Rattle.flow_cost.proofs.reduced.Goals as goal

pub returns : goal.returns
returns c =
    let p = c.requires.3.label_small _ c.requires.1 in
    let q = c.requires.3.label_small _ c.requires.2 in
    rw (c.from-2.ensures, c.from-3.ensures) (omega (arith, ints))
