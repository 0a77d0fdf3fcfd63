use mathlib.Core.Path.{◌≡◌, refl, subst}
use mathlib.Core.List.{[]}
use native.Mathlib.Omega.{arith}
use mathlib.Core.Bool.{false}
use Prim.Native.Nat.{ℕ}
use Rattle.std.proofs.Common.{Option, Some, None}
use Rattle.std.specs.Option.{is_some, unwrap_or}
use Rattle.net_model.specs.Struct.{net_from}
use Rattle.flow_relax.proofs.Rounds.{zero_at}
use Rattle.flow_prices.proofs.Pricing.{Pricing, pricing_start, pricing_more, prices_unchanged, prices_all}
use Rattle.flow_prices.proofs.prices.Goals as goal

pub loop-k-init : goal.loop-k-init
loop-k-init c = pricing_start (net_from [] c.args.arcs.now) c.args.flow.now c.requires.0 _ refl (zero_at 64)

pub loop-k-preserved : goal.loop-k-preserved
loop-k-preserved c = pricing_more (net_from [] c.args.arcs.now) c.args.flow.now c.requires.0 c.loop-k.least c.loop-k._k c.loop-k.invariant _ _ c.round.ensures (omega arith)

pub returns : goal.returns
returns c =
    let e : c.loop-k._k ≡ 64 = omega (arith, c.loop-k.invariant.upto) in
    prices_all (net_from [] c.args.arcs.now) c.args.flow.now c.requires.0 c.loop-k.least (subst (Pricing (net_from [] c.args.arcs.now) c.args.flow.now c.loop-k.least) e c.loop-k.invariant) c.requires.1

-- no node
unwrap_none : (r : Option ℕ) → is_some r ≡ false → unwrap_or r 64 ≡ 64
unwrap_none None e = refl
unwrap_none (Some v) e = absurd (cc)

pub returns-then-is_none : goal.returns-then-is_none
returns-then-is_none c =
    prices_unchanged (net_from [] c.args.arcs.now) c.args.flow.now c.requires.0 c.loop-k.least c.loop-k._k c.loop-k.invariant _ 64 (rw (unwrap_none c.round.result c.if-is_none.ensures) at c.round.ensures) refl
