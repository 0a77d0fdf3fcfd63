use mathlib.Core.Path.{◌≡◌, sym, ap, ◌∙◌}
use Prim.Native.Nat.{ℕ, ◌+◌, ◌≤◌, ◌<◌}
use native.Mathlib.Omega.{arith}
use borrow.Author.Tests.{lt-leb, le-leb}
use Rattle.laws.specs.Count.{exactly, more, counted}
use Rattle.flow_enumerate.specs.Enumerator.{state_net}
use Rattle.flow_enumerate.specs.declared.Place.TheVariants.{None}
use Rattle.flow_enumerate.proofs.Steps.{counts_item}
use Rattle.flow_enumerate.proofs.Enumerator.count.Goals as goal

within : (cap m : ℕ) → m ≤ cap → counted cap m ≡ exactly m
within cap m h = rw (le-leb m cap h)

beyond : (cap m : ℕ) → cap < m → counted cap m ≡ more
beyond cap m h = rw (lt-leb m cap h)

pub returns-in-Some : goal.returns-in-Some
returns-in-Some c =
    let s = c.first-first in
    let m = s.ensures.stands.marked c.in-Item.is in
    let all = rw c.arcs.ensures at c.in-Some.ensures.counts in
    let few : c.from.result ≤ c.args.cap = omega (arith, c.in-Some.ensures.few, c.from.ensures) in (
      omega arith,
      counts_item c.args.self s.result None s.ensures c.in-Item.is c.args.cap c.from.result
          (λ e. within c.args.cap c.from.result few ∙ ap exactly c.from.ensures ∙ sym (all (state_net s.result).balances (state_net s.result).costs m.potential m.marks e).0),
    )

pub returns-in-None : goal.returns-in-None
returns-in-None c =
    let s = c.first-first in
    let m = s.ensures.stands.marked c.in-Item.is in
    let all = rw c.arcs.ensures at c.in-None.ensures.counts in (
      omega arith,
      counts_item c.args.self s.result None s.ensures c.in-Item.is c.args.cap (c.from-in-None.result + 1)
          (λ e. beyond c.args.cap (c.from-in-None.result + 1) (omega arith) ∙ sym (all (state_net s.result).balances (state_net s.result).costs m.potential m.marks e).0),
    )
