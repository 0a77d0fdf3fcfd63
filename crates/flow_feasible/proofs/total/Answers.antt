use Rattle.std.proofs.Common.{◌≡◌, ℕ, suc, ◌*◌, ◌+◌, ◌<◌, List, get_or, ℤ, pos, ◌+ℤ◌, ◌∙◌, add-one, arith, rules}
use mir.Syntax.{w32, w64}
use mir.Val.{SFits, to_z, of_z}
use mir.Facts.{to_z-of_z}
use Rattle.laws.specs.Range.{Bounded, bounded_add, bounded_fits}
use Rattle.laws.specs.Sum.{sum, sum_within}
use Rattle.flow_feasible.proofs.total.Goals as goal

more_fits : (b : List ℤ) (i : ℕ) (x y : ℤ) → ((v : ℕ) → Bounded 1000000000 (get_or b v (pos 0))) → i < 64 → x ≡ sum i (λ v. get_or b v (pos 0)) → y ≡ get_or b i (pos 0) → SFits w64 (x +ℤ y)
more_fits b i x y small h p q =
    rw (p, q) (bounded_fits w64 (i * 1000000000 + 1000000000) (sum i (λ v. get_or b v (pos 0)) +ℤ get_or b i (pos 0)) (bounded_add (sum_within i 1000000000 (λ v. get_or b v (pos 0)) (λ v _. small v)) (small i)) (omega arith))

more-is : (b : List ℤ) (i : ℕ) (x y : ℤ) → x ≡ sum i (λ v. get_or b v (pos 0)) → y ≡ get_or b i (pos 0) → x +ℤ y ≡ sum (suc i) (λ v. get_or b v (pos 0))
more-is b i x y p q = rw (p, q)

pub overflow_add-sum : goal.overflow_add-sum
overflow_add-sum c =
    let a = c.loop-balance in
    let term_is : to_z w64 (of_z w64 c.from-sum.result) ≡ get_or c.args.balances.now a.balance-index (pos 0) = to_z-of_z {w = w64} (record { sfits = c.from-sum.type_inv }) ∙ c.from-sum.ensures ∙ to_z-of_z {w = w32} (search rules) in
    more_fits c.args.balances.now a.balance-index _ _ c.requires.1 (omega arith) a.invariant term_is

pub loop-balance-preserved : goal.loop-balance-preserved
loop-balance-preserved c =
    let a = c.loop-balance in
    let term_is : to_z w64 (of_z w64 c.from-sum.result) ≡ get_or c.args.balances.now a.balance-index (pos 0) = to_z-of_z {w = w64} (record { sfits = c.from-sum.type_inv }) ∙ c.from-sum.ensures ∙ to_z-of_z {w = w32} (search rules) in
    rw add-one (to_z-of_z (more_fits c.args.balances.now a.balance-index _ _ c.requires.1 (omega arith) a.invariant term_is) ∙ more-is c.args.balances.now a.balance-index _ _ a.invariant term_is)
