use Rattle.std.proofs.Common.{arith, rules, tests, ◌≡◌, ◌≢◌, ◌<◌, ℕ, pos, Bool, true, false, List, ℤ, length, get_or}
use Rattle.std.specs.Prelude.{MatchBool}
use Rattle.std.specs.List.{HoldsAt, AllWithin}
use Rattle.std.proofs.lemmas.Iterator.{cases_from_all, YieldsList-from_slice}
use Rattle.flow_test.specs.FlowTest.{Decides}
use Rattle.flow_test.proofs.all_zero.Goals as goal

zeros : (r : Bool) (xs : List ℤ) → MatchBool r (AllWithin (λ x. x ≡ pos 0) xs 0 (length xs)) ((k : ℕ) × (k < length xs) × HoldsAt (λ x. x ≢ pos 0) xs k)
    → Decides ((v : ℕ) → v < length xs → get_or xs v (pos 0) ≡ pos 0) r
zeros true xs h = λ v k. h v (pos 0) (omega arith) k
zeros false xs h = λ all. h.2 (pos 0) (all h.0 h.1)

pub returns : goal.returns
returns c =
    zeros _ _ (cases_from_all _ _ _ (λ x. x ≡ pos 0) (λ x. x ≢ pos 0) c.all.ensures.ran (YieldsList-from_slice c.args.excess.now cc) (λ x q k. search (rules, tests)) (λ x q k. search (rules, tests)))
