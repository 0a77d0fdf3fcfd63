use Rattle.std.proofs.Common.{◌≡◌, refl, rules, arith, ℕ, ℤ, map, pos, true, false, ◌/◌, length, get_or}
use Rattle.std.specs.List.{range_with_len}
use Rattle.std.proofs.lemmas.Iterator.{cases_from_all, YieldsList-from_range, YieldsList-from_map}
use Rattle.std.proofs.lemmas.Iterator.Consumers.{YieldsList-at}
use Rattle.bytes_read.specs.Words.{ints}
use Rattle.bytes_read.proofs.Words.{length_ints}
use Rattle.net_questions.specs.Questions.{fair_balance}
use Rattle.net_questions.proofs.Rows.{by_places, all_by_run}
use Rattle.net_questions.proofs.all_balanced.Goals as goal

pub returns : goal.returns
returns c = let bs = c.args.balances.now in
    let n = length bs / 4 in
    let read : ℕ → ℤ = λ v. get_or (ints bs) v (pos 0) in
    all_by_run fair_balance (map read (range_with_len 0 n)) (ints bs) (by_places (ints bs) (pos 0) n (length_ints bs)) c.all.result
    (cases_from_all _ _ _ (λ b. fair_balance b ≡ true) (λ b. fair_balance b ≡ false) c.all.ensures.ran
    (YieldsList-from_map _ read (YieldsList-at c.map.ensures.source (YieldsList-from_range 0 n n refl (omega arith))) c.map.ensures.closure (λ v b q k. search rules)) (λ b q k. search rules) (λ b q k. search rules))
