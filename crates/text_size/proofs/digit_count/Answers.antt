-- A number of 32 bits has at most ten digits.
use Rattle.std.proofs.Common.{rules, arith, ◌≡◌, leb, ap, ◌∙◌, [], ◌∷◌}
use Rattle.std.specs.List.{count_by}
use Rattle.text_size.proofs.Digits.{digits_counted}
use Rattle.text_size.proofs.digit_count.Goals as goal

pub returns-clause-digits : goal.returns-clause-digits
returns-clause-digits c =
    let counted : c.count.result ≡ count_by (λ power. leb power c.args.n) c.iter.result.rest.now = search rules in
    let powers : c.iter.result.rest.now ≡ 10 ∷ 100 ∷ 1000 ∷ 10000 ∷ 100000 ∷ 1000000 ∷ 10000000 ∷ 100000000 ∷ 1000000000 ∷ [] = search rules in
    omega (arith, counted ∙ ap (count_by (λ power. leb power c.args.n)) powers, digits_counted c.args.n (omega arith))
