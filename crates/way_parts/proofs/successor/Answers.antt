use Rattle.std.proofs.Common.{◌≡◌, sym, ap, ◌∙◌, rules, tests, ◌+◌, eqb, option_map}
use Rattle.std.proofs.lemmas.Iterator.{YieldsList-from_slice}
use Rattle.std.proofs.lemmas.Iterator.Search.{position_from_yields_List}
use Rattle.std.specs.List.{position}
use Rattle.way_parts.proofs.Searched.{searched}
use Rattle.way_parts.proofs.successor.Goals as goal

pub returns-in_err-k : goal.returns-in_err-k
returns-in_err-k c =
    let e : c.position.result ≡ position (λ p. eqb p c.args.i) c.args.way.now = position_from_yields_List (λ p. eqb p c.args.i) _ _ _ c.position.ensures.ran (YieldsList-from_slice c.args.way.now cc) (λ x b q k. search (rules, tests)) in
    c.from_residual.ensures ∙ sym (ap (option_map (λ k. k + 1)) (sym e ∙ c.in_err-k.was)) ∙ sym (searched c.args.way.now c.args.i)

pub returns : goal.returns
returns c =
    let e : c.position.result ≡ position (λ p. eqb p c.args.i) c.args.way.now = position_from_yields_List (λ p. eqb p c.args.i) _ _ _ c.position.ensures.ran (YieldsList-from_slice c.args.way.now cc) (λ x b q k. search (rules, tests)) in
    sym (ap (option_map (λ k. k + 1)) (sym e ∙ c.in_ok-k.was)) ∙ sym (searched c.args.way.now c.args.i)
