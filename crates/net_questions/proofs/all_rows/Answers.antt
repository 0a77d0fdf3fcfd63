use Rattle.std.proofs.Common.{◌≡◌, refl, sym, rules, arith, ℕ, map, true, false, ◌/◌, length, get_or}
use Rattle.std.specs.List.{range_with_len}
use Rattle.std.proofs.lemmas.Iterator.{cases_from_all, YieldsList-from_range, YieldsList-from_map}
use Rattle.std.proofs.lemmas.Iterator.Consumers.{YieldsList-at}
use Rattle.bytes_read.specs.Words.{ints}
use Rattle.net_model.specs.Input.{rows}
use Rattle.net_model.specs.declared.Row.{Row}
use Rattle.net_questions.specs.Arcs.{no_arc}
use Rattle.net_questions.proofs.Rows.{arcs_of, by_places, all_by_run}
use Rattle.net_questions.proofs.all_rows.Goals as goal

pub returns : goal.returns
returns g c p computes = let xs = c.args.arcs.now in
    let n = length xs / 20 in
    let read : ℕ → Row = λ a. get_or (rows (ints xs)) a no_arc in
    all_by_run p (map read (range_with_len 0 n)) (rows (ints xs)) (by_places (rows (ints xs)) no_arc n (arcs_of xs)) c.all.result
    (cases_from_all _ _ _ (λ r. p r ≡ true) (λ r. p r ≡ false) c.all.ensures.ran
    (YieldsList-from_map _ read (YieldsList-at c.map.ensures.source (YieldsList-from_range 0 n n refl (omega arith))) c.map.ensures.closure (λ a r q k. search rules))
    (λ r q k. (g.met.F.Fn.1.step_stays _ _ _ _ k, sym (computes r true ((g.met.F.FnMut.1.post_iff _ _ _).1 (q, k)))))
    (λ r q k. sym (computes r false ((g.met.F.FnMut.1.post_iff _ _ _).1 (q, k)))))
