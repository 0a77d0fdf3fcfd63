use Rattle.std.proofs.Common.{◌≡◌, ◌∙◌, rules, arith, pos, get_or, length}
use Rattle.laws.specs.Padded.{filled_all}
use Rattle.bytes_read.specs.Words.{ints}
use Rattle.net_model.specs.Input.{rows}
use Rattle.net_model.specs.Struct.{blank_arc}
use Rattle.net_questions.proofs.Rows.{arcs_of}
use Rattle.net_check.specs.Checked.{arc_of}
use Rattle.net_check.proofs.Arcs.{fair_ends, fair_bounds, made_by, made, within, table_more}
use Rattle.net_check.proofs.fill.Goals as goal

pub arc_at-requires-clause-ends : goal.arc_at-requires-clause-ends
arc_at-requires-clause-ends c = fair_ends c.args.balances.now c.args.arcs.now c.requires

pub arc_at-requires-clause-bounds : goal.arc_at-requires-clause-bounds
arc_at-requires-clause-bounds c = fair_bounds c.args.balances.now c.args.arcs.now c.requires

pub bounds-net-a : goal.bounds-net-a
bounds-net-a c = within c.args.balances.now c.args.arcs.now c.requires c.loop-a.a c.loop-a-test.true

pub loop-a-preserved : goal.loop-a-preserved
loop-a-preserved c = table_more c.args.balances.now c.args.arcs.now c.requires c.loop-a.a c.loop-a-test.true c.loop-a.net _ _ _ c.arc_at.result c.loop-a.invariant c.arc_at.ensures

pub returns : goal.returns
returns c =
    let bs = c.args.balances.now in
    let xs = c.args.arcs.now in
    let all : c.loop-a.a ≡ length (rows (ints xs)) = omega (arith, c.loop-a.auto.a-end, c.loop-a-test.false, arcs_of xs) in
    c.loop-a.invariant
    ∙ made bs xs c.requires c.from_fn.result _ c.from_fn.ensures.items.long
    (λ v h. made_by _ _ (λ v. get_or (ints bs) v (pos 0)) (λ v b q k. search rules) c.from_fn.result 64 c.from_fn.ensures.items v h (pos 0))
    (filled_all arc_of (rows (ints xs)) 512 blank_arc c.loop-a.a all)
