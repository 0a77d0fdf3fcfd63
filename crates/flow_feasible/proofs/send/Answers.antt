use Rattle.std.proofs.Common.{◌≡◌, [], ℕ, List, get_or, ℤ, pos, refl, subst, ◌∙◌, arith}
use mir.Syntax.{w64}
use mir.Val.{to_z, of_z}
use mir.Facts.{to_z-of_z}
use Rattle.laws.specs.Range.{bounded_fits}
use Rattle.net_model.specs.Struct.{net_from}
use Rattle.flow_feasible.specs.Sending.{SendsTo}
use Rattle.flow_feasible.proofs.Sending.{cut_start, cut_step, sends_yes}
use Rattle.flow_feasible.proofs.send.Goals as goal

pub loop-t-init : goal.loop-t-init
loop-t-init c = (refl, cut_start (net_from [] c.args.arcs.now) c.args.flow.now c.args.free.now c.args.excess.now c.args.s)

pub returns-then-send_to : goal.returns-then-send_to
returns-then-send_to c =
    let N = net_from [] c.args.arcs.now in
    let at : ℕ → ℤ = λ v. get_or c.args.excess.now v (pos 0) in
    let excess-is : (v : ℕ) → to_z w64 (of_z w64 (at v)) ≡ at v = λ v. to_z-of_z {w = w64} (bounded_fits w64 3000000000 (at v) (c.requires.4 v) (omega arith)) in
    let told = subst (λ (f : List ℕ). SendsTo N f c.send_to.new.flow c.args.free.now c.args.s c.loop-t.t c.capped-most.result (to_z w64 (of_z w64 (at c.loop-t.t))) c.send_to.result) c.loop-t.invariant.0 c.send_to.ensures in
    sends_yes N c.args.flow.now _ c.args.free.now c.args.excess.now c.args.s c.loop-t.t c.capped-most.result _ _ c.send_to.result c.loop-t-test.true (excess-is c.loop-t.t) (excess-is c.args.s) c.capped-most.ensures c.if-send_to.true told

pub loop-t-preserved : goal.loop-t-preserved
loop-t-preserved c =
    let N = net_from [] c.args.arcs.now in
    let at : ℕ → ℤ = λ v. get_or c.args.excess.now v (pos 0) in
    let excess-is : (v : ℕ) → to_z w64 (of_z w64 (at v)) ≡ at v = λ v. to_z-of_z {w = w64} (bounded_fits w64 3000000000 (at v) (c.requires.4 v) (omega arith)) in
    let told = subst (λ (f : List ℕ). SendsTo N f c.send_to.new.flow c.args.free.now c.args.s c.loop-t.t c.capped-most.result (to_z w64 (of_z w64 (at c.loop-t.t))) c.send_to.result) c.loop-t.invariant.0 c.send_to.ensures in (
      c.send_to.ensures.same c.if-send_to.false ∙ c.loop-t.invariant.0,
      cut_step N c.args.flow.now _ c.args.free.now c.args.excess.now c.args.s c.loop-t.t c.capped-most.result _ c.send_to.result (excess-is c.loop-t.t) c.if-send_to.false told c.loop-t.invariant.1,
    )
