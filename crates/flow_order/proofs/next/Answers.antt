use Rattle.std.proofs.Common.{◌≡◌, ℕ, [], refl, suc, subst, add-one, arith}
use Rattle.net_model.specs.Struct.{net_from}
use Rattle.flow_closure.specs.Candidates.{LastRaisable}
use Rattle.flow_arc.proofs.Lists.{whole}
use Rattle.flow_order.proofs.Candidates.{none_raisable_whole, next_start}
use Rattle.flow_order.proofs.Following.{next_yes, next_no}
use Rattle.flow_order.proofs.next.Goals as goal

pub returns-in-Some : goal.returns-in-Some
returns-in-Some c =
    let N = net_from [] c.args.arcs.now in
    let f = c.args.flow.now in
    let free = c.args.free.now in
    let a = c.in-Some.a in
    let last = subst (LastRaisable N f free) c.in-Some.is c.last_raisable.ensures in
    let w = last.0 in (
      c.minimise.ensures.0,
      (λ e. absurd (let z : ◌≡◌ {A = ℕ} 0 1 = cc in omega arith)),
      λ b d π ti.
          next_yes (whole N b d) π free f ti c.raise.new.flow _ a (omega (arith, w.in_range)) (next_start (whole N b d) π free f ti (suc a) (none_raisable_whole N b d f free (suc a) w))
          (c.raise.ensures.1 b d π ti) (rw add-one at (c.minimise.ensures.1 b d π)),
    )

pub returns : goal.returns
returns c =
    let N = net_from [] c.args.arcs.now in
    let f = c.args.flow.now in
    let free = c.args.free.now in
    let none = subst (LastRaisable N f free) c.in_default.is c.last_raisable.ensures in
    (c.requires.within, (λ _. refl), λ b d π ti. next_no (whole N b d) π free f ti _ (next_start (whole N b d) π free f ti 0 (none_raisable_whole N b d f free 0 none)))
