use mathlib.Core.Path.{refl, sym, ◌∙◌}
use mathlib.Core.List.{[]}
use Prim.Native.Nat.{ℕ}
use native.Mathlib.Omega.{arith}
use lib.ListN.{get_or-replicate}
use Rattle.std.proofs.lemmas.Option.{none-some}
use Rattle.net_model.specs.Struct.{net_from}
use Rattle.flow_relax.proofs.Rounds.{zero_at}
use Rattle.flow_negative_cycle.proofs.Searching.{finds_none, searching_start, labelled', unchanged_of, returns_of, searching_more, finds_cycle}
use Rattle.flow_negative_cycle.proofs.find_cycle.Goals as goal
use Rattle.flow_negative_cycle.proofs.find_cycle.Goals.{in_default, in-Some+in-Some-go_back}

pub rounds-init : goal.rounds-init
rounds-init c =
    searching_start (net_from [] c.args.arcs.now) c.args.flow.now c.requires.0 c.args.need _ _ (c.fill.ensures.len ∙ c.requires.3) refl
    (λ v. rw (c.fill.ensures.after (λ y q. q)) (zero_at _ v)) (λ v h. omega (arith, get_or-replicate {A = ℕ} 64 v 65535 0 h))

pub rounds-preserved : goal.rounds-preserved
rounds-preserved c =
    let l = c.rounds in
    let r = c.round.new in
    searching_more (net_from [] c.args.arcs.now) c.args.flow.now c.requires.0 c.args.need l.labels l.preds l.k l.invariant r.labels r.preds c.in-Some.last c.in-Some.ensures.round
    (λ e. omega (arith, c.in-Some.ensures.node)) c.in_default-go_back.ensures

pub returns-in_err-node : goal.returns-in_err-node
returns-in_err-node c =
    let l = c.rounds in
    let r = c.round.new in
    rw c.from_residual.ensures (finds_none (net_from [] c.args.arcs.now) c.args.flow.now c.args.need r.labels c.args.out.now
    (elim c.match-round.branch [
      | in_default w ↦ unchanged_of (net_from [] c.args.arcs.now) c.args.flow.now c.requires.0 c.args.need l.labels l.preds l.k l.invariant r.labels r.preds 64 w.in_default.ensures.round refl
      | in-Some+in-Some-go_back w ↦ absurd (none-some _ (sym c.in_err-node.was ∙ w.node-is))
    ]))

pub collect-requires : goal.collect-requires
collect-requires c =
    let l = c.rounds in
    let r = c.round.new in (
      c.requires.0.ends,
      (labelled' (net_from [] c.args.arcs.now) c.args.flow.now c.requires.0 c.args.need l.labels l.preds l.k l.invariant r.labels r.preds _ c.round.ensures.round).preds_len,
      c.requires.4,
      elim c.match-round.branch [
        | in_default w ↦ absurd (none-some _ (sym w.node-is ∙ c.in_ok-node.was))
        | in-Some+in-Some-go_back w ↦
            returns_of (net_from [] c.args.arcs.now) c.args.flow.now c.requires.0 c.args.need l.labels l.preds l.k l.invariant r.labels r.preds w.in-Some.last w.in-Some.ensures.round c.in_ok-node.node
            (λ e. omega (arith, w.in-Some.ensures.node)) (rw (sym w.node-is ∙ c.in_ok-node.was) at w.in-Some-go_back.ensures)
      ],
    )

pub returns : goal.returns
returns c =
    let l = c.rounds in
    let r = c.round.new in
    finds_cycle (net_from [] c.args.arcs.now) c.args.flow.now c.requires.0 c.args.need c.requires.1 r.labels r.preds
    (labelled' (net_from [] c.args.arcs.now) c.args.flow.now c.requires.0 c.args.need l.labels l.preds l.k l.invariant r.labels r.preds _ c.round.ensures.round)
    c.in_ok-node.node _ _ _ c.collect.ensures
