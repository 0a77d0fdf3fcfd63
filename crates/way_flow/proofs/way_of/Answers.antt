use Rattle.std.proofs.Common.{◌≡◌, refl, sym, ap, ap₂, ◌∙◌, set, List, ℕ, ◌+◌, ◌*◌, ◌-◌, ◌/◌, ◌≤◌, ◌<◌, length, get_or, arith, length-take}
use Rattle.std.proofs.lemmas.List.{length-map}
use Rattle.net_model.specs.declared.Arc.{Arc}
use Rattle.way_flow.specs.Arcs.{HasFlow}
use Rattle.way_flow.proofs.Reading.{noted, noted_one, noted_none, noted_long, tails, heads, noting_start, noting_on, noting_done, joins_count, head_at, head_is, tail_is, reads_way}
use Rattle.way_flow.proofs.Laying.{flow_long}
use Rattle.way_flow.proofs.way_of.Goals as goal
use Rattle.way_flow.proofs.way_of.Goals.{then-flow-k-eq1, else-flow-k-eq1}

module _ (e : ℕ) (held : List Arc) (flow : List ℕ) (has : HasFlow e held flow) where
  -- as many flows as arcs, and as many arcs as there are behind the joins
  long : (2 * e + 1 ≤ length held) × (length flow ≡ length held) × (e ≤ 28)
  long =
      let n = joins_count e held has.book has.ends in
      (omega arith, ap length has.flow_is ∙ flow_long e held has.book has.ends has.way (has.is_way.all_entries ∙ sym has.ends.entries_are), omega (arith, has.ends.entries_are, has.ends.limits.few))

pub overflow_sub-joins : goal.overflow_sub-joins
overflow_sub-joins c = omega (arith, long _ _ _ c.requires)

pub loop-k-init : goal.loop-k-init
loop-k-init c = noting_start _ _ _ _

pub bounds-flow-k : goal.bounds-flow-k
bounds-flow-k c = omega (arith, long _ _ _ c.requires, length-take (length c.args.arcs.now - (2 * c.args.e + 1)) c.args.arcs.now)

pub overflow_sub-arc : goal.overflow_sub-arc
overflow_sub-arc c =
    let arcs = c.args.arcs.now in
    let n = length arcs - (2 * c.args.e + 1) in
    let lt : c.loop-k.k < n = omega (arith, length-take n arcs, c.loop-k-test.true) in
    rw (head_is c.args.e arcs n c.loop-k.k lt) (head_at c.args.e arcs c.requires.book c.requires.ends c.loop-k.k lt).0

pub bounds-way-from : goal.bounds-way-from
bounds-way-from c =
    let arcs = c.args.arcs.now in
    let n = length arcs - (2 * c.args.e + 1) in
    let lt : c.loop-k.k < n = omega (arith, length-take n arcs, c.loop-k-test.true) in
    let h : (get_or (heads c.args.e arcs) c.loop-k.k 0 - 1) / 2 < c.args.e = (head_at c.args.e arcs c.requires.book c.requires.ends c.loop-k.k lt).1 in
    let e : c.from-then-flow-k-eq1.result ≡ (get_or (heads c.args.e arcs) c.loop-k.k 0 - 1) / 2 = c.from-then-flow-k-eq1.ensures ∙ ap (λ h. (h - 1) / 2) (head_is c.args.e arcs n c.loop-k.k lt) in
    omega (arith, long _ _ _ c.requires, h, e)

pub loop-k-preserved : goal.loop-k-preserved
loop-k-preserved c =
    let arcs = c.args.arcs.now in
    let flow = c.args.flow.now in
    let k = c.loop-k.k in
    let y = c.loop-k.way in
    let z = c.if-flow-k-eq1.way' in
    let n = length arcs - (2 * c.args.e + 1) in
    let t = get_or (tails c.args.e arcs) k 0 in
    let h = get_or (heads c.args.e arcs) k 0 in
    let room = long _ _ _ c.requires in
    let lt : k < n = omega (arith, length-take n arcs, c.loop-k-test.true) in
    let is : z ≡ noted t h (get_or flow k 0) y = elim c.if-flow-k-eq1.branch [
      | then-flow-k-eq1 w ↦ noted_one t h (get_or flow k 0) y z w.if-flow-k-eq1.true
          (w.way'-is ∙ ap₂ (λ i x. set y i x) (w.from-then-flow-k-eq1.ensures ∙ ap (λ h. (h - 1) / 2) (head_is c.args.e arcs n k lt)) (w.from.ensures ∙ ap (λ t. t / 2) (tail_is c.args.e arcs n k lt)))
      | else-flow-k-eq1 w ↦ noted_none t h (get_or flow k 0) y z w.if-flow-k-eq1.false w.way'-is
    ] in
    noting_on (tails c.args.e arcs) (heads c.args.e arcs) flow n y z k c.loop-k.invariant lt (omega (arith, room, length-map arcs (λ (a : Arc). a.tail))) (omega (arith, room, length-map arcs (λ (a : Arc). a.head))) (omega (arith, room))
    (ap length is ∙ noted_long t h (get_or flow k 0) y) is

pub returns : goal.returns
returns c =
    let x = c.args in
    let n = length x.arcs.now - (2 * x.e + 1) in
    reads_way x.e x.arcs.now x.flow.now _ n refl (noting_done (tails x.e x.arcs.now) (heads x.e x.arcs.now) x.flow.now n _ c.loop-k.k c.loop-k.invariant (omega (arith, length-take n x.arcs.now, c.loop-k-test.false)))
