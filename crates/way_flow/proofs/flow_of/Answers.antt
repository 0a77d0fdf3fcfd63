use Rattle.std.proofs.Common.{◌≡◌, ◌≤◌, ◌<◌, ◌+◌, ◌*◌, ◌-◌, ◌/◌, length, get_or, ap, ap₂, ◌∙◌, refl, arith, rules, length-take, length-take-le, length-drop, drop, replicate, take}
use Rattle.net_model.specs.Struct.{blank_arc}
use Rattle.way_theory.specs.WayFlow.{one_if_same}
use Rattle.way_flow.proofs.Reading.{heads, head_at, head_is}
use Rattle.way_flow.proofs.Laying.{byte_same, laying_room, laying_start, laying_join, laying_entries, laying_end, laying_done}
use Rattle.way_flow.proofs.flow_of.Goals as goal

pub overflow_sub-joins : goal.overflow_sub-joins
overflow_sub-joins c = omega (arith, laying_room c.args.e c.args.players c.args.arcs.now c.args.way.now c.requires.1 c.requires.0)

pub overflow_sub-arc : goal.overflow_sub-arc
overflow_sub-arc c =
    let arcs = c.args.arcs.now in
    let n = length arcs - (2 * c.args.e + 1) in
    let lt : c.loop-k.k < n = omega (arith, length-take n arcs, c.loop-k-test.true) in
    rw (head_is c.args.e arcs n c.loop-k.k lt) (head_at c.args.e arcs c.requires.0.book c.requires.0.ends c.loop-k.k lt).0

pub bounds-way-from : goal.bounds-way-from
bounds-way-from c =
    let arcs = c.args.arcs.now in
    let n = length arcs - (2 * c.args.e + 1) in
    let lt : c.loop-k.k < n = omega (arith, length-take n arcs, c.loop-k-test.true) in
    let h : (get_or (heads c.args.e arcs) c.loop-k.k 0 - 1) / 2 < c.args.e = (head_at c.args.e arcs c.requires.0.book c.requires.0.ends c.loop-k.k lt).1 in
    let e = c.from.ensures in
    rw (e, head_is c.args.e arcs n c.loop-k.k lt, c.requires.1) h

pub bounds-flow-k : goal.bounds-flow-k
bounds-flow-k c = omega (arith, laying_room c.args.e c.args.players c.args.arcs.now c.args.way.now c.requires.1 c.requires.0, length-take (length c.args.arcs.now - (2 * c.args.e + 1)) c.args.arcs.now)

pub loop-k-init : goal.loop-k-init
loop-k-init c = laying_start c.args.e c.args.players c.args.arcs.now c.args.way.now

pub loop-k-preserved : goal.loop-k-preserved
loop-k-preserved c =
    let arcs = c.args.arcs.now in
    let way = c.args.way.now in
    let k = c.loop-k.k in
    let n = length arcs - (2 * c.args.e + 1) in
    let arc = get_or (take n arcs) k blank_arc in
    let lt : k < n = omega (arith, length-take n arcs, c.loop-k-test.true) in
    let same : c.from-in-loop-k-2.result ≡ one_if_same (arc.tail / 2) (get_or way ((arc.head - 1) / 2) 0) =
    c.from-in-loop-k-2.ensures ∙ byte_same c.from-in-loop-k.result (get_or way c.from.result 0) ∙ ap₂ (λ t h. one_if_same t (get_or way h 0)) c.from-in-loop-k.ensures c.from.ensures in
    laying_join c.args.e c.args.players arcs way c.loop-k.flow n k c.from-in-loop-k-2.result arc refl c.requires.1 c.loop-k.invariant lt refl same

pub slice_bounds-flow-end : goal.slice_bounds-flow-end
slice_bounds-flow-end c =
    let room = laying_room c.args.e c.args.players c.args.arcs.now c.args.way.now c.requires.1 c.requires.0 in
    let h : length c.args.arcs.now - (2 * c.args.e + 1) + c.args.e ≤ 512 = omega (arith, room) in
    search rules

pub loop-j-init : goal.loop-j-init
loop-j-init c =
    let arcs = c.args.arcs.now in
    let n = length arcs - (2 * c.args.e + 1) in
    let k : c.loop-k.k ≡ n = omega (arith, length-take n arcs, c.loop-k-test.false, c.loop-k.auto.k-end) in
    let z : n + c.args.e + 0 ≡ n + c.args.e = omega arith in
    let room = laying_room c.args.e c.args.players arcs c.args.way.now c.requires.1 c.requires.0 in
    let part : length (take (n + c.args.e - n) (drop n c.loop-k.flow)) ≡ n + c.args.e - n =
    length-take-le (n + c.args.e - n) (drop n c.loop-k.flow) (omega (arith, length-drop n c.loop-k.flow, c.loop-k-test.array_long, room)) in
    rw z (laying_entries c.args.e c.args.players arcs c.args.way.now c.loop-k.flow c.fill.new.self n (n + c.args.e - n) refl (omega arith) c.requires.1 (rw k at c.loop-k.invariant) (c.fill.ensures.after (λ y e. e) ∙ ap (λ i. replicate i 1) part))

pub bounds-flow-ends : goal.bounds-flow-ends
bounds-flow-ends c = omega (arith, laying_room c.args.e c.args.players c.args.arcs.now c.args.way.now c.requires.1 c.requires.0)

pub loop-j-preserved : goal.loop-j-preserved
loop-j-preserved c =
    let n = length c.args.arcs.now - (2 * c.args.e + 1) in
    let room = laying_room c.args.e c.args.players c.args.arcs.now c.args.way.now c.requires.1 c.requires.0 in
    let z : n + c.args.e + (c.loop-j.j + 1) ≡ n + c.args.e + c.loop-j.j + 1 = omega arith in
    rw z (laying_end c.args.e c.args.players c.args.arcs.now c.args.way.now c.loop-j.flow (n + c.args.e) c.loop-j.j c.saturating_sub.result room.1 refl (omega arith) c.requires.1 c.loop-j.invariant
    (c.saturating_sub.ensures ∙ ap (λ t. 1 - t) c.times.ensures))

pub bounds-flow-ends-2 : goal.bounds-flow-ends-2
bounds-flow-ends-2 c = omega (arith, laying_room c.args.e c.args.players c.args.arcs.now c.args.way.now c.requires.1 c.requires.0)

pub returns : goal.returns
returns c =
    let n = length c.args.arcs.now - (2 * c.args.e + 1) in
    let room = laying_room c.args.e c.args.players c.args.arcs.now c.args.way.now c.requires.1 c.requires.0 in
    let j : c.loop-j.j ≡ c.args.e = omega (arith, c.loop-j-test.false, c.loop-j.auto.j-end) in
    laying_done c.args.e c.args.players c.args.arcs.now c.args.way.now c.loop-j.flow (n + c.args.e + c.args.e) c.saturating_sub-2.result room.1 refl c.requires.1 (rw j at c.loop-j.invariant)
    (c.saturating_sub-2.ensures ∙ ap (λ t. c.args.players - t) c.times-2.ensures)
