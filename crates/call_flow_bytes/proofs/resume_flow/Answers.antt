use mathlib.Core.Path.{◌≡◌, refl, sym, ap, ◌∙◌}
use mathlib.Core.Bool.{cond}
use mathlib.Core.Option.{none, some}
use Prim.Native.Nat.{◌*◌}
use lib.ListN.{length, take}
use Rattle.laws.specs.Padded.{padded}
use Rattle.bytes_read.specs.Words.{words}
use Rattle.net_model.specs.Network.{arcs}
use Rattle.net_model.specs.FullList.{full_list}
use Rattle.net_model.specs.Struct.{net_in}
use Rattle.net_model.proofs.FullList.{full_member}
use Rattle.flow_enumerate.specs.Enumerator.{item_at, item_of, state_flow}
use Rattle.flow_enumerate.proofs.Given.{resumed_on, resumed_off}
use Rattle.call_reply.specs.ByteLists.{listed}
use Rattle.call_reply.proofs.Items.{every_at, other_length}
use Rattle.call_reply.proofs.Given.{read_all, given_found, on_none, on_some}
use Rattle.call_reply.proofs.Places.{no_item_by_place, no_item_by_test, an_item}
use Rattle.call_flow_bytes.proofs.FlowItems.{full_flows}
use Rattle.call_flow_bytes.proofs.resume_flow.Goals as goal

pub returns-then-given-net : goal.returns-then-given-net
returns-then-given-net c = let N = net_in c.args.net in
    let g = c.args.given.now in
    (other_length (arcs N) (full_list N) (full_flows N c.requires.accepted) g (λ q. c.if-given-net.true (q ∙ ap (λ k. 4 * k) (sym c.requires.arcs_held))), refl)

pub returns-then-not-on_item : goal.returns-then-not-on_item
returns-then-not-on_item c =
    let s = c.args.net in
    let N = net_in s in
    let g = c.args.given.now in
    let r = c.resume-enumerator.result in
    let (stands, same, resumes) = c.resume-enumerator.ensures in
    let e : length g ≡ 4 * arcs N = c.if-given-net.false ∙ ap (λ k. 4 * k) c.requires.arcs_held in
    let ok = c.requires.accepted in
    let numbers = take s.arcs c.read_words.result in
    let q : numbers ≡ words g =
    ap (take s.arcs) c.read_words.ensures ∙ ap (λ k. take k (padded 512 0 (take 512 (words g)))) c.requires.arcs_held ∙ read_all (arcs N) ok.few_arcs g e in
    let member = full_member N ok.well_formed (words g) in
    let found : item_of r ≡ cond (listed g (full_list N)) (some (words g)) none =
    given_found (arcs N) (full_list N) (full_flows N ok) g (every_at g 256 (λ i h. (c.type_inv.given i).fits)) e r.place (item_of r)
    (λ p. (let (same_flow, least) = resumed_on N ok.well_formed numbers r resumes p in (ap (λ x. item_at x (state_flow r)) p ∙ ap some (same_flow ∙ q), member.1 (rw q at least))))
    (λ n. (no_item_by_place r.place (state_flow r) n, λ m. resumed_off N ok.well_formed numbers r resumes n (rw q (member.0 m)))) in
    (on_none (listed g (full_list N)) (words g) (item_of r) found (no_item_by_test r.place (state_flow r) (sym c.on_item.ensures ∙ c.if-not-on_item.true)), refl)

pub returns : goal.returns
returns c =
    let s = c.args.net in
    let N = net_in s in
    let g = c.args.given.now in
    let r = c.resume-enumerator.result in
    let (stands, same, resumes) = c.resume-enumerator.ensures in
    let e : length g ≡ 4 * arcs N = c.if-given-net.false ∙ ap (λ k. 4 * k) c.requires.arcs_held in
    let ok = c.requires.accepted in
    let numbers = take s.arcs c.read_words.result in
    let q : numbers ≡ words g =
    ap (take s.arcs) c.read_words.ensures ∙ ap (λ k. take k (padded 512 0 (take 512 (words g)))) c.requires.arcs_held ∙ read_all (arcs N) ok.few_arcs g e in
    let member = full_member N ok.well_formed (words g) in
    let found : item_of r ≡ cond (listed g (full_list N)) (some (words g)) none =
    given_found (arcs N) (full_list N) (full_flows N ok) g (every_at g 256 (λ i h. (c.type_inv.given i).fits)) e r.place (item_of r)
    (λ p. (let (same_flow, least) = resumed_on N ok.well_formed numbers r resumes p in (ap (λ x. item_at x (state_flow r)) p ∙ ap some (same_flow ∙ q), member.1 (rw q at least))))
    (λ n. (no_item_by_place r.place (state_flow r) n, λ m. resumed_off N ok.well_formed numbers r resumes n (rw q (member.0 m)))) in
    let (given, on-it) = on_some (listed g (full_list N)) (words g) (state_flow r) (item_of r) found (an_item r.place (state_flow r) (sym c.on_item.ensures ∙ c.if-not-on_item.false)) in
    (given, record { stands = stands; net_is = same; item_is = on-it })
