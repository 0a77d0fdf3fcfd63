use Rattle.std.proofs.Common.{◌≡◌, sym, ◌∙◌, rules, arith, ◌-◌, ◌/◌, length, w32, to_z}
use mir.Facts.{to_z_pos}
use Rattle.net_questions.specs.Questions.{Ends, Bounds, Cost, passes, last_node_number}
use Rattle.net_questions.proofs.Rows.{fair_nodes_lem}
use Rattle.net_questions.proofs.judge.Goals as goal

pub returns-then-not-all_rows : goal.returns-then-not-all_rows
returns-then-not-all_rows c =
    let fair = fair_nodes_lem (length c.args.balances.now) (sym c.fair_nodes.ensures ∙ c.if-not-fair_nodes.false) in
    let last : to_z w32 (length c.args.balances.now / 4 - 1) ≡ last_node_number c.args.balances.now = to_z_pos w32 (omega (arith, fair.few)) in
    let ends = c.all_rows.ensures (passes Ends (last_node_number c.args.balances.now)) (λ row b h. search rules) in
    rw (sym c.fair_nodes.ensures ∙ c.if-not-fair_nodes.false, sym c.fair_arcs.ensures ∙ c.if-not-fair_arcs.false, sym ends ∙ c.if-not-all_rows.true)

pub returns-then-not-all_rows-2 : goal.returns-then-not-all_rows-2
returns-then-not-all_rows-2 c =
    let fair = fair_nodes_lem (length c.args.balances.now) (sym c.fair_nodes.ensures ∙ c.if-not-fair_nodes.false) in
    let last : to_z w32 (length c.args.balances.now / 4 - 1) ≡ last_node_number c.args.balances.now = to_z_pos w32 (omega (arith, fair.few)) in
    let ends = c.all_rows.ensures (passes Ends (last_node_number c.args.balances.now)) (λ row b h. search rules) in
    let bounds = c.all_rows-2.ensures (passes Bounds (last_node_number c.args.balances.now)) (λ row b h. search rules) in
    rw (sym c.fair_nodes.ensures ∙ c.if-not-fair_nodes.false, sym c.fair_arcs.ensures ∙ c.if-not-fair_arcs.false, sym ends ∙ c.if-not-all_rows.false, sym bounds ∙ c.if-not-all_rows-2.true)

pub returns-then-not-all_rows-3 : goal.returns-then-not-all_rows-3
returns-then-not-all_rows-3 c =
    let fair = fair_nodes_lem (length c.args.balances.now) (sym c.fair_nodes.ensures ∙ c.if-not-fair_nodes.false) in
    let last : to_z w32 (length c.args.balances.now / 4 - 1) ≡ last_node_number c.args.balances.now = to_z_pos w32 (omega (arith, fair.few)) in
    let ends = c.all_rows.ensures (passes Ends (last_node_number c.args.balances.now)) (λ row b h. search rules) in
    let bounds = c.all_rows-2.ensures (passes Bounds (last_node_number c.args.balances.now)) (λ row b h. search rules) in
    let cost = c.all_rows-3.ensures (passes Cost (last_node_number c.args.balances.now)) (λ row b h. search rules) in
    rw (sym c.fair_nodes.ensures ∙ c.if-not-fair_nodes.false, sym c.fair_arcs.ensures ∙ c.if-not-fair_arcs.false, sym ends ∙ c.if-not-all_rows.false, sym bounds ∙ c.if-not-all_rows-2.false, sym cost ∙ c.if-not-all_rows-3.true)

pub returns-then-not-all_balanced : goal.returns-then-not-all_balanced
returns-then-not-all_balanced c =
    let fair = fair_nodes_lem (length c.args.balances.now) (sym c.fair_nodes.ensures ∙ c.if-not-fair_nodes.false) in
    let last : to_z w32 (length c.args.balances.now / 4 - 1) ≡ last_node_number c.args.balances.now = to_z_pos w32 (omega (arith, fair.few)) in
    let ends = c.all_rows.ensures (passes Ends (last_node_number c.args.balances.now)) (λ row b h. search rules) in
    let bounds = c.all_rows-2.ensures (passes Bounds (last_node_number c.args.balances.now)) (λ row b h. search rules) in
    let cost = c.all_rows-3.ensures (passes Cost (last_node_number c.args.balances.now)) (λ row b h. search rules) in
    rw (sym c.fair_nodes.ensures ∙ c.if-not-fair_nodes.false, sym c.fair_arcs.ensures ∙ c.if-not-fair_arcs.false, sym ends ∙ c.if-not-all_rows.false, sym bounds ∙ c.if-not-all_rows-2.false, sym cost ∙ c.if-not-all_rows-3.false, sym c.all_balanced.ensures ∙ c.if-not-all_balanced.true)

pub returns : goal.returns
returns c =
    let fair = fair_nodes_lem (length c.args.balances.now) (sym c.fair_nodes.ensures ∙ c.if-not-fair_nodes.false) in
    let last : to_z w32 (length c.args.balances.now / 4 - 1) ≡ last_node_number c.args.balances.now = to_z_pos w32 (omega (arith, fair.few)) in
    let ends = c.all_rows.ensures (passes Ends (last_node_number c.args.balances.now)) (λ row b h. search rules) in
    let bounds = c.all_rows-2.ensures (passes Bounds (last_node_number c.args.balances.now)) (λ row b h. search rules) in
    let cost = c.all_rows-3.ensures (passes Cost (last_node_number c.args.balances.now)) (λ row b h. search rules) in
    rw (sym c.fair_nodes.ensures ∙ c.if-not-fair_nodes.false, sym c.fair_arcs.ensures ∙ c.if-not-fair_arcs.false, sym ends ∙ c.if-not-all_rows.false, sym bounds ∙ c.if-not-all_rows-2.false, sym cost ∙ c.if-not-all_rows-3.false, sym c.all_balanced.ensures ∙ c.if-not-all_balanced.false)
