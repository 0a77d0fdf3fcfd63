-- The network of an accepted book is an accepted network.
use mathlib.Core.Path.{◌≡◌, refl}
use mathlib.Core.Bool.{Bool, true, false, cond}
use mathlib.Core.Option.{Option, none, some}
use Prim.Native.Nat.{ℕ, zero, suc, ◌≤◌}
use native.Mathlib.Omega.{arith}
use lib.Dec.{eqb}
use lib.ListN.{get_or-map}
use lib.IntN.{pos, neg_ℤ}
use lib.Signed.{◌≤ℤ◌}
use Rattle.laws.specs.Linear.{lin}
use Rattle.net_model.specs.Network.{balance}
use Rattle.net_model.specs.Accepted.{AcceptedNet}
use Rattle.book_lines.specs.declared.moves.Move.{Move}
use Rattle.book_lines.specs.Questions.{move_of}
use Rattle.book_lines.proofs.Table.{fair_parts}
use Rattle.book_form.specs.Book.{Book}
use Rattle.book_form.specs.WithinLimits.{WithinLimits}
use Rattle.way_theory.specs.Follow.{size, entry_at, stay, without_line, line_or, link, road, spare_by, enough}
use Rattle.way_theory.specs.Ways.{or_none}
use Rattle.way_theory.specs.BookNet.{arc_cost, book_arcs, book_net}
use Rattle.way_theory.proofs.Nodes.{NodeKind, origin, odd, even, last, node_kind, no_book_arc, nodes_count, balance_inner, balance_last}
use Rattle.way_theory.proofs.Arcs.{arc_holds, part_holds, well_formed}
use Rattle.way_theory.proofs.Spare.{cost_in_time}
use Rattle.way_theory.proofs.Size.{arcs_few, nodes_few}

-- a move that costs at most 1,000,000, if there is one
abbrev CostSmall : Option Move → Type 0
CostSmall none = Unit {0}
CostSmall (some m) = m.cost ≤ 1000000

without_line_small : (t : Bool) → CostSmall (cond t (some stay) none)
without_line_small true = omega arith
without_line_small false = tt

line_or_small : (o p : Option Move) → CostSmall o → CostSmall p → CostSmall (line_or o p)
line_or_small none p h k = k
line_or_small (some m) p h k = h

apart_small : (t : Bool) (o : Option Move) → CostSmall o → CostSmall (cond t none o)
apart_small true o h = tt
apart_small false o h = h

in_time_small : (o : Option Move) (finish start : ℕ) → CostSmall o → or_none (cost_in_time o finish start) ≤ 1000000
in_time_small none finish start h = omega arith
in_time_small (some m) finish start h = go (enough (spare_by (some m) finish start))
  where
    go : (t : Bool) → or_none (cond t (some m.cost) none) ≤ 1000000
    go true = h
    go false = omega arith

module _ (book : Book) (ok : WithinLimits book) where
  move_small : (a b : ℕ) → CostSmall (move_of book.moves a b)
  move_small a b = go (move_of book.moves a b) refl
    where
      go : (o : Option Move) → move_of book.moves a b ≡ o → CostSmall o
      go none e = tt
      go (some m) e = (fair_parts m (ok.fair_moves a b m e)).cost_high

  link_small : (a b : ℕ) → CostSmall (link book.moves a b)
  link_small a b = line_or_small (move_of book.moves a b) (without_line a b) (move_small a b) (without_line_small (eqb a b))

  road_small : (i j : ℕ) → CostSmall (road book i j)
  road_small i j = apart_small (eqb i j) _ (link_small (entry_at book i).leaves (entry_at book j).arrives)

  pub arc_cost_small : (i j : ℕ) → arc_cost book i j ≤ 1000000
  arc_cost_small zero j = ok.fee_high
  arc_cost_small (suc i) j = in_time_small (road book (suc i) j) (entry_at book (suc i)).finish (entry_at book j).start (road_small (suc i) j)

  fair_cost : (c : ℕ) → c ≤ 1000000 → (neg_ℤ (pos 1000000) ≤ℤ pos c) × (pos c ≤ℤ pos 1000000)
  fair_cost c h = (simp lin (omega arith), simp lin (omega arith))

  fair_balance_lem : (v : ℕ) → NodeKind (size book) v → (neg_ℤ (pos 1000000000) ≤ℤ balance (book_net book) v) × (balance (book_net book) v ≤ℤ pos 1000000000)
  fair_balance_lem v (origin e) = let p = ok.players_high in rw e (simp lin (omega arith), simp lin (omega arith))
  fair_balance_lem v (odd i h k e) = rw (balance_inner book v (omega arith) (omega arith)) (simp lin (omega arith), simp lin (omega arith))
  fair_balance_lem v (even i h k e) = rw (balance_inner book v (omega arith) (omega arith)) (simp lin (omega arith), simp lin (omega arith))
  fair_balance_lem v (last e) = let p = ok.players_high in rw (balance_last book v e) (simp lin (omega arith), simp lin (omega arith))

  pub accepted_net : AcceptedNet (book_net book)
  accepted_net =
      record {
        well_formed = well_formed book;
        some_node = omega (arith, nodes_count book);
        few_nodes = omega (arith, nodes_few book ok);
        few_arcs = omega (arith, arcs_few book ok);
        low_up = λ a h. (let l = get_or-map (λ a. a.low) (book_arcs book) a no_book_arc in let u = get_or-map (λ a. a.up) (book_arcs book) a no_book_arc in
            let k = arc_holds book (λ a. a.low ≤ a.up) (record { joins = λ i j h k l. omega arith; entries = λ j h k. omega arith; ends = λ j h k. omega arith; last = omega arith }) a h in omega arith);
        up_small = part_holds book (λ a. a.up) (λ u. u ≤ 1000000) (record { joins = λ i j h k l. omega arith; entries = λ j h k. omega arith; ends = λ j h k. omega arith; last = omega (arith, ok.players_high) }) 0 refl;
        cost_small = part_holds book (λ a. pos a.cost) (λ c. (neg_ℤ (pos 1000000) ≤ℤ c) × (c ≤ℤ pos 1000000))
            (record { joins = λ i j h k l. fair_cost (arc_cost book i j) (arc_cost_small i j); entries = λ j h k. fair_cost 0 (omega arith); ends = λ j h k. fair_cost 0 (omega arith); last = fair_cost 0 (omega arith) }) (pos 0) refl;
        balance_small = λ v h. fair_balance_lem v (node_kind (size book) v (omega (arith, nodes_count book)));
      }
