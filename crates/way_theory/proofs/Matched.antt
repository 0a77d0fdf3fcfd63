-- Ways and flows match one to one, at the same cost and in the same order.
use mathlib.Core.Path.{◌≡◌, sym, ap, ap₂, subst, ◌∙◌}
use mathlib.Core.List.{List, [], ◌∷◌, ◌++◌, map}
use Prim.Native.Nat.{ℕ, zero, suc, ◌+◌, ◌*◌, ◌-◌, ◌≤◌}
use native.Mathlib.Omega.{arith}
use native.Mathlib.Nat.{mul-add}
use lib.ListN.{length, get_or}
use lib.IntN.{pos}
use Rattle.laws.specs.Lexicographic.{◌<lex◌}
use Rattle.laws.specs.Within.{from_member}
use Rattle.laws.specs.Totals.{total, total_rest, weigh}
use Rattle.laws.specs.Rows.{from_length, row_at, row_is, row_length}
use Rattle.net_model.specs.Network.{IsFlow, cost_of}
use Rattle.book_form.specs.Book.{Book}
use Rattle.way_theory.specs.Follow.{size}
use Rattle.way_theory.specs.Ways.{times, Joined, IsWay, joins_cost, way_cost}
use Rattle.way_theory.specs.FullWays.{numbers}
use Rattle.way_theory.specs.BookNet.{BookArc, arc_cost, join_arcs, entry_arc, end_arc, last_arc, book_arcs, book_net}
use Rattle.way_theory.specs.WayFlow.{join_flow, entry_flow, end_flow, flow_of, way_of}
use Rattle.way_theory.proofs.OneIfSame.{other_none}
use Rattle.way_theory.proofs.Counting.{total_count}
use Rattle.way_theory.proofs.Blocks.{split, along, out_of, into, unjoin, join_flow_less}
use Rattle.way_theory.proofs.Nodes.{four_parts, Fits, out_zero, in_zero, out_odd, in_odd, out_even, in_even, count_arcs, net_out_weigh, cost_weigh, nodes_count, balance_inner}
use Rattle.way_theory.proofs.Arcs.{well_formed}
use Rattle.way_theory.proofs.Bounds.{flow_within, flow_in_bounds, Bounds, bounds_append, bounds_split, bounds_map, enters_one}
use Rattle.way_theory.proofs.Laid.{pos_diff, joins_bounds, joined_small, laid_fits, joins_out, one_at, laid_length, laid_balanced, laid_cost}
use Rattle.way_theory.proofs.WayBack.{way_back}

module _ (book : Book) where
  pub arc_cost_sum : (j : ℕ) (w : List ℕ) → along (λ p k. arc_cost book p k) j w ≡ book.fee * times 0 w + joins_cost book j w
  arc_cost_sum j [] = omega arith
  arc_cost_sum j (zero ∷ w) = let h = arc_cost_sum (suc j) w in rw mul-add (omega arith)
  arc_cost_sum j (suc i ∷ w) = let h = arc_cost_sum (suc j) w in rw (other_none (suc i) 0 (λ e. omega arith), mul-add) (omega arith)

  module _ (w : List ℕ) (way : IsWay book w) where
    ends_length : length (end_flow book w) ≡ size book
    ends_length = row_length (λ j. 1 - times j w) (size book) 1

    all_counted : total (end_flow book w) ≡ times 0 w
    all_counted =
        let a = total_rest (λ j. times j w) (numbers book) (λ j m. (let b = from_member (size book) 1 j m in way.once j b.0 (omega arith))) in
        let b = total_count (size book) w (joined_small book 1 w way.joined) in
        let c = from_length (size book) 1 in
        let d = way.all_entries in
        omega arith

    each_once : (i : ℕ) → 1 ≤ i → i ≤ size book → times i w + get_or (end_flow book w) (i - 1) 0 ≡ 1
    each_once i h k =
        let q : 1 + (i - 1) ≡ i = omega arith in
        let r = row_at (λ j. 1 - times j w) (size book) 1 (i - 1) 0 (omega arith) in
        let s : get_or (end_flow book w) (i - 1) 0 ≡ 1 - times i w = r ∙ ap (λ j. 1 - times j w) q in
        let u = way.once i h k in
        omega arith

    in_bounds : Bounds (book_arcs book) (flow_of book w)
    in_bounds =
        bounds_append (join_arcs book (size book) 1) (map entry_arc (numbers book) ++ (map (end_arc book) (numbers book) ++ (last_arc book ∷ []))) (join_flow book 1 w) (entry_flow book ++ (end_flow book w ++ ((book.players - times 0 w) ∷ [])))
        (subst (λ n. Bounds (join_arcs book n 1) (join_flow book 1 w)) way.all_entries (joins_bounds book 1 w))
        (bounds_append (map entry_arc (numbers book)) (map (end_arc book) (numbers book) ++ (last_arc book ∷ [])) (entry_flow book) (end_flow book w ++ ((book.players - times 0 w) ∷ []))
        (bounds_map entry_arc (λ j. 1) (numbers book) (λ j. (omega arith, omega arith)))
        (bounds_append (map (end_arc book) (numbers book)) (last_arc book ∷ []) (end_flow book w) ((book.players - times 0 w) ∷ [])
        (bounds_map (end_arc book) (λ j. 1 - times j w) (numbers book) (λ j. (omega arith, omega arith)))
        (omega arith, omega arith, tt)))

    -- the flow of a way is a flow, at the way's cost
    pub way_flow : IsFlow (book_net book) (flow_of book w)
    way_flow =
        flow_within (book_net book) (well_formed book) (flow_of book w) in_bounds
        (laid_balanced book w way.all_entries way.joined (end_flow book w) (book.players - times 0 w) ends_length
        (let u = way.openings in omega arith) each_once (let u = way.openings in let v = all_counted in omega arith))

    pub way_cost_lem : cost_of (book_net book) (flow_of book w) ≡ pos (way_cost book w)
    way_cost_lem =
        cost_weigh book (flow_of book w) (laid_length book w way.all_entries way.joined (end_flow book w) (book.players - times 0 w) ends_length)
        ∙ ap pos (laid_cost book w way.all_entries way.joined (end_flow book w) (book.players - times 0 w) ends_length ∙ arc_cost_sum 1 w)

  -- the order of ways is the order of their flows
  pub flow_less : (w x : List ℕ) → IsWay book w → IsWay book x → w <lex x → flow_of book w <lex flow_of book x
  flow_less w x a b h =
      join_flow_less book 1 w x
      (entry_flow book ++ (end_flow book w ++ ((book.players - times 0 w) ∷ [])))
      (entry_flow book ++ (end_flow book x ++ ((book.players - times 0 x) ∷ [])))
      a.joined b.joined h

  -- every flow is the flow of a way
  module _ (f : List ℕ) (flow : IsFlow (book_net book) f) where
    pub flow_way : (w : List ℕ) × IsWay book w × (f ≡ flow_of book w)
    flow_way =
        let (g, r, q, lg, lr) = split (join_arcs book (size book) 1) (map entry_arc (numbers book) ++ (map (end_arc book) (numbers book) ++ (last_arc book ∷ []))) f long in
        let (x, s, q₁, lx, ls) = split (map entry_arc (numbers book)) (map (end_arc book) (numbers book) ++ (last_arc book ∷ [])) r lr in
        let (y, t, q₂, ly, lt) = split (map (end_arc book) (numbers book)) (last_arc book ∷ []) s ls in
        last g x y t lg lx ly lt (q ∙ ap (λ k. g ++ k) (q₁ ∙ ap (λ k. x ++ k) q₂))
      where
        long : length f ≡ length (book_arcs book)
        long = flow.all_arcs ∙ count_arcs book

        -- out and in at an inner node
        inner : (v : ℕ) → 1 ≤ v → v ≤ 2 * size book → weigh (out_of v) (book_arcs book) f ≡ weigh (into v) (book_arcs book) f
        inner v h k =
            let e = sym (net_out_weigh book f long v) ∙ flow.balanced v (omega (arith, nodes_count book)) ∙ balance_inner book v h k in
            pos_diff (weigh (out_of v) (book_arcs book) f) (weigh (into v) (book_arcs book) f) 0 e ∙ omega arith

        first : weigh (out_of 0) (book_arcs book) f ≡ book.players + weigh (into 0) (book_arcs book) f
        first =
            pos_diff (weigh (out_of 0) (book_arcs book) f) (weigh (into 0) (book_arcs book) f) book.players
            (sym (net_out_weigh book f long 0) ∙ flow.balanced 0 (omega (arith, nodes_count book)))

        row_long : (k : ℕ → BookArc) (l : List ℕ) → length l ≡ length (map k (numbers book)) → length l ≡ size book
        row_long k l e = e ∙ row_length k (size book) 1

        -- the predecessors are known: the rest follows
        way_of_lem : (w : List ℕ) (y : List ℕ) (z : ℕ) → length w ≡ size book → Joined book 1 w → length y ≡ size book → f ≡ four_parts (join_flow book 1 w) (entry_flow book) y z
            → IsWay book w × (f ≡ flow_of book w)
        way_of_lem w y z len jd ly q = (
          record { all_entries = len; joined = jd; once = λ i h k. (let e = each i h k in omega arith); openings = omega (arith, at_first) },
          q ∙ ap₂ (λ k n. join_flow book 1 w ++ (entry_flow book ++ (k ++ (n ∷ [])))) ends spare,
        )
          where
            at_first : times 0 w + z ≡ book.players
            at_first =
                let o = out_zero book (join_flow book 1 w) (entry_flow book) y z (laid_fits book w len jd y z ly) in
                let i = in_zero book (join_flow book 1 w) (entry_flow book) y z (laid_fits book w len jd y z ly) in
                let c = joins_out book w len jd y z ly 0 in
                let b = rw q at first in
                omega arith

            each : (i : ℕ) → 1 ≤ i → i ≤ size book → times i w + get_or y (i - 1) 0 ≡ 1
            each i h k =
                let o = out_even book (join_flow book 1 w) (entry_flow book) y z (laid_fits book w len jd y z ly) i h k in
                let u = in_even book (join_flow book 1 w) (entry_flow book) y z (laid_fits book w len jd y z ly) i h k in
                let c = joins_out book w len jd y z ly i in
                let d = one_at book w len jd y z ly i h k in
                let b = rw q at (inner (2 * i) (omega arith) (omega arith)) in
                omega arith

            ends : y ≡ end_flow book w
            ends = row_is (λ j. 1 - times j w) (size book) 1 y 0 ly (λ k h. (let e = each (1 + k) (omega arith) (omega arith) in let r : 1 + k - 1 ≡ k = omega arith in let d = rw r at e in omega arith))

            spare : z ≡ book.players - times 0 w
            spare = let e = at_first in omega arith

        last : (g x y t : List ℕ) → length g ≡ length (join_arcs book (size book) 1) → length x ≡ length (map entry_arc (numbers book))
            → length y ≡ length (map (end_arc book) (numbers book)) → length t ≡ 1 → f ≡ g ++ (x ++ (y ++ t)) → (w : List ℕ) × IsWay book w × (f ≡ flow_of book w)
        last g x y [] lg lx ly lt q = absurd (omega arith)
        last g x y (z ∷ u ∷ t) lg lx ly lt q = absurd (omega arith)
        last g x y (z ∷ []) lg lx ly lt q =
            let rest = map entry_arc (numbers book) ++ (map (end_arc book) (numbers book) ++ (last_arc book ∷ [])) in
            let b = (bounds_split (join_arcs book (size book) 1) rest g (x ++ (y ++ (z ∷ []))) lg (subst (λ k. Bounds (book_arcs book) k) q (flow_in_bounds (book_net book) (well_formed book) f flow))).1 in
            let c = (bounds_split (map entry_arc (numbers book)) (map (end_arc book) (numbers book) ++ (last_arc book ∷ [])) x (y ++ (z ∷ [])) lx b).0 in
            let e : x ≡ entry_flow book = enters_one (numbers book) x c in
            let fits : Fits book g x y = record { joins = lg; enters = row_long entry_arc x lx; ends = row_long (end_arc book) y ly } in
            let (w, len, jd, j) = unjoin book (size book) 1 g (omega arith) lg (λ i h k. blocks g x y z q e fits i h (omega arith)) in
            let (way, equal) = way_of_lem w y z len jd (row_long (end_arc book) y ly) (q ∙ ap₂ (λ g x. g ++ (x ++ (y ++ (z ∷ [])))) j e) in
            (w, way, equal)
          where
            blocks : (g x y : List ℕ) (z : ℕ) → f ≡ g ++ (x ++ (y ++ (z ∷ []))) → x ≡ entry_flow book → Fits book g x y → (i : ℕ) → 1 ≤ i → i ≤ size book → weigh (into (2 * i - 1)) (join_arcs book (size book) 1) g ≡ 1
            blocks g x y z q e fits i h k =
                let o = out_odd book g x y z fits i h k in
                let u = in_odd book g x y z fits i h k in
                let b = rw q at (inner (2 * i - 1) (omega arith) (omega arith)) in
                let d : get_or x (i - 1) 0 ≡ 1 = ap (λ l. get_or l (i - 1) 0) e ∙ row_at (λ j. 1) (size book) 1 (i - 1) 0 (omega arith) in
                omega arith

  -- the way read off a flow is a way, and the flow is its flow
  pub flow_back : (f : List ℕ) → IsFlow (book_net book) f → IsWay book (way_of book f) × (flow_of book (way_of book f) ≡ f)
  flow_back f h = let (w, k, q) = flow_way f h in back w k q
    where
      back : (w : List ℕ) → IsWay book w → f ≡ flow_of book w → IsWay book (way_of book f) × (flow_of book (way_of book f) ≡ f)
      back w k q =
          let e : way_of book f ≡ w = ap (way_of book) q ∙ way_back book w k in
          (rw e k, ap (flow_of book) e ∙ sym q)
