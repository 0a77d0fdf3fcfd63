-- The joins of a list of predecessors, laid on the arcs with any numbers on the arcs to the last node: the sums at each node, and the cost.
use mathlib.Core.Path.{◌≡◌, refl, sym, ap₂, subst, ◌∙◌}
use mathlib.Core.List.{List, [], ◌∷◌, ◌++◌, map}
use Prim.Native.Nat.{ℕ, suc, ◌+◌, ◌*◌, ◌-◌, ◌≤◌, ◌<◌}
use native.Mathlib.Omega.{arith}
use native.Mathlib.Decide.{ℕ_discrete}
use lib.ListN.{length, get_or, length-append}
use lib.IntN.{pos, neg_ℤ, ◌-ℤ◌}
use Rattle.laws.specs.Linear.{lin, given}
use Rattle.laws.specs.Members.{Every}
use Rattle.laws.specs.Totals.{total, weigh, weigh_none}
use Rattle.laws.specs.Rows.{row_at, row_length}
use Rattle.net_model.specs.Network.{nodes, net_out, balance}
use Rattle.book_form.specs.Book.{Book}
use Rattle.way_theory.specs.Follow.{size}
use Rattle.way_theory.specs.Ways.{times, Joined}
use Rattle.way_theory.specs.FullWays.{numbers}
use Rattle.way_theory.specs.BookNet.{BookArc, last_node, sources, arc_cost, join_arc, join_arcs, book_arcs, book_net}
use Rattle.way_theory.specs.WayFlow.{one_if_same, marked, join_flow, entry_flow}
use Rattle.way_theory.proofs.OneIfSame.{same_one, other_none, same_iff, same_small}
use Rattle.way_theory.proofs.Blocks.{along, out_of, into, weigh_joins, join_flow_length}
use Rattle.way_theory.proofs.Nodes.{NodeKind, origin, odd, even, last, node_kind, four_parts, Fits, parts, out_zero, in_zero, out_last, in_last, out_odd, in_odd, out_even, in_even, arcs_parts, net_out_weigh, nodes_count, balance_inner, balance_last}
use Rattle.way_theory.proofs.Bounds.{Bounds, bounds_append, bounds_map}

-- whole numbers out of a node and into it
diff_pos : (o i b : ℕ) → o ≡ b + i → pos o -ℤ pos i ≡ pos b
diff_pos o i b e = simp lin (omega arith)

pub pos_diff : (o i b : ℕ) → pos o -ℤ pos i ≡ pos b → o ≡ b + i
pos_diff o i b e = given e (simp lin (λ h. omega arith))

diff_neg : (o i b : ℕ) → o + b ≡ i → pos o -ℤ pos i ≡ neg_ℤ (pos b)
diff_neg o i b e = simp lin (omega arith)

-- how often each entry is a predecessor
along_count : (ψ : ℕ → ℕ → ℕ) (i j : ℕ) (w : List ℕ) → ((p k : ℕ) → ψ p k ≡ one_if_same p i) → along ψ j w ≡ times i w
along_count ψ i j [] h = refl
along_count ψ i j (p ∷ w) h = ap₂ ◌+◌ (h p j) (along_count ψ i (suc j) w h)

along_none : (ψ : ℕ → ℕ → ℕ) (j : ℕ) (w : List ℕ) → ((p k : ℕ) → j ≤ k → ψ p k ≡ 0) → along ψ j w ≡ 0
along_none ψ j [] h = refl
along_none ψ j (p ∷ w) h = rw (h p j (omega arith), along_none ψ (suc j) w (λ q k b. h q k (omega arith))) (omega arith)

along_once : (ψ : ℕ → ℕ → ℕ) (i j : ℕ) (w : List ℕ) → j ≤ i → i < j + length w → ((p : ℕ) → ψ p i ≡ 1) → ((p k : ℕ) → j ≤ k → ¬ (k ≡ i) → ψ p k ≡ 0) → along ψ j w ≡ 1
along_once ψ i j [] h k one none = absurd (omega arith)
along_once ψ i j (p ∷ w) h k one none = step (ℕ_discrete j i) (λ b. along_once ψ i (suc j) w b (omega arith) one (λ q l c n. none q l (omega arith) n))
  where
    step : Dec (j ≡ i) → (suc j ≤ i → along ψ (suc j) w ≡ 1) → ψ p j + along ψ (suc j) w ≡ 1
    step (yes e) deep =
        let u : ψ p j ≡ 1 = rw e (one p) in
        let v = along_none ψ (suc j) w (λ q l c. none q l (omega arith) (λ z. omega arith)) in omega arith
    step (no e) deep = let u = none p j (omega arith) e in let v = deep (omega arith) in omega arith

module _ (book : Book) where
  pub joins_bounds : (j : ℕ) (w : List ℕ) → Bounds (join_arcs book (length w) j) (join_flow book j w)
  joins_bounds j [] = tt
  joins_bounds j (p ∷ w) =
      bounds_append (map (join_arc book j) (sources book j)) (join_arcs book (length w) (suc j)) (marked p (sources book j)) (join_flow book (suc j) w)
      (bounds_map (join_arc book j) (λ i. one_if_same i p) (sources book j) (λ i. (omega arith, same_small i p)))
      (joins_bounds (suc j) w)

  pub joined_small : (j : ℕ) (w : List ℕ) → Joined book j w → Every (λ p. p ≤ size book) w
  joined_small j [] h = tt
  joined_small j (p ∷ w) h = (h.0, joined_small (suc j) w h.2)

  module _ (w : List ℕ) (len : length w ≡ size book) (jd : Joined book 1 w) (y : List ℕ) (z : ℕ) (ly : length y ≡ size book) where
    abbrev pub laid : List ℕ
    laid = four_parts (join_flow book 1 w) (entry_flow book) y z

    pub laid_fits : Fits book (join_flow book 1 w) (entry_flow book) y
    laid_fits = record {
      joins = subst (λ n. length (join_flow book 1 w) ≡ length (join_arcs book n 1)) len (join_flow_length book 1 w);
      enters = row_length {A = ℕ} (λ j. 1) (size book) 1;
      ends = ly;
    }

    joins_sum : (φ : BookArc → ℕ) → weigh φ (join_arcs book (size book) 1) (join_flow book 1 w) ≡ along (λ p k. φ (join_arc book k p)) 1 w
    joins_sum φ = subst (λ n. weigh φ (join_arcs book n 1) (join_flow book 1 w) ≡ along (λ p k. φ (join_arc book k p)) 1 w) len (weigh_joins book φ 1 w jd)

    pub joins_out : (i : ℕ) → weigh (out_of (2 * i)) (join_arcs book (size book) 1) (join_flow book 1 w) ≡ times i w
    joins_out i = joins_sum (out_of (2 * i)) ∙ along_count (λ p k. one_if_same (2 * p) (2 * i)) i 1 w (λ p k. same_iff (2 * p) (2 * i) p i (λ e. omega arith) (λ e. omega arith))

    pub joins_in : (i : ℕ) → 1 ≤ i → i ≤ size book → weigh (into (2 * i - 1)) (join_arcs book (size book) 1) (join_flow book 1 w) ≡ 1
    joins_in i h k =
        joins_sum (into (2 * i - 1))
        ∙ along_once (λ p k. one_if_same (2 * k - 1) (2 * i - 1)) i 1 w h (omega arith) (λ p. same_one (2 * i - 1) (2 * i - 1) refl) (λ p k b n. other_none (2 * k - 1) (2 * i - 1) (λ e. n (omega arith)))

    pub one_at : (i : ℕ) → 1 ≤ i → i ≤ size book → get_or (entry_flow book) (i - 1) 0 ≡ 1
    one_at i h k = row_at (λ j. 1) (size book) 1 (i - 1) 0 (omega arith)

    pub laid_length : length laid ≡ length (book_arcs book)
    laid_length =
        let a = length-append (join_flow book 1 w) ((entry_flow book) ++ (y ++ (z ∷ []))) in
        let b = length-append (entry_flow book) (y ++ (z ∷ [])) in
        let c = length-append y (z ∷ []) in
        let d = row_length {A = ℕ} (λ j. 1) (size book) 1 in
        let e = laid_fits.joins in
        omega (arith, arcs_parts book)

    pub laid_balanced : times 0 w + z ≡ book.players → ((i : ℕ) → 1 ≤ i → i ≤ size book → times i w + get_or y (i - 1) 0 ≡ 1) → total y + z ≡ book.players
        → (v : ℕ) → v < nodes (book_net book) → net_out (book_net book) laid v ≡ balance (book_net book) v
    laid_balanced first each final v h = net_out_weigh book laid laid_length v ∙ step (node_kind (size book) v (omega (arith, nodes_count book)))
      where
        step : NodeKind (size book) v → pos (weigh (out_of v) (book_arcs book) laid) -ℤ pos (weigh (into v) (book_arcs book) laid) ≡ balance (book_net book) v
        step (origin e) =
            rw e (diff_pos (weigh (out_of 0) (book_arcs book) laid) (weigh (into 0) (book_arcs book) laid) book.players
            (let o = out_zero book (join_flow book 1 w) (entry_flow book) y z laid_fits in let i = in_zero book (join_flow book 1 w) (entry_flow book) y z laid_fits in let c = joins_out 0 in omega arith))
        step (odd i l k e) =
            rw e (diff_pos (weigh (out_of (2 * i - 1)) (book_arcs book) laid) (weigh (into (2 * i - 1)) (book_arcs book) laid) 0
            (let o = out_odd book (join_flow book 1 w) (entry_flow book) y z laid_fits i l k in let u = in_odd book (join_flow book 1 w) (entry_flow book) y z laid_fits i l k in let c = joins_in i l k in let d = one_at i l k in omega arith)
            ∙ sym (balance_inner book (2 * i - 1) (omega arith) (omega arith)))
        step (even i l k e) =
            rw e (diff_pos (weigh (out_of (2 * i)) (book_arcs book) laid) (weigh (into (2 * i)) (book_arcs book) laid) 0
            (let o = out_even book (join_flow book 1 w) (entry_flow book) y z laid_fits i l k in let u = in_even book (join_flow book 1 w) (entry_flow book) y z laid_fits i l k in let c = joins_out i in let d = one_at i l k in let m = each i l k in omega arith)
            ∙ sym (balance_inner book (2 * i) (omega arith) (omega arith)))
        step (last e) =
            rw e (diff_neg (weigh (out_of (last_node book)) (book_arcs book) laid) (weigh (into (last_node book)) (book_arcs book) laid) book.players
            (let o = out_last book (join_flow book 1 w) (entry_flow book) y z laid_fits in let i = in_last book (join_flow book 1 w) (entry_flow book) y z laid_fits in omega arith)
            ∙ sym (balance_last book (last_node book) refl))

    pub laid_cost : weigh (λ a. a.cost) (book_arcs book) laid ≡ along (λ p k. arc_cost book p k) 1 w
    laid_cost = omega (
      arith,
      parts book (join_flow book 1 w) (entry_flow book) y z laid_fits (λ a. a.cost) (along (λ p k. arc_cost book p k) 1 w) 0 0 0 (joins_sum (λ a. a.cost))
          (weigh_none (λ j. 0) (numbers book) (entry_flow book) (λ j m. refl)) (weigh_none (λ j. 0) (numbers book) y (λ j m. refl)) refl,
    )
