-- "With 28 entries that is 58 nodes and at most 463 arcs": of two entries at most one may follow the other, since an entry ends after it starts.
use mathlib.Core.Path.{◌≡◌, refl, sym, ap, ◌∙◌}
use mathlib.Core.Bool.{Bool, true, false}
use mathlib.Core.List.{[], map}
use Prim.Native.Nat.{ℕ, zero, suc, ◌+◌, ◌-◌, ◌≤◌, ◌<◌}
use native.Mathlib.Omega.{arith}
use lib.ListN.{length, length-map, length-append}
use Rattle.laws.specs.Members.{◌∈◌, keep, keep_if}
use Rattle.laws.specs.Within.{from, from_member}
use Rattle.laws.specs.Rows.{from_length}
use Rattle.laws.specs.Totals.{total_of, total_last, triangle, triangle_mono, square}
use Rattle.net_model.specs.Network.{nodes, arcs}
use Rattle.book_form.specs.Book.{Book}
use Rattle.book_form.specs.WithinLimits.{WithinLimits}
use Rattle.way_theory.specs.Follow.{size, entry_at, follow_cost}
use Rattle.way_theory.specs.Ways.{given?, permits, one_if}
use Rattle.way_theory.specs.FullWays.{numbers}
use Rattle.way_theory.specs.BookNet.{down, sources, join_arc, join_arcs, book_net}
use Rattle.way_theory.proofs.Fair.{fair_entry_lem}
use Rattle.way_theory.proofs.Spare.{follow_given, follow_time}
use Rattle.way_theory.proofs.Nodes.{count_arcs, arcs_parts, nodes_count}

keep_count : (p : ℕ → Bool) (n : ℕ) → length (keep p (down n)) ≡ one_if (p 0) + total_of (λ i. one_if (p i)) (from n 1)
keep_count p zero = go (p 0)
  where
    go : (t : Bool) → length {A = ℕ} (keep_if t 0 []) ≡ one_if t + 0
    go true = refl
    go false = refl
keep_count p (suc n) = let h = keep_count p n in let l = total_last (λ i. one_if (p i)) n 1 in
    let e : one_if (p (1 + n)) ≡ one_if (p (suc n)) = ap (λ k. one_if (p k)) (omega arith) in go (p (suc n)) ∙ omega arith
  where
    go : (t : Bool) → length (keep_if t (suc n) (keep p (down n))) ≡ length (keep p (down n)) + one_if t
    go true = omega arith
    go false = omega arith

module _ (book : Book) where
  joins_count : (n s : ℕ) → length (join_arcs book n s) ≡ n + total_of (λ j. total_of (λ i. one_if (permits book i j)) (numbers book)) (from n s)
  joins_count zero s = refl
  joins_count (suc n) s =
      let deep = joins_count n (suc s) in
      let here = length-append (map (join_arc book s) (sources book s)) (join_arcs book n (suc s)) in
      let block = length-map (sources book s) (join_arc book s) ∙ keep_count (λ i. permits book i s) (size book) in
      omega arith

  module _ (ok : WithinLimits book) where
    pub timed : (j : ℕ) → 1 ≤ j → j ≤ size book → (entry_at book j).start < (entry_at book j).finish
    timed j h k = (fair_entry_lem (entry_at book j) (ok.fair_entries (j - 1) (omega arith))).ends_later

    one_way : (i j : ℕ) → i ∈ numbers book → j ∈ numbers book → one_if (permits book i j) + one_if (permits book j i) ≤ 1
    one_way zero j m n = let b = from_member (size book) 1 0 m in absurd (omega arith)
    one_way (suc i) zero m n = let b = from_member (size book) 1 0 n in absurd (omega arith)
    one_way (suc i) (suc j) m n =
        go (given? (follow_cost book (suc i) (suc j))) (given? (follow_cost book (suc j) (suc i)))
        (λ e. follow_time book (suc i) (suc j) (sym (follow_given book (suc i) (suc j)) ∙ e))
        (λ e. follow_time book (suc j) (suc i) (sym (follow_given book (suc j) (suc i)) ∙ e))
      where
        go : (t u : Bool) → (t ≡ true → (entry_at book (suc i)).finish ≤ (entry_at book (suc j)).start) → (u ≡ true → (entry_at book (suc j)).finish ≤ (entry_at book (suc i)).start) → one_if t + one_if u ≤ 1
        go true true f g =
            let a = f refl in let b = g refl in
            let c = timed (suc i) (omega arith) (let d = from_member (size book) 1 (suc i) m in omega arith) in
            let d = timed (suc j) (omega arith) (let d = from_member (size book) 1 (suc j) n in omega arith) in
            absurd (omega arith)
        go true false f g = omega arith
        go false u f g = go_on u
          where
            go_on : (u : Bool) → 0 + one_if u ≤ 1
            go_on true = omega arith
            go_on false = omega arith

    pub arcs_few : arcs (book_net book) ≤ 463
    arcs_few =
        let few = ok.few in
        let f = joins_count (size book) 1 in
        let g : total_of (λ j. total_of (λ i. one_if (permits book i j)) (numbers book)) (numbers book) ≤ triangle (size book) =
        rw from_length at (square (λ i j. one_if (permits book i j)) (numbers book) one_way) in
        let m = triangle_mono (size book) (28 - size book) in
        let n : size book + (28 - size book) ≡ 28 = omega arith in
        let k : triangle (size book) ≤ 378 = rw n at m in
        omega (arith, count_arcs book, arcs_parts book)

    pub nodes_few : nodes (book_net book) ≤ 58
    nodes_few = omega (arith, nodes_count book, ok.few)
