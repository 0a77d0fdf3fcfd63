-- The arcs of a book's network, one by one: what holds of each kind holds of arc k; so their ends are nodes.
use mathlib.Core.Path.{◌≡◌, refl, sym, subst, ◌∙◌}
use mathlib.Core.Logic.{◌⊎◌, inl, inr}
use mathlib.Core.List.{[], ◌∷◌, ◌++◌, map}
use Prim.Native.Nat.{ℕ, ◌≤◌, ◌<◌}
use native.Mathlib.Omega.{arith}
use lib.ListN.{get_or, length-map, get_or-map}
use lib.IntN.{pos}
use Rattle.laws.specs.Members.{◌∈◌, append_cases, member_map, get_or_member}
use Rattle.laws.specs.Within.{from_member}
use Rattle.net_model.specs.Network.{WellFormed, nodes, arcs}
use Rattle.book_form.specs.Book.{Book}
use Rattle.way_theory.specs.Follow.{size}
use Rattle.way_theory.specs.FullWays.{numbers}
use Rattle.way_theory.specs.BookNet.{BookArc, join_arc, join_arcs, entry_arc, end_arc, last_arc, book_arcs, book_net}
use Rattle.way_theory.proofs.Blocks.{joins_member}
use Rattle.way_theory.proofs.Nodes.{no_book_arc, count_arcs, nodes_count}

module _ (book : Book) where
  -- what holds of every arc
  pub record OfArcs (P : BookArc → Type 0) : Type 0 where
    pub joins : (i j : ℕ) → i ≤ size book → 1 ≤ j → j ≤ size book → P (join_arc book j i)
    pub entries : (j : ℕ) → 1 ≤ j → j ≤ size book → P (entry_arc j)
    pub ends : (j : ℕ) → 1 ≤ j → j ≤ size book → P (end_arc book j)
    pub last : P (last_arc book)

  module _ (P : BookArc → Type 0) (holds : OfArcs P) where
    row_holds : (k : ℕ → BookArc) → ((j : ℕ) → 1 ≤ j → j ≤ size book → P (k j)) → (a : BookArc) → a ∈ map k (numbers book) → P a
    row_holds k h a m =
        let (j, l, q) = member_map k (numbers book) a m in
        let b = from_member (size book) 1 j l in
        subst P (sym q) (h j b.0 (omega arith))

    all_hold : (a : BookArc) → a ∈ book_arcs book → P a
    all_hold a m = one (append_cases (join_arcs book (size book) 1) (map entry_arc (numbers book) ++ (map (end_arc book) (numbers book) ++ (last_arc book ∷ []))) a m)
      where
        three : (a ∈ map (end_arc book) (numbers book)) ⊎ (a ∈ (last_arc book ∷ [])) → P a
        three (inl m) = row_holds (end_arc book) holds.ends a m
        three (inr (inl q)) = subst P (sym q) holds.last
        three (inr (inr m)) = absurd m

        two : (a ∈ map entry_arc (numbers book)) ⊎ (a ∈ (map (end_arc book) (numbers book) ++ (last_arc book ∷ []))) → P a
        two (inl m) = row_holds entry_arc holds.entries a m
        two (inr m) = three (append_cases (map (end_arc book) (numbers book)) (last_arc book ∷ []) a m)

        one : (a ∈ join_arcs book (size book) 1) ⊎ (a ∈ (map entry_arc (numbers book) ++ (map (end_arc book) (numbers book) ++ (last_arc book ∷ [])))) → P a
        one (inl m) = let (i, j, b, c, l, q) = joins_member book (size book) 1 a m in subst P (sym q) (holds.joins i j l b (omega arith))
        one (inr m) = two (append_cases (map entry_arc (numbers book)) (map (end_arc book) (numbers book) ++ (last_arc book ∷ [])) a m)

    pub arc_holds : (k : ℕ) → k < arcs (book_net book) → P (get_or (book_arcs book) k no_book_arc)
    arc_holds k h = all_hold (get_or (book_arcs book) k no_book_arc) (get_or_member (book_arcs book) k no_book_arc (subst (λ n. k < n) (count_arcs book) h))

  -- of a number that arcs have, as the network holds it
  pub part_holds : {A : Type 0} (part : BookArc → A) (Q : A → Type 0) → OfArcs (λ a. Q (part a)) → (d : A) → d ≡ part no_book_arc → (k : ℕ) → k < arcs (book_net book) → Q (get_or (map part (book_arcs book)) k d)
  part_holds part Q holds d e k h =
      subst Q (sym (subst (λ d. get_or (map part (book_arcs book)) k d ≡ part (get_or (book_arcs book) k no_book_arc)) (sym e) (get_or-map part (book_arcs book) k no_book_arc)))
      (arc_holds (λ a. Q (part a)) holds k h)

  pub well_formed : WellFormed (book_net book)
  well_formed =
      let n = nodes_count book in
      record {
        heads_len = length-map (book_arcs book) (λ a. a.head) ∙ sym (count_arcs book);
        lows_len = length-map (book_arcs book) (λ a. a.low) ∙ sym (count_arcs book);
        ups_len = length-map (book_arcs book) (λ a. a.up) ∙ sym (count_arcs book);
        costs_len = length-map (book_arcs book) (λ a. pos a.cost) ∙ sym (count_arcs book);
        tail_in = part_holds (λ a. a.tail) (λ v. v < nodes (book_net book)) (record { joins = λ i j h k l. omega arith; entries = λ j h k. omega arith; ends = λ j h k. omega arith; last = omega arith }) 0 refl;
        head_in = part_holds (λ a. a.head) (λ v. v < nodes (book_net book)) (record { joins = λ i j h k l. omega arith; entries = λ j h k. omega arith; ends = λ j h k. omega arith; last = omega arith }) 0 refl;
      }
