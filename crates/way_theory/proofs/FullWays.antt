-- The full list of a book has exactly the least-cost ways, in the order of ways.
use mathlib.Core.Path.{◌≡◌, refl, ap}
use mathlib.Core.Logic.{◌↔◌}
use mathlib.Core.Bool.{true, ◌&&◌}
use mathlib.Core.List.{List, [], ◌∷◌}
use Prim.Native.Nat.{ℕ, zero, suc}
use native.Mathlib.Omega.{arith}
use native.Mathlib.Nat.{suc_inj}
use lib.Dec.{leb}
use lib.ListN.{length, replicate}
use borrow.Author.Tests.{leb-true, le-leb}
use Rattle.laws.specs.Tests.{all, all_member, member_all, and_true, true_and}
use Rattle.laws.specs.Lexicographic.{◌<lex◌}
use Rattle.laws.specs.Members.{◌∈◌, keep, kept, keeps}
use Rattle.laws.specs.Ascending.{Ascending, ascending_keep}
use Rattle.laws.specs.Within.{Within, within, within_member, within_ascending, from_member, member_from}
use Rattle.laws.specs.Best.{best_member, best_ascending}
use Rattle.book_form.specs.Book.{Book}
use Rattle.way_theory.specs.Follow.{size}
use Rattle.way_theory.specs.Ways.{permits, times, Joined, IsWay, way_cost, LeastCostWay}
use Rattle.way_theory.specs.FullWays.{numbers, is_joined, is_way, no_dearer_way, way_bounds, way_list, full_ways}

module _ (book : Book) where
  joined_in : (n j : ℕ) (w : List ℕ) → Within (replicate n (0, size book)) w → is_joined book j w ≡ true → (length w ≡ n) × Joined book j w
  joined_in zero j [] h e = (refl, tt)
  joined_in zero j (p ∷ w) h e = absurd h
  joined_in (suc n) j [] h e = absurd h
  joined_in (suc n) j (p ∷ w) h e =
      let (a, b) = and_true (permits book p j) (is_joined book (suc j) w) e in
      let (l, d) = joined_in n (suc j) w h.2 b in
      (ap suc l, (h.1, a, d))

  joined_out : (n j : ℕ) (w : List ℕ) → length w ≡ n → Joined book j w → Within (replicate n (0, size book)) w × (is_joined book j w ≡ true)
  joined_out zero j [] l h = (tt, refl)
  joined_out zero j (p ∷ w) l h = absurd (omega arith)
  joined_out (suc n) j [] l h = absurd (omega arith)
  joined_out (suc n) j (p ∷ w) l h =
      let (a, b) = joined_out n (suc j) w (suc_inj l) h.2 in
      ((omega arith, h.0, a), true_and (permits book p j) (is_joined book (suc j) w) h.1 b)

  -- the ways of the list
  pub way_member : (w : List ℕ) → (w ∈ way_list book) ↔ IsWay book w
  unfolding way_list
  way_member w = (into, out)
    where
      into : w ∈ keep (is_way book) (within (way_bounds book)) → IsWay book w
      into m =
          let (k, e) = kept (is_way book) (within (way_bounds book)) w m in
          let (a, r) = and_true (is_joined book 1 w) _ e in
          let (b, c) = and_true (all (λ i. leb (times i w) 1) (numbers book)) _ r in
          let (l, d) = joined_in (size book) 1 w ((within_member (way_bounds book) w).0 k) a in
          record {
            all_entries = l;
            joined = d;
            once = λ i g k. leb-true (times i w) 1 (all_member (λ i. leb (times i w) 1) (numbers book) b i (member_from (size book) 1 i g (omega arith)));
            openings = leb-true (times 0 w) book.players c;
          }

      out : IsWay book w → w ∈ keep (is_way book) (within (way_bounds book))
      out h =
          let (a, b) = joined_out (size book) 1 w h.all_entries h.joined in
          keeps (is_way book) (within (way_bounds book)) w ((within_member (way_bounds book) w).1 a)
          (true_and (is_joined book 1 w) (all (λ i. leb (times i w) 1) (numbers book) && leb (times 0 w) book.players) b
          (true_and (all (λ i. leb (times i w) 1) (numbers book)) (leb (times 0 w) book.players)
          (member_all (λ i. leb (times i w) 1) (numbers book) (λ i m. (let k = from_member (size book) 1 i m in le-leb (times i w) 1 (h.once i k.0 (omega arith)))))
          (le-leb (times 0 w) book.players h.openings)))

  -- w is on the full list exactly if it is a least-cost way
  pub full_way : (w : List ℕ) → (w ∈ full_ways book) ↔ LeastCostWay book w
  unfolding full_ways
  full_way w = (
    λ m. (let h = (best_member (no_dearer_way book) (way_list book) w).0 m in
        record { way = (way_member w).0 h.0; least = λ x k. leb-true (way_cost book w) (way_cost book x) (h.1 x ((way_member x).1 k)) }),
    λ l. (best_member (no_dearer_way book) (way_list book) w).1
        ((way_member w).1 l.way, λ x m. le-leb (way_cost book w) (way_cost book x) (l.least x ((way_member x).0 m))),
  )

  pub ways_ascending : Ascending ◌<lex◌ (way_list book)
  unfolding way_list
  ways_ascending = ascending_keep ◌<lex◌ (is_way book) (within (way_bounds book)) (within_ascending (way_bounds book))

  pub full_ways_ascending : Ascending ◌<lex◌ (full_ways book)
  unfolding full_ways
  full_ways_ascending = best_ascending ◌<lex◌ (no_dearer_way book) (way_list book) ways_ascending
