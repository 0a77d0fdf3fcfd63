-- A way is got back from its flow: in each entry's block the predecessor whose arc carries 1. So no two ways have one flow.
use mathlib.Core.Path.{◌≡◌, refl, sym, ap, subst, ◌∙◌}
use mathlib.Core.Logic.{inl, inr}
use mathlib.Core.List.{List, [], ◌∷◌, ◌++◌, append_assoc}
use Prim.Native.Nat.{ℕ, suc}
use native.Mathlib.Omega.{arith}
use lib.ListN.{length, length-map}
use lib.Seq.{drop_at}
use Rattle.laws.specs.Members.{◌∈◌, every_member}
use Rattle.laws.specs.Ascending.{Ascending}
use Rattle.laws.specs.Equality.{cons_same}
use Rattle.book_form.specs.Book.{Book}
use Rattle.way_theory.specs.Ways.{Joined, IsWay}
use Rattle.way_theory.specs.BookNet.{sources}
use Rattle.way_theory.specs.WayFlow.{one_if_same, marked, join_flow, flow_of, pick, way_from, way_of}
use Rattle.way_theory.proofs.OneIfSame.{same_one, other_none, Above}
use Rattle.way_theory.proofs.Blocks.{sources_fall, source}

pick_marked : (l : List ℕ) (p : ℕ) (x : List ℕ) → Ascending Above l → p ∈ l → pick l (marked p l ++ x) ≡ p
pick_marked [] p x h m = absurd m
pick_marked (a ∷ l) p x h (inl q) = rw (same_one a p (sym q)) (sym q)
pick_marked (a ∷ l) p x h (inr m) =
    let b = every_member (Above a) l h.0 p m in
    rw (other_none a p (λ z. omega arith)) (pick_marked l p x h.1 m)

module _ (book : Book) where
  from_joins : (j : ℕ) (w x : List ℕ) → Joined book j w → way_from book (length w) j (join_flow book j w ++ x) ≡ w
  from_joins j [] x h = refl
  from_joins j (p ∷ w) x h =
      rw (append_assoc (marked p (sources book j)) (join_flow book (suc j) w) x)
      (cons_same (pick (sources book j) (marked p (sources book j) ++ (join_flow book (suc j) w ++ x))) p _ w
      (pick_marked (sources book j) p (join_flow book (suc j) w ++ x) (sources_fall book j) (source book j p h.0 h.1))
      (ap (way_from book (length w) (suc j)) (drop_at (marked p (sources book j)) (join_flow book (suc j) w ++ x) (length (sources book j)) (length-map (sources book j) (λ i. one_if_same i p)))
      ∙ from_joins (suc j) w x h.2))

  pub way_back : (w : List ℕ) → IsWay book w → way_of book (flow_of book w) ≡ w
  way_back w h = subst (λ n. way_from book n 1 (flow_of book w) ≡ w) h.all_entries (from_joins 1 w _ h.joined)

  pub flow_once : (w x : List ℕ) → IsWay book w → IsWay book x → flow_of book w ≡ flow_of book x → w ≡ x
  flow_once w x a b e = sym (way_back w a) ∙ ap (way_of book) e ∙ way_back x b
