-- A list of E numbers is a way exactly if its flow is a flow, and a least-cost way exactly if that is a least-cost flow.
use mathlib.Core.Path.{◌≡◌, refl, sym, ◌∙◌}
use mathlib.Core.Logic.{inl, inr, ◌↔◌}
use mathlib.Core.Bool.{Bool, true, false}
use mathlib.Core.List.{List, [], ◌∷◌, ◌++◌, append_assoc}
use Prim.Native.Nat.{ℕ, suc}
use native.Mathlib.Omega.{arith}
use native.Mathlib.Nat.{suc_inj}
use lib.Dec.{eqb}
use lib.ListN.{length, length-map}
use Rattle.laws.specs.Equality.{test_same, cons_same, heads_same, tails_same}
use Rattle.laws.specs.Members.{◌∈◌}
use Rattle.net_model.specs.Network.{IsFlow, LeastCost}
use Rattle.book_form.specs.Book.{Book}
use Rattle.way_theory.specs.Follow.{size}
use Rattle.way_theory.specs.Ways.{one_if, Joined, IsWay, LeastCostWay}
use Rattle.way_theory.specs.BookNet.{sources, book_net}
use Rattle.way_theory.specs.WayFlow.{one_if_same, marked, join_flow, flow_of}
use Rattle.way_theory.proofs.OneIfSame.{same_one}
use Rattle.way_theory.proofs.Blocks.{source}
use Rattle.way_theory.proofs.Matched.{flow_way}
use Rattle.way_theory.proofs.FullWays.{full_way}
use Rattle.way_theory.proofs.LineByLine.{least_matched}

one_same : (m n : ℕ) → one_if_same m n ≡ 1 → m ≡ n
one_same m n = go (eqb m n) refl
  where
    go : (t : Bool) → eqb m n ≡ t → one_if t ≡ 1 → m ≡ n
    go true e h = test_same m n e
    go false e h = absurd (omega arith)

marked_same : (l : List ℕ) (p q : ℕ) → q ∈ l → marked p l ≡ marked q l → p ≡ q
marked_same [] p q m e = absurd m
marked_same (a ∷ l) p q (inl r) e = sym (one_same a p (heads_same (one_if_same a p) (one_if_same a q) (marked p l) (marked q l) e ∙ same_one a q (sym r))) ∙ sym r
marked_same (a ∷ l) p q (inr m) e = marked_same l p q m (tails_same (one_if_same a p) (one_if_same a q) (marked p l) (marked q l) e)

append_same : (a b c d : List ℕ) → length a ≡ length b → a ++ c ≡ b ++ d → (a ≡ b) × (c ≡ d)
append_same [] [] c d l e = (refl, e)
append_same [] (y ∷ b) c d l e = absurd (omega arith)
append_same (x ∷ a) [] c d l e = absurd (omega arith)
append_same (x ∷ a) (y ∷ b) c d l e =
    let (p, q) = append_same a b c d (suc_inj l) (tails_same x y (a ++ c) (b ++ d) e) in
    (cons_same x y a b (heads_same x y (a ++ c) (b ++ d) e) p, q)

module _ (book : Book) where
  joins_same : (j : ℕ) (w v x y : List ℕ) → length w ≡ length v → Joined book j v → join_flow book j w ++ x ≡ join_flow book j v ++ y → w ≡ v
  joins_same j [] [] x y l h e = refl
  joins_same j [] (q ∷ v) x y l h e = absurd (omega arith)
  joins_same j (p ∷ w) [] x y l h e = absurd (omega arith)
  joins_same j (p ∷ w) (q ∷ v) x y l h e =
      let s = sources book j in
      let (a, r) = append_same (marked p s) (marked q s) (join_flow book (suc j) w ++ x) (join_flow book (suc j) v ++ y)
      (length-map s (λ i. one_if_same i p) ∙ sym (length-map s (λ i. one_if_same i q)))
      (sym (append_assoc (marked p s) (join_flow book (suc j) w) x) ∙ e ∙ append_assoc (marked q s) (join_flow book (suc j) v) y) in
      cons_same p q w v (marked_same s p q (source book j q h.0 h.1) a) (joins_same (suc j) w v x y (suc_inj l) h.2 r)

  pub given_way_lem : (w : List ℕ) → length w ≡ size book → IsFlow (book_net book) (flow_of book w) → IsWay book w
  given_way_lem w l f = let (v, h, q) = flow_way book (flow_of book w) f in rw (joins_same 1 w v _ _ (l ∙ sym h.all_entries) h.joined q) h

  pub given_least : (w : List ℕ) → length w ≡ size book → LeastCost (book_net book) (flow_of book w) ↔ LeastCostWay book w
  given_least w l = (
    λ f. (full_way book w).0 ((least_matched book w (given_way_lem w l f.flow)).1 f),
    λ h. (least_matched book w h.way).0 ((full_way book w).1 h),
  )
