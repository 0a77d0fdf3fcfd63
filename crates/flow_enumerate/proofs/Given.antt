-- The item of the full list that given numbers are: they are a least-cost flow, or it is none.
use mathlib.Core.Path.{◌≡◌, refl, sym, ap, subst, ◌∙◌}
use mathlib.Core.Logic.{inl, inr, ◌≢◌}
use mathlib.Core.List.{List, [], ◌∷◌}
use mathlib.Core.Option.{none, some}
use Prim.Native.Nat.{ℕ}
use Rattle.laws.specs.Equality.{same_list}
use Rattle.laws.specs.Members.{◌∈◌, keep_if, keep, kept, first?, first_member}
use Rattle.laws.specs.Tests.{test, test_yes}
use Rattle.net_model.specs.Network.{Net, WellFormed, LeastCost}
use Rattle.net_model.specs.FullList.{full_list}
use Rattle.net_model.proofs.FullList.{full_member}
use Rattle.flow_enumerate.specs.Enumerator.{state_flow, item_at, item_of, place_after, given_item, Resumes}
use Rattle.flow_enumerate.specs.declared.Enumerator.{Enumerator}
use Rattle.flow_enumerate.specs.declared.Place.TheVariants.{Start, Item}

abbrev only : List ℕ → List (List ℕ) → List (List ℕ)
only f L = keep (λ g. test (same_list g f)) L

found : (f : List ℕ) (L : List (List ℕ)) → f ∈ L → first? (only f L) ≡ some f
found f [] m = absurd m
found f (g ∷ L) m = step (same_list g f) m (found f L)
  where
    step : (t : Dec (g ≡ f)) → f ∈ (g ∷ L) → (f ∈ L → first? (only f L) ≡ some f) → first? (keep_if (test t) g (only f L)) ≡ some f
    step (yes q) m deep = ap some q
    step (no q) (inl e) deep = absurd (q (sym e))
    step (no q) (inr n) deep = deep n

missed : (f : List ℕ) (L : List (List ℕ)) → ¬ (f ∈ L) → first? (only f L) ≡ none
missed f [] n = refl
missed f (g ∷ L) n = step (same_list g f) (missed f L (λ m. n (inr m)))
  where
    step : (t : Dec (g ≡ f)) → first? (only f L) ≡ none → first? (keep_if (test t) g (only f L)) ≡ none
    step (yes q) deep = absurd (n (inl (sym q)))
    step (no q) deep = deep

module _ (N : Net) (ok : WellFormed N) (f : List ℕ) where
  pub item_least : LeastCost N f → given_item N f ≡ some f
  item_least L = found f (full_list N) ((full_member N ok f).1 L)

  pub no_item : ¬ LeastCost N f → given_item N f ≡ none
  no_item n = missed f (full_list N) (λ m. n ((full_member N ok f).0 m))

  -- a state on the item f, or one that has not begun
  pub resume_on : (r : Enumerator) → LeastCost N f → item_of r ≡ some f → r.place ≡ Item → Resumes N f r
  resume_on r L e p = record { item_is = e ∙ sym (item_least L); place_is = p ∙ ap (place_after Start) (sym (item_least L)) }

  pub resume_off : (r : Enumerator) → ¬ LeastCost N f → r.place ≡ Start → Resumes N f r
  resume_off r n p = record { item_is = ap (λ q. item_at q (state_flow r)) p ∙ sym (no_item n); place_is = p ∙ ap (place_after Start) (sym (no_item n)) }

  -- and back
  module _ (r : Enumerator) (R : Resumes N f r) where
    pub resumed_on : r.place ≡ Item → (state_flow r ≡ f) × LeastCost N f
    resumed_on p =
        let (m, t) = kept (λ g. test (same_list g f)) (full_list N) (state_flow r) (first_member (only f (full_list N)) (state_flow r) (sym R.item_is ∙ ap (λ q. item_at q (state_flow r)) p)) in
        let e = test_yes (same_list (state_flow r) f) t in
        (e, (full_member N ok f).0 (subst (λ g. g ∈ full_list N) e m))

    pub resumed_off : r.place ≢ Item → ¬ LeastCost N f
    resumed_off n L = n (R.place_is ∙ ap (place_after Start) (item_least L))
