-- An arc raised or lowered by δ, with a tight walk over later arcs that makes up for it, gives a least-cost flow.
use mathlib.Core.Path.{◌≡◌, refl, sym, ap, subst, ◌∙◌}
use mathlib.Core.Logic.{◌≢◌}
use mathlib.Core.List.{List, [], ◌∷◌}
use mathlib.Core.Bool.{true}
use Prim.Native.Nat.{ℕ, suc, ◌+◌, ◌-◌, ◌/◌, ◌≤◌, ◌<◌}
use native.Mathlib.Omega.{arith}
use lib.ListN.{get_or, set}
use lib.Seq.{get_or-set_same}
use lib.IntN.{ℤ, pos}
use borrow.Author.Tests.{le-leb}
use Rattle.laws.specs.Members.{Every}
use Rattle.net_model.specs.Network.{Net, arcs, tail, head, low, up, LeastCost}
use Rattle.net_model.specs.Residual.{codes, src, dst}
use Rattle.net_theory.specs.ResidualCapacity.{has_capacity}
use Rattle.net_theory.specs.Push.{push_one, push_all}
use Rattle.net_theory.specs.ReducedCost.{reduced}
use Rattle.net_theory.specs.ArcChange.{TightWalk, Moved}
use Rattle.net_theory.proofs.Codes.{even_code, odd_code, even_arc, odd_arc}
use Rattle.net_theory.proofs.PushAll.{all_other}
use Rattle.net_theory.proofs.TightWalks.{closed_least}

apart_from : (k c : ℕ) (cs : List ℕ) → c / 2 ≡ k → Every (λ c. k < c / 2) cs → Every (λ d. d ≢ c) cs
apart_from k c [] e h = tt
apart_from k c (d ∷ cs) e h = ((λ q. omega (arith, h.0, ap (λ i. i / 2) q)), apart_from k c cs e h.1)

not_used : (k a : ℕ) (cs : List ℕ) → a ≤ k → Every (λ c. k < c / 2) cs → Every (λ c. a ≢ c / 2) cs
not_used k a [] e h = tt
not_used k a (d ∷ cs) e h = ((λ q. omega (arith, h.0)), not_used k a cs e h.1)

module _ (N : Net) (π : ℕ → ℤ) where
  moved : (δ : ℕ) (f : List ℕ) (k c : ℕ) (cs : List ℕ) → c / 2 ≡ k → c < codes N → LeastCost N f → reduced N π k ≡ pos 0 → has_capacity N f δ c ≡ true
      → TightWalk N π δ f k (dst N c) (src N c) cs
      → (y : ℕ) → get_or (push_one δ c f) k 0 ≡ y → Moved N f (push_all δ (c ∷ cs) f) k y
  moved δ f k c cs e l lf ti capacity de y at_y = record {
    least_cost = closed_least N π δ (c ∷ cs) f (dst N c) lf (l, capacity, refl, de.walk) (apart_from k c cs e de.above, de.distinct) (rw e ti, de.tight);
    same_before = λ a h. sym (all_other N δ (c ∷ cs) f a ((λ q. omega arith), not_used k a cs (omega arith) de.above));
    at_k = all_other N δ cs (push_one δ c f) k (not_used k k cs (omega arith) de.above) ∙ at_y;
  }

  pub raised : (δ : ℕ) (f : List ℕ) (k : ℕ) (cs : List ℕ) → k < arcs N → LeastCost N f → reduced N π k ≡ pos 0 → get_or f k 0 + δ ≤ up N k
      → TightWalk N π δ f k (head N k) (tail N k) cs → Moved N f (push_all δ cs (set f k (get_or f k 0 + δ))) k (get_or f k 0 + δ)
  raised δ f k cs l lf ti capacity de =
      subst (λ (g : List ℕ). Moved N f (push_all δ cs g) k (get_or f k 0 + δ)) is
      (moved δ f k (k + k) cs (even_arc k) (omega arith) lf ti
      (rw (even_code k, even_arc k) (le-leb (get_or f k 0 + δ) (up N k) capacity))
      (rw (even_code k, even_arc k) de) (get_or f k 0 + δ)
      (ap (λ g. get_or g k 0) is ∙ get_or-set_same f k (get_or f k 0 + δ) 0 (omega (arith, lf.flow.all_arcs))))
    where
      is : push_one δ (k + k) f ≡ set f k (get_or f k 0 + δ)
      is = rw (even_code k, even_arc k)

  pub lowered : (δ : ℕ) (f : List ℕ) (k : ℕ) (cs : List ℕ) → k < arcs N → LeastCost N f → reduced N π k ≡ pos 0 → low N k + δ ≤ get_or f k 0
      → TightWalk N π δ f k (tail N k) (head N k) cs → Moved N f (push_all δ cs (set f k (get_or f k 0 - δ))) k (get_or f k 0 - δ)
  lowered δ f k cs l lf ti capacity de =
      subst (λ (g : List ℕ). Moved N f (push_all δ cs g) k (get_or f k 0 - δ)) is
      (moved δ f k (suc (k + k)) cs (odd_arc k) (omega arith) lf ti
      (rw (odd_code k, odd_arc k) (le-leb (low N k + δ) (get_or f k 0) capacity))
      (rw (odd_code k, odd_arc k) de) (get_or f k 0 - δ)
      (ap (λ g. get_or g k 0) is ∙ get_or-set_same f k (get_or f k 0 - δ) 0 (omega (arith, lf.flow.all_arcs))))
    where
      is : push_one δ (suc (k + k)) f ≡ set f k (get_or f k 0 - δ)
      is = rw (odd_code k, odd_arc k)
