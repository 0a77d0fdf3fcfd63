-- What `raise` does: arc k raised by 1, along a walk that is there.
use mathlib.Core.Path.{◌≡◌, ap, sym, subst, ◌∙◌}
use mathlib.Core.List.{List, [], ◌∷◌}
use mathlib.Core.Bool.{Bool, true, false, true≢false}
use Prim.Native.Nat.{ℕ, suc, ◌+◌, ◌≤◌, ◌<◌}
use native.Mathlib.Omega.{arith}
use lib.ListN.{get_or, set}
use lib.IntN.{ℤ}
use Rattle.laws.specs.Members.{Every}
use Rattle.net_model.specs.Network.{Net, arcs, tail, head, up}
use Rattle.net_model.specs.Residual.{src, CodeWalk}
use Rattle.net_theory.specs.FreeArcs.{goes, FreeWalk, Reaches, Blocked}
use Rattle.net_theory.specs.Push.{push_all}
use Rattle.flow_arc.specs.FreeMarks.{FreeMarks}
use Rattle.flow_arc.specs.Changes.{RaisedByOne}
use Rattle.flow_arc.proofs.WalksAbove.{walk_capacity_above}
use Rattle.flow_arc.proofs.Certified.{raised_by}

-- what reaches t is not blocked from it
pub unblocked : (N : Net) (f : List ℕ) (free : List Bool) (s t from : ℕ) → Reaches N f free s t from → Blocked N f free s t from → ⊥
unblocked N f free s t from r b = true≢false (sym (stays r.codes t r.walk r.low) ∙ b.lacks)
  where
    stays : (cs : List ℕ) (v : ℕ) → CodeWalk N (goes N f free) s v cs → Every (λ c. from + from ≤ c) cs → b.inside v ≡ true
    stays [] v w l = subst (λ (i : ℕ). b.inside i ≡ true) w b.has
    stays (c ∷ cs) v w l = subst (λ (i : ℕ). b.inside i ≡ true) w.2 (b.shut c l.0 w.0 w.1 (stays cs (src N c) w.3 l.1))

module _ (N : Net) (π : ℕ → ℤ) (free : List Bool) (f : List ℕ) (k : ℕ) (l : k < arcs N) (ti : FreeMarks N π free f) where
  pub raised_one : (f' : List ℕ) (cs : List ℕ) → get_or free k false ≡ true → get_or f k 0 < up N k → FreeWalk N f free (head N k) (tail N k) (suc k) cs
      → f' ≡ push_all 1 cs (set f k (get_or f k 0 + 1)) → RaisedByOne N f f' k
  raised_one f' cs m h p e =
      let r = raised_by N f free k π ti l 1 cs p m (omega arith) (walk_capacity_above N f free (head N k) (tail N k) k cs p).capacity in
      record { least_cost = rw e r.least_cost; same_before = rw e r.same_before; at_k = ap (λ g. get_or g k 0) e ∙ r.at_k ∙ omega arith }
