-- The turns of `lower`: cur is f with less on arc k.
use mathlib.Core.Path.{◌≡◌, ◌∙◌}
use mathlib.Core.List.{List}
use mathlib.Core.Bool.{Bool, true, false}
use Prim.Native.Nat.{ℕ, suc, ◌-◌, ◌<◌}
use native.Mathlib.Omega.{arith}
use lib.ListN.{get_or, set}
use lib.IntN.{ℤ}
use Rattle.net_model.specs.Network.{Net, arcs, tail, head, low}
use Rattle.net_theory.specs.Order.{Agree, NoLess}
use Rattle.net_theory.specs.FreeArcs.{FreeWalk}
use Rattle.net_theory.specs.Push.{push_all}
use Rattle.flow_push.proofs.LeastCapacity.{capacity_cap, capacity_each}
use Rattle.flow_arc.specs.FreeMarks.{FreeMarks}
use Rattle.flow_arc.specs.WalksAbove.{takes}
use Rattle.flow_arc.specs.Changes.{Lowered}
use Rattle.flow_arc.proofs.Certified.{free_any, lowered_by}

pub agree_trans : (k : ℕ) (f g h : List ℕ) → Agree k f g → Agree k g h → Agree k f h
agree_trans k f g h p q a l = p a l ∙ q a l

pub record LowTurn (N : Net) (π : ℕ → ℤ) (free : List Bool) (f : List ℕ) (k : ℕ) (cur : List ℕ) : Type 0 where
  pub free_still : FreeMarks N π free cur
  pub same : Agree k f cur

module _ (N : Net) (π : ℕ → ℤ) (free : List Bool) (f : List ℕ) (k : ℕ) (l : k < arcs N) where
  pub low_step : (cur next : List ℕ) (cs : List ℕ) → LowTurn N π free f k cur → get_or free k false ≡ true → low N k < get_or cur k 0 → FreeWalk N cur free (tail N k) (head N k) (suc k) cs
      → next ≡ push_all (takes N cur k cs) cs (set cur k (get_or cur k 0 - takes N cur k cs)) → LowTurn N π free f k next
  low_step cur next cs t m h p e =
      let r = lowered_by N cur free k π t.free_still l (takes N cur k cs) cs p m (omega (arith, capacity_cap N cur (get_or cur k 0 - low N k) cs)) (capacity_each N cur (get_or cur k 0 - low N k) cs) in
      rw e (record {
        free_still = free_any N π free cur (push_all (takes N cur k cs) cs (set cur k (get_or cur k 0 - takes N cur k cs))) t.free_still r.least_cost;
        same = agree_trans k f cur (push_all (takes N cur k cs) cs (set cur k (get_or cur k 0 - takes N cur k cs))) t.same r.same_before;
      })

  pub low_done : (cur : List ℕ) → LowTurn N π free f k cur → NoLess N cur k → Lowered N f cur k
  low_done cur t n = record { least = t.free_still.least; same = t.same; no_less = n }
