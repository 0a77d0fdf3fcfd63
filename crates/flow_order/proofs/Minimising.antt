-- The turns of `minimise`: f is minimised from k up to a.
use mathlib.Core.Path.{◌≡◌, ◌∙◌}
use mathlib.Core.List.{List}
use Prim.Native.Nat.{ℕ, suc, ◌≤◌, ◌<◌}
use native.Mathlib.Omega.{arith}
use native.Mathlib.Decide.{dec_lt}
use Rattle.net_model.specs.Network.{Net, arcs, LeastCost}
use Rattle.net_theory.specs.Order.{Agree, NoLess}
use Rattle.flow_arc.specs.Changes.{Lowered}
use Rattle.flow_arc.proofs.Lowering.{agree_trans}
use Rattle.flow_order.specs.Minimising.{Minimised}

pub agree_fewer : (j k : ℕ) (f g : List ℕ) → j ≤ k → Agree k f g → Agree j f g
agree_fewer j k f g h p a l = p a (omega arith)

pub record MinTurn (N : Net) (f cur : List ℕ) (k a : ℕ) : Type 0 where
  pub least : LeastCost N cur
  pub same : Agree k f cur
  pub minimal : (i : ℕ) → k ≤ i → i < a → NoLess N cur i

-- a change of later arcs keeps it
less_kept : (N : Net) (f g : List ℕ) (a : ℕ) → Agree (suc a) f g → NoLess N f a → NoLess N g a
less_kept N f g a ag nl x lx ax = omega (arith, ag a (omega arith), nl x lx (λ b l. ag b (omega arith) ∙ ax b l))

pub min_step : (N : Net) (f cur next : List ℕ) (k a : ℕ) → k ≤ a → MinTurn N f cur k a → Lowered N cur next a → MinTurn N f next k (suc a)
min_step N f cur next k a h t d = record {
  least = d.least;
  same = agree_trans k f cur next t.same (agree_fewer k a cur next h d.same);
  minimal = λ i p q. cases i p (dec_lt i a) q;
}
  where
    cases : (i : ℕ) → k ≤ i → Dec (i < a) → i < suc a → NoLess N next i
    cases i p (yes r) q = less_kept N cur next i (agree_fewer (suc i) a cur next (omega arith) d.same) (t.minimal i p r)
    cases i p (no r) q = let e : i ≡ a = omega arith in rw e d.no_less

pub min_done : (N : Net) (f cur : List ℕ) (k a : ℕ) → arcs N ≤ a → MinTurn N f cur k a → Minimised N f cur k
min_done N f cur k a h t = record { least = t.least; same = t.same; minimal = λ i p q. t.minimal i p (omega arith) }
