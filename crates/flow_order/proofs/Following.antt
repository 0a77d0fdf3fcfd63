-- What `next` does: the last arc that can be raised is, and those after it are made low.
use mathlib.Core.Path.{◌≡◌, sym, ◌∙◌}
use mathlib.Core.List.{List}
use mathlib.Core.Bool.{Bool, true, false}
use Prim.Native.Nat.{ℕ, suc, ◌<◌}
use native.Mathlib.Omega.{arith}
use lib.IntN.{ℤ}
use Rattle.net_model.specs.Network.{Net, arcs}
use Rattle.net_theory.specs.Order.{TopFrom}
use Rattle.net_theory.proofs.Order.{next_is, next_none}
use Rattle.flow_arc.specs.FreeMarks.{FreeMarks}
use Rattle.flow_arc.specs.Changes.{RaisedByOne}
use Rattle.flow_arc.proofs.Certified.{free_any}
use Rattle.flow_arc.proofs.Lowering.{agree_trans}
use Rattle.flow_order.specs.Minimising.{Minimised}
use Rattle.flow_order.specs.Following.{Next}
use Rattle.flow_order.proofs.Minimising.{agree_fewer}

module _ (N : Net) (π : ℕ → ℤ) (free : List Bool) (f : List ℕ) (ti : FreeMarks N π free f) where
  pub next_no : (f' : List ℕ) → TopFrom N 0 f → Next N f f' false
  next_no f' top = record {
    follows = λ e. absurd (let z : ◌≡◌ {A = ℕ} 0 1 = cc in omega arith);
    least = λ e. absurd (let z : ◌≡◌ {A = ℕ} 0 1 = cc in omega arith);
    end = λ _. next_none N ti.well_formed f ti.least top;
  }

  -- arc a is raised, and those after it are as low as they can be
  pub next_yes : (g f' : List ℕ) (a : ℕ) → a < arcs N → TopFrom N (suc a) f → RaisedByOne N f g a → (FreeMarks N π free g → Minimised N g f' (suc a)) → Next N f f' true
  next_yes g f' a here top u low =
      let m = low (free_any N π free f g ti u.least_cost) in
      record {
        follows = λ _. next_is N ti.well_formed f f' a here ti.least
            (record { least_cost = m.least; same_before = agree_trans a f g f' u.same_before (agree_fewer a (suc a) g f' (omega arith) m.same); at_k = sym (m.same a (omega arith)) ∙ u.at_k })
            (λ i h l. top i (omega arith) l) (λ i h l. m.minimal i (omega arith) l);
        least = λ _. m.least;
        end = λ e. absurd (let z : ◌≡◌ {A = ℕ} 0 1 = cc in omega arith);
      }
