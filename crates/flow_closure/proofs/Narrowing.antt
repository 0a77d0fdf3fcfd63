-- The pass that takes marks away: the arcs passed are narrowed, and the others are as they were.
use mathlib.Core.Path.{◌≡◌, refl, sym, ◌∙◌}
use mathlib.Core.Logic.{◌⊎◌, inl, inr}
use mathlib.Core.List.{List}
use mathlib.Core.Bool.{Bool, true, false, true≢false, ◌||◌}
use Prim.Native.Nat.{ℕ, ◌+◌, ◌≤◌, ◌<◌}
use native.Mathlib.Omega.{arith}
use lib.ListN.{length, get_or, set}
use lib.Seq.{get_or-set_other}
use Rattle.laws.specs.Padded.{set_more}
use Rattle.net_model.specs.Network.{Net, arcs}
use Rattle.net_model.specs.declared.Arc.{Arc}
use Rattle.net_theory.specs.Ready.{Searchable}
use Rattle.net_theory.specs.FreeArcs.{Raisable, Lowerable, NotRaisable, NotLowerable}
use Rattle.net_theory.proofs.ArcReads.{ArcAt}
use Rattle.flow_closure.specs.Closure.{Closure}
use Rattle.flow_closure.specs.Candidates.{raises, lowers, UnmarkFixed}
use Rattle.flow_closure.proofs.Candidates.{raisable, lowerable, not_raisable, not_lowerable}

module _ (N : Net) (f : List ℕ) (free : List Bool) where
  -- mark b of arc a
  abbrev pub Right : ℕ → Bool → Type 0
  Right a b = (b ≡ true → Raisable N f free 0 a ⊎ Lowerable N f free 0 a) × (b ≡ false → NotRaisable N f free 0 a × NotLowerable N f free 0 a)

  -- the arcs before a
  pub record Narrowing (cur : List Bool) (a : ℕ) : Type 0 where
    pub passed : (i : ℕ) → i < a → Right i (get_or cur i false)
    pub rest : (i : ℕ) → a ≤ i → get_or cur i false ≡ get_or free i false

  -- an arc that is not marked gets no mark
  pub right_unmarked : (a : ℕ) (b : Bool) → get_or free a false ≡ false → b ≡ false → Right a b
  right_unmarked a b e q = ((λ z. absurd (true≢false (sym z ∙ q))), λ _. (inl e, inl e))

  module _ (ok : Searchable N f free) (a : ℕ) (x : Arc) (at : ArcAt N a x) (rows : List ℕ) (cl : Closure N f free 0 rows) where
    -- a marked one keeps it if one of its steps closes a cycle
    pub right_marked : get_or free a false ≡ true → (b : Bool) → b ≡ (raises rows x (get_or f a 0) || lowers rows x (get_or f a 0)) → Right a b
    right_marked e b q = go (raises rows x (get_or f a 0)) (lowers rows x (get_or f a 0)) refl refl q
      where
        go : (r l : Bool) → raises rows x (get_or f a 0) ≡ r → lowers rows x (get_or f a 0) ≡ l → b ≡ (r || l) → Right a b
        go true l p o z = ((λ _. inl (raisable N f free ok a x at rows e 0 cl p)), λ y. absurd (true≢false (sym z ∙ y)))
        go false true p o z = ((λ _. inr (lowerable N f free ok a x at rows e 0 cl o)), λ y. absurd (true≢false (sym z ∙ y)))
        go false false p o z = ((λ y. absurd (true≢false (sym y ∙ z))), λ _. (not_raisable N f free ok a x at rows e 0 cl p, not_lowerable N f free ok a x at rows e 0 cl o))

  pub narrowing_step : (cur : List Bool) (a : ℕ) (b : Bool) → a < length cur → Narrowing cur a → Right a b → Narrowing (set cur a b) (a + 1)
  narrowing_step cur a b l n r = record {
    passed = set_more Right cur a b false l n.passed r;
    rest = λ i h. get_or-set_other cur a i b false (λ q. omega arith) ∙ n.rest i (omega arith);
  }

  pub narrowing_done : (cur : List Bool) (a : ℕ) → arcs N ≤ a → Narrowing cur a → UnmarkFixed N f free cur
  narrowing_done cur a h n = record { left = λ i l. (n.passed i (omega arith)).0; others = λ i l. (n.passed i (omega arith)).1 }
