-- An arc is a candidate if its step closes a cycle, and is none otherwise; and the passes over the arcs from the last down.
use mathlib.Core.Path.{◌≡◌, refl, subst}
use mathlib.Core.Logic.{◌⊎◌, inl, inr}
use mathlib.Core.List.{List}
use mathlib.Core.Bool.{Bool, true, false}
use Prim.Native.Nat.{ℕ, suc, ◌-◌, ◌≤◌, ◌<◌}
use native.Mathlib.Decide.{ℕ_discrete}
use Rattle.std.specs.Prelude.{Option, None, Some}
use native.Mathlib.Omega.{arith}
use lib.Dec.{ltb}
use lib.ListN.{get_or}
use borrow.Author.Tests.{ltb-true, ltb-false}
use Rattle.laws.specs.Tests.{and_true}
use Rattle.net_model.specs.Network.{Net, arcs}
use Rattle.net_model.specs.declared.Arc.{Arc}
use Rattle.net_theory.specs.Ready.{Searchable}
use Rattle.net_theory.specs.FreeArcs.{Reaches, Raisable, Lowerable, Blocked, NotRaisable, NotLowerable}
use Rattle.net_theory.proofs.ArcReads.{ArcAt}
use Rattle.flow_preorder.specs.Preorder.{leads}
use Rattle.flow_closure.specs.Closure.{Closure, StepsAdded}
use Rattle.flow_closure.specs.Candidates.{closes, raises, lowers, NoneRaisable, LastRaisable, NoneLowerable, FirstLowerable}
use Rattle.flow_closure.proofs.Closure.{closure_blocked, closure_arc}

module _ (N : Net) (f : List ℕ) (free : List Bool) (ok : Searchable N f free) (a : ℕ) (x : Arc) (at : ArcAt N a x) where
  pub tail_in : x.tail < 64
  tail_in = omega (arith, at.tail_is, ok.ends.tail_in a at.inside)

  pub head_in : x.head < 64
  head_in = omega (arith, at.head_is, ok.ends.head_in a at.inside)

  module _ (rows : List ℕ) (is_free : get_or free a false ≡ true) where
    pub closure_more : (rows' : List ℕ) → Closure N f free (suc a) rows → StepsAdded rows rows' x (get_or f a 0) → Closure N f free a rows'
    closure_more rows' cl s =
        closure_arc N f free a rows cl at.inside is_free (ok.ends.tail_in a at.inside) (ok.ends.head_in a at.inside) s.mid rows'
        (rw (← at.tail_is, ← at.head_is, ← at.up_is) s.forth) (rw (← at.tail_is, ← at.head_is, ← at.low_is) s.back)

    module _ (from : ℕ) (cl : Closure N f free from rows) where
      -- q is reached from p, or out of its reach
      within_reach : (on : Bool) (p q : ℕ) → q < 64 → closes rows on p q ≡ true → (on ≡ true) × Reaches N f free q p from
      within_reach on p q k e = let b = and_true on (leads rows q p) e in (b.0, cl.sound q p k b.1)

      out_of_reach : (on : Bool) (p q : ℕ) → q < 64 → closes rows on p q ≡ false → (on ≡ false) ⊎ Blocked N f free q p from
      out_of_reach false p q k e = inl refl
      out_of_reach true p q k e = inr (closure_blocked N f free from rows q p cl k e)

      pub raisable : raises rows x (get_or f a 0) ≡ true → Raisable N f free from a
      raisable e =
          let r = within_reach (ltb (get_or f a 0) x.up) x.tail x.head head_in e in
          let l = ltb-true _ _ r.0 in
          (is_free, omega (arith, at.up_is), rw (at.tail_is, at.head_is) at r.1)

      pub lowerable : lowers rows x (get_or f a 0) ≡ true → Lowerable N f free from a
      lowerable e =
          let r = within_reach (ltb x.low (get_or f a 0)) x.head x.tail tail_in e in
          let l = ltb-true _ _ r.0 in
          (is_free, omega (arith, at.low_is), rw (at.tail_is, at.head_is) at r.1)

      pub not_raisable : raises rows x (get_or f a 0) ≡ false → NotRaisable N f free from a
      not_raisable e = go (out_of_reach (ltb (get_or f a 0) x.up) x.tail x.head head_in e)
        where
          go : (ltb (get_or f a 0) x.up ≡ false) ⊎ Blocked N f free x.head x.tail from → NotRaisable N f free from a
          go (inl n) = let l = ltb-false _ _ n in inr (inl (omega (arith, at.up_is)))
          go (inr b) = inr (inr (rw (at.tail_is, at.head_is) at b))

      pub not_lowerable : lowers rows x (get_or f a 0) ≡ false → NotLowerable N f free from a
      not_lowerable e = go (out_of_reach (ltb x.low (get_or f a 0)) x.head x.tail tail_in e)
        where
          go : (ltb x.low (get_or f a 0) ≡ false) ⊎ Blocked N f free x.tail x.head from → NotLowerable N f free from a
          go (inl n) = let l = ltb-false _ _ n in inr (inl (omega (arith, at.low_is)))
          go (inr b) = inr (inr (rw (at.tail_is, at.head_is) at b))

-- ---- the passes over the arcs from the last down
-- what holds from a on holds from a - 1 on, once it holds of a - 1
one_down : (P : ℕ → Type 0) (a n : ℕ) → P (a - 1) → ((i : ℕ) → a ≤ i → i < n → P i) → (i : ℕ) → a - 1 ≤ i → i < n → P i
one_down P a n here later i h l = go (ℕ_discrete i (a - 1))
  where
    go : Dec (i ≡ a - 1) → P i
    go (yes e) = rw e here
    go (no d) = later i (omega arith) l

module _ (N : Net) (f : List ℕ) (free : List Bool) where
  -- the closure before arc a - 1 is added
  pub before_arc : (a : ℕ) (rows : List ℕ) → 0 < a → Closure N f free a rows → Closure N f free (suc (a - 1)) rows
  before_arc a rows h cl = let e : a ≡ suc (a - 1) = omega arith in subst (λ (i : ℕ). Closure N f free i rows) e cl

  pub raisable_step : (a : ℕ) → 0 < a → NoneRaisable N f free a → NotRaisable N f free (suc (a - 1)) (a - 1) → NoneRaisable N f free (a - 1)
  raisable_step a h w s = record { in_range = omega (arith, w.in_range); none = one_down (λ i. NotRaisable N f free (suc i) i) a (arcs N) s w.none }

  -- arc a - 1 can be raised
  pub raisable_last : (a : ℕ) → 0 < a → NoneRaisable N f free a → Raisable N f free (suc (a - 1)) (a - 1) → LastRaisable N f free (Some (a - 1))
  raisable_last a h w r = let e : a ≡ suc (a - 1) = omega arith in (subst (NoneRaisable N f free) e w, r)

  none_step : (a to : ℕ) → 0 < a → NoneLowerable N f free a to → NotLowerable N f free (suc (a - 1)) (a - 1) → NoneLowerable N f free (a - 1) to
  none_step a to h w s = record { after = omega (arith, w.after); in_range = w.in_range; none = one_down (λ i. NotLowerable N f free (suc i) i) a to s w.none }

  -- arc a - 1 is no candidate, or the first
  pub lowerable_step : (a : ℕ) (first : Option ℕ) → 0 < a → FirstLowerable N f free a first → NotLowerable N f free (suc (a - 1)) (a - 1) → FirstLowerable N f free (a - 1) first
  lowerable_step a (Some to) h w s = (none_step a to h w.0 s, w.1, w.2)
  lowerable_step a None h w s = none_step a (arcs N) h w s

  pub lowerable_first : (a : ℕ) → a < arcs N → Lowerable N f free (suc a) a → FirstLowerable N f free a (Some a)
  lowerable_first a l r = (record { after = omega arith; in_range = omega arith; none = λ i p k. absurd (omega arith) }, l, r)

  pub lowerable_from : (from a : ℕ) (first : Option ℕ) → from ≤ a → a ≤ from → FirstLowerable N f free a first → FirstLowerable N f free from first
  lowerable_from from a first h k w = let e : a ≡ from = omega arith in subst (λ (i : ℕ). FirstLowerable N f free i first) e w
