-- Which arcs can be raised or lowered by way of the free arcs: the last, the first, and all.
use Rattle.std.specs.Prelude.{◌≡◌, ◌⊎◌, Option, None, Some, List, Bool, true, false, ◌&&◌, ℕ, suc, ◌≤◌, ◌<◌, ltb, get_or}
use Rattle.net_model.specs.Network.{Net, arcs}
use Rattle.net_model.specs.declared.Arc.{Arc}
use Rattle.net_theory.specs.FreeArcs.{Raisable, Lowerable, NotRaisable, NotLowerable}
use Rattle.flow_preorder.specs.Preorder.{leads}

-- the step from p to q goes, and closes a cycle: q leads to p
abbrev pub closes : List ℕ → Bool → ℕ → ℕ → Bool
closes rows on p q = on && leads rows q p

-- the step that raises an arc that carries so many units goes from its tail to its head, the one that lowers it goes back
abbrev pub raises : List ℕ → Arc → ℕ → Bool
raises rows arc units = closes rows (ltb units arc.up) arc.tail arc.head

abbrev pub lowers : List ℕ → Arc → ℕ → Bool
lowers rows arc units = closes rows (ltb arc.low units) arc.head arc.tail

-- no arc from `from` on can be raised by way of the arcs after it
pub record NoneRaisable (N : Net) (f : List ℕ) (free : List Bool) (from : ℕ) : Type 0 where
  pub in_range : from ≤ arcs N
  pub none : (a : ℕ) → from ≤ a → a < arcs N → NotRaisable N f free (suc a) a

-- and the one before them can, if there is one
abbrev pub LastRaisable : Net → List ℕ → List Bool → Option ℕ → Type 0
LastRaisable N f free (Some a) = NoneRaisable N f free (suc a) × Raisable N f free (suc a) a
LastRaisable N f free None = NoneRaisable N f free 0

-- no arc from `from` on that comes before `to` can be lowered by way of the arcs after it
pub record NoneLowerable (N : Net) (f : List ℕ) (free : List Bool) (from to : ℕ) : Type 0 where
  pub after : from ≤ to
  pub in_range : to ≤ arcs N
  pub none : (a : ℕ) → from ≤ a → a < to → NotLowerable N f free (suc a) a

-- and arc `to` can, if it is one
abbrev pub FirstLowerable : Net → List ℕ → List Bool → ℕ → Option ℕ → Type 0
FirstLowerable N f free from (Some to) = NoneLowerable N f free from to × (to < arcs N) × Lowerable N f free (suc to) to
FirstLowerable N f free from None = NoneLowerable N f free from (arcs N)

-- the arcs left free are those that can be raised or lowered by way of those that were: of the tight arcs of a least-cost flow, at least all on
-- which another differs. There may be more, as a walk may go back over the arc itself.
pub record UnmarkFixed (N : Net) (f : List ℕ) (free free' : List Bool) : Type 0 where
  pub left : (a : ℕ) → a < arcs N → get_or free' a false ≡ true → Raisable N f free 0 a ⊎ Lowerable N f free 0 a
  pub others : (a : ℕ) → a < arcs N → get_or free' a false ≡ false → NotRaisable N f free 0 a × NotLowerable N f free 0 a
