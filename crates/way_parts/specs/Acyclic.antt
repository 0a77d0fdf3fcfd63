-- What the playing order asks of a list of predecessors: it has at most 28, no entry is the predecessor of two, and they make no cycle.
use Rattle.std.specs.Prelude.{List, ℕ, ◌≤◌, ◌<◌, length}
use Rattle.way_theory.specs.Ways.{times}
use Rattle.way_parts.specs.Parts.{predecessor}

-- the rank of an entry, from 1 to the number of entries, rises from predecessor to successor
pub record Acyclic (w : List ℕ) : Type 0 where
  pub few : length w ≤ 28
  pub single : (i : ℕ) → 1 ≤ i → i ≤ length w → times i w ≤ 1
  pub inside : (j : ℕ) → 1 ≤ j → j ≤ length w → predecessor w j ≤ length w
  pub rank : ℕ → ℕ
  pub rises : (j : ℕ) → 1 ≤ j → j ≤ length w → 1 ≤ predecessor w j → rank (predecessor w j) < rank j
  pub low : (j : ℕ) → 1 ≤ j → j ≤ length w → 1 ≤ rank j
  pub high : (j : ℕ) → 1 ≤ j → j ≤ length w → rank j ≤ length w
