-- Which of 64 nodes lead to which: a row for each node, with the nodes that it leads to, and row 64.
use Rattle.std.specs.Prelude.{◌≡◌, ◌⊎◌, List, Bool, true, ◌&&◌, ◌||◌, ℕ, ◌≤◌, ◌<◌, length, get_or}
use Rattle.flow_preorder.specs.NodeSet.{has}

abbrev pub leads : List ℕ → ℕ → ℕ → Bool
leads rows u v = has (get_or rows u 0) v

-- row 64 has every node that another one leads to
pub record Preorder (rows : List ℕ) : Type 0 where
  pub rows_len : length rows ≡ 65
  pub nodes : (u v : ℕ) → leads rows u v ≡ true → v < 64
  pub met : (u v : ℕ) → leads rows u v ≡ true → (u ≡ v) ⊎ (leads rows 64 v ≡ true)
  pub reflexive : (u : ℕ) → u < 64 → leads rows u u ≡ true
  pub transitive : (u v w : ℕ) → leads rows u v ≡ true → leads rows v w ≡ true → leads rows u w ≡ true

-- each node leads to itself alone
pub record Alone (rows : List ℕ) : Type 0 where
  pub preorder : Preorder rows
  pub itself : (u v : ℕ) → leads rows u v ≡ true → u ≡ v

-- r is s, with all of t if p is in s
abbrev pub JoinedSet : ℕ → ℕ → ℕ → ℕ → Type 0
JoinedSet s t p r = (w : ℕ) → has r w ≡ (has s w || (has s p && has t w))

-- so each of the first u rows; the others are the same
pub record JoinedRows (rows rows' : List ℕ) (t p u : ℕ) : Type 0 where
  pub same_len : length rows' ≡ length rows
  pub done : (v : ℕ) → v < u → JoinedSet (get_or rows v 0) t p (get_or rows' v 0)
  pub rest : (v : ℕ) → u ≤ v → get_or rows' v 0 ≡ get_or rows v 0

-- rows' has what rows has, and the step from p to q if `on`, and what follows from it
pub record Extended (rows rows' : List ℕ) (on : Bool) (p q : ℕ) : Type 0 where
  pub preorder : Preorder rows'
  pub only : (u v : ℕ) → u < 64 → leads rows' u v ≡ true → (leads rows u v ≡ true) ⊎ ((on ≡ true) × (leads rows u p ≡ true) × (leads rows q v ≡ true))
  pub keeps : (u v : ℕ) → leads rows u v ≡ true → leads rows' u v ≡ true
  pub new : on ≡ true → leads rows' p q ≡ true
  -- and row 64 gets no more than what q leads to
  pub met_only : (v : ℕ) → leads rows' 64 v ≡ true → (leads rows 64 v ≡ true) ⊎ ((on ≡ true) × (leads rows q v ≡ true))
