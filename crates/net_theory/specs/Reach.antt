-- Reachability over numbered steps: step c leads from sr c to ds c, for lo ≤ c < hi, where go c says so.
-- rank v is 0 where v is not reached, 1 at the root, and otherwise v's place in the order of reaching; via v is the step that reached v.
use Rattle.std.specs.Prelude.{◌≡◌, List, [], ◌∷◌, Bool, true, cond, ◌&&◌, ℕ, zero, suc, ◌≤◌, ◌<◌, eqb, ltb, length, get_or, set}

-- how many numbers of a list are not 0
abbrev pub reached_count : List ℕ → ℕ
reached_count [] = 0
reached_count (zero ∷ l) = reached_count l
reached_count (suc x ∷ l) = suc (reached_count l)

-- c led to v from a node reached before it
pub record Led (lo hi : ℕ) (sr ds : ℕ → ℕ) (go : ℕ → Bool) (rank : List ℕ) (c v : ℕ) : Type 0 where
  pub low : lo ≤ c
  pub high : c < hi
  pub goes : go c ≡ true
  pub ends : ds c ≡ v
  pub reached : 0 < get_or rank (sr c) 0
  pub earlier : get_or rank (sr c) 0 < get_or rank v 0

pub record Tree (n lo hi : ℕ) (sr ds : ℕ → ℕ) (go : ℕ → Bool) (s : ℕ) (rank via : List ℕ) (count : ℕ) : Type 0 where
  pub rank_len : length rank ≡ n
  pub via_len : length via ≡ n
  pub size : reached_count rank ≡ count
  pub root : get_or rank s 0 ≡ 1
  pub only_root : (v : ℕ) → v < n → get_or rank v 0 ≡ 1 → v ≡ s
  pub small : (v : ℕ) → v < n → get_or rank v 0 ≤ count
  pub led : (v : ℕ) → v < n → 1 < get_or rank v 0 → Led lo hi sr ds go rank (get_or via v 0) v

-- step c leads out of no reached node to one that is not reached
abbrev pub ShutAt : (ℕ → ℕ) → (ℕ → ℕ) → (ℕ → Bool) → List ℕ → ℕ → Type 0
ShutAt sr ds go rank c = go c ≡ true → 0 < get_or rank (sr c) 0 → 0 < get_or rank (ds c) 0

abbrev pub Shut : ℕ → ℕ → (ℕ → ℕ) → (ℕ → ℕ) → (ℕ → Bool) → List ℕ → Type 0
Shut lo hi sr ds go rank = (c : ℕ) → lo ≤ c → c < hi → ShutAt sr ds go rank c

-- one step tried: hit where it reaches a new node
abbrev pub reaches_new : Bool → List ℕ → ℕ → ℕ → Bool
reaches_new on rank u v = on && (ltb 0 (get_or rank u 0) && eqb (get_or rank v 0) 0)

pub record Spread (on : Bool) (rank via : List ℕ) (count u v c : ℕ) (rank' via' : List ℕ) (r : ℕ) : Type 0 where
  pub ranks : rank' ≡ cond (reaches_new on rank u v) (set rank v (suc count)) rank
  pub vias : via' ≡ cond (reaches_new on rank u v) (set via v c) via
  pub counts : r ≡ cond (reaches_new on rank u v) (suc count) count

-- the state within a round that began with count₀ reached
pub record Turn (n lo hi : ℕ) (sr ds : ℕ → ℕ) (go : ℕ → Bool) (s : ℕ) (rank via : List ℕ) (count₀ count i : ℕ) : Type 0 where
  pub tree : Tree n lo hi sr ds go s rank via count
  pub grows : count₀ ≤ count
  pub shut : count ≡ count₀ → (c : ℕ) → lo ≤ c → c < i → ShutAt sr ds go rank c

-- what a round gives that may end as soon as t is reached
pub record Rounded (n lo hi : ℕ) (sr ds : ℕ → ℕ) (go : ℕ → Bool) (s : ℕ) (t count : ℕ) (rank via : List ℕ) (r : ℕ) : Type 0 where
  pub tree : Tree n lo hi sr ds go s rank via r
  pub grows : count ≤ r
  pub shut : get_or rank t 0 ≡ 0 → r ≡ count → Shut lo hi sr ds go rank

-- what reach gives: t was reached, or no step leads out of the set
pub record Reached (n lo hi : ℕ) (sr ds : ℕ → ℕ) (go : ℕ → Bool) (s : ℕ) (t : ℕ) (rank via : List ℕ) (count : ℕ) : Type 0 where
  pub tree : Tree n lo hi sr ds go s rank via count
  pub shut : get_or rank t 0 ≡ 0 → Shut lo hi sr ds go rank
