-- Sending from a node with an excess to a node with a deficit.
use Rattle.std.specs.Prelude.{◌≡◌, Option, None, Some, List, Bool, true, false, ℕ, ◌≤◌, ◌<◌, length, get_or, ℤ, pos, neg_ℤ, ◌≤ℤ◌, ◌<ℤ◌}
use Rattle.net_model.specs.Network.{Net}
use Rattle.net_model.specs.Residual.{codes, src, dst, CodeWalk}
use Rattle.net_theory.specs.Bounds.{InBounds}
use Rattle.net_theory.specs.Push.{push_all}
use Rattle.net_theory.specs.FreeArcs.{goes, Blocked}
use Rattle.net_theory.specs.ResidualCapacity.{has_capacity}
use Rattle.flow_push.specs.Pushing.{Pushable}

-- r is a node whose excess is above 0, or none is
abbrev pub FirstExcess : List ℤ → Option ℕ → Type 0
FirstExcess l (Some r) = (r < length l) × (pos 0 <ℤ get_or l r (pos 0))
FirstExcess l None = (v : ℕ) → v < length l → get_or l v (pos 0) ≤ℤ pos 0

-- r is at most x, and not 0
pub record Capped (x : ℤ) (r : ℕ) : Type 0 where
  pub at_most : pos r ≤ℤ x
  pub some : 0 < r

-- some amount, at most `most` and at most the deficit of t, went along codes from s to t, whose excess was x
pub record SentTo (N : Net) (f f' : List ℕ) (s t most : ℕ) (x : ℤ) : Type 0 where
  pub amount : ℕ
  pub codes : List ℕ
  pub walk : CodeWalk N (has_capacity N f amount) s t codes
  pub able : Pushable N amount f codes
  pub exact : f' ≡ push_all amount codes f
  pub some : 0 < amount
  pub at_most : amount ≤ most
  pub at_t : x ≤ℤ neg_ℤ (pos amount)

-- r says whether any was sent from s to t, whose excess is x
pub record SendsTo (N : Net) (f f' : List ℕ) (free : List Bool) (s t most : ℕ) (x : ℤ) (r : Bool) : Type 0 where
  pub within : InBounds N f'
  pub done : r ≡ true → SentTo N f f' s t most x
  pub same : r ≡ false → f' ≡ f
  pub stuck : r ≡ false → x <ℤ pos 0 → Blocked N f free s t 0

-- some of the excess of s was sent to a node with a deficit
pub record SentFrom (N : Net) (f f' : List ℕ) (excess : List ℤ) (s : ℕ) : Type 0 where
  pub to : ℕ
  pub to_in : to < length excess
  pub most : ℕ
  pub most_ok : pos most ≤ℤ get_or excess s (pos 0)
  pub sent : SentTo N f f' s to most (get_or excess to (pos 0))

-- a set that has s, that no code leaves, and in which no node below n has a deficit
pub record CutOff (N : Net) (f : List ℕ) (free : List Bool) (excess : List ℤ) (s n : ℕ) : Type 0 where
  pub inside : ℕ → Bool
  pub has : inside s ≡ true
  pub none : (v : ℕ) → v < n → get_or excess v (pos 0) <ℤ pos 0 → inside v ≡ false
  pub shut : (c : ℕ) → c < codes N → goes N f free c ≡ true → inside (src N c) ≡ true → inside (dst N c) ≡ true

-- r says whether any of the excess of s could be sent
pub record Sends (N : Net) (f f' : List ℕ) (free : List Bool) (excess : List ℤ) (s : ℕ) (r : Bool) : Type 0 where
  pub within : InBounds N f'
  pub done : r ≡ true → SentFrom N f f' excess s
  pub stuck : r ≡ false → CutOff N f free excess s (length excess)
