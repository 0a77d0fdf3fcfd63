-- The full list of an accepted book as bytes.
use mathlib.Core.Path.{◌≡◌}
use mathlib.Core.Bool.{true}
use mathlib.Core.List.{List, [], ◌∷◌}
use mathlib.Core.Logic.{◌↔◌}
use Prim.Native.Nat.{ℕ, suc, ◌*◌, ◌<◌}
use native.Mathlib.Omega.{arith}
use lib.ListN.{length}
use Rattle.laws.specs.Members.{Every}
use Rattle.bytes_read.specs.Words.{words}
use Rattle.book_form.specs.Book.{Book}
use Rattle.book_form.specs.WithinLimits.{WithinLimits}
use Rattle.way_theory.specs.Follow.{size}
use Rattle.way_theory.specs.Ways.{Joined, LeastCostWay}
use Rattle.way_theory.specs.FullWays.{full_ways}
use Rattle.way_theory.proofs.FullWays.{full_way, full_ways_ascending}
use Rattle.call_reply.specs.ByteLists.{listed}
use Rattle.call_reply.proofs.Items.{FullOf, listed_item, item_listed}

module _ (b : Book) (ok : WithinLimits b) where
  joined_small : (j : ℕ) (w : List ℕ) → Joined b j w → Every (λ n. n < 4294967296) w
  joined_small j [] h = tt
  joined_small j (p ∷ w) h = (let k = ok.few in let l = h.0 in omega arith, joined_small (suc j) w h.2)

  pub full_ways_lem : FullOf (size b) (full_ways b)
  full_ways_lem = record {
    ascends = full_ways_ascending b;
    long = λ w m. ((full_way b w).0 m).way.all_entries;
    small = λ w m. joined_small 1 w ((full_way b w).0 m).way.joined;
  }

  pub listed_way : (g : List ℕ) → listed g (full_ways b) ≡ true → (length g ≡ 4 * size b) × LeastCostWay b (words g)
  listed_way g e = let (l, m) = listed_item (size b) (full_ways b) full_ways_lem g e in (l, (full_way b (words g)).0 m)

  -- question 18: "is the given list E numbers long and a least-cost way of the book?"
  pub way_listed : (g : List ℕ) → Every (λ n. n < 256) g → (listed g (full_ways b) ≡ true) ↔ ((length g ≡ 4 * size b) × LeastCostWay b (words g))
  way_listed g bytes = (
    listed_way g,
    λ h. item_listed (size b) (full_ways b) full_ways_lem g bytes h.0 ((full_way b (words g)).1 h.1),
  )
