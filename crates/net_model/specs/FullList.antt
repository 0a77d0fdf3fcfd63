-- Document 01, "The full list", of a network; and first, next, "none" and the count, which are read off it.
use Rattle.std.specs.Prelude.{Bool, List, [], ◌∷◌, ℕ, length}
use Rattle.std.proofs.Math.Option.{Option}
use Rattle.std.specs.Int.Signed.{le_z}
use Rattle.laws.specs.Integers.{eq_z}
use Rattle.laws.specs.Tests.{all_below}
use Rattle.laws.specs.Members.{keep, first?}
use Rattle.laws.specs.Best.{best}
use Rattle.laws.specs.Within.{within}
use Rattle.laws.specs.After.{after}
use Rattle.laws.specs.Equality.{same_list}
use Rattle.laws.specs.Count.{Count, counted}
use Rattle.net_model.specs.Network.{Net, nodes, balance, net_out, cost_of}

abbrev pub bounds : List ℕ → List ℕ → List (ℕ × ℕ)
bounds [] us = []
bounds (l ∷ ls) [] = []
bounds (l ∷ ls) (u ∷ us) = (l, u) ∷ bounds ls us

abbrev pub is_balanced : Net → List ℕ → Bool
is_balanced N f = all_below (nodes N) (λ v. eq_z (net_out N f v) (balance N v))

abbrev pub no_dearer : Net → List ℕ → List ℕ → Bool
no_dearer N f g = le_z (cost_of N f) (cost_of N g)

-- "of all lists of m numbers within the bounds, in the order of flows": `within` has them so ("Two flows are ordered by the lowest
-- arc number where they differ: the smaller number comes first")
unfoldable pub flow_list : Net → List (List ℕ)
flow_list N = keep (is_balanced N) (within (bounds N.lows N.ups))

-- "keep the least-cost flows"
unfoldable pub full_list : Net → List (List ℕ)
full_list N = best (no_dearer N) (flow_list N)

-- "The first flow is the first least-cost flow in that order." Where there is none, the answer is "none".
abbrev pub first_flow : Net → Option (List ℕ)
first_flow N = first? (full_list N)

-- "Next takes a least-cost flow and gives the following one, or 'end'."
abbrev pub next_flow : Net → List ℕ → Option (List ℕ)
next_flow N f = after same_list (λ g. g) f (full_list N)

-- "the length of the list if that is at most the cap, else 'more'"
abbrev pub count_flows : Net → ℕ → Count
count_flows N cap = counted cap (length (full_list N))
