-- The state of an enumerator, which goes through the full list of a network.
use Rattle.std.specs.Prelude.{◌≡◌, List, ℕ, ◌≤◌, ◌<◌, get_or, take, ℤ, pos}
use Rattle.std.proofs.Math.Option.{Option, none, some}
use Rattle.laws.specs.Equality.{same_list}
use Rattle.laws.specs.Members.{keep, first?}
use Rattle.laws.specs.Tests.{test}
use Rattle.net_model.specs.Network.{Net, nodes, cost_of}
use Rattle.net_model.specs.Residual.{Price}
use Rattle.net_model.specs.FullList.{full_list, next_flow}
use Rattle.net_model.specs.Struct.{net_in, Sound}
use Rattle.flow_least.specs.Marked.{Marked}
use Rattle.flow_enumerate.specs.declared.Enumerator.{Enumerator}
use Rattle.flow_enumerate.specs.declared.Place.{Place}
use Rattle.flow_enumerate.specs.declared.Place.TheVariants.{Start, Item, None, End}

-- its network, and the numbers held, one for each of its arcs
abbrev pub state_net : Enumerator → Net
state_net s = net_in s.net

abbrev pub state_flow : Enumerator → List ℕ
state_flow s = take s.net.arcs s.flow

-- the item that it stands on: none before the first, none with "none" and with "end"
abbrev pub item_at : Place → List ℕ → Option (List ℕ)
item_at Start f = none
item_at Item f = some f
item_at None f = none
item_at End f = none

abbrev pub item_of : Enumerator → Option (List ℕ)
item_of s = item_at s.place (state_flow s)

-- where it stands after a step that has the word w for no item
abbrev pub place_after : Place → Option (List ℕ) → Place
place_after w none = w
place_after w (some f) = Item

-- the word for no item after a step from a place; without an item, no step is made
abbrev pub word_after : Place → Place
word_after Start = Start
word_after Item = End
word_after None = None
word_after End = End

-- "First and next also give the cost, 0 with 'none' or 'end'."
abbrev pub item_cost : Net → Option (List ℕ) → ℤ
item_cost N none = pos 0
item_cost N (some f) = cost_of N f

-- what follows an item; nothing follows no item
abbrev pub item_after : Net → Option (List ℕ) → Option (List ℕ)
item_after N none = none
item_after N (some f) = next_flow N f

-- a state: its network is an accepted one, its cost that of its item, and its marks lead on from its item
pub record Stands (s : Enumerator) : Type 0 where
  pub sound : Sound s.net
  pub cost_is : s.cost ≡ item_cost (state_net s) (item_of s)
  pub marked : s.place ≡ Item → Marked (state_net s) (take s.net.arcs s.free) (state_flow s)

-- r is the state after a step from s to the item o, with the word w where there is none
pub record Steps (s : Enumerator) (w : Place) (o : Option (List ℕ)) (r : Enumerator) : Type 0 where
  pub stands : Stands r
  pub net_is : r.net ≡ s.net
  pub item_is : item_of r ≡ o
  pub place_is : r.place ≡ place_after w o

-- question 8, "is the given list m numbers long and a least-cost flow of the network?": the item of the full list that f is, if it is one
abbrev pub given_item : Net → List ℕ → Option (List ℕ)
given_item N f = first? (keep (λ g. test (same_list g f)) (full_list N))

-- r stands on the item that f is; if it is none, r has not begun
pub record Resumes (N : Net) (f : List ℕ) (r : Enumerator) : Type 0 where
  pub item_is : item_of r ≡ given_item N f
  pub place_is : r.place ≡ place_after Start (given_item N f)

-- an array with the prices of the nodes, and 0 in the places beyond them
pub record PriceArray (N : Net) (f : List ℕ) (r : List ℤ) : Type 0 where
  pub prices : (v : ℕ) → v < nodes N → Price N f v (get_or r v (pos 0))
  pub others : (v : ℕ) → nodes N ≤ v → get_or r v (pos 0) ≡ pos 0
