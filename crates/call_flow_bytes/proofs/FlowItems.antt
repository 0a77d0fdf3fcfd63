-- The full list of an accepted network as bytes.
use mathlib.Core.Path.{◌≡◌}
use mathlib.Core.Bool.{true}
use mathlib.Core.List.{List}
use mathlib.Core.Logic.{◌↔◌}
use Prim.Native.Nat.{ℕ, ◌*◌, ◌<◌}
use native.Mathlib.Omega.{arith}
use lib.ListN.{length}
use Rattle.laws.specs.Members.{Every}
use Rattle.bytes_read.specs.Words.{words}
use Rattle.net_model.specs.Network.{Net, arcs, LeastCost}
use Rattle.net_model.specs.FullList.{full_list}
use Rattle.net_model.specs.Accepted.{AcceptedNet}
use Rattle.net_model.proofs.FullList.{full_member, full_ascending}
use Rattle.call_reply.specs.ByteLists.{listed}
use Rattle.call_reply.proofs.Items.{every_at, FullOf, listed_item, item_listed}

module _ (N : Net) (ok : AcceptedNet N) where
  -- flows fit 32 bits
  flow_small : (f : List ℕ) → LeastCost N f → Every (λ n. n < 4294967296) f
  flow_small f l =
      every_at f 4294967296
      (λ a h. (let k : a < arcs N = omega (arith, l.flow.all_arcs) in omega (arith, l.flow.below a k, ok.up_small a k)))

  pub full_flows : FullOf (arcs N) (full_list N)
  full_flows = record {
    ascends = full_ascending N ok.well_formed;
    long = λ v m. ((full_member N ok.well_formed v).0 m).flow.all_arcs;
    small = λ v m. flow_small v ((full_member N ok.well_formed v).0 m);
  }

  pub listed_flow : (g : List ℕ) → listed g (full_list N) ≡ true → (length g ≡ 4 * arcs N) × LeastCost N (words g)
  listed_flow g e = let (l, m) = listed_item (arcs N) (full_list N) full_flows g e in (l, (full_member N ok.well_formed (words g)).0 m)

  -- question 8: "is the given list m numbers long and a least-cost flow of the network?"
  pub flow_listed : (g : List ℕ) → Every (λ b. b < 256) g → (listed g (full_list N) ≡ true) ↔ ((length g ≡ 4 * arcs N) × LeastCost N (words g))
  flow_listed g bytes = (
    listed_flow g,
    λ h. item_listed (arcs N) (full_list N) full_flows g bytes h.0 ((full_member N ok.well_formed (words g)).1 h.1),
  )
