-- What is read of an arc of the list that a function is lent.
use Rattle.std.proofs.Common.{◌≡◌, List, ℕ, ◌<◌, length, get_or, ℤ, sym, arith}
use Rattle.std.proofs.Math.ListN.{get_or-map}
use Rattle.std.proofs.lemmas.List.{length-map}
use Rattle.net_model.specs.Network.{Net, arcs, tail, head, low, up, cost}
use Rattle.net_model.specs.Struct.{net_from, blank_arc}
use Rattle.net_model.specs.declared.Arc.{Arc}

-- x is arc a of N
pub record ArcAt (N : Net) (a : ℕ) (x : Arc) : Type 0 where
  pub inside : a < arcs N
  pub tail_is : x.tail ≡ tail N a
  pub head_is : x.head ≡ head N a
  pub low_is : x.low ≡ low N a
  pub up_is : x.up ≡ up N a
  pub cost_is : x.cost ≡ cost N a

module _ (b : List ℤ) (l : List Arc) where
  -- there are as many arcs as the list has
  pub arcs_lent : arcs (net_from b l) ≡ length l
  arcs_lent = length-map l (λ (x : Arc). x.tail)

  pub arc_at : (a : ℕ) → a < length l → ArcAt (net_from b l) a (get_or l a blank_arc)
  arc_at a h = record {
    inside = omega (arith, arcs_lent);
    tail_is = sym (get_or-map (λ (x : Arc). x.tail) l a blank_arc);
    head_is = sym (get_or-map (λ (x : Arc). x.head) l a blank_arc);
    low_is = sym (get_or-map (λ (x : Arc). x.low) l a blank_arc);
    up_is = sym (get_or-map (λ (x : Arc). x.up) l a blank_arc);
    cost_is = sym (get_or-map (λ (x : Arc). x.cost) l a blank_arc);
  }
