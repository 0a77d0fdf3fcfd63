-- What a struct that stands for an accepted network holds: room for its arcs and nodes in every array.
use mathlib.Core.Path.{◌≡◌}
use mathlib.Core.List.{List}
use Prim.Native.Nat.{◌≤◌}
use native.Mathlib.Omega.{arith}
use lib.ListN.{length, take, length-take}
use Rattle.net_model.specs.Struct.{Sound}
use Rattle.net_model.specs.declared.Network.{Network}
use Rattle.net_theory.proofs.ArcReads.{arcs_lent}

module _ (s : Network) (ok : Sound s) where
  pub few : s.arcs ≤ 512
  few = omega (arith, ok.arcs_held, ok.accepted.few_arcs)

  pub few_nodes : s.nodes ≤ 64
  few_nodes = omega (arith, ok.nodes_held, ok.accepted.few_nodes)

  -- as many numbers as arcs
  pub as_many : {A : Type 0} (l : List A) → length l ≡ 512 → length (take s.arcs l) ≡ length (take s.arcs s.table)
  as_many l h = omega (arith, few, length-take s.arcs l, ok.arcs_held, arcs_lent (take s.nodes s.balances) (take s.arcs s.table))
