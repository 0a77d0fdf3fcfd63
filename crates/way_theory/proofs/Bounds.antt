-- Numbers within the bounds of a list of arcs.
use mathlib.Core.Path.{◌≡◌, refl}
use mathlib.Core.List.{List, [], ◌∷◌, ◌++◌, map}
use Prim.Native.Nat.{ℕ, ◌≤◌, ◌<◌}
use native.Mathlib.Omega.{arith}
use native.Mathlib.Nat.{suc_inj}
use lib.ListN.{length}
use Rattle.laws.specs.Equality.{cons_same}
use Rattle.laws.specs.Integers.{eq_z, true_eq_z}
use Rattle.laws.specs.Tests.{below_all}
use Rattle.laws.specs.Members.{kept, keeps}
use Rattle.laws.specs.Within.{Within, within, within_member}
use Rattle.net_model.specs.Network.{Net, WellFormed, nodes, net_out, balance, IsFlow}
use Rattle.net_model.specs.FullList.{bounds, is_balanced, flow_list}
use Rattle.net_model.proofs.FullList.{flow_member}
use Rattle.way_theory.specs.BookNet.{BookArc, entry_arc}

-- a flow: numbers within the bounds that balance
module _ (N : Net) (ok : WellFormed N) (f : List ℕ) where
  pub flow_within : Within (bounds N.lows N.ups) f → ((v : ℕ) → v < nodes N → net_out N f v ≡ balance N v) → IsFlow N f
  unfolding flow_list
  flow_within b h =
      (flow_member N ok f).0 (keeps (is_balanced N) (within (bounds N.lows N.ups)) f ((within_member (bounds N.lows N.ups) f).1 b)
      (below_all (nodes N) (λ v. eq_z (net_out N f v) (balance N v)) (λ v k. true_eq_z (net_out N f v) (balance N v) (h v k))))

  pub flow_in_bounds : IsFlow N f → Within (bounds N.lows N.ups) f
  unfolding flow_list
  flow_in_bounds h = (within_member (bounds N.lows N.ups) f).0 (kept (is_balanced N) (within (bounds N.lows N.ups)) f ((flow_member N ok f).1 h)).0

abbrev pub Bounds : List BookArc → List ℕ → Type 0
Bounds l f = Within (bounds (map (λ a. a.low) l) (map (λ a. a.up) l)) f

pub bounds_append : (l k : List BookArc) (f g : List ℕ) → Bounds l f → Bounds k g → Bounds (l ++ k) (f ++ g)
bounds_append [] k [] g h b = b
bounds_append [] k (x ∷ f) g h b = absurd h
bounds_append (a ∷ l) k [] g h b = absurd h
bounds_append (a ∷ l) k (x ∷ f) g h b = (h.0, h.1, bounds_append l k f g h.2 b)

pub bounds_split : (l k : List BookArc) (f g : List ℕ) → length f ≡ length l → Bounds (l ++ k) (f ++ g) → Bounds l f × Bounds k g
bounds_split [] k [] g e b = (tt, b)
bounds_split [] k (x ∷ f) g e b = absurd (omega arith)
bounds_split (a ∷ l) k [] g e b = absurd (omega arith)
bounds_split (a ∷ l) k (x ∷ f) g e b = let (u, v) = bounds_split l k f g (suc_inj e) b.2 in ((b.0, b.1, u), v)

pub bounds_map : (k : ℕ → BookArc) (φ : ℕ → ℕ) (l : List ℕ) → ((i : ℕ) → ((k i).low ≤ φ i) × (φ i ≤ (k i).up)) → Bounds (map k l) (map φ l)
bounds_map k φ [] h = tt
bounds_map k φ (i ∷ l) h = ((h i).0, (h i).1, bounds_map k φ l h)

pub enters_one : (l x : List ℕ) → Bounds (map entry_arc l) x → x ≡ map (λ j. 1) l
enters_one [] [] h = refl
enters_one [] (a ∷ x) h = absurd h
enters_one (j ∷ l) [] h = absurd h
enters_one (j ∷ l) (a ∷ x) h = cons_same a 1 x (map (λ j. 1) l) (let u = h.0 in let v = h.1 in omega arith) (enters_one l x h.2)
