-- Pushing along a walk, code by code.
use mathlib.Core.Path.{◌≡◌}
use mathlib.Core.List.{List, [], ◌∷◌}
use Prim.Native.Nat.{ℕ, ◌/◌, ◌%◌, ◌<◌}
use native.Mathlib.Omega.{arith}
use Rattle.net_model.specs.Network.{Net, arcs}
use Rattle.net_theory.specs.Bounds.{InBounds}
use Rattle.net_theory.specs.Push.{push_one, push_all}
use Rattle.net_theory.specs.Limits.{SmallBounds}
use Rattle.net_theory.proofs.ResidualCapacity.{has_capacity_forth, has_capacity_back}
use Rattle.net_theory.proofs.PushOne.{one_bounds, others_capacity}
use borrow.Author.Tests.{eq-eqb, ne_eqb}
use Rattle.flow_push.specs.Pushing.{Pushable, RoomAlong}

pushable_rest : (N : Net) (δ : ℕ) (f : List ℕ) (c : ℕ) (rest : List ℕ) → Pushable N δ f (c ∷ rest) → Pushable N δ (push_one δ c f) rest
pushable_rest N δ f c rest a = record {
  within = one_bounds N δ f c a.within a.codes_in.0 a.capacity.0;
  codes_in = a.codes_in.1;
  distinct = a.distinct.1;
  capacity = others_capacity N δ f c a.within a.codes_in.0 a.capacity.0 rest a.distinct.0 a.capacity.1;
}

-- what pushing asks holds where δ can go along the codes
pub pushable_room : (N : Net) (δ : ℕ) (cs f : List ℕ) → SmallBounds N → Pushable N δ f cs → RoomAlong δ cs f
pushable_room N δ [] f z a = tt
pushable_room N δ (c ∷ cs) f z a =
    let k : c / 2 < arcs N = omega (arith, a.codes_in.0) in
    let small = z.ups_small (c / 2) k in (
      record {
        inside = omega (arith, a.within.all_arcs);
        forth = λ p. omega (arith, has_capacity_forth N f δ c a.capacity.0 (eq-eqb (c % 2) 0 p));
        back = λ p. omega (arith, has_capacity_back N f δ c a.capacity.0 (ne_eqb (c % 2) 0 (λ q. omega arith)));
      },
      pushable_room N δ cs (push_one δ c f) z (pushable_rest N δ f c cs a),
    )

pub pushable_bounds : (N : Net) (δ : ℕ) (cs f : List ℕ) → Pushable N δ f cs → InBounds N (push_all δ cs f)
pushable_bounds N δ [] f a = a.within
pushable_bounds N δ (c ∷ cs) f a = pushable_bounds N δ cs (push_one δ c f) (pushable_rest N δ f c cs a)

-- ---- the loop of `push`: the codes that are left, and the numbers so far
pub record PushTurn (δ : ℕ) (goal cur rest : List ℕ) : Type 0 where
  pub same : push_all δ rest cur ≡ goal
  pub room : RoomAlong δ rest cur
