-- The struct of a network stands for it.
use mathlib.Core.Path.{◌≡◌, refl, sym, ap, subst, ◌∙◌}
use mathlib.Core.List.{List, [], ◌∷◌, map}
use Prim.Native.Nat.{ℕ, zero, suc, ◌+◌}
use native.Mathlib.Omega.{arith}
use lib.ListN.{length, take, get_or}
use lib.IntN.{ℤ, pos}
use Rattle.std.proofs.lemmas.List.{length-map}
use Rattle.laws.specs.Within.{from}
use Rattle.laws.specs.Padded.{padded, take_padded}
use Rattle.net_model.specs.Network.{Net, WellFormed, nodes, arcs}
use Rattle.net_model.specs.Accepted.{AcceptedNet}
use Rattle.net_model.specs.Struct.{blank_arc, arc_in, arcs_in, struct_of, net_in, Sound}
use Rattle.net_model.specs.declared.Arc.{Arc}

from_length : (n s : ℕ) → length (from n s) ≡ n
from_length zero s = refl
from_length (suc n) s = ap suc (from_length n (suc s))

-- the arcs of a network are as many as it has
pub arcs_length : (N : Net) → length (arcs_in N) ≡ arcs N
arcs_length N = length-map (from (arcs N) 0) (arc_in N) ∙ from_length (arcs N) 0

-- a number of each arc of a network is its list, where that has one for each
column : {B : Type 0} (N : Net) (f : Arc → B) (l : List B) (d : B) → length l ≡ arcs N → ((a : ℕ) → f (arc_in N a) ≡ get_or l a d) → map f (arcs_in N) ≡ l
column N f l d e h = go (arcs N) 0 l e (λ a. let z : 0 + a ≡ a = omega arith in rw z (h a))
  where
    go : (n s : ℕ) (k : List _) → length k ≡ n → ((a : ℕ) → f (arc_in N (s + a)) ≡ get_or k a d) → map f (map (arc_in N) (from n s)) ≡ k
    go zero s [] e h = refl
    go (suc n) s (b ∷ k) e h =
        let z : s + 0 ≡ s = omega arith in
        let one : f (arc_in N s) ≡ b = rw z at (h 0) in
        let rest : map f (map (arc_in N) (from n (suc s))) ≡ k = go n (suc s) k (omega (arith, e)) (λ a. let y : suc s + a ≡ s + suc a = omega arith in rw y (h (suc a))) in
        cc
    go zero s (b ∷ k) e h = absurd (omega (arith, e))
    go (suc n) s [] e h = absurd (omega (arith, e))

pub struct_of_lem : (N : Net) → WellFormed N → net_in (struct_of N) ≡ N
struct_of_lem N w =
    same (take_padded 64 (pos 0) N.balances)
    (held (λ a. a.tail) N.tails refl 0 (λ a. refl)) (held (λ a. a.head) N.heads w.heads_len 0 (λ a. refl))
    (held (λ a. a.low) N.lows w.lows_len 0 (λ a. refl)) (held (λ a. a.up) N.ups w.ups_len 0 (λ a. refl))
    (held (λ a. a.cost) N.costs w.costs_len (pos 0) (λ a. refl))
  where
    held : {B : Type 0} (f : Arc → B) (l : List B) → length l ≡ arcs N → (d : B) → ((a : ℕ) → f (arc_in N a) ≡ get_or l a d)
        → map f (take (arcs N) (padded 512 blank_arc (arcs_in N))) ≡ l
    held f l e d h = ap (λ k. map f (take k (padded 512 blank_arc (arcs_in N)))) (sym (arcs_length N)) ∙ ap (map f) (take_padded 512 blank_arc (arcs_in N)) ∙ column N f l d e h

    same : {b b' c c' : List ℤ} {t t' d d' l l' u u' : List ℕ} → b ≡ b' → t ≡ t' → d ≡ d' → l ≡ l' → u ≡ u' → c ≡ c'
        → ◌≡◌ {A = Net} (record { balances = b; tails = t; heads = d; lows = l; ups = u; costs = c })
        (record { balances = b'; tails = t'; heads = d'; lows = l'; ups = u'; costs = c' })
    same p q r v w x = cc

pub struct_sound : (N : Net) → AcceptedNet N → Sound (struct_of N)
struct_sound N h =
    let e = struct_of_lem N h.well_formed in
    record { accepted = subst AcceptedNet (sym e) h; nodes_held = ap nodes (sym e); arcs_held = ap arcs (sym e) }
