-- The full list of a network has exactly the least-cost flows, ascends, and is empty exactly where there is no flow.
use mathlib.Core.Path.{◌≡◌, refl, sym, ap, ◌∙◌}
use mathlib.Core.Logic.{◌⊎◌, inl, inr, ⊎_elim, ◌↔◌}
use mathlib.Core.List.{List, [], ◌∷◌}
use mathlib.Core.Option.{some}
use Prim.Native.Nat.{ℕ, zero, suc, ◌≤◌, ◌<◌}
use native.Mathlib.Omega.{arith}
use lib.ListN.{length, get_or}
use lib.IntN.{ℤ}
use lib.Signed.{◌≤ℤ◌}
use Rattle.laws.specs.Linear.{lin}
use Rattle.laws.specs.Integers.{le_z_true, true_le_z, eq_z, eq_z_true, true_eq_z, ≤ℤ_total, ≤ℤ_trans}
use Rattle.laws.specs.Tests.{all_below_lem, below_all}
use Rattle.laws.specs.Lexicographic.{◌<lex◌}
use Rattle.laws.specs.Members.{◌∈◌, keep, kept, keeps, first?}
use Rattle.laws.specs.Ascending.{Ascending, ascending_keep}
use Rattle.laws.specs.Within.{Within, within, within_member, within_ascending}
use Rattle.laws.specs.Best.{best_member, best_ascending}
use Rattle.net_model.specs.Network.{Net, WellFormed, nodes, balance, net_out, IsFlow, cost_of, LeastCost}
use Rattle.net_model.specs.FullList.{bounds, is_balanced, no_dearer, flow_list, full_list}

-- within the bounds, arc by arc
abbrev Inside : List ℕ → List ℕ → List ℕ → Type 0
Inside ls us x = (length x ≡ length ls) × ((a : ℕ) → a < length ls → get_or ls a 0 ≤ get_or x a 0) × ((a : ℕ) → a < length ls → get_or x a 0 ≤ get_or us a 0)

cons_cases : (P : ℕ → Type 0) → P 0 → ((a : ℕ) → P (suc a)) → (a : ℕ) → P a
cons_cases P z s zero = z
cons_cases P z s (suc a) = s a

inside : (ls us x : List ℕ) → length us ≡ length ls → Within (bounds ls us) x → Inside ls us x
inside [] us [] e w = (refl, λ a h. omega arith, λ a h. omega arith)
inside [] us (a ∷ x) e w = absurd w
inside (l ∷ ls) [] x e w = absurd (omega arith)
inside (l ∷ ls) (u ∷ us) [] e w = absurd w
inside (l ∷ ls) (u ∷ us) (a ∷ x) e w =
    let r = inside ls us x (omega arith) w.2 in (
      omega arith,
      cons_cases (λ i. i < suc (length ls) → get_or (l ∷ ls) i 0 ≤ get_or (a ∷ x) i 0) (λ _. w.0) (λ i h. r.1 i (omega arith)),
      cons_cases (λ i. i < suc (length ls) → get_or (a ∷ x) i 0 ≤ get_or (u ∷ us) i 0) (λ _. w.1) (λ i h. r.2 i (omega arith)),
    )

to_within : (ls us x : List ℕ) → length us ≡ length ls → Inside ls us x → Within (bounds ls us) x
to_within [] us [] e w = tt
to_within [] us (a ∷ x) e w = absurd (omega arith)
to_within (l ∷ ls) [] x e w = absurd (omega arith)
to_within (l ∷ ls) (u ∷ us) [] e w = absurd (omega arith)
to_within (l ∷ ls) (u ∷ us) (a ∷ x) e w =
    (w.1 0 (omega arith), w.2 0 (omega arith), to_within ls us x (omega arith) (omega arith, λ i h. w.1 (suc i) (omega arith), λ i h. w.2 (suc i) (omega arith)))

module _ (N : Net) (ok : WellFormed N) where
  same_bounds : length N.ups ≡ length N.lows
  same_bounds = ok.ups_len ∙ sym ok.lows_len

  -- the flows of the list
  pub flow_member : (x : List ℕ) → (x ∈ flow_list N) ↔ IsFlow N x
  unfolding flow_list
  flow_member x = (into, out)
    where
      into : x ∈ keep (is_balanced N) (within (bounds N.lows N.ups)) → IsFlow N x
      into m =
          let (k, b) = kept (is_balanced N) (within (bounds N.lows N.ups)) x m in
          let i : Inside N.lows N.ups x = inside N.lows N.ups x same_bounds ((within_member (bounds N.lows N.ups) x).0 k) in
          record {
            all_arcs = i.0 ∙ ok.lows_len;
            above = λ a h. i.1 a (omega (arith, ok.lows_len));
            below = λ a h. i.2 a (omega (arith, ok.lows_len));
            balanced = λ v h. eq_z_true (net_out N x v) (balance N v) (all_below_lem (nodes N) (λ v. eq_z (net_out N x v) (balance N v)) b v h);
          }

      out : IsFlow N x → x ∈ keep (is_balanced N) (within (bounds N.lows N.ups))
      out f =
          keeps (is_balanced N) (within (bounds N.lows N.ups)) x
          ((within_member (bounds N.lows N.ups) x).1 (to_within N.lows N.ups x same_bounds
          (f.all_arcs ∙ sym ok.lows_len, λ a h. f.above a (omega (arith, ok.lows_len)), λ a h. f.below a (omega (arith, ok.lows_len)))))
          (below_all (nodes N) (λ v. eq_z (net_out N x v) (balance N v)) (λ v h. true_eq_z (net_out N x v) (balance N v) (f.balanced v h)))

  -- x is on the full list exactly if it is a least-cost flow
  pub full_member : (x : List ℕ) → (x ∈ full_list N) ↔ LeastCost N x
  unfolding full_list
  full_member x = (
    λ m. (let h = (best_member (no_dearer N) (flow_list N) x).0 m in
        record { flow = (flow_member x).0 h.0; least = λ g k. le_z_true (cost_of N x) (cost_of N g) (h.1 g ((flow_member g).1 k)) }),
    λ l. (best_member (no_dearer N) (flow_list N) x).1
        ((flow_member x).1 l.flow, λ y m. true_le_z (cost_of N x) (cost_of N y) (l.least y ((flow_member y).0 m))),
  )

  pub full_ascending : Ascending ◌<lex◌ (full_list N)
  unfolding full_list flow_list
  full_ascending =
      best_ascending ◌<lex◌ (no_dearer N) (flow_list N) (ascending_keep ◌<lex◌ (is_balanced N) (within (bounds N.lows N.ups)) (within_ascending (bounds N.lows N.ups)))

-- a list that is not empty has a member of least key
module _ {A : Type 0} (key : A → ℤ) where
  least_of : (a : A) (l : List A) → (x : A) × (x ∈ (a ∷ l)) × ((y : A) → y ∈ (a ∷ l) → key x ≤ℤ key y)
  least_of a [] = (a, inl refl, elim_one)
    where
      elim_one : (y : A) → y ∈ (a ∷ []) → key a ≤ℤ key y
      elim_one y (inl q) = rw q (simp lin (omega arith))
      elim_one y (inr m) = absurd m
  least_of a (b ∷ l) = go (least_of b l)
    where
      go : (x : A) × (x ∈ (b ∷ l)) × ((y : A) → y ∈ (b ∷ l) → key x ≤ℤ key y)
          → (x : A) × (x ∈ (a ∷ b ∷ l)) × ((y : A) → y ∈ (a ∷ b ∷ l) → key x ≤ℤ key y)
      go (x, m, f) = pick (≤ℤ_total (key a) (key x))
        where
          pick : (key a ≤ℤ key x) ⊎ (key x ≤ℤ key a) → (x : A) × (x ∈ (a ∷ b ∷ l)) × ((y : A) → y ∈ (a ∷ b ∷ l) → key x ≤ℤ key y)
          pick (inl h) = (a, inl refl, all)
            where
              all : (y : A) → y ∈ (a ∷ b ∷ l) → key a ≤ℤ key y
              all y (inl q) = rw q (simp lin (omega arith))
              all y (inr n) = ≤ℤ_trans h (f y n)
          pick (inr h) = (x, inr m, all)
            where
              all : (y : A) → y ∈ (a ∷ b ∷ l) → key x ≤ℤ key y
              all y (inl q) = rw q h
              all y (inr n) = f y n

module _ (N : Net) (ok : WellFormed N) where
  -- the full list has a first item, or there is no flow
  pub record Head : Type 0 where
    pub line : List ℕ
    pub is : first? (full_list N) ≡ some line
    pub least_cost : LeastCost N line

  head_of : (l : List (List ℕ)) → full_list N ≡ l → (x : List ℕ) → x ∈ l → Head
  head_of [] e x m = absurd m
  head_of (y ∷ l) e x m = record { line = y; is = ap first? e; least_cost = (full_member N ok y).0 (rw e (inl refl)) }

  pub head_or_none : Head ⊎ ((g : List ℕ) → ¬ IsFlow N g)
  head_or_none = go (flow_list N) refl
    where
      go : (l : List (List ℕ)) → flow_list N ≡ l → Head ⊎ ((g : List ℕ) → ¬ IsFlow N g)
      go [] e = inr (λ g h. rw e at ((flow_member N ok g).1 h))
      go (a ∷ l) e =
          let (x, m, f) = least_of (cost_of N) a l in
          inl (head_of (full_list N) refl x ((full_member N ok x).1 (record {
            flow = (flow_member N ok x).0 (rw e m);
            least = λ g k. f g (rw e at ((flow_member N ok g).1 k));
          })))

  pub none_iff : (full_list N ≡ []) ↔ ((g : List ℕ) → ¬ IsFlow N g)
  none_iff = (λ e. ⊎_elim (λ h. absurd (let z : ◌≡◌ {A = ℕ} 0 1 = cc (h.is, ap first? e) in omega arith)) (λ f. f) head_or_none, λ f. empty (full_list N) refl f)
    where
      empty : (l : List (List ℕ)) → full_list N ≡ l → ((g : List ℕ) → ¬ IsFlow N g) → l ≡ []
      empty [] e f = refl
      empty (y ∷ l) e f = absurd (f y ((full_member N ok y).0 (rw e (inl refl))).flow)
