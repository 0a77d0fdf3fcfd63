-- Closed sets of nodes certify that there is no flow, and that an arc can carry no more or no less.
use mathlib.Core.Path.{◌≡◌, refl, ap, subst}
use mathlib.Core.Logic.{◌⊎◌, inl, inr, ◌≢◌}
use mathlib.Core.List.{List}
use mathlib.Core.Bool.{Bool, true, false}
use Prim.Native.Nat.{ℕ, suc, ◌+◌, ◌/◌, ◌≤◌, ◌<◌}
use native.Mathlib.Omega.{arith}
use native.Mathlib.Decide.{dec_lt}
use lib.ListN.{get_or}
use lib.IntN.{ℤ, pos, ◌-ℤ◌, ◌*ℤ◌}
use lib.Signed.{◌≤ℤ◌, ◌<ℤ◌}
use borrow.Author.Tests.{lt-ltb}
use Rattle.laws.specs.Divergence.{sum_le_one}
use Rattle.laws.specs.Integers.{*_nonneg, times_same}
use Rattle.laws.specs.Linear.{lin, ring, given, given2, given3, given4}
use Rattle.laws.specs.Sum.{sum, sum_cong, sum_mono, sum_none, sum_term}
use Rattle.net_model.specs.Network.{Net, nodes, arcs, tail, head, low, up, balance, on, net_out, IsFlow, WellFormed}
use Rattle.net_model.specs.Residual.{codes, usable, src, dst}
use Rattle.net_theory.specs.Cuts.{Closed}
use Rattle.net_theory.proofs.Codes.{even_code, odd_code, even_arc, odd_arc}
use Rattle.net_theory.proofs.Circulation.{weighted, circulation}

-- said code by code
pub closed_steps : (N : Net) (f : List ℕ) (free : ℕ → Type 0) (S : ℕ → Bool)
    → ((c : ℕ) → c < codes N → free (c / 2) → usable N f c ≡ true → S (src N c) ≡ true → S (dst N c) ≡ true) → Closed N f free S
closed_steps N f free S p = record { out = forth; back = back }
  where
    forth : (a : ℕ) → a < arcs N → free a → S (tail N a) ≡ true → get_or f a 0 < up N a → S (head N a) ≡ true
    forth a h o s l =
        rw (even_code a, even_arc a) at (p (a + a) (omega arith) (rw (even_arc a) o) (rw (even_code a, even_arc a) (lt-ltb (get_or f a 0) (up N a) l)) (rw (even_code a, even_arc a) s))

    back : (a : ℕ) → a < arcs N → free a → S (head N a) ≡ true → low N a < get_or f a 0 → S (tail N a) ≡ true
    back a h o s l =
        rw (odd_code a, odd_arc a) at (p (suc (a + a)) (omega arith) (rw (odd_arc a) o) (rw (odd_code a, odd_arc a) (lt-ltb (low N a) (get_or f a 0) l)) (rw (odd_code a, odd_arc a) s))

-- 1 in the set, 0 outside
abbrev χ : Bool → ℤ
χ true = pos 1
χ false = pos 0

cut_arc : (s t : Bool) (x y l u : ℕ) → l ≤ y → y ≤ u → (s ≡ true → x < u → t ≡ true) → (t ≡ true → l < x → s ≡ true) → ((χ s -ℤ χ t) *ℤ (pos y -ℤ pos x)) ≤ℤ pos 0
cut_arc true true x y l u p q f g = simp ring (omega arith)
cut_arc false false x y l u p q f g = simp ring (omega arith)
cut_arc true false x y l u p q f g = go (dec_lt x u)
  where
    go : Dec (x < u) → ((χ true -ℤ χ false) *ℤ (pos y -ℤ pos x)) ≤ℤ pos 0
    go (yes h) = absurd (let z : ◌≡◌ {A = ℕ} 0 1 = cc (f refl h) in omega arith)
    go (no h) = simp ring (omega arith)
cut_arc false true x y l u p q f g = go (dec_lt l x)
  where
    go : Dec (l < x) → ((χ false -ℤ χ true) *ℤ (pos y -ℤ pos x)) ≤ℤ pos 0
    go (yes h) = absurd (let z : ◌≡◌ {A = ℕ} 0 1 = cc (g refl h) in omega arith)
    go (no h) = simp ring (omega arith)

module _ (N : Net) (ok : WellFormed N) where
  -- no flow: S is closed, and more must leave S than f sends
  no_flow : (f : List ℕ) (S : ℕ → Bool) → Closed N f (λ a. Unit {0}) S → pos 0 <ℤ sum (nodes N) (λ v. χ (S v) *ℤ (balance N v -ℤ net_out N f v)) → (g : List ℕ) → ¬ IsFlow N g
  no_flow f S cl more g fg =
      given4 (weighted N ok f g (λ v. χ (S v)))
      (sum_cong (nodes N) (λ v. χ (S v) *ℤ (net_out N g v -ℤ net_out N f v)) (λ v. χ (S v) *ℤ (balance N v -ℤ net_out N f v)) (λ v k. ap (λ z. χ (S v) *ℤ (z -ℤ net_out N f v)) (fg.balanced v k)))
      (sum_mono (arcs N) (λ a. (χ (S (tail N a)) -ℤ χ (S (head N a))) *ℤ (on g a -ℤ on f a)) (λ a. pos 0) each)
      (sum_none (arcs N) (λ a. pos 0) (λ a l. refl))
      (λ e1 e2 le e3. close _ _ _ _ e1 e2 le e3 more)
    where
      each : (a : ℕ) → a < arcs N → ((χ (S (tail N a)) -ℤ χ (S (head N a))) *ℤ (on g a -ℤ on f a)) ≤ℤ pos 0
      each a l = cut_arc (S (tail N a)) (S (head N a)) (get_or f a 0) (get_or g a 0) (low N a) (up N a) (fg.above a l) (fg.below a l) (λ s h. cl.out a l tt s h) (λ s h. cl.back a l tt s h)

      close : (w x y z : ℤ) → w ≡ x → x ≡ y → w ≤ℤ z → z ≡ pos 0 → pos 0 <ℤ y → ⊥
      close w x y z p q r s t = given4 p q r s (given t (simp lin (omega arith)))

  -- the same, with a node s of S that has an excess and none of S that has a deficit
  pub stuck : (f : List ℕ) (S : ℕ → Bool) → Closed N f (λ a. Unit {0}) S → (s : ℕ) → s < nodes N → S s ≡ true → net_out N f s <ℤ balance N s
      → ((v : ℕ) → v < nodes N → S v ≡ true → net_out N f v ≤ℤ balance N v) → (g : List ℕ) → ¬ IsFlow N g
  stuck f S cl s k in-s more none = no_flow f S cl
      (given2 (sum_term (nodes N) (λ v. χ (S v) *ℤ (balance N v -ℤ net_out N f v)) (λ v l. each v (S v) (none v l)) s k)
      (ap (λ b. χ b *ℤ (balance N s -ℤ net_out N f s)) in-s) (λ p q. close (balance N s) (net_out N f s) _ _ q p more))
    where
      each : (v : ℕ) (b : Bool) → (b ≡ true → net_out N f v ≤ℤ balance N v) → pos 0 ≤ℤ (χ b *ℤ (balance N v -ℤ net_out N f v))
      each v true h = *_nonneg {x = pos 1} {y = balance N v -ℤ net_out N f v} (simp lin (omega arith)) (given (h refl) (simp lin (omega arith)))
      each v false h = simp ring (omega arith)

      close : (b o t z : ℤ) → t ≡ pos 1 *ℤ (b -ℤ o) → t ≤ℤ z → o <ℤ b → pos 0 <ℤ z
      close b o t z e h l = given3 e h l (simp ring (omega arith))

  -- no more, no less on arc k: S is closed under the free arcs, and every other arc but k has the same number in f and in g
  module _ (f g : List ℕ) (ff : IsFlow N f) (fg : IsFlow N g) (k : ℕ) (lk : k < arcs N) (free : ℕ → Type 0) (S : ℕ → Bool) (cl : Closed N f free S)
      (others : (a : ℕ) → a < arcs N → a ≢ k → free a ⊎ (get_or g a 0 ≡ get_or f a 0)) where
    each : (a : ℕ) → a < arcs N → a ≢ k → ((χ (S (tail N a)) -ℤ χ (S (head N a))) *ℤ (on g a -ℤ on f a)) ≤ℤ pos 0
    each a l ne = go (others a l ne)
      where
        go : free a ⊎ (get_or g a 0 ≡ get_or f a 0) → ((χ (S (tail N a)) -ℤ χ (S (head N a))) *ℤ (on g a -ℤ on f a)) ≤ℤ pos 0
        go (inl o) = cut_arc (S (tail N a)) (S (head N a)) (get_or f a 0) (get_or g a 0) (low N a) (up N a) (fg.above a l) (fg.below a l) (λ s h. cl.out a l o s h) (λ s h. cl.back a l o s h)
        go (inr e) = given (times_same (χ (S (tail N a)) -ℤ χ (S (head N a))) (on g a) (on f a) (ap pos e)) (simp lin (omega arith))

    at_k : pos 0 ≤ℤ ((χ (S (tail N k)) -ℤ χ (S (head N k))) *ℤ (on g k -ℤ on f k))
    at_k =
        subst (λ (z : ℤ). z ≤ℤ ((χ (S (tail N k)) -ℤ χ (S (head N k))) *ℤ (on g k -ℤ on f k))) (circulation N ok f g (λ v. χ (S v)) ff fg)
        (sum_le_one (arcs N) (λ a. (χ (S (tail N a)) -ℤ χ (S (head N a))) *ℤ (on g a -ℤ on f a)) k lk each)

    pub no_more : S (head N k) ≡ true → S (tail N k) ≡ false → get_or g k 0 ≤ get_or f k 0
    no_more h t = given (rw (h, t) at at_k) (simp ring (omega arith))

    pub no_less : S (tail N k) ≡ true → S (head N k) ≡ false → get_or f k 0 ≤ get_or g k 0
    no_less t h = given (rw (h, t) at at_k) (simp ring (omega arith))
