-- Pushing from an excess to a deficit lessens the total excess; a list within the bounds without an excess is a flow.
use mathlib.Core.Path.{◌≡◌, refl, sym, ap, ◌∙◌}
use mathlib.Core.Logic.{◌⊎◌, inl, inr, ◌≢◌}
use mathlib.Core.List.{List}
use Prim.Native.Nat.{ℕ, ◌<◌}
use native.Mathlib.Omega.{arith}
use native.Mathlib.Decide.{ℕ_discrete}
use lib.IntN.{ℤ, pos, neg_ℤ, ◌+ℤ◌, ◌-ℤ◌}
use lib.Signed.{◌≤ℤ◌, ◌<ℤ◌}
use Rattle.laws.specs.Divergence.{at, at_same, at_other}
use Rattle.laws.specs.Integers.{plus_lt, apart}
use Rattle.laws.specs.Linear.{lin, given, given2, given3, given4}
use Rattle.laws.specs.Parts.{plus, minus}
use Rattle.laws.specs.Sum.{sum, sum_sub, sum_nonneg, sum_change, sum_zero_each}
use Rattle.net_model.specs.Network.{Net, nodes, balance, net_out, IsFlow, WellFormed}
use Rattle.net_theory.specs.Bounds.{InBounds}
use Rattle.net_theory.specs.Excess.{excess, total_excess}
use Rattle.net_theory.proofs.Circulation.{net_out_sum}

plus_le_zero : (x : ℤ) → x ≤ℤ pos 0 → plus x ≡ 0
plus_le_zero x h = go (apart x)
  where
    go : (plus x ≡ 0) ⊎ (minus x ≡ 0) → plus x ≡ 0
    go (inl e) = e
    go (inr e) = given h (simp lin (omega arith))

plus_of : (x : ℤ) → pos 0 ≤ℤ x → pos (plus x) ≡ x
plus_of x h = go (apart x)
  where
    go : (plus x ≡ 0) ⊎ (minus x ≡ 0) → pos (plus x) ≡ x
    go (inl e) = given h (simp lin (omega arith))
    go (inr e) = simp lin (omega arith)

module _ (N : Net) (f g : List ℕ) (s t δ : ℕ)
    (moved : (w : ℕ) → net_out N g w ≡ net_out N f w +ℤ (at s w (pos δ) -ℤ at t w (pos δ)))
    (s-in : s < nodes N) (some-δ : 0 < δ) (s-excess : pos δ ≤ℤ excess N f s) (t-deficit : excess N f t ≤ℤ neg_ℤ (pos δ)) where
  apart_st : s ≢ t
  apart_st q = clash (excess N f s) (excess N f t) (pos δ) (ap (excess N f) q) s-excess t-deficit (simp lin (omega arith))
    where
      clash : (x y d : ℤ) → x ≡ y → d ≤ℤ x → y ≤ℤ neg_ℤ d → pos 0 <ℤ d → ⊥
      clash x y d e p q r = given4 e p q r (simp lin (omega arith))

  other : (i : ℕ) → i < nodes N → i ≢ s → pos (plus (excess N g i)) ≡ pos (plus (excess N f i))
  other i l ne = go (ℕ_discrete i t)
    where
      go : Dec (i ≡ t) → pos (plus (excess N g i)) ≡ pos (plus (excess N f i))
      go (yes q) =
          ap pos (plus_le_zero (excess N g i) (met (balance N i) (net_out N g i) (net_out N f i) (at s i (pos δ)) (at t i (pos δ)) (pos δ) (moved i) (at_other (λ p. ne (sym p)) (pos δ)) (at_same (sym q) (pos δ)) (rw q t-deficit))
          ∙ sym (plus_le_zero (excess N f i) (low (excess N f i) (pos δ) (rw q t-deficit) (simp lin (omega arith)))))
        where
          met : (b o' o x y d : ℤ) → o' ≡ o +ℤ (x -ℤ y) → x ≡ pos 0 → y ≡ d → (b -ℤ o) ≤ℤ neg_ℤ d → (b -ℤ o') ≤ℤ pos 0
          met b o' o x y d p q r h = given4 p q r h (simp lin (omega arith))

          low : (x d : ℤ) → x ≤ℤ neg_ℤ d → pos 0 ≤ℤ d → x ≤ℤ pos 0
          low x d h k = given2 h k (simp lin (omega arith))
      go (no q) = ap (λ z. pos (plus (balance N i -ℤ z))) (still (net_out N g i) (net_out N f i) (at s i (pos δ)) (at t i (pos δ)) (moved i) (at_other (λ p. ne (sym p)) (pos δ)) (at_other (λ p. q (sym p)) (pos δ)))
        where
          still : (o' o x y : ℤ) → o' ≡ o +ℤ (x -ℤ y) → x ≡ pos 0 → y ≡ pos 0 → o' ≡ o
          still o' o x y p q r = given3 p q r (simp lin (omega arith))

  at_s : pos (plus (excess N g s)) ≡ pos (plus (excess N f s)) -ℤ pos δ
  at_s = fall (excess N g s) (excess N f s) (pos δ) (less (balance N s) (net_out N g s) (net_out N f s) (at s s (pos δ)) (at t s (pos δ)) (pos δ) (moved s) (at_same refl (pos δ)) (at_other (λ q. apart_st (sym q)) (pos δ))) s-excess (simp lin (omega arith))
    where
      less : (b o' o x y d : ℤ) → o' ≡ o +ℤ (x -ℤ y) → x ≡ d → y ≡ pos 0 → b -ℤ o' ≡ (b -ℤ o) -ℤ d
      less b o' o x y d p q r = given3 p q r (simp lin (omega arith))

      fall : (x y d : ℤ) → x ≡ y -ℤ d → d ≤ℤ y → pos 0 ≤ℤ d → pos (plus x) ≡ pos (plus y) -ℤ d
      fall x y d e h k = plus_of x (given2 e h (simp lin (omega arith))) ∙ e ∙ ap (λ z. z -ℤ d) (sym (plus_of y (given2 h k (simp lin (omega arith)))))

  pub relieved : plus (total_excess N g) < plus (total_excess N f)
  relieved =
      plus_lt (sum_nonneg (nodes N) (λ v. pos (plus (excess N g v))) (λ v l. simp lin (omega arith)))
      (drop (total_excess N g) (total_excess N f) (pos (plus (excess N g s))) (pos (plus (excess N f s))) (pos δ)
      (sum_change (nodes N) (λ v. pos (plus (excess N f v))) (λ v. pos (plus (excess N g v))) s s-in other) at_s (simp lin (omega arith)))
    where
      drop : (x y p q d : ℤ) → x ≡ y +ℤ (p -ℤ q) → p ≡ q -ℤ d → pos 0 <ℤ d → x <ℤ y
      drop x y p q d e h k = given3 e h k (simp lin (omega arith))

module _ (N : Net) (ok : WellFormed N) where
  -- no node has an excess, and the balances sum to 0: a flow
  pub all_met : (f : List ℕ) → InBounds N f → sum (nodes N) (balance N) ≡ pos 0 → ((v : ℕ) → v < nodes N → excess N f v ≤ℤ pos 0) → IsFlow N f
  all_met f b z h = record {
    all_arcs = b.all_arcs;
    above = b.above;
    below = b.below;
    balanced = λ v k. zero_diff (net_out N f v) (balance N v) (sum_zero_each (nodes N) (λ v. net_out N f v -ℤ balance N v) (λ v l. turn (balance N v) (net_out N f v) (h v l)) none v k);
  }
    where
      zero_diff : (x y : ℤ) → x -ℤ y ≡ pos 0 → x ≡ y
      zero_diff x y e = given e (simp lin (omega arith))

      turn : (b o : ℤ) → (b -ℤ o) ≤ℤ pos 0 → pos 0 ≤ℤ (o -ℤ b)
      turn b o h = given h (simp lin (omega arith))

      both : (x p q : ℤ) → x ≡ p -ℤ q → p ≡ pos 0 → q ≡ pos 0 → x ≡ pos 0
      both x p q e d c = given3 e d c (simp lin (omega arith))

      none : sum (nodes N) (λ v. net_out N f v -ℤ balance N v) ≡ pos 0
      none = both (sum (nodes N) (λ v. net_out N f v -ℤ balance N v)) (sum (nodes N) (net_out N f)) (sum (nodes N) (balance N)) (sum_sub (nodes N) (net_out N f) (balance N)) (net_out_sum N ok f) z
