-- Telescoping over arcs: Σ_a (π(tail a) − π(head a))·h(a) ≡ Σ_v π(v)·div(v).
use Rattle.std.specs.Prelude.{◌≡◌, refl, ◌≢◌, ℕ, ◌<◌, ◌≤ℤ◌, ℤ, pos, neg_ℤ, ◌-ℤ◌, ◌*ℤ◌}
use Rattle.std.proofs.Common.{sym, ap, ap₂, ◌∙◌, arith}
use Rattle.std.proofs.Math.Decide.{ℕ_discrete}
use Rattle.laws.specs.Linear.{lin, ring, given, given2}
use Rattle.laws.specs.Sum.{sum, sum_cong, sum_scale, sum_swap, sum_only, sum_sub, sum_mono}

-- x where the two are equal, 0 otherwise
abbrev pub if_dec : {u v : ℕ} → Dec (u ≡ v) → ℤ → ℤ
if_dec (yes e) x = x
if_dec (no e) x = pos 0

unfoldable pub at : ℕ → ℕ → ℤ → ℤ
at u v x = if_dec (ℕ_discrete u v) x

pub at_same : {u v : ℕ} → u ≡ v → (x : ℤ) → at u v x ≡ x
unfolding at
at_same {u} {v} e x = go (ℕ_discrete u v)
  where
    go : (d : Dec (u ≡ v)) → if_dec d x ≡ x
    go (yes e) = refl
    go (no n) = absurd (n e)

pub at_other : {u v : ℕ} → u ≢ v → (x : ℤ) → at u v x ≡ pos 0
unfolding at
at_other {u} {v} e x = go (ℕ_discrete u v)
  where
    go : (d : Dec (u ≡ v)) → if_dec d x ≡ pos 0
    go (yes q) = absurd (e q)
    go (no n) = refl

pub at_sub : (u v : ℕ) (x y : ℤ) → at u v (x -ℤ y) ≡ at u v x -ℤ at u v y
at_sub u v x y = go (ℕ_discrete u v)
  where
    go : Dec (u ≡ v) → at u v (x -ℤ y) ≡ at u v x -ℤ at u v y
    go (yes q) = rw (at_same q (x -ℤ y), at_same q x, at_same q y)
    go (no q) = rw (at_other q (x -ℤ y), at_other q x, at_other q y)

pub at_neg : (u v : ℕ) (x : ℤ) → at u v (neg_ℤ x) ≡ neg_ℤ (at u v x)
at_neg u v x = go (ℕ_discrete u v)
  where
    go : Dec (u ≡ v) → at u v (neg_ℤ x) ≡ neg_ℤ (at u v x)
    go (yes q) = rw (at_same q (neg_ℤ x), at_same q x)
    go (no q) = rw (at_other q (neg_ℤ x), at_other q x)

-- what the arcs whose end e is v carry
abbrev pub ends : ℕ → (ℕ → ℕ) → (ℕ → ℤ) → ℕ → ℤ
ends m e h v = sum m (λ a. at (e a) v (h a))

-- out of v less into v
abbrev pub div : ℕ → (ℕ → ℕ) → (ℕ → ℕ) → (ℕ → ℤ) → ℕ → ℤ
div m tl hd h v = ends m tl h v -ℤ ends m hd h v

pub by_ends : (n m : ℕ) (e : ℕ → ℕ) (h π : ℕ → ℤ) → ((a : ℕ) → a < m → e a < n) → sum m (λ a. π (e a) *ℤ h a) ≡ sum n (λ v. π v *ℤ ends m e h v)
by_ends n m e h π bound =
    sum_cong m (λ a. π (e a) *ℤ h a) (λ a. sum n (λ v. π v *ℤ at (e a) v (h a)))
    (λ a l. sym (sum_only n (λ v. π v *ℤ at (e a) v (h a)) (e a) (bound a l) (λ v k ne. rw (at_other {u = e a} {v = v} (λ q. ne (sym q)) (h a)) (simp ring (omega arith))) ∙ ap (λ z. π (e a) *ℤ z) (at_same refl (h a))))
    ∙ sum_swap m n (λ a v. π v *ℤ at (e a) v (h a))
    ∙ sum_cong n (λ v. sum m (λ a. π v *ℤ at (e a) v (h a))) (λ v. π v *ℤ ends m e h v) (λ v k. sum_scale m (π v) (λ a. at (e a) v (h a)))

pub telescope : (n m : ℕ) (tl hd : ℕ → ℕ) (h π : ℕ → ℤ) → ((a : ℕ) → a < m → tl a < n) → ((a : ℕ) → a < m → hd a < n)
    → sum m (λ a. (π (tl a) -ℤ π (hd a)) *ℤ h a) ≡ sum n (λ v. π v *ℤ div m tl hd h v)
telescope n m tl hd h π bt bh =
    sum_cong m _ (λ a. π (tl a) *ℤ h a -ℤ π (hd a) *ℤ h a) (λ a l. simp ring (omega arith))
    ∙ sum_sub m (λ a. π (tl a) *ℤ h a) (λ a. π (hd a) *ℤ h a)
    ∙ ap₂ ◌-ℤ◌ (by_ends n m tl h π bt) (by_ends n m hd h π bh)
    ∙ sym (sum_sub n (λ v. π v *ℤ ends m tl h v) (λ v. π v *ℤ ends m hd h v))
    ∙ sum_cong n (λ v. π v *ℤ ends m tl h v -ℤ π v *ℤ ends m hd h v) _ (λ v k. simp ring (omega arith))

-- the divergence of a difference
pub ends_sub : (m : ℕ) (e : ℕ → ℕ) (f g : ℕ → ℤ) (v : ℕ) → ends m e (λ a. f a -ℤ g a) v ≡ ends m e f v -ℤ ends m e g v
ends_sub m e f g v =
    sum_cong m _ (λ a. at (e a) v (f a) -ℤ at (e a) v (g a)) (λ a _. at_sub (e a) v (f a) (g a)) ∙ sum_sub m (λ a. at (e a) v (f a)) (λ a. at (e a) v (g a))

pub div_sub : (m : ℕ) (tl hd : ℕ → ℕ) (f g : ℕ → ℤ) (v : ℕ) → div m tl hd (λ a. f a -ℤ g a) v ≡ div m tl hd f v -ℤ div m tl hd g v
div_sub m tl hd f g v = given (ends_sub m tl f g v) (given (ends_sub m hd f g v) (simp lin (omega arith)))

-- a sum is at most its one term that may be positive
pub sum_le_one : (n : ℕ) (f : ℕ → ℤ) (j : ℕ) → j < n → ((i : ℕ) → i < n → i ≢ j → f i ≤ℤ pos 0) → sum n f ≤ℤ f j
sum_le_one n f j k h =
    given2 (sum_mono n f (λ i. at j i (f j)) (λ i l. go i l (ℕ_discrete i j)))
    (sum_only n (λ i. at j i (f j)) j k (λ i l ne. at_other (λ q. ne (sym q)) (f j)) ∙ at_same refl (f j))
    (simp lin (omega arith))
  where
    go : (i : ℕ) → i < n → Dec (i ≡ j) → f i ≤ℤ at j i (f j)
    go i l (yes q) = rw (at_same (sym q) (f j), q) (simp lin (omega arith))
    go i l (no q) = rw (at_other (λ p. q (sym p)) (f j)) (h i l q)
