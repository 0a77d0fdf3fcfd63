-- More numbers below n than n: two of them are equal, and here they are.
use Rattle.std.specs.Prelude.{◌≡◌, ◌⊎◌, ◌≢◌, ℕ, zero, suc, ◌<◌}
use Rattle.std.proofs.Common.{sym, ◌∙◌, inl, inr, ⊎_elim, arith}
use Rattle.std.proofs.Math.Decide.{ℕ_discrete}

pub record Found (k : ℕ) (f : ℕ → ℕ) (v : ℕ) : Type 0 where
  pub i : ℕ
  pub in_range : i < k
  pub is : f i ≡ v

pub find : (k : ℕ) (f : ℕ → ℕ) (v : ℕ) → Found k f v ⊎ ((i : ℕ) → i < k → f i ≢ v)
find zero f v = inr (λ i h. absurd (omega arith))
find (suc k) f v = go (ℕ_discrete (f k) v) (find k f v)
  where
    go : Dec (f k ≡ v) → Found k f v ⊎ ((i : ℕ) → i < k → f i ≢ v) → Found (suc k) f v ⊎ ((i : ℕ) → i < suc k → f i ≢ v)
    go (yes e) r = inl (record { i = k; in_range = omega arith; is = e })
    go (no e) (inl r) = inl (record { i = r.i; in_range = omega arith; is = r.is })
    go (no e) (inr r) = inr (λ i h. ⊎_elim (λ (l : i < k). r i l) (λ (q : i ≡ k). rw q e) (below_or_last i k h))
      where
        below_or_last : (i k : ℕ) → i < suc k → (i < k) ⊎ (i ≡ k)
        below_or_last i k h = last_or (ℕ_discrete i k)
          where
            last_or : Dec (i ≡ k) → (i < k) ⊎ (i ≡ k)
            last_or (yes q) = inr q
            last_or (no q) = inl (omega arith)

pub record Twice (k : ℕ) (f : ℕ → ℕ) : Type 0 where
  pub i : ℕ
  pub j : ℕ
  pub less : i < j
  pub in_range : j < k
  pub same : f i ≡ f j

pick : {A : Type 0} → Dec A → ℕ → ℕ → ℕ
pick (yes _) x y = x
pick (no _) x y = y

-- x, with v for t
swap : ℕ → ℕ → ℕ → ℕ
swap t v x = pick (ℕ_discrete x t) v x

swap_below : (n v x : ℕ) → x < suc n → v < n → swap n v x < n
unfolding swap pick
swap_below n v x h k = go (ℕ_discrete x n)
  where
    go : (d : Dec (x ≡ n)) → pick d v x < n
    go (yes e) = k
    go (no e) = omega arith

swap_same : (n v x y : ℕ) → x ≢ v → y ≢ v → swap n v x ≡ swap n v y → x ≡ y
unfolding swap pick
swap_same n v x y hx hy = go (ℕ_discrete x n) (ℕ_discrete y n)
  where
    go : (d : Dec (x ≡ n)) (e : Dec (y ≡ n)) → pick d v x ≡ pick e v y → x ≡ y
    go (yes p) (yes q) r = p ∙ sym q
    go (yes p) (no q) r = absurd (hy (sym r))
    go (no p) (yes q) r = absurd (hx r)
    go (no p) (no q) r = r

pub pigeon : (n k : ℕ) (f : ℕ → ℕ) → n < k → ((i : ℕ) → i < k → f i < n) → Twice k f
pigeon zero k f h b = absurd (nope (b 0 h))
  where
    nope : f 0 < 0 → ⊥
    nope l = omega arith
pigeon (suc n) zero f h b = absurd (omega arith)
pigeon (suc n) (suc k) f h b = at_last (pigeon n k) (find k f (f k))
  where
    at_last : ((g : ℕ → ℕ) → n < k → ((i : ℕ) → i < k → g i < n) → Twice k g) → Found k f (f k) ⊎ ((i : ℕ) → i < k → f i ≢ f k) → Twice (suc k) f
    at_last ih (inl r) = record { i = r.i; j = k; less = r.in_range; in_range = omega arith; same = r.is }
    at_last ih (inr none) = up (rest (ℕ_discrete (f k) n))
      where
        up : Twice k f → Twice (suc k) f
        up t = record { i = t.i; j = t.j; less = t.less; in_range = omega arith; same = t.same }

        back : Twice k (λ i. swap n (f k) (f i)) → Twice k f
        back t = record { i = t.i; j = t.j; less = t.less; in_range = t.in_range; same = swap_same n (f k) (f t.i) (f t.j) (none t.i (omega arith)) (none t.j t.in_range) t.same }

        rest : Dec (f k ≡ n) → Twice k f
        rest (yes e) = ih f (omega arith) (λ i l. omega (arith, b i (omega arith), none i l))
        rest (no e) = back (ih (λ i. swap n (f k) (f i)) (omega arith) (λ i l. swap_below n (f k) (f i) (b i (omega arith)) (omega (arith, b k (omega arith)))))
