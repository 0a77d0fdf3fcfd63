-- A round over the residual arcs: labels fall, each arc has made its offer, and a round that changed nothing leaves a feasible potential.
use mathlib.Core.Path.{◌≡◌, refl, sym, ap, subst, ◌∙◌}
use mathlib.Core.Bool.{Bool, true, false, cond, ◌&&◌}
use mathlib.Core.List.{List, [], ◌∷◌}
use Prim.Native.Nat.{ℕ, zero, suc, ◌+◌, ◌*◌, ◌≤◌, ◌<◌}
use native.Mathlib.Omega.{arith}
use native.Mathlib.Decide.{ℕ_discrete}
use lib.ListN.{length, get_or, set, replicate, length-set}
use lib.Seq.{get_or-set_same}
use lib.IntN.{ℤ, pos, ◌+ℤ◌}
use lib.Signed.{lt_z, ◌≤ℤ◌, ◌<ℤ◌}
use Rattle.laws.specs.Linear.{lin, given, given2, given3}
use Rattle.laws.specs.Integers.{lt_z_true, lt_z_false}
use Rattle.laws.specs.Tests.{and_true}
use Rattle.laws.specs.Range.{Bounded, bounded_add, bounded_more}
use Rattle.laws.specs.Store.{set_cases}
use Rattle.net_model.specs.Network.{Net}
use Rattle.net_model.specs.Potential.{FeasiblePotential}
use Rattle.net_model.specs.Residual.{codes, src, dst, step_cost, walk_cost, CodeWalk}
use Rattle.net_theory.specs.ResidualCapacity.{has_capacity}
use Rattle.net_theory.proofs.Codes.{src_in, dst_in}
use Rattle.flow_relax.specs.Labels.{Relaxable, State, state, label, offer, better, relaxed, relaxed_all, Sized}
use Rattle.flow_relax.proofs.StepCosts.{step_small}

-- no walk of at most k codes costs less than the label where it ends
abbrev pub AtMost : Net → List ℕ → ℕ → ℕ → List ℤ → Type 0
AtMost N f δ k d = (u v : ℕ) (cs : List ℕ) → length cs ≤ k → CodeWalk N (has_capacity N f δ) u v cs → get_or d v (pos 0) ≤ℤ walk_cost N cs

-- labels that are all 0
pub zero_at : (n v : ℕ) → get_or (replicate n (pos 0)) v (pos 0) ≡ pos 0
zero_at zero v = refl
zero_at (suc n) zero = refl
zero_at (suc n) (suc v) = zero_at n v

module _ (d : List ℤ) (zeros : (v : ℕ) → get_or d v (pos 0) ≡ pos 0) where
  pub zeros_at_most : (N : Net) (f : List ℕ) (δ : ℕ) → AtMost N f δ 0 d
  zeros_at_most N f δ u v [] h w = rw (zeros v) (simp lin (omega arith))
  zeros_at_most N f δ u v (c ∷ cs) h w = absurd (omega arith)

  pub zeros_sized : (p : List ℕ) → length d ≡ 64 → length p ≡ 64 → Sized 0 d p
  zeros_sized p dl pl = record { labels_len = dl; preds_len = pl; small = λ v h. rw (zeros v) (omega arith) }

pub sized_more : {B C : ℕ} {d : List ℤ} {p : List ℕ} → B ≤ C → Sized B d p → Sized C d p
sized_more h z = record { labels_len = z.labels_len; preds_len = z.preds_len; small = λ v l. bounded_more h (z.small v l) }

module _ (N : Net) (f : List ℕ) (ok : Relaxable N f) (δ : ℕ) where
  -- one code: by whether it is better
  module _ (s : State) (c : ℕ) (h : c < codes N) (len : length s.labels ≡ 64) where
    long : dst N c < length s.labels
    long = omega (arith, dst_in N ok.ends c h)

    pub one_falls : (w : ℕ) → label (relaxed N f δ c s) w ≤ℤ label s w
    one_falls w = go (better N f δ c s) refl
      where
        go : (t : Bool) → better N f δ c s ≡ t → get_or (cond t (set s.labels (dst N c) (offer N c s)) s.labels) w (pos 0) ≤ℤ label s w
        go true e =
            set_cases (λ j z. z ≤ℤ label s j) s.labels (dst N c) (offer N c s) (pos 0) long
            (given (lt_z_true (offer N c s) (label s (dst N c)) (and_true (has_capacity N f δ c) _ e).1) (simp lin (omega arith))) (λ j q. simp lin (omega arith)) w
        go false e = simp lin (omega arith)

    one_offer : has_capacity N f δ c ≡ true → label (relaxed N f δ c s) (dst N c) ≤ℤ offer N c s
    one_offer r = go (lt_z (offer N c s) (label s (dst N c))) refl
      where
        go : (t : Bool) → lt_z (offer N c s) (label s (dst N c)) ≡ t → label (relaxed N f δ c s) (dst N c) ≤ℤ offer N c s
        go true e = rw (r, e, get_or-set_same s.labels (dst N c) (offer N c s) (pos 0) long) (simp lin (omega arith))
        go false e = rw (r, e) (lt_z_false (offer N c s) (label s (dst N c)) e)

    pub one_length : length (relaxed N f δ c s).labels ≡ 64
    one_length = go (better N f δ c s)
      where
        go : (t : Bool) → length (cond t (set s.labels (dst N c) (offer N c s)) s.labels) ≡ 64
        go true = length-set s.labels (dst N c) (offer N c s) ∙ len
        go false = len

  -- the first r codes
  module _ (s : State) (len : length s.labels ≡ 64) where
    abbrev after : ℕ → State
    after r = relaxed_all N f δ r s

    all_length : (r : ℕ) → r ≤ codes N → length (after r).labels ≡ 64
    unfolding relaxed_all
    all_length zero h = len
    all_length (suc r) h = one_length (after r) r h (all_length r (omega arith))

    all_falls : (r : ℕ) → r ≤ codes N → (w : ℕ) → label (after r) w ≤ℤ label s w
    unfolding relaxed_all
    all_falls zero h w = simp lin (omega arith)
    all_falls (suc r) h w = given2 (one_falls (after r) r h (all_length r (omega arith)) w) (all_falls r (omega arith) w) (simp lin (omega arith))

    -- each code has made its offer
    all_offers : (r : ℕ) → r ≤ codes N → (c : ℕ) → c < r → has_capacity N f δ c ≡ true → label (after r) (dst N c) ≤ℤ (label s (src N c) +ℤ step_cost N c)
    unfolding relaxed_all
    all_offers zero h c k e = absurd (omega arith)
    all_offers (suc r) h c k e = go (ℕ_discrete c r) (all_offers r (omega arith) c)
      where
        first : (a b o d s : ℤ) → a ≤ℤ o → o ≡ b +ℤ s → b ≤ℤ d → a ≤ℤ (d +ℤ s)
        first a b o d s h q k = given3 h q k (simp lin (omega arith))

        go : Dec (c ≡ r) → (c < r → has_capacity N f δ c ≡ true → label (after r) (dst N c) ≤ℤ (label s (src N c) +ℤ step_cost N c))
            → label (relaxed N f δ r (after r)) (dst N c) ≤ℤ (label s (src N c) +ℤ step_cost N c)
        go (yes q) deep =
            rw q (first (label (relaxed N f δ r (after r)) (dst N r)) (label (after r) (src N r)) (offer N r (after r)) (label s (src N r)) (step_cost N r)
            (one_offer (after r) r h (all_length r (omega arith)) (subst (λ k. has_capacity N f δ k ≡ true) q e)) refl (all_falls r (omega arith) (src N r)))
        go (no q) deep = given2 (one_falls (after r) r h (all_length r (omega arith)) (dst N c)) (deep (omega arith) e) (simp lin (omega arith))

    -- walks may be one code longer
    round_at_most : (k : ℕ) → AtMost N f δ k s.labels → AtMost N f δ (suc k) (after (codes N)).labels
    round_at_most k m u v [] h e = given2 (all_falls (codes N) (omega arith) v) (m u v [] (omega arith) e) (simp lin (omega arith))
    round_at_most k m u v (c ∷ cs) h (a, b, e, w) =
        subst (λ x. label (after (codes N)) x ≤ℤ (step_cost N c +ℤ walk_cost N cs)) e
        (given2 (all_offers (codes N) (omega arith) c a b) (m u (src N c) cs (omega arith) w) (simp lin (omega arith)))

  -- an arc more
  pub arc_more : (s t r : State) (a : ℕ) → t ≡ relaxed_all N f δ (a + a) s → r ≡ relaxed N f δ (suc (a + a)) (relaxed N f δ (a + a) t) → r ≡ relaxed_all N f δ (a + 1 + (a + 1)) s
  unfolding relaxed_all
  arc_more s t r a e q = let k : a + 1 + (a + 1) ≡ suc (suc (a + a)) = omega arith in rw k (q ∙ ap (λ (x : State). relaxed N f δ (suc (a + a)) (relaxed N f δ (a + a) x)) e)

  -- whether anything changed, from a start with last = 64
  data Changed (d₀ : List ℤ) (r : ℕ) (s : State) : Type 0 where
    unchanged : s.last ≡ 64 → s.labels ≡ d₀ → ((c : ℕ) → c < r → has_capacity N f δ c ≡ true → get_or d₀ (dst N c) (pos 0) ≤ℤ (get_or d₀ (src N c) (pos 0) +ℤ step_cost N c)) → Changed d₀ r s
    noisy : s.last < 64 → label s s.last <ℤ get_or d₀ s.last (pos 0) → Changed d₀ r s

  changed_step : (d₀ : List ℤ) (r : ℕ) (s : State) → r < codes N → length s.labels ≡ 64 → ((w : ℕ) → label s w ≤ℤ get_or d₀ w (pos 0)) → Changed d₀ r s → Changed d₀ (suc r) (relaxed N f δ r s)
  changed_step d₀ r s h len falls ch = go (better N f δ r s) refl
    where
      long : dst N r < length s.labels
      long = omega (arith, dst_in N ok.ends r h)

      no_better : has_capacity N f δ r && lt_z (offer N r s) (label s (dst N r)) ≡ false → has_capacity N f δ r ≡ true → label s (dst N r) ≤ℤ offer N r s
      no_better e q = lt_z_false (offer N r s) (label s (dst N r)) (sym (ap (λ t. t && lt_z (offer N r s) (label s (dst N r))) q) ∙ e)

      still : better N f δ r s ≡ false → Changed d₀ r s → Changed d₀ (suc r) (state s.labels s.preds s.last)
      still e (unchanged a b c) = unchanged a b (λ k l q. offered k l q (ℕ_discrete k r))
        where
          offered : (k : ℕ) → k < suc r → has_capacity N f δ k ≡ true → Dec (k ≡ r) → get_or d₀ (dst N k) (pos 0) ≤ℤ (get_or d₀ (src N k) (pos 0) +ℤ step_cost N k)
          offered k l q (yes p) = rw p (subst (λ d. get_or d (dst N r) (pos 0) ≤ℤ (get_or d (src N r) (pos 0) +ℤ step_cost N r)) b (no_better e (subst (λ k. has_capacity N f δ k ≡ true) p q)))
          offered k l q (no p) = c k (omega arith) q
      still e (noisy a b) = noisy a b

      go : (t : Bool) → better N f δ r s ≡ t → Changed d₀ (suc r) (record { labels = cond t (set s.labels (dst N r) (offer N r s)) s.labels; preds = cond t (set s.preds (dst N r) r) s.preds; last = cond t (dst N r) s.last })
      go true e =
          noisy (dst_in N ok.ends r h)
          (rw (get_or-set_same s.labels (dst N r) (offer N r s) (pos 0) long)
          (given2 (lt_z_true (offer N r s) (label s (dst N r)) (and_true (has_capacity N f δ r) _ e).1) (falls (dst N r)) (simp lin (omega arith))))
      go false e = still e ch

  round_changed : (d : List ℤ) (p : List ℕ) → length d ≡ 64 → (r : ℕ) → r ≤ codes N → Changed d r (relaxed_all N f δ r (state d p 64))
  unfolding relaxed_all
  round_changed d p len zero h = unchanged refl refl (λ c k. absurd (omega arith))
  round_changed d p len (suc r) h =
      changed_step d r (relaxed_all N f δ r (state d p 64)) h (all_length (state d p 64) len r (omega arith)) (all_falls (state d p 64) len r (omega arith)) (round_changed d p len r (omega arith))

  -- how large labels can be
  pub one_sized : (B : ℕ) (s : State) (c : ℕ) → c < codes N → Sized B s.labels s.preds → Sized (B + 1000000) (relaxed N f δ c s).labels (relaxed N f δ c s).preds
  one_sized B s c h z = go (better N f δ c s)
    where
      go : (t : Bool) → Sized (B + 1000000) (cond t (set s.labels (dst N c) (offer N c s)) s.labels) (cond t (set s.preds (dst N c) c) s.preds)
      go true = record {
        labels_len = length-set s.labels (dst N c) (offer N c s) ∙ z.labels_len;
        preds_len = length-set s.preds (dst N c) c ∙ z.preds_len;
        small = set_cases (λ j y. j < 64 → Bounded (B + 1000000) y) s.labels (dst N c) (offer N c s) (pos 0) (omega (arith, dst_in N ok.ends c h, z.labels_len))
            (λ _. bounded_add (z.small (src N c) (src_in N ok.ends c h)) (step_small N ok.costs c h)) (λ j q l. bounded_more (omega arith) (z.small j l));
      }
      go false = sized_more (omega arith) z

  pub all_sized : (B : ℕ) (s : State) (r : ℕ) → r ≤ codes N → Sized B s.labels s.preds → Sized (B + 1000000 * r) (relaxed_all N f δ r s).labels (relaxed_all N f δ r s).preds
  unfolding relaxed_all
  all_sized B s zero h z = sized_more (omega arith) z
  all_sized B s (suc r) h z = sized_more (omega arith) (one_sized (B + 1000000 * r) (relaxed_all N f δ r s) r h (all_sized B s r (omega arith) z))

  -- a round from d and p, which left d', p' and last
  module _ (d : List ℤ) (p : List ℕ) (len : length d ≡ 64) (d' : List ℤ) (p' : List ℕ) (last : ℕ) (e : state d' p' last ≡ relaxed_all N f δ (codes N) (state d p 64)) where
    pub left_at_most : (k : ℕ) → AtMost N f δ k d → AtMost N f δ (suc k) d'
    left_at_most k m = subst (λ (s : State). AtMost N f δ (suc k) s.labels) (sym e) (round_at_most (state d p 64) len k m)

    pub left_sized : (k : ℕ) → Sized (1024000000 * k) d p → Sized (1024000000 * suc k) d' p'
    left_sized k z =
        subst (λ (s : State). Sized (1024000000 * suc k) s.labels s.preds) (sym e)
        (sized_more (omega (arith, ok.ends.few)) (all_sized (1024000000 * k) (state d p 64) (codes N) (omega arith) z))

    changed : Changed d (codes N) (state d' p' last)
    changed = subst (Changed d (codes N)) (sym e) (round_changed d p len (codes N) (omega arith))

    -- no label changed: the labels are a feasible potential
    pub left_unchanged : last ≡ 64 → (d' ≡ d) × FeasiblePotential N (has_capacity N f δ) (λ v. get_or d v (pos 0))
    left_unchanged q = go changed
      where
        go : Changed d (codes N) (state d' p' last) → (d' ≡ d) × FeasiblePotential N (has_capacity N f δ) (λ v. get_or d v (pos 0))
        go (unchanged a b c) = (b, c)
        go (noisy a b) = absurd (omega arith)

    -- or that of `last` fell
    pub left_fell : ¬ (last ≡ 64) → (last < 64) × (get_or d' last (pos 0) <ℤ get_or d last (pos 0))
    left_fell n = go changed
      where
        go : Changed d (codes N) (state d' p' last) → (last < 64) × (get_or d' last (pos 0) <ℤ get_or d last (pos 0))
        go (unchanged a b c) = absurd (n a)
        go (noisy a b) = (a, b)

    -- a node, or none
    pub left_node : last ≤ 64
    left_node = go changed
      where
        go : Changed d (codes N) (state d' p' last) → last ≤ 64
        go (unchanged a b c) = omega arith
        go (noisy a b) = omega arith
