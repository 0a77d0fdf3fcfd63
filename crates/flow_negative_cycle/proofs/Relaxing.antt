-- Residual arcs relaxed: labels stay labels, and steps back to where they began stay negative.
use mathlib.Core.Path.{◌≡◌, refl, sym, ap, ap₂, subst, ◌∙◌}
use mathlib.Core.Logic.{◌⊎◌, inl, inr, ◌≢◌}
use mathlib.Core.Bool.{Bool, true, false, cond}
use mathlib.Core.List.{List}
use Prim.Native.Nat.{ℕ, zero, suc, ◌≤◌, ◌<◌}
use native.Mathlib.Omega.{arith}
use native.Mathlib.Decide.{ℕ_discrete}
use lib.ListN.{length, get_or, set, length-set}
use lib.Seq.{get_or-set_same, get_or-set_other}
use lib.IntN.{ℤ, pos, ◌+ℤ◌}
use lib.Signed.{lt_z, ◌≤ℤ◌, ◌<ℤ◌}
use Rattle.laws.specs.Linear.{lin, given, given2, given3}
use Rattle.laws.specs.Integers.{lt_z_true}
use Rattle.laws.specs.Tests.{and_true}
use Rattle.laws.specs.Store.{set_cases}
use Rattle.laws.specs.Pigeonhole.{Found, find}
use Rattle.net_model.specs.Network.{Net}
use Rattle.net_model.specs.Residual.{codes, src, dst, step_cost}
use Rattle.net_theory.specs.ResidualCapacity.{has_capacity}
use Rattle.net_theory.specs.Limits.{SmallEnds}
use Rattle.net_theory.proofs.Codes.{src_in, dst_in}
use Rattle.flow_relax.specs.Labels.{Relaxable, State, label, offer, better, relaxed, relaxed_all}
use Rattle.flow_negative_cycle.specs.Predecessors.{pred, back, back_cost, Backs, PredecessorCycle, Labelled}

-- steps back along codes stay among the nodes
pub back_in : (N : Net) → SmallEnds N → (p : List ℕ) (x t : ℕ) → x < 64 → Backs N p t x → (j : ℕ) → j ≤ t → back N p j x < 64
unfolding back
back_in N ok p x t h b zero l = h
back_in N ok p x t h b (suc j) l = src_in N ok (pred p (back N p j x)) (b j (omega arith))

-- labels fall by at least the cost of the steps back
module _ (N : Net) (p : List ℕ) (e : ℕ → ℤ) (x t : ℕ)
    (drop : (i : ℕ) → i < t → (e (back N p (suc i) x) +ℤ step_cost N (pred p (back N p i x))) ≤ℤ e (back N p i x)) where
  pub slope : (j : ℕ) → j ≤ t → (back_cost N p j x +ℤ e (back N p j x)) ≤ℤ e x
  unfolding back back_cost
  slope zero l = simp lin (omega arith)
  slope (suc j) l = sum (step_cost N (pred p (back N p j x))) (back_cost N p j x) (e (src N (pred p (back N p j x)))) (e (back N p j x)) (e x) (drop j l) (slope j (omega arith))
    where
      sum : (s b u w y : ℤ) → (u +ℤ s) ≤ℤ w → (b +ℤ w) ≤ℤ y → ((s +ℤ b) +ℤ u) ≤ℤ y
      sum s b u w y h k = given2 h k (simp lin (omega arith))

  -- strictly, once one step is strict
  pub steep : (i : ℕ) → i < t → (e (back N p (suc i) x) +ℤ step_cost N (pred p (back N p i x))) <ℤ e (back N p i x)
      → (j : ℕ) → i < j → j ≤ t → (back_cost N p j x +ℤ e (back N p j x)) <ℤ e x
  unfolding back back_cost
  steep i h s zero k l = absurd (omega arith)
  steep i h s (suc j) k l = go (ℕ_discrete i j) (steep i h s j)
    where
      first : (s b u w y : ℤ) → (u +ℤ s) <ℤ w → (b +ℤ w) ≤ℤ y → ((s +ℤ b) +ℤ u) <ℤ y
      first s b u w y h k = given2 h k (simp lin (omega arith))

      later : (s b u w y : ℤ) → (u +ℤ s) ≤ℤ w → (b +ℤ w) <ℤ y → ((s +ℤ b) +ℤ u) <ℤ y
      later s b u w y h k = given2 h k (simp lin (omega arith))

      go : Dec (i ≡ j) → (i < j → j ≤ t → (back_cost N p j x +ℤ e (back N p j x)) <ℤ e x) → (back_cost N p (suc j) x +ℤ e (back N p (suc j) x)) <ℤ e x
      go (yes q) deep = first (step_cost N (pred p (back N p j x))) (back_cost N p j x) (e (src N (pred p (back N p j x)))) (e (back N p j x)) (e x) (subst (λ k. (e (back N p (suc k) x) +ℤ step_cost N (pred p (back N p k x))) <ℤ e (back N p k x)) q s) (slope j (omega arith))
      go (no q) deep = later (step_cost N (pred p (back N p j x))) (back_cost N p j x) (e (src N (pred p (back N p j x)))) (e (back N p j x)) (e x) (drop j l) (deep (omega arith) (omega arith))

-- code c is better for its end
module _ (N : Net) (f : List ℕ) (ok : Relaxable N f) (δ : ℕ) (d : List ℤ) (p : List ℕ) (L : Labelled N f δ d p) (c : ℕ) (in_range : c < codes N)
    (capacity : has_capacity N f δ c ≡ true) (lower : (get_or d (src N c) (pos 0) +ℤ step_cost N c) <ℤ get_or d (dst N c) (pos 0)) where
  abbrev v : ℕ
  v = dst N c

  abbrev d' : List ℤ
  d' = set d v (get_or d (src N c) (pos 0) +ℤ step_cost N c)

  abbrev p' : List ℕ
  p' = set p v c

  end_in : v < 64
  end_in = dst_in N ok.ends c in_range

  in_labels : v < length d
  in_labels = omega (arith, end_in, L.labels_len)

  in_preds : v < length p
  in_preds = omega (arith, end_in, L.preds_len)

  falls : (w : ℕ) → get_or d' w (pos 0) ≤ℤ get_or d w (pos 0)
  falls w =
      set_cases (λ j z. z ≤ℤ get_or d j (pos 0)) d v (get_or d (src N c) (pos 0) +ℤ step_cost N c) (pos 0) in_labels
      (given lower (simp lin (omega arith))) (λ j q. simp lin (omega arith)) w

  here : pred p' v ≡ c
  here = get_or-set_same p v c 0 in_preds

  other : (w : ℕ) → w ≢ v → pred p' w ≡ pred p w
  other w q = get_or-set_other p v w c 0 q

  -- the old labels, along the new predecessors: strict at v
  drop_here : (w : ℕ) → w ≡ v → (get_or d (src N (pred p' w)) (pos 0) +ℤ step_cost N (pred p' w)) <ℤ get_or d w (pos 0)
  drop_here w q = rw (q, here) lower

  drop_any : (w : ℕ) → w < 64 → pred p' w < codes N → (get_or d (src N (pred p' w)) (pos 0) +ℤ step_cost N (pred p' w)) ≤ℤ get_or d w (pos 0)
  drop_any w h k = go (ℕ_discrete w v)
    where
      go : Dec (w ≡ v) → (get_or d (src N (pred p' w)) (pos 0) +ℤ step_cost N (pred p' w)) ≤ℤ get_or d w (pos 0)
      go (yes q) = given (drop_here w q) (simp lin (omega arith))
      go (no q) = rw (other w q) (L.offers w h (rw (other w q) at k))

  -- steps back that keep clear of v are old ones
  module _ (x t : ℕ) (clear : (i : ℕ) → i < t → back N p' i x ≢ v) where
    same_back : (j : ℕ) → j ≤ t → back N p' j x ≡ back N p j x
    unfolding back
    same_back zero l = refl
    same_back (suc j) l = ap (src N) (other (back N p' j x) (clear j l) ∙ ap (pred p) (same_back j (omega arith)))

    same_pred : (j : ℕ) → j < t → pred p' (back N p' j x) ≡ pred p (back N p j x)
    same_pred j l = other (back N p' j x) (clear j l) ∙ ap (pred p) (same_back j (omega arith))

    same_cost : (j : ℕ) → j ≤ t → back_cost N p' j x ≡ back_cost N p j x
    unfolding back_cost
    same_cost zero l = refl
    same_cost (suc j) l = ap₂ ◌+ℤ◌ (ap (step_cost N) (same_pred j l)) (same_cost j (omega arith))

  negative' : (x t : ℕ) → PredecessorCycle N p' x t → back_cost N p' t x <ℤ pos 0
  unfolding back
  negative' x t r = go (find t (λ i. back N p' i x) v)
    where
      node : (i : ℕ) → i ≤ t → back N p' i x < 64
      node i l = back_in N ok.ends p' x t r.node r.steps i l

      drops : (i : ℕ) → i < t → (get_or d (back N p' (suc i) x) (pos 0) +ℤ step_cost N (pred p' (back N p' i x))) ≤ℤ get_or d (back N p' i x) (pos 0)
      drops i l = drop_any (back N p' i x) (node i (omega arith)) (r.steps i l)

      strict : (i : ℕ) → back N p' i x ≡ v → (get_or d (back N p' (suc i) x) (pos 0) +ℤ step_cost N (pred p' (back N p' i x))) <ℤ get_or d (back N p' i x) (pos 0)
      strict i q = drop_here (back N p' i x) q

      cancel : (b y z : ℤ) → (b +ℤ z) <ℤ y → z ≡ y → b <ℤ pos 0
      cancel b y z h e = given2 h e (simp lin (omega arith))

      go : Found t (λ i. back N p' i x) v ⊎ ((i : ℕ) → i < t → back N p' i x ≢ v) → back_cost N p' t x <ℤ pos 0
      go (inl q) =
          cancel (back_cost N p' t x) (get_or d x (pos 0)) (get_or d (back N p' t x) (pos 0))
          (steep N p' (λ w. get_or d w (pos 0)) x t drops q.i q.in_range (strict q.i q.is) t q.in_range (omega arith))
          (ap (λ w. get_or d w (pos 0)) r.closes)
      go (inr clear) =
          rw (same_cost x t clear t (omega arith))
          (L.negative x t (record {
            node = r.node;
            some = r.some;
            steps = λ i l. subst (λ k. k < codes N) (same_pred x t clear i l) (r.steps i l);
            closes = sym (same_back x t clear t (omega arith)) ∙ r.closes;
          }))

  -- what holds at v and, of the old, elsewhere, holds at every node
  by_node : (P : ℕ → Type 0) → P v → ((w : ℕ) → w < 64 → w ≢ v → P w) → (w : ℕ) → w < 64 → P w
  by_node P at-v elsewhere w h = go (ℕ_discrete w v)
    where
      go : Dec (w ≡ v) → P w
      go (yes q) = rw q at-v
      go (no q) = elsewhere w h q

  pub labelled_hit : Labelled N f δ d' p'
  labelled_hit = record {
    labels_len = length-set d v (get_or d (src N c) (pos 0) +ℤ step_cost N c) ∙ L.labels_len;
    preds_len = length-set p v c ∙ L.preds_len;
    root = by_node (λ w. codes N ≤ pred p' w → get_or d' w (pos 0) ≡ pos 0) (λ k. absurd (omega (arith, here)))
        (λ w h q k. get_or-set_other d v w (get_or d (src N c) (pos 0) +ℤ step_cost N c) (pos 0) q ∙ L.root w h (rw (other w q) at k));
    capacity = by_node (λ w. pred p' w < codes N → has_capacity N f δ (pred p' w) ≡ true) (λ k. ap (has_capacity N f δ) here ∙ capacity) (λ w h q k. rw (other w q) (L.capacity w h (rw (other w q) at k)));
    ends = by_node (λ w. pred p' w < codes N → dst N (pred p' w) ≡ w) (λ k. ap (dst N) here) (λ w h q k. rw (other w q) (L.ends w h (rw (other w q) at k)));
    offers = by_node (λ w. pred p' w < codes N → (get_or d' (src N (pred p' w)) (pos 0) +ℤ step_cost N (pred p' w)) ≤ℤ get_or d' w (pos 0))
        (λ k. rw here (at_end (get_or d' (src N c) (pos 0)) (get_or d (src N c) (pos 0)) (step_cost N c) (get_or d' v (pos 0)) (falls (src N c)) (get_or-set_same d v (get_or d (src N c) (pos 0) +ℤ step_cost N c) (pos 0) in_labels)))
        (λ w h q k. elsewhere (get_or d' (src N (pred p' w)) (pos 0)) (get_or d (src N (pred p' w)) (pos 0)) (step_cost N (pred p' w)) (get_or d' w (pos 0)) (get_or d w (pos 0)) (falls (src N (pred p' w)))
        (get_or-set_other d v w (get_or d (src N c) (pos 0) +ℤ step_cost N c) (pos 0) q) (drop_any w h k));
    negative = negative';
  }
    where
      at_end : (a b s e : ℤ) → a ≤ℤ b → e ≡ b +ℤ s → (a +ℤ s) ≤ℤ e
      at_end a b s e h q = given2 h q (simp lin (omega arith))

      elsewhere : (a b s e g : ℤ) → a ≤ℤ b → e ≡ g → (b +ℤ s) ≤ℤ g → (a +ℤ s) ≤ℤ e
      elsewhere a b s e g h q k = given3 h q k (simp lin (omega arith))

-- one code tried
labelled_relaxed : (N : Net) (f : List ℕ) → Relaxable N f → (δ : ℕ) (s : State) → Labelled N f δ s.labels s.preds → (c : ℕ) → c < codes N
    → Labelled N f δ (relaxed N f δ c s).labels (relaxed N f δ c s).preds
labelled_relaxed N f ok δ s L c h = go (better N f δ c s) refl
  where
    go : (t : Bool) → better N f δ c s ≡ t → Labelled N f δ (cond t (set s.labels (dst N c) (offer N c s)) s.labels) (cond t (set s.preds (dst N c) c) s.preds)
    go true e =
        let (r, l) = and_true (has_capacity N f δ c) (lt_z (offer N c s) (label s (dst N c))) e in
        labelled_hit N f ok δ s.labels s.preds L c h r (lt_z_true (offer N c s) (label s (dst N c)) l)
    go false e = L

-- the first r codes tried
pub all_labelled : (N : Net) (f : List ℕ) → Relaxable N f → (δ : ℕ) (s : State) → Labelled N f δ s.labels s.preds → (r : ℕ) → r ≤ codes N
    → Labelled N f δ (relaxed_all N f δ r s).labels (relaxed_all N f δ r s).preds
unfolding relaxed_all
all_labelled N f ok δ s L zero h = L
all_labelled N f ok δ s L (suc r) h = labelled_relaxed N f ok δ (relaxed_all N f δ r s) (all_labelled N f ok δ s L r (omega arith)) r h
