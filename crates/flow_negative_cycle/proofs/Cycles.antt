-- Steps back along predecessors: 64 of them come to a cycle, and a cycle's codes are a residual cycle of negative cost.
use mathlib.Core.Path.{◌≡◌, refl, sym, ap, subst, ◌∙◌}
use mathlib.Core.Logic.{inl, inr, ◌≢◌}
use mathlib.Core.Bool.{true}
use mathlib.Core.List.{List, [], ◌∷◌, ◌++◌, map}
use Prim.Native.Nat.{ℕ, zero, suc, ◌+◌, ◌-◌, ◌≤◌, ◌<◌}
use native.Mathlib.Omega.{arith}
use lib.ListN.{length, get_or}
use lib.IntN.{ℤ, pos, ◌+ℤ◌}
use lib.Signed.{◌≤ℤ◌, ◌<ℤ◌}
use Rattle.laws.specs.Linear.{lin, given, given2, given3}
use Rattle.laws.specs.Members.{◌∈◌, Every, member_every}
use Rattle.laws.specs.Ascending.{Distinct}
use Rattle.laws.specs.Pigeonhole.{Twice, pigeon}
use Rattle.net_model.specs.Network.{Net}
use Rattle.net_model.specs.Residual.{codes, src, dst, step_cost, walk_cost, Cycle, CodeWalk}
use Rattle.net_model.proofs.Walks.{walk_holds}
use Rattle.net_theory.specs.ResidualCapacity.{has_capacity}
use Rattle.net_theory.specs.Limits.{SmallEnds}
use Rattle.net_theory.proofs.ResidualCapacity.{has_capacity_walk}
use Rattle.flow_relax.proofs.Rounds.{AtMost}
use Rattle.flow_negative_cycle.specs.Predecessors.{pred, back, back_cost, Backs, Returns, BackEnds, Period, back_codes, Labelled}
use Rattle.flow_negative_cycle.proofs.Relaxing.{back_in, slope}

module _ (N : Net) (p : List ℕ) where
  pub back_add : (s t x : ℕ) → back N p (s + t) x ≡ back N p s (back N p t x)
  unfolding back
  back_add zero t x = let e : 0 + t ≡ t = omega arith in ap (λ k. back N p k x) e
  back_add (suc s) t x = ap (λ k. back N p k x) (more s t) ∙ ap (λ y. src N (pred p y)) (back_add s t x)
    where
      more : (s t : ℕ) → suc s + t ≡ suc (s + t)
      more s t = omega arith

  -- the first step apart
  pub back_first : (t x : ℕ) → back N p (suc t) x ≡ back N p t (src N (pred p x))
  unfolding back
  back_first zero x = refl
  back_first (suc t) x = ap (λ y. src N (pred p y)) (back_first t x)

  pub cost_first : (t x : ℕ) → back_cost N p (suc t) x ≡ step_cost N (pred p x) +ℤ back_cost N p t (src N (pred p x))
  unfolding back back_cost
  cost_first zero x = refl
  cost_first (suc t) x =
      swap (step_cost N (pred p (back N p (suc t) x))) (step_cost N (pred p (back N p t (src N (pred p x))))) (back_cost N p (suc t) x) (step_cost N (pred p x)) (back_cost N p t (src N (pred p x)))
      (ap (λ y. step_cost N (pred p y)) (back_first t x)) (cost_first t x)
    where
      swap : (a a' b c d : ℤ) → a ≡ a' → b ≡ c +ℤ d → a +ℤ b ≡ c +ℤ (a' +ℤ d)
      swap a a' b c d e q = given2 e q (simp lin (omega arith))

  -- two places of the steps back that are one node: they go on alike from both
  alike : (v i j s : ℕ) → back N p i v ≡ back N p j v → back N p (s + i) v ≡ back N p (s + j) v
  alike v i j s e = back_add s i v ∙ ap (back N p s) e ∙ sym (back_add s j v)

  -- 64 steps back lead to a node on a cycle
  pub comes_round : SmallEnds N → (v : ℕ) → v < 64 → Backs N p 64 v → Returns N p (back N p 64 v)
  comes_round ok v h b = close (pigeon 64 65 (λ i. back N p i v) (omega arith) (λ i l. back_in N ok p v 64 h b i (omega arith)))
    where
      close : Twice 65 (λ i. back N p i v) → Returns N p (back N p 64 v)
      close w = record {
        steps = w.j - w.i;
        few = omega (arith, w.in_range);
        round = record {
          node = back_in N ok p v 64 h b 64 (omega arith);
          some = omega (arith, w.less);
          steps = λ m l. subst (λ y. pred p y < codes N) (sym (again m l)) (b (m + 64 - (w.j - w.i)) (omega (arith, w.less, w.in_range)));
          closes = sym (back_add (w.j - w.i) 64 v) ∙ ap (λ k. back N p k v) over ∙ sym (alike v w.i w.j (64 - w.i) w.same) ∙ ap (λ k. back N p k v) under;
        };
      }
        where
          over : (w.j - w.i) + 64 ≡ (64 - w.i) + w.j
          over = omega (arith, w.less, w.in_range)

          under : (64 - w.i) + w.i ≡ 64
          under = omega (arith, w.less, w.in_range)

          again : (m : ℕ) → m < w.j - w.i → back N p m (back N p 64 v) ≡ back N p (m + 64 - (w.j - w.i)) v
          again m l =
              let a : m + 64 ≡ (m + 64 - w.j) + w.j = omega (arith, w.less, w.in_range) in
              let c : (m + 64 - w.j) + w.i ≡ m + 64 - (w.j - w.i) = omega (arith, w.less, w.in_range) in
              sym (back_add m 64 v) ∙ ap (λ k. back N p k v) a ∙ sym (alike v w.i w.j (m + 64 - w.j) w.same) ∙ ap (λ k. back N p k v) c

  pub codes_more : (t x : ℕ) → back_codes N p (suc t) x ≡ back_codes N p t x ++ (pred p (back N p t x) ∷ [])
  unfolding back
  codes_more zero x = refl
  codes_more (suc t) x = ap {B = List ℕ} (λ r. pred p x ∷ r) (codes_more t (src N (pred p x)) ∙ ap (λ y. back_codes N p t (src N (pred p x)) ++ (pred p y ∷ [])) (sym (back_first t x)))

  pub codes_length : (t x : ℕ) → length (back_codes N p t x) ≡ t
  codes_length zero x = refl
  codes_length (suc t) x = ap suc (codes_length t (src N (pred p x)))

  pub codes_cost : (t x : ℕ) → walk_cost N (back_codes N p t x) ≡ back_cost N p t x
  unfolding back_cost
  codes_cost zero x = refl
  codes_cost (suc t) x = ap (λ z. step_cost N (pred p x) +ℤ z) (codes_cost t (src N (pred p x))) ∙ sym (cost_first t x)

  -- fewer steps back
  backs_first : (t x : ℕ) → Backs N p (suc t) x → Backs N p t (src N (pred p x))
  backs_first t x b i l = subst (λ y. pred p y < codes N) (back_first i x) (b (suc i) (omega arith))

  -- the nodes that it comes to
  codes_node : (t x y : ℕ) → y ∈ map (dst N) (back_codes N p t x) → ((w : ℕ) → w < 64 → pred p w < codes N → dst N (pred p w) ≡ w) → ((i : ℕ) → i < t → back N p i x < 64) → Backs N p t x → (i : ℕ) × (i < t) × (y ≡ back N p i x)
  unfolding back
  codes_node zero x y m ends inside b = absurd m
  codes_node (suc t) x y (inl q) ends inside b = (0, omega arith, q ∙ ends x (inside 0 (omega arith)) (b 0 (omega arith)))
  codes_node (suc t) x y (inr m) ends inside b =
      let (i, l, e) = codes_node t (src N (pred p x)) y m ends (λ i l. subst (λ z. z < 64) (back_first i x) (inside (suc i) (omega arith))) (backs_first t x b) in
      (suc i, omega arith, e ∙ sym (back_first i x))

module _ (N : Net) (f : List ℕ) (ok : SmallEnds N) (δ : ℕ) (d : List ℤ) (p : List ℕ) (L : Labelled N f δ d p) where
  inside : (x t : ℕ) → x < 64 → Backs N p t x → (i : ℕ) → i < t → back N p i x < 64
  inside x t h b i l = back_in N ok p x t h b i (omega arith)

  pub codes_walk : (t x : ℕ) → x < 64 → Backs N p t x → CodeWalk N (has_capacity N f δ) (back N p t x) x (back_codes N p t x)
  unfolding back
  codes_walk zero x h b = refl
  codes_walk (suc t) x h b =
      let k = b 0 (omega arith) in (
        k,
        L.capacity x h k,
        L.ends x h k,
        subst (λ y. CodeWalk N (has_capacity N f δ) y (src N (pred p x)) (back_codes N p t (src N (pred p x)))) (sym (back_first N p t x))
            (codes_walk t (src N (pred p x)) (subst (λ z. z < 64) (back_first N p 0 x) (back_in N ok p x (suc t) h b 1 (omega arith))) (backs_first N p t x b)),
      )

  -- the nodes of one period are apart
  module _ (x t : ℕ) (P : Period N p x t) where
    apart : (i j : ℕ) → i < j → j < t → back N p i x ≢ back N p j x
    apart i j h l e =
        P.first ((t - j) + i) (omega arith) (omega arith)
        (alike N p x i j (t - j) e ∙ ap (λ k. back N p k x) (omega arith) ∙ P.round.closes)

    distinct_from : (s m : ℕ) → s + m ≡ t → Distinct (map (dst N) (back_codes N p m (back N p s x)))
    unfolding back
    distinct_from s zero q = tt
    distinct_from s (suc m) q = (
      member_every (λ b. b ≢ dst N (pred p (back N p s x))) (map (dst N) (back_codes N p m (src N (pred p (back N p s x))))) (λ y k e. clash y e (codes_node N p m (back N p (suc s) x) y k L.ends in_m backs_m)),
      distinct_from (suc s) m (omega arith),
    )
      where
        in_m : (i : ℕ) → i < m → back N p i (back N p (suc s) x) < 64
        in_m i l = subst (λ y. y < 64) (back_add N p i (suc s) x) (inside x t P.round.node P.round.steps (i + suc s) (omega arith))

        backs_m : Backs N p m (back N p (suc s) x)
        backs_m i l = subst (λ y. pred p y < codes N) (back_add N p i (suc s) x) (P.round.steps (i + suc s) (omega arith))

        clash : (y : ℕ) → y ≡ dst N (pred p (back N p s x)) → (i : ℕ) × (i < m) × (y ≡ back N p i (back N p (suc s) x)) → ⊥
        clash y e (i, l, q') =
            apart s (i + suc s) (omega arith) (omega arith)
            (sym (L.ends (back N p s x) (inside x t P.round.node P.round.steps s (omega arith)) (P.round.steps s (omega arith))) ∙ sym e ∙ q' ∙ sym (back_add N p i (suc s) x))

    pub period_cycle : 0 < δ → Cycle N f (back_codes N p t x)
    unfolding back
    period_cycle h = record {
      node = x;
      closed = has_capacity_walk N f δ h x x (back_codes N p t x) (subst (λ y. CodeWalk N (has_capacity N f δ) y x (back_codes N p t x)) P.round.closes (codes_walk t x P.round.node P.round.steps));
      some = omega (arith, codes_length N p t x, P.round.some);
      simple = distinct_from 0 t (omega arith);
    }

    pub period_capacity : Every (λ c. has_capacity N f δ c ≡ true) (back_codes N p t x)
    period_capacity = walk_holds (codes N) (src N) (dst N) (has_capacity N f δ) (back N p t x) x (back_codes N p t x) (codes_walk t x P.round.node P.round.steps)

    pub period_negative : walk_cost N (back_codes N p t x) <ℤ pos 0
    period_negative = subst (λ z. z <ℤ pos 0) (sym (codes_cost N p t x)) (L.negative x t P.round)

  -- steps back that end show that the label is one of a walk; so from a label that fell below every walk of k codes, more than k steps lead back
  pub ends_late : (x t k : ℕ) → x < 64 → BackEnds N p x t → (d₀ : List ℤ) → AtMost N f δ k d₀ → get_or d x (pos 0) <ℤ get_or d₀ x (pos 0) → k < t
  unfolding back
  ends_late x t k h e d₀ m lower = go (native.Mathlib.Decide.dec_lt k t)
    where
      drops : (i : ℕ) → i < t → (get_or d (back N p (suc i) x) (pos 0) +ℤ step_cost N (pred p (back N p i x))) ≤ℤ get_or d (back N p i x) (pos 0)
      drops i l = L.offers (back N p i x) (inside x t h e.steps i l) (e.steps i l)

      root : get_or d (back N p t x) (pos 0) ≡ pos 0
      root = L.root (back N p t x) (back_in N ok p x t h e.steps t (omega arith)) e.ends

      short : t ≤ k → ⊥
      short l =
          clash (back_cost N p t x) (get_or d (back N p t x) (pos 0)) (get_or d x (pos 0)) (get_or d₀ x (pos 0))
          (slope N p (λ w. get_or d w (pos 0)) x t drops t (omega arith)) root
          (subst (λ z. get_or d₀ x (pos 0) ≤ℤ z) (codes_cost N p t x) (m (back N p t x) x (back_codes N p t x) (omega (arith, codes_length N p t x)) (codes_walk t x h e.steps))) lower
        where
          clash : (b r y z : ℤ) → (b +ℤ r) ≤ℤ y → r ≡ pos 0 → z ≤ℤ b → y <ℤ z → ⊥
          clash b r y z h q k l = given3 h q k (given l (simp lin (omega arith)))

      go : Dec (k < t) → k < t
      go (yes l) = l
      go (no l) = absurd (short (omega arith))
