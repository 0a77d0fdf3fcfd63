-- Reaching by rounds: what a step and a round do to the tree of the nodes reached.
use mathlib.Core.Path.{◌≡◌, refl, ap, ◌∙◌}
use mathlib.Core.List.{List, [], ◌∷◌}
use mathlib.Core.Bool.{Bool, true, false, cond, ◌&&◌}
use Prim.Native.Nat.{ℕ, zero, suc, ◌≤◌, ◌<◌}
use native.Mathlib.Omega.{arith}
use native.Mathlib.Decide.{dec_lt, ℕ_discrete}
use lib.Dec.{eqb, ltb}
use lib.ListN.{length, get_or, set, length-set}
use lib.Seq.{get_or-set_same, get_or-set_other}
use borrow.Author.Tests.{lt-ltb, ltb-true, eqb-true, eq-eqb}
use Rattle.laws.specs.Store.{set_cases}
use Rattle.laws.specs.Tests.{and_true}
use Rattle.net_theory.specs.Reach.{reached_count, Led, Tree, ShutAt, reaches_new, Spread, Turn, Rounded}

filled_le : (l : List ℕ) → reached_count l ≤ length l
filled_le [] = omega arith
filled_le (zero ∷ l) = omega (arith, filled_le l)
filled_le (suc x ∷ l) = omega (arith, filled_le l)

filled_set : (l : List ℕ) (i y : ℕ) → i < length l → get_or l i 0 ≡ 0 → reached_count (set l i (suc y)) ≡ suc (reached_count l)
filled_set [] i y h e = absurd (omega arith)
filled_set (zero ∷ l) zero y h e = refl
filled_set (suc x ∷ l) zero y h e = absurd (omega arith)
filled_set (zero ∷ l) (suc i) y h e = filled_set l i y (omega arith) e
filled_set (suc x ∷ l) (suc i) y h e = ap suc (filled_set l i y (omega arith) e)

filled_none : (l : List ℕ) → ((v : ℕ) → v < length l → get_or l v 0 ≡ 0) → reached_count l ≡ 0
filled_none [] h = refl
filled_none (zero ∷ l) h = filled_none l (λ v k. h (suc v) (omega arith))
filled_none (suc x ∷ l) h = absurd (omega (arith, h 0 (omega arith)))

module _ (n lo hi : ℕ) (sr ds : ℕ → ℕ) (go : ℕ → Bool) (s : ℕ) where
  tree_hit : (rank via : List ℕ) (count c : ℕ) → Tree n lo hi sr ds go s rank via count → lo ≤ c → c < hi → sr c < n → ds c < n
      → go c ≡ true → 0 < get_or rank (sr c) 0 → get_or rank (ds c) 0 ≡ 0
      → Tree n lo hi sr ds go s (set rank (ds c) (suc count)) (set via (ds c) c) (suc count)
  tree_hit rank via count c t lc hc us vs on ru rv = record {
    rank_len = length-set rank v (suc count) ∙ t.rank_len;
    via_len = length-set via v c ∙ t.via_len;
    size = filled_set rank v count in_rank rv ∙ ap suc t.size;
    root = get_or-set_other rank v s (suc count) 0 (λ q. omega (arith, t.root, ap (λ i. get_or rank i 0) q)) ∙ t.root;
    only_root = λ w l. set_cases (λ i x. i < n → x ≡ 1 → i ≡ s) rank v (suc count) 0 in_rank (λ _ e. absurd (omega (arith, t.small (sr c) us))) (λ i _. t.only_root i) w l;
    small = λ w l. set_cases (λ i x. i < n → x ≤ suc count) rank v (suc count) 0 in_rank (λ _. omega arith) (λ i _ m. omega (arith, t.small i m)) w l;
    led = λ w l. cases w l (ℕ_discrete w v);
  }
    where
      v : ℕ
      v = ds c

      in_rank : ds c < length rank
      in_rank = omega (arith, t.rank_len)

      in_via : ds c < length via
      in_via = omega (arith, t.via_len)

      -- ranks that were not 0 stay
      stays : (u : ℕ) → 0 < get_or rank u 0 → get_or (set rank (ds c) (suc count)) u 0 ≡ get_or rank u 0
      stays u h = get_or-set_other rank (ds c) u (suc count) 0 (λ q. omega (arith, ap (λ i. get_or rank i 0) q))

      cases : (w : ℕ) → w < n → Dec (w ≡ ds c) → 1 < get_or (set rank (ds c) (suc count)) w 0 → Led lo hi sr ds go (set rank (ds c) (suc count)) (get_or (set via (ds c) c) w 0) w
      cases w l (yes q) h =
          rw (q, get_or-set_same via (ds c) c 0 in_via) (record {
            low = lc;
            high = hc;
            goes = on;
            ends = refl;
            reached = rw (stays (sr c) ru) ru;
            earlier = rw (stays (sr c) ru, get_or-set_same rank (ds c) (suc count) 0 in_rank) (omega (arith, t.small (sr c) us));
          })
      cases w l (no q) h =
          let e : get_or (set rank (ds c) (suc count)) w 0 ≡ get_or rank w 0 = get_or-set_other rank (ds c) w (suc count) 0 q in
          let d = t.led w l (omega arith) in
          rw (get_or-set_other via (ds c) w c 0 q) (record {
            low = d.low;
            high = d.high;
            goes = d.goes;
            ends = d.ends;
            reached = rw (stays (sr (get_or via w 0)) d.reached) d.reached;
            earlier = rw (stays (sr (get_or via w 0)) d.reached, e) d.earlier;
          })

  pub turn_start : (rank via : List ℕ) (count : ℕ) → Tree n lo hi sr ds go s rank via count → Turn n lo hi sr ds go s rank via count count lo
  turn_start rank via count t = record { tree = t; grows = omega arith; shut = λ _ c h k. absurd (omega arith) }

  -- rank, via and count after step i, which lies in range
  pub turn_step : (rank via : List ℕ) (count₀ count i : ℕ) → Turn n lo hi sr ds go s rank via count₀ count i → lo ≤ i → i < hi → sr i < n → ds i < n
      → (rank' via' : List ℕ) (r : ℕ) → Spread (go i) rank via count (sr i) (ds i) i rank' via' r → Turn n lo hi sr ds go s rank' via' count₀ r (suc i)
  turn_step rank via count₀ count i t li hi' us vs rank' via' r sp = step (reaches_new (go i) rank (sr i) (ds i)) refl sp.ranks sp.vias sp.counts
    where
      step : (b : Bool) → reaches_new (go i) rank (sr i) (ds i) ≡ b → rank' ≡ cond b (set rank (ds i) (suc count)) rank → via' ≡ cond b (set via (ds i) i) via → r ≡ cond b (suc count) count
          → Turn n lo hi sr ds go s rank' via' count₀ r (suc i)
      step true e p q w =
          let a = and_true (go i) (ltb 0 (get_or rank (sr i) 0) && eqb (get_or rank (ds i) 0) 0) e in
          let b = and_true (ltb 0 (get_or rank (sr i) 0)) (eqb (get_or rank (ds i) 0) 0) a.1 in
          rw (p, q, w) (record {
            tree = tree_hit rank via count i t.tree li hi' us vs a.0 (omega (arith, ltb-true 0 (get_or rank (sr i) 0) b.0)) (omega (arith, eqb-true (get_or rank (ds i) 0) 0 b.1));
            grows = omega (arith, t.grows);
            shut = λ z. absurd (omega (arith, t.grows));
          })
      step false e p q w = rw (p, q, w) (record { tree = t.tree; grows = t.grows; shut = λ z c h k. last z c h k (dec_lt c i) })
        where
          miss : go i ≡ true → 0 < get_or rank (sr i) 0 → Dec (0 < get_or rank (ds i) 0) → 0 < get_or rank (ds i) 0
          miss g h (yes k) = k
          miss g h (no k) =
              absurd (let z : ◌≡◌ {A = ℕ} 0 1 = cc (e, hits (go i) (ltb 0 (get_or rank (sr i) 0)) (eqb (get_or rank (ds i) 0) 0) g (lt-ltb 0 (get_or rank (sr i) 0) h) (eq-eqb (get_or rank (ds i) 0) 0 (omega arith))) in omega arith)
            where
              hits : (p q r : Bool) → p ≡ true → q ≡ true → r ≡ true → p && (q && r) ≡ true
              hits p q r a b c = rw (a, b, c)

          last : count ≡ count₀ → (c : ℕ) → lo ≤ c → c < suc i → Dec (c < i) → ShutAt sr ds go rank c
          last z c h k (yes l) = t.shut z c h l
          last z c h k (no l) = let q : c ≡ i = omega arith in rw q (λ g m. miss g m (dec_lt 0 (get_or rank (ds i) 0)))

  pub round_left : (rank via : List ℕ) (t count₀ count i : ℕ) → Turn n lo hi sr ds go s rank via count₀ count i → ¬ (get_or rank t 0 ≡ 0) → Rounded n lo hi sr ds go s t count₀ rank via count
  round_left rank via t count₀ count i w h = record { tree = w.tree; grows = w.grows; shut = λ e. absurd (h e) }

  pub count_le : (rank via : List ℕ) (count : ℕ) → Tree n lo hi sr ds go s rank via count → count ≤ n
  count_le rank via count t = omega (arith, filled_le rank, t.size, t.rank_len)

  -- the root alone
  pub tree_start : (zeros via : List ℕ) → length zeros ≡ n → length via ≡ n → s < n → ((v : ℕ) → v < length zeros → get_or zeros v 0 ≡ 0) → Tree n lo hi sr ds go s (set zeros s 1) via 1
  tree_start zeros via zl vl h z = record {
    rank_len = length-set zeros s 1 ∙ zl;
    via_len = vl;
    size = filled_set zeros s 0 (omega arith) (z s (omega arith)) ∙ ap suc (filled_none zeros z);
    root = get_or-set_same zeros s 1 0 (omega arith);
    only_root = λ w l. set_cases (λ i x. i < n → x ≡ 1 → i ≡ s) zeros s 1 0 (omega arith) (λ _ _. refl) (λ i _ m e. absurd (omega (arith, z i (omega arith)))) w l;
    small = λ w l. set_cases (λ i x. i < n → x ≤ 1) zeros s 1 0 (omega arith) (λ _. omega arith) (λ i _ m. omega (arith, z i (omega arith))) w l;
    led = λ w l more. absurd (set_cases (λ i x. i < n → ¬ (1 < x)) zeros s 1 0 (omega arith) (λ _ k. omega arith) (λ i _ m k. omega (arith, z i (omega arith))) w l more);
  }
