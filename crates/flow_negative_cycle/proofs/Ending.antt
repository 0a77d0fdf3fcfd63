-- The search as a theorem, without a program: it ends, whatever the network and the flow within its bounds.
use mathlib.Core.Path.{◌≡◌, refl, ap, ◌∙◌}
use mathlib.Core.List.{List}
use Prim.Native.Nat.{ℕ, zero, suc, ◌+◌, ◌≤◌, ◌<◌}
use native.Mathlib.Omega.{arith}
use native.Mathlib.Decide.{ℕ_discrete, dec_lt}
use lib.ListN.{set, replicate, get_or-replicate}
use lib.IntN.{ℤ, pos}
use Rattle.std.proofs.Common.{Option, Some, None}
use Rattle.net_model.specs.Network.{Net}
use Rattle.net_model.specs.Residual.{codes, src}
use Rattle.net_theory.specs.Limits.{SmallEnds}
use Rattle.flow_relax.specs.Labels.{Relaxable, State, state, relaxed_all}
use Rattle.flow_relax.proofs.Rounds.{zero_at}
use Rattle.flow_negative_cycle.specs.Predecessors.{pred, back, GoesBack, ended, went, Collects}
use Rattle.flow_negative_cycle.specs.Search.{FindsCycle}
use Rattle.flow_negative_cycle.proofs.StepsBack.{Going, going_none, going_more, going_ends, Collecting, collecting_none, capacity, collecting_more, collecting_done}
use Rattle.flow_negative_cycle.proofs.Searching.{Searching, finds_none, searching_start, labelled', unchanged_of, fell, returns_of, searching_more, finds_cycle}

module _ (N : Net) (ok : SmallEnds N) (p : List ℕ) where
  -- n more steps back of 64
  goes_back : (v i w n : ℕ) → i + n ≡ 64 → Going N p v i w → (r : Option ℕ) × GoesBack N p v r
  goes_back v i w zero e g = (Some w, went (ap Some (g.is ∙ ap (λ k. back N p k v) (omega arith))) (λ j l. g.steps j (omega arith)))
  goes_back v i w (suc n) e g = step (dec_lt (pred p w) (codes N)) (goes_back v (i + 1) (src N (pred p w)) n (omega arith))
    where
      step : Dec (pred p w < codes N) → (Going N p v (i + 1) (src N (pred p w)) → (r : Option ℕ) × GoesBack N p v r) → (r : Option ℕ) × GoesBack N p v r
      step (yes l) deep = deep (going_more N ok p v i w (src N (pred p w)) g (omega arith) l refl)
      step (no l) deep = (None, ended refl i (going_ends N ok p v i w g (omega arith) (omega arith)))

  -- the codes back to x, at most n more
  collects : (x : ℕ) (out₀ out : List ℕ) (w len n : ℕ) → 64 ≤ len + n → Collecting N p x out₀ out w len → (out' : List ℕ) × (r : ℕ) × Collects N p x out₀ out' r
  collects x out₀ out w len zero e c = absurd (omega (arith, capacity N ok p x out₀ out w len c))
  collects x out₀ out w len (suc n) e c = step (ℕ_discrete (src N (pred p w)) x) (collects x out₀ (set out len (pred p w)) (src N (pred p w)) (len + 1) n (omega arith))
    where
      step : Dec (src N (pred p w) ≡ x) → (Collecting N p x out₀ (set out len (pred p w)) (src N (pred p w)) (len + 1) → (out' : List ℕ) × (r : ℕ) × Collects N p x out₀ out' r)
          → (out' : List ℕ) × (r : ℕ) × Collects N p x out₀ out' r
      step (yes q) deep = (set out len (pred p w), len + 1, collecting_done N ok p x out₀ out w len c (src N (pred p w)) refl q)
      step (no q) deep = deep (collecting_more N ok p x out₀ out w len c (src N (pred p w)) refl q)

module _ (N : Net) (f : List ℕ) (ok : Relaxable N f) (δ : ℕ) (some : 0 < δ) where
  -- what it ends with, its list of codes filled with 0 at first
  abbrev Ended : Type 0
  Ended = (d : List ℤ) × (out : List ℕ) × (r : Option ℕ) × FindsCycle N f δ d (replicate 64 0) out r

  -- n more rounds of 64
  rounds : (n : ℕ) (d : List ℤ) (p : List ℕ) (k : ℕ) → 64 ≤ k + n → Searching N f δ d p k → Ended
  rounds zero d p k h S = absurd (omega (arith, S.early))
  rounds (suc n) d p k h S = round (relaxed_all N f δ (codes N) (state d p 64)) refl (λ d' p'. rounds n d' p' (k + 1) (omega arith))
    where
      round : (s : State) → s ≡ relaxed_all N f δ (codes N) (state d p 64) → ((d' : List ℤ) (p' : List ℕ) → Searching N f δ d' p' (k + 1) → Ended) → Ended
      round s e deep = unchanged (ℕ_discrete s.last 64)
        where
          cycle : (x : ℕ) → (out : List ℕ) × (r : ℕ) × Collects N s.preds x (replicate 64 0) out r → Ended
          cycle x (out, r, c) = (s.labels, out, Some r, finds_cycle N f ok δ some s.labels s.preds (labelled' N f ok δ d p k S s.labels s.preds s.last e) x (replicate 64 0) out r c)

          back_to : (x : Option ℕ) → ¬ (s.last ≡ 64) → GoesBack N s.preds s.last x → Ended
          back_to None q w = deep s.labels s.preds (searching_more N f ok δ d p k S s.labels s.preds s.last e q w)
          back_to (Some x) q w =
              cycle x (collects N ok.ends s.preds x (replicate 64 0) (replicate 64 0) x 0 64 (omega arith)
              (collecting_none N ok.ends s.preds x (replicate 64 0) refl (returns_of N f ok δ d p k S s.labels s.preds s.last e x q w)))

          unchanged : Dec (s.last ≡ 64) → Ended
          unchanged (yes q) = (s.labels, replicate 64 0, None, finds_none N f δ s.labels (replicate 64 0) (unchanged_of N f ok δ d p k S s.labels s.preds s.last e q))
          unchanged (no q) =
              let (x, w) = goes_back N ok.ends s.preds s.last 0 s.last 64 refl (going_none N ok.ends s.preds s.last (fell N f ok δ d p k S s.labels s.preds s.last e q).0) in
              back_to x q w

  pub search_ends : Ended
  search_ends =
      rounds 64 (replicate 64 (pos 0)) (replicate 64 65535) 0 (omega arith)
      (searching_start N f ok δ (replicate 64 (pos 0)) (replicate 64 65535) refl refl (zero_at 64) (λ v h. omega (arith, get_or-replicate {A = ℕ} 64 v 65535 0 h)))
