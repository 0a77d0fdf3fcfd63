-- The rounds of the search: what holds before each, and what each way out shows.
use mathlib.Core.Path.{◌≡◌, refl, sym, subst}
use mathlib.Core.List.{List, []}
use Prim.Native.Nat.{ℕ, ◌+◌, ◌*◌, ◌≤◌, ◌<◌}
use native.Mathlib.Omega.{arith}
use native.Mathlib.Numerals.{add-one}
use lib.ListN.{length, get_or}
use lib.IntN.{ℤ, pos}
use lib.Signed.{◌<ℤ◌}
use Rattle.std.proofs.Common.{Some, None}
use Rattle.laws.specs.Linear.{lin, given2}
use Rattle.laws.specs.Range.{bounded_more}
use Rattle.net_model.specs.Network.{Net}
use Rattle.net_model.specs.Residual.{codes, usable, src, dst}
use Rattle.net_model.proofs.Walks.{walk_with}
use Rattle.net_model.proofs.Rises.{closed_nonneg}
use Rattle.net_theory.specs.ResidualCapacity.{has_capacity}
use Rattle.flow_relax.specs.Labels.{Relaxable, State, state, relaxed_all, Sized}
use Rattle.flow_relax.proofs.Rounds.{AtMost, zeros_at_most, zeros_sized, left_at_most, left_sized, left_unchanged, left_fell}
use Rattle.flow_negative_cycle.specs.Predecessors.{pred, back, Returns, Labelled, GoesBack, ended, went, Collects}
use Rattle.flow_negative_cycle.specs.Search.{PotentialLabels, FindsCycle, found, none}
use Rattle.flow_negative_cycle.proofs.Relaxing.{all_labelled}
use Rattle.flow_negative_cycle.proofs.Cycles.{comes_round, period_cycle, period_capacity, period_negative, ends_late}

-- labels that show that there is no negative cycle
pub finds_none : (N : Net) (f : List ℕ) (δ : ℕ) (d : List ℤ) (out : List ℕ) → PotentialLabels N f δ d → FindsCycle N f δ d out out None
finds_none N f δ d out q = none refl (λ cs C. given2 (closed_nonneg N (has_capacity N f δ) (λ v. get_or d v (pos 0)) q.feasible C.cycle.node cs (walk_with (codes N) (src N) (dst N) (usable N f) (has_capacity N f δ) C.cycle.node C.cycle.node cs C.capacity C.cycle.closed)) C.negative (simp lin (omega arith))) q refl

pub record Searching (N : Net) (f : List ℕ) (δ : ℕ) (d : List ℤ) (p : List ℕ) (k : ℕ) : Type 0 where
  pub early : k < 64
  pub labelled : Labelled N f δ d p
  pub at_most : AtMost N f δ k d
  pub sized : Sized (1024000000 * k) d p

module _ (N : Net) (f : List ℕ) (ok : Relaxable N f) (δ : ℕ) where
  -- no labels yet
  pub searching_start : (d : List ℤ) (p : List ℕ) → length d ≡ 64 → length p ≡ 64 → ((v : ℕ) → get_or d v (pos 0) ≡ pos 0) → ((v : ℕ) → v < 64 → 1024 ≤ pred p v) → Searching N f δ d p 0
  unfolding back
  searching_start d p dl pl zeros unset = record {
    early = omega arith;
    labelled = record {
      labels_len = dl;
      preds_len = pl;
      root = λ v h k. zeros v;
      capacity = λ v h k. absurd (rootless v h k);
      ends = λ v h k. absurd (rootless v h k);
      offers = λ v h k. absurd (rootless v h k);
      negative = λ x t r. absurd (rootless x r.node (r.steps 0 r.some));
    };
    at_most = zeros_at_most d zeros N f δ;
    sized = zeros_sized d zeros p dl pl;
  }
    where
      rootless : (v : ℕ) → v < 64 → ¬ (pred p v < codes N)
      rootless v h l = omega (arith, unset v h, ok.ends.few)

  -- a round from d and p, which left d', p' and last
  module _ (d : List ℤ) (p : List ℕ) (k : ℕ) (S : Searching N f δ d p k) (d' : List ℤ) (p' : List ℕ) (last : ℕ)
      (e : state d' p' last ≡ relaxed_all N f δ (codes N) (state d p 64)) where
    pub labelled' : Labelled N f δ d' p'
    labelled' = subst (λ (s : State). Labelled N f δ s.labels s.preds) (sym e) (all_labelled N f ok δ (state d p 64) S.labelled (codes N) (omega arith))

    pub unchanged_of : last ≡ 64 → PotentialLabels N f δ d'
    unchanged_of q =
        let (b, c) = left_unchanged N f ok δ d p S.labelled.labels_len d' p' last e q in
        subst (PotentialLabels N f δ) (sym b) (record {
          len = S.labelled.labels_len;
          low = λ v. S.at_most v v [] (omega arith) refl;
          feasible = c;
          small = λ v h. bounded_more (omega (arith, S.early)) (S.sized.small v h);
        })

    pub fell : ¬ (last ≡ 64) → (last < 64) × (get_or d' last (pos 0) <ℤ get_or d last (pos 0))
    fell n = left_fell N f ok δ d p S.labelled.labels_len d' p' last e n

    pub returns_of : (x : ℕ) → ¬ (last ≡ 64) → GoesBack N p' last (Some x) → Returns N p' x
    returns_of x n (ended q t w) = absurd (cc)
    returns_of x n (went q b) = let e : x ≡ back N p' 64 last = cc in subst (Returns N p') (sym e) (comes_round N p' ok.ends last (fell n).0 b)

    pub searching_more : ¬ (last ≡ 64) → GoesBack N p' last None → Searching N f δ d' p' (k + 1)
    searching_more n (ended q t w) = rw add-one (record {
      early = omega (arith, w.few, ends_late N f ok.ends δ d' p' labelled' last t k (fell n).0 w d S.at_most (fell n).1);
      labelled = labelled';
      at_most = left_at_most N f ok δ d p S.labelled.labels_len d' p' last e k S.at_most;
      sized = left_sized N f ok δ d p S.labelled.labels_len d' p' last e k S.sized;
    })
    searching_more n (went q b) = absurd (cc)

  -- the cycle's codes
  pub finds_cycle : 0 < δ → (d : List ℤ) (p : List ℕ) → Labelled N f δ d p → (x : ℕ) (out out' : List ℕ) (r : ℕ) → Collects N p x out out' r → FindsCycle N f δ d out out' (Some r)
  finds_cycle h d p L x out out' r c = found r refl c.few (rw c.are (record {
    cycle = period_cycle N f ok.ends δ d p L x r c.period h;
    capacity = period_capacity N f ok.ends δ d p L x r c.period;
    negative = period_negative N f ok.ends δ d p L x r c.period;
  })) c.rest
