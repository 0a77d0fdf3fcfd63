-- The loops along predecessors: going back 64 steps, and collecting the codes of a cycle.
use mathlib.Core.Path.{◌≡◌, refl, sym, ap, subst, ◌∙◌}
use mathlib.Core.List.{List, [], ◌∷◌, ◌++◌}
use Prim.Native.Nat.{ℕ, suc, ◌+◌, ◌≤◌, ◌<◌}
use native.Mathlib.Omega.{arith}
use native.Mathlib.Numerals.{add-one}
use native.Mathlib.Decide.{ℕ_discrete}
use lib.ListN.{length, take, drop, set, length-set}
use lib.Seq.{take-suc-set}
use Rattle.laws.specs.Store.{drop_set_next}
use Rattle.net_model.specs.Network.{Net}
use Rattle.net_model.specs.Residual.{codes, src}
use Rattle.net_theory.specs.Limits.{SmallEnds}
use Rattle.net_theory.proofs.Codes.{src_in}
use Rattle.flow_negative_cycle.specs.Predecessors.{pred, back, Backs, Returns, BackEnds, back_codes, Collects}
use Rattle.flow_negative_cycle.proofs.Relaxing.{back_in}
use Rattle.flow_negative_cycle.proofs.Cycles.{codes_more}

-- one step back more
backs_more : (N : Net) (p : List ℕ) (t x : ℕ) → Backs N p t x → pred p (back N p t x) < codes N → Backs N p (suc t) x
backs_more N p t x b h i l = go (ℕ_discrete i t)
  where
    go : Dec (i ≡ t) → pred p (back N p i x) < codes N
    go (yes q) = rw q h
    go (no q) = b i (omega arith)

pub record Going (N : Net) (p : List ℕ) (v i w : ℕ) : Type 0 where
  pub few : i ≤ 64
  pub node : w < 64
  pub is : w ≡ back N p i v
  pub steps : Backs N p i v

module _ (N : Net) (ok : SmallEnds N) (p : List ℕ) where
  pub going_none : (v : ℕ) → v < 64 → Going N p v 0 v
  unfolding back
  going_none v h = record { few = omega arith; node = h; is = refl; steps = λ i l. absurd (omega arith) }

  pub going_more : (v i w w' : ℕ) → Going N p v i w → i < 64 → pred p w < codes N → w' ≡ src N (pred p w) → Going N p v (i + 1) w'
  unfolding back
  going_more v i w w' g l h e = record {
    few = omega arith;
    node = rw e (src_in N ok (pred p w) h);
    is = rw add-one (e ∙ ap (λ y. src N (pred p y)) g.is);
    steps = rw add-one (backs_more N p i v g.steps (subst (λ y. pred p y < codes N) g.is h));
  }

  pub going_ends : (v i w : ℕ) → Going N p v i w → i < 64 → codes N ≤ pred p w → BackEnds N p v i
  going_ends v i w g l h = record { few = l; steps = g.steps; ends = subst (λ y. codes N ≤ pred p y) g.is h }

pub record Collecting (N : Net) (p : List ℕ) (x : ℕ) (out₀ out : List ℕ) (w len : ℕ) : Type 0 where
  pub returns : Returns N p x
  pub early : len < returns.steps
  pub is : w ≡ back N p len x
  pub away : (i : ℕ) → 0 < i → i ≤ len → ¬ (back N p i x ≡ x)
  pub long : length out ≡ 64
  pub are : take len out ≡ back_codes N p len x
  pub rest : drop len out ≡ drop len out₀

module _ (N : Net) (ok : SmallEnds N) (p : List ℕ) (x : ℕ) where
  pub collecting_none : (out : List ℕ) → length out ≡ 64 → Returns N p x → Collecting N p x out out x 0
  unfolding back
  collecting_none out h r = record { returns = r; early = r.round.some; is = refl; away = λ i l k. absurd (omega arith); long = h; are = refl; rest = refl }

  module _ (out₀ out : List ℕ) (w len : ℕ) (c : Collecting N p x out₀ out w len) where
    pub here : pred p w < codes N
    here = subst (λ y. pred p y < codes N) (sym c.is) (c.returns.round.steps len c.early)

    pub node : w < 64
    node = subst (λ y. y < 64) (sym c.is) (back_in N ok p x c.returns.steps c.returns.round.node c.returns.round.steps len (omega (arith, c.early)))

    pub capacity : len < 64
    capacity = omega (arith, c.early, c.returns.few)

    stored : take (suc len) (set out len (pred p w)) ≡ back_codes N p (suc len) x
    stored =
        take-suc-set out len (pred p w) (omega (arith, capacity, c.long))
        ∙ ap (λ (l : List ℕ). l ++ (pred p w ∷ [])) c.are ∙ ap (λ y. back_codes N p len x ++ (pred p y ∷ [])) c.is ∙ sym (codes_more N p len x)

    next_is : (w' : ℕ) → w' ≡ src N (pred p w) → w' ≡ back N p (suc len) x
    unfolding back
    next_is w' e = e ∙ ap (λ y. src N (pred p y)) c.is

    pub collecting_more : (w' : ℕ) → w' ≡ src N (pred p w) → ¬ (w' ≡ x) → Collecting N p x out₀ (set out len (pred p w)) w' (len + 1)
    collecting_more w' e n = record {
      returns = c.returns;
      early = rw add-one (later (ℕ_discrete (suc len) c.returns.steps));
      is = rw add-one (next_is w' e);
      away = λ i l k. apart i l (rw add-one at k) (ℕ_discrete i (suc len));
      long = length-set out len (pred p w) ∙ c.long;
      are = rw add-one stored;
      rest = drop_set_next out out₀ len (pred p w) c.rest;
    }
      where
        later : Dec (suc len ≡ c.returns.steps) → suc len < c.returns.steps
        later (yes q) = absurd (n (next_is w' e ∙ ap (λ k. back N p k x) q ∙ c.returns.round.closes))
        later (no q) = omega (arith, c.early)

        apart : (i : ℕ) → 0 < i → i ≤ suc len → Dec (i ≡ suc len) → ¬ (back N p i x ≡ x)
        apart i l k (yes q) e' = n (next_is w' e ∙ ap (λ k. back N p k x) (sym q) ∙ e')
        apart i l k (no q) e' = c.away i l (omega arith) e'

    pub collecting_done : (w' : ℕ) → w' ≡ src N (pred p w) → w' ≡ x → Collects N p x out₀ (set out len (pred p w)) (len + 1)
    collecting_done w' e q = record {
      few = omega (arith, capacity);
      period = rw add-one (record {
        round = record {
          node = c.returns.round.node;
          some = omega arith;
          steps = λ i l. c.returns.round.steps i (omega (arith, c.early));
          closes = sym (next_is w' e) ∙ q;
        };
        first = λ i l k. c.away i l (omega arith);
      });
      are = rw add-one stored;
      rest = drop_set_next out out₀ len (pred p w) c.rest;
    }
