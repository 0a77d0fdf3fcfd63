-- Induction along a part, from its last entry to its first, and what holds of every part.
use mathlib.Core.Path.{◌≡◌, refl}
use mathlib.Core.List.{List, [], ◌∷◌}
use mathlib.Core.Option.{Option, none, some}
use Prim.Native.Nat.{ℕ, zero, suc, ◌+◌, ◌≤◌}
use native.Mathlib.Omega.{arith}
use lib.ListN.{length}
use Rattle.laws.specs.Members.{Every, member_every, member_map}
use Rattle.way_parts.specs.Parts.{openers, successor, played_from, part_of, parts}
use Rattle.way_parts.specs.Acyclic.{Acyclic}
use Rattle.way_parts.proofs.Successors.{IsSuccessor, is_successor, successor_is, rank_rises}

-- P, of an entry and what is played after it, holds of an entry that nobody follows, and of an entry if it holds of the next
pub record Inductive (w : List ℕ) (P : ℕ → List ℕ → Type 0) : Type 0 where
  pub last : (i : ℕ) → successor w i ≡ none → P i []
  pub back : (i k : ℕ) (l : List ℕ) → 1 ≤ i → successor w i ≡ some k → IsSuccessor w i k → P k l → P i (k ∷ l)

module _ (w : List ℕ) (ok : Acyclic w) (P : ℕ → List ℕ → Type 0) (inductive : Inductive w P) where
  after : (n i : ℕ) → 1 ≤ i → length w ≤ n + ok.rank i → P i (played_from w n (successor w i))
  after zero i h r = go (successor w i) refl
    where
      go : (o : Option ℕ) → successor w i ≡ o → P i []
      go none e = inductive.last i e
      go (some k) e =
          let f = successor_is w i k e in
          absurd (let a = rank_rises w ok i k h f in let b = ok.high k f.low f.high in omega arith)
  after (suc n) i h r = go (after n) (successor w i) refl
    where
      go : ((k : ℕ) → 1 ≤ k → length w ≤ n + ok.rank k → P k (played_from w n (successor w k))) → (o : Option ℕ) → successor w i ≡ o → P i (played_from w (suc n) o)
      go deep none e = inductive.last i e
      go deep (some k) e =
          let f = successor_is w i k e in
          inductive.back i k (played_from w n (successor w k)) h e f (deep k f.low (let a = rank_rises w ok i k h f in omega arith))

  -- a part is its first entry and what is played after it
  pub part_induction : (j : ℕ) → 1 ≤ j → j ≤ length w → (l : List ℕ) × (part_of w j ≡ j ∷ l) × P j l
  unfolding part_of
  part_induction j h k = go (length w) refl
    where
      go : (n : ℕ) → n ≡ length w → (l : List ℕ) × (played_from w n (some j) ≡ j ∷ l) × P j l
      go zero e = absurd (omega arith)
      go (suc n) e = (played_from w n (successor w j), refl, after n j h (let b = ok.low j h k in omega arith))

-- what holds of the part of each entry that opens one holds of all parts
pub every_part : (w : List ℕ) (Q : List ℕ → Type 0) → ((j : ℕ) → IsSuccessor w 0 j → Q (part_of w j)) → Every Q (parts w)
unfolding parts
every_part w Q f = member_every Q (parts w) (λ p m. (let (j, n, e) = member_map (part_of w) (openers w) p m in rw e (f j (is_successor w 0 j n))))
