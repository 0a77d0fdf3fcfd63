-- Laws of the rows of an arc list, and of questions 1 and 2.
use mathlib.Core.Path.{◌≡◌, refl, sym, ◌∙◌}
use mathlib.Core.Bool.{Bool, true, false, ◌&&◌}
use mathlib.Core.List.{List, [], ◌∷◌, map}
use Prim.Native.Nat.{ℕ, zero, suc, ◌+◌, ◌*◌, ◌/◌, ◌%◌, ◌≤◌, ◌<◌}
use native.Mathlib.Omega.{arith}
use lib.ListN.{length, get_or}
use lib.Seq.{ext_get_or}
use lib.Dec.{eqb, leb}
use lib.IntN.{ℤ, pos}
use borrow.Author.Tests.{eqb-true, leb-true}
use Rattle.std.specs.Prelude.{MatchBool}
use Rattle.std.specs.List.{AllWithin, HoldsAt, range_with_len}
use Rattle.std.proofs.lemmas.List.FromFn.{length-map-range_with_len, get_or-map-range_with_len}
use Rattle.laws.specs.Tests.{and_true, true_and, and_stops, and_stops_second, all}
use Rattle.bytes_read.specs.Words.{ints}
use Rattle.bytes_read.proofs.Words.{length_ints}
use Rattle.net_model.specs.Input.{rows}
use Rattle.net_model.specs.declared.Row.{Row}
use Rattle.net_questions.specs.Questions.{fair_nodes, fair_arcs}
use Rattle.net_questions.specs.Arcs.{no_arc}

abbrev pub row_at : List ℤ → ℕ → Row
row_at xs k = record {
  tail = get_or xs k (pos 0);
  head = get_or xs (k + 1) (pos 0);
  low = get_or xs (k + 2) (pos 0);
  up = get_or xs (k + 3) (pos 0);
  cost = get_or xs (k + 4) (pos 0);
}

pub rows_at : (xs : List ℤ) (i : ℕ) → 5 * i + 5 ≤ length xs → get_or (rows xs) i no_arc ≡ row_at xs (5 * i)
rows_at [] i h = absurd (omega arith)
rows_at (t ∷ []) i h = absurd (omega arith)
rows_at (t ∷ a ∷ []) i h = absurd (omega arith)
rows_at (t ∷ a ∷ l ∷ []) i h = absurd (omega arith)
rows_at (t ∷ a ∷ l ∷ u ∷ []) i h = absurd (omega arith)
rows_at (t ∷ a ∷ l ∷ u ∷ c ∷ xs) zero h = refl
rows_at (t ∷ a ∷ l ∷ u ∷ c ∷ xs) (suc i) h =
    let e : 5 * suc i ≡ suc (suc (suc (suc (suc (5 * i))))) = omega arith in
    rw (e, past (5 * i) 1, past (5 * i) 2, past (5 * i) 3, past (5 * i) 4) (rows_at xs i (omega arith))
  where
    past : (n k : ℕ) → suc (suc (suc (suc (suc n)))) + k ≡ suc (suc (suc (suc (suc (n + k)))))
    past n k = omega arith

length_rows : (xs : List ℤ) → length (rows xs) ≡ length xs / 5
length_rows [] = refl
length_rows (t ∷ []) = refl
length_rows (t ∷ a ∷ []) = refl
length_rows (t ∷ a ∷ l ∷ []) = refl
length_rows (t ∷ a ∷ l ∷ u ∷ []) = refl
length_rows (t ∷ a ∷ l ∷ u ∷ c ∷ xs) = let e = length_rows xs in omega arith

pub arcs_of : (xs : List ℕ) → length (rows (ints xs)) ≡ length xs / 20
arcs_of xs = length_rows (ints xs) ∙ let e = length_ints xs in omega arith

-- what questions 1 and 2 say of a count of bytes
pub record FairNodes (k : ℕ) : Type 0 where
  pub whole : k % 4 ≡ 0
  pub some : 1 ≤ k / 4
  pub few : k / 4 ≤ 64

pub fair_nodes_lem : (k : ℕ) → fair_nodes k ≡ true → FairNodes k
fair_nodes_lem k e =
    let (p, q) = and_true (eqb (k % 4) 0) (leb 1 (k / 4) && leb (k / 4) 64) e in
    let (r, s) = and_true (leb 1 (k / 4)) (leb (k / 4) 64) q in
    record { whole = eqb-true _ _ p; some = leb-true _ _ r; few = leb-true _ _ s }

pub record FairArcs (k : ℕ) : Type 0 where
  pub whole : k % 20 ≡ 0
  pub few : k / 20 ≤ 512

pub fair_arcs_lem : (k : ℕ) → fair_arcs k ≡ true → FairArcs k
fair_arcs_lem k e =
    let (p, q) = and_true (eqb (k % 20) 0) (leb (k / 20) 512) e in
    record { whole = eqb-true _ _ p; few = leb-true _ _ q }

-- the members of a list, by their places
pub by_places : {A : Type 0} (l : List A) (d : A) (n : ℕ) → length l ≡ n → map (λ k. get_or l k d) (range_with_len 0 n) ≡ l
by_places l d n e =
    ext_get_or d (map (λ k. get_or l k d) (range_with_len 0 n)) l (length-map-range_with_len (λ k. get_or l k d) 0 n ∙ sym e)
    (λ i h. get_or-map-range_with_len (λ k. get_or l k d) 0 n i i d (omega (arith, length-map-range_with_len (λ k. get_or l k d) 0 n)) (omega arith))

-- a test of every member, by their places, and by what a run over them found
pub all_by_places : {A : Type 0} (p : A → Bool) (l : List A) → ((k : ℕ) (d : A) → k < length l → p (get_or l k d) ≡ true) → all p l ≡ true
all_by_places p [] f = refl
all_by_places p (a ∷ l) f = true_and (p a) (all p l) (f 0 a (omega arith)) (all_by_places p l (λ k d q. f (suc k) d (omega arith)))

pub all_by_run : {A : Type 0} (p : A → Bool) (m l : List A) → m ≡ l → (r : Bool)
    → MatchBool r (AllWithin (λ a. p a ≡ true) m 0 (length m)) ((k : ℕ) × (k < length m) × HoldsAt (λ a. p a ≡ false) m k) → r ≡ all p l
all_by_run p m l q true h = sym (rw (← q) (all_by_places p m (λ k d. h k d (omega arith))))
all_by_run p m l q false h = sym (rw (← q) (fails m h.0 h.1 h.2))
  where
    fails : (m : List _) (k : ℕ) → k < length m → ((d : _) → p (get_or m k d) ≡ false) → all p m ≡ false
    fails [] k q e = absurd (omega arith)
    fails (a ∷ m) zero q e = and_stops (p a) (all p m) (e a)
    fails (a ∷ m) (suc k) q e = and_stops_second (p a) (all p m) (fails m k (omega arith) e)
