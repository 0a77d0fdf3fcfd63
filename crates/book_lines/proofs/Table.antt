-- The table of the moves, line by line.
use Prim.Native.Nat.{ℕ, ◌+◌, ◌/◌, ◌%◌, ◌<◌, ◌≤◌}
use mathlib.Core.Path.{◌≡◌, refl, sym, ap, ◌∙◌}
use mathlib.Core.Bool.{Bool, true, false, cond, ◌&&◌, false≢true}
use mathlib.Core.Option.{Option as Maybe, none, some}
use Rattle.std.specs.Prelude.{Some, None, is_none, option_map}
use Rattle.laws.specs.Optional.{optional}
use mathlib.Core.List.{List, [], ◌∷◌, ◌++◌}
use native.Mathlib.Omega.{arith}
use lib.ListN.{length, get_or, set, length-set, replicate}
use lib.Seq.{get_or-set_same, get_or-set_other, ext_get_or}
use lib.Dec.{leb, eqb}
use borrow.Author.Tests.{leb-true, eqb-true, eqb-false, eq-eqb}
use Rattle.book_lines.specs.declared.moves.Move.{Move}
use Rattle.book_lines.specs.Questions.{is_instrument, fair_move, move_of, none?, stands}
use Rattle.laws.specs.Tabulate.{tabulate_length, tabulate_at, tabulate_same}
use Rattle.book_lines.specs.Columns.{place, said, cell, table}
use Rattle.book_lines.specs.Passes.{place_of, may_stand}
use Rattle.laws.specs.Tests.{and_true}

-- a and b are instruments
pub record Instruments (a b : ℕ) : Type 0 where
  pub source_low : 1 ≤ a
  pub source_high : a ≤ 16
  pub target_low : 1 ≤ b
  pub target_high : b ≤ 16

instrument_in : (a : ℕ) → is_instrument a ≡ true → (1 ≤ a) × (a ≤ 16)
instrument_in a e = let x = and_true (leb 1 a) (leb a 16) e in (leb-true 1 a x.0, leb-true a 16 x.1)

pub instruments_in : (a b : ℕ) → is_instrument a ≡ true → is_instrument b ≡ true → Instruments a b
instruments_in a b p q =
    let x = instrument_in a p in
    let y = instrument_in b q in
    record { source_low = x.0; source_high = x.1; target_low = y.0; target_high = y.1 }

-- what question 14 leaves of a move
pub record Fair (m : Move) : Type 0 where
  pub pair : Instruments m.source m.target
  pub ticks_high : m.ticks ≤ 1000000
  pub cost_high : m.cost ≤ 1000000

pub fair_parts : (m : Move) → fair_move m ≡ true → Fair m
fair_parts m e =
    let x3 = and_true _ (leb m.cost 1000000) e in
    let x2 = and_true _ (leb m.ticks 1000000) x3.0 in
    let x1 = and_true (is_instrument m.source) (is_instrument m.target) x2.0 in
    record { pair = instruments_in m.source m.target x1.0 x1.1; ticks_high = leb-true _ _ x2.1; cost_high = leb-true _ _ x3.1 }

pub table_none : replicate 256 None ≡ table []
table_none = sym (tabulate_same 256 (cell []) None (λ k. refl))

-- A move after the others.
abbrev leads : Move → ℕ → ℕ → Bool
leads m a b = eqb m.source a && eqb m.target b

move_of_other : (ms : List Move) (m : Move) (a b : ℕ) → leads m a b ≡ false → move_of (ms ++ (m ∷ [])) a b ≡ move_of ms a b
move_of_other [] m a b e = rw e
move_of_other (d ∷ ms) m a b e = rw (move_of_other ms m a b e)

move_of_last : (ms : List Move) (m : Move) (a b : ℕ) → none? (move_of ms a b) ≡ true → leads m a b ≡ true → move_of (ms ++ (m ∷ [])) a b ≡ some m
move_of_last [] m a b n e = rw e
move_of_last (d ∷ ms) m a b n e = go (leads d a b) refl (move_of_last ms m a b)
  where
    go : (x : Bool) → leads d a b ≡ x → (none? (move_of ms a b) ≡ true → leads m a b ≡ true → move_of (ms ++ (m ∷ [])) a b ≡ some m) → cond (leads d a b) (some d) (move_of (ms ++ (m ∷ [])) a b) ≡ some m
    go true q ih = absurd (false≢true (rw q at n))
    go false q ih = rw (q, ih (rw q at n) e)

-- The pair of a place.
module _ (a b : ℕ) (r : Instruments a b) where
  place_small : place a b < 256
  place_small = omega (arith, r)

  place_source : place a b / 16 + 1 ≡ a
  place_source = omega (arith, r)

  place_target : place a b % 16 + 1 ≡ b
  place_target = omega (arith, r)

  pub table_at : (ms : List Move) → get_or (table ms) (place a b) None ≡ option_map said (optional (move_of ms a b))
  table_at ms = tabulate_at 256 (cell ms) None (place a b) place_small ∙ rw (place_source, place_target)

-- The place of a move.
module _ (m : Move) (r : Instruments m.source m.target) where
  place_leads : leads m (place_of m / 16 + 1) (place_of m % 16 + 1) ≡ true
  place_leads = rw (eq-eqb m.source (place_of m / 16 + 1) (sym (place_source _ _ r)), eq-eqb m.target (place_of m % 16 + 1) (sym (place_target _ _ r)))

  other_leads : (k : ℕ) → (k ≡ place_of m → ⊥) → leads m (k / 16 + 1) (k % 16 + 1) ≡ false
  other_leads k z = go (leads m (k / 16 + 1) (k % 16 + 1)) refl
    where
      go : (x : Bool) → leads m (k / 16 + 1) (k % 16 + 1) ≡ x → leads m (k / 16 + 1) (k % 16 + 1) ≡ false
      go false q = q
      go true q =
          let x = and_true (eqb m.source (k / 16 + 1)) (eqb m.target (k % 16 + 1)) q in
          absurd (z (omega (arith, eqb-true m.source (k / 16 + 1) x.0, eqb-true m.target (k % 16 + 1) x.1)))

  -- a move that may stand, put into the table of those before it
  pub table_more : (ms : List Move) → none? (move_of ms m.source m.target) ≡ true → set (table ms) (place_of m) (Some (said m)) ≡ table (ms ++ (m ∷ []))
  table_more ms n =
      ext_get_or None (set (table ms) (place_of m) (Some (said m))) (table (ms ++ (m ∷ []))) (simp length-set (tabulate_length 256 (cell ms) ∙ sym (tabulate_length 256 (cell (ms ++ (m ∷ [])))))) each
    where
      size : (k : ℕ) → k < length (set (table ms) (place_of m) (Some (said m))) → k < 256
      size k h = omega (arith, length-set (table ms) (place_of m) (Some (said m)), tabulate_length 256 (cell ms))

      go : (k : ℕ) → k < 256 → (x : Bool) → eqb k (place_of m) ≡ x → get_or (set (table ms) (place_of m) (Some (said m))) k None ≡ cell (ms ++ (m ∷ [])) k
      go k h true q =
          let e = eqb-true k (place_of m) q in
          rw e (get_or-set_same (table ms) (place_of m) (Some (said m)) None (rw (tabulate_length 256 (cell ms)) (place_small _ _ r))
          ∙ sym (ap (λ o. option_map said (optional o)) (move_of_last ms m (place_of m / 16 + 1) (place_of m % 16 + 1) (rw (place_source _ _ r, place_target _ _ r) n) place_leads)))
      go k h false q =
          let z = eqb-false k (place_of m) q in
          get_or-set_other (table ms) (place_of m) k (Some (said m)) None z
          ∙ tabulate_at 256 (cell ms) None k h
          ∙ sym (ap (λ o. option_map said (optional o)) (move_of_other ms m (k / 16 + 1) (k % 16 + 1) (other_leads k z)))

      each : (k : ℕ) → k < length (set (table ms) (place_of m) (Some (said m))) → get_or (set (table ms) (place_of m) (Some (said m))) k None ≡ get_or (table (ms ++ (m ∷ []))) k None
      each k h = go k (size k h) (eqb k (place_of m)) refl ∙ sym (tabulate_at 256 (cell (ms ++ (m ∷ []))) None k (size k h))

-- the test by the table is the question
may_stand_is : (ms : List Move) (m : Move) → (x : Bool) → fair_move m ≡ x → may_stand (table ms) m ≡ stands ms m
may_stand_is ms m false e = rw e
may_stand_is ms m true e = rw (e, table_at _ _ (fair_parts m e).pair ms) (go (move_of ms m.source m.target))
  where
    go : (o : Maybe Move) → is_none (option_map said (optional o)) ≡ none? o
    go none = refl
    go (some d) = refl

pub may_stand_stands : (ms : List Move) (m : Move) → may_stand (table ms) m ≡ stands ms m
may_stand_stands ms m = may_stand_is ms m (fair_move m) refl
