-- A piece written into a list from a place on, and pieces written one after another.
use Rattle.std.specs.Prelude.{◌≡◌, refl, List, [], ◌∷◌, ◌++◌, ℕ, ◌+◌, ◌≤◌, ◌<◌, length, take, drop, set}
use Rattle.std.proofs.Common.{sym, ap, ◌∙◌, append_assoc, append-nil, arith, add-one, length-append, length-drop, take-append-drop, length-take-le, take_at, drop-drop}
use Rattle.std.proofs.Math.Seq.{drop-append-add, append_snoc}
use Rattle.std.proofs.lemmas.List.{set_split}

-- `after` is `before` with `piece` in it from the place `at` to the place r; all else is as it was
pub record Appended (before : List ℕ) (at : ℕ) (piece after : List ℕ) (r : ℕ) : Type 0 where
  pub end : r ≡ at + length piece
  pub within : r ≤ length before
  pub is : after ≡ take at before ++ piece ++ drop r before

pub appended_none : (l : List ℕ) (at : ℕ) → at ≤ length l → Appended l at [] l at
appended_none l at h = record { end = omega arith; within = h; is = rw append-nil (sym (take-append-drop at l)) }

pub appended_one : (l : List ℕ) (at x : ℕ) → at < length l → Appended l at (x ∷ []) (set l at x) (at + 1)
appended_one l at x h = record { end = refl; within = omega arith; is = rw add-one (set_split l at x h ∙ sym (append_snoc (take at l) x _)) }

module _ {b : List ℕ} {at : ℕ} {p c : List ℕ} {m : ℕ} (d : Appended b at p c m) where
  front_long : length (take at b ++ p) ≡ m
  front_long = omega (arith, d.end, d.within, length-append (take at b) p, length-take-le at b (omega (arith, d.end, d.within)))

  -- a piece written leaves the list as long as it was
  pub appended_long : length c ≡ length b
  appended_long = ap length d.is ∙ omega (arith, front_long, d.within, length-append (take at b ++ p) (drop m b), length-drop m b)

  rest : (k : ℕ) → drop (m + k) c ≡ drop (m + k) b
  rest k =
      ap (drop (m + k)) d.is
      ∙ ap (λ (i : ℕ). drop (i + k) (take at b ++ p ++ drop m b)) (sym front_long)
      ∙ drop-append-add (take at b ++ p) (drop m b) k
      ∙ drop-drop k m b

  -- what is written after it is one piece with it
  pub appended_then : {q e : List ℕ} {n : ℕ} → Appended c m q e n → Appended b at (p ++ q) e n
  appended_then {q} {e} {n} f =
      record {
        end = omega (arith, d.end, f.end, length-append p q);
        within = omega (arith, f.within, appended_long);
        is = f.is ∙ rw (f.end, rest (length q), ap (take m) d.is, take_at (take at b ++ p) (drop m b) m front_long, append_assoc (take at b) p q);
      }

-- the room that two pieces need, at the first and at the second
pub room_first : (p q : List ℕ) (at n : ℕ) → at + length (p ++ q) ≤ n → at + length p ≤ n
room_first p q at n h = omega (arith, length-append p q)

pub room_next : {b : List ℕ} {at : ℕ} (p q : List ℕ) {c : List ℕ} {m : ℕ} → at + length (p ++ q) ≤ length b → Appended b at p c m → m + length q ≤ length c
room_next p q h d = omega (arith, length-append p q, d.end, appended_long d)
