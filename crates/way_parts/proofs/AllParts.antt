-- All parts written, one after another.
use mathlib.Core.Path.{◌≡◌, refl, sym, ap, ◌∙◌}
use mathlib.Core.Bool.{Bool, true, false, cond}
use mathlib.Core.List.{List, [], ◌++◌, map, flatten, append_assoc, append-nil}
use Prim.Native.Nat.{ℕ, suc, ◌+◌, ◌-◌, ◌≤◌, ◌<◌}
use native.Mathlib.Omega.{arith}
use native.Mathlib.Numerals.{add-one}
use lib.Dec.{eqb}
use lib.ListN.{length, get_or, replicate, length-append}
use borrow.Author.Tests.{eq-eqb, ne_eqb}
use Rattle.laws.specs.Members.{keep_if}
use Rattle.laws.specs.Padded.{padded, drop_replicate}
use Rattle.laws.specs.Appended.{Appended, appended_none, appended_then, appended_long}
use Rattle.way_parts.specs.Parts.{predecessor, part_of, parts, part_if_opened, playing_order}
use Rattle.way_parts.proofs.Behind.{behind, behind_none, behind_all, behind_more}

at_place : (w : List ℕ) (k : ℕ) → predecessor w (k + 1) ≡ get_or w k 0
at_place w k = let e : k + 1 - 1 ≡ k = omega arith in ap (λ n. get_or w n 0) e

pub opened_yes : (w : List ℕ) (k : ℕ) → get_or w k 0 ≡ 0 → part_if_opened w (k + 1) ≡ part_of w (k + 1)
opened_yes w k e = rw (eq-eqb (predecessor w (k + 1)) 0 (at_place w k ∙ e))

pub opened_no : (w : List ℕ) (k : ℕ) → ¬ (get_or w k 0 ≡ 0) → part_if_opened w (k + 1) ≡ []
opened_no w k e = rw (ne_eqb (predecessor w (k + 1)) 0 (λ p. e (sym (at_place w k) ∙ p)))

-- the parts that the entries behind the first j open
unfoldable pub later : List ℕ → ℕ → List ℕ
later w j = flatten (map (part_of w) (behind w 0 j))

later_none : (w : List ℕ) → later w 0 ≡ playing_order w
unfolding later playing_order parts
later_none w = ap (λ l. flatten (map (part_of w) l)) (sym (behind_none w 0))

later_more : (w : List ℕ) (j : ℕ) → j < length w → later w j ≡ part_if_opened w (suc j) ++ later w (suc j)
unfolding later flatten
later_more w j h = ap (λ l. flatten (map (part_of w) l)) (behind_more w 0 j h) ∙ go (eqb (predecessor w (suc j)) 0)
  where
    go : (t : Bool) → flatten (map (part_of w) (keep_if t (suc j) (behind w 0 (suc j)))) ≡ cond t (part_of w (suc j)) [] ++ flatten (map (part_of w) (behind w 0 (suc j)))
    go true = refl
    go false = refl

later_all : (w : List ℕ) (j : ℕ) → length w ≤ j → later w j ≡ []
unfolding later flatten
later_all w j h = ap (λ l. flatten (map (part_of w) l)) (behind_all w 0 j h)

-- the parts that the first j entries open are written
pub record Ordered (w b o : List ℕ) (at j : ℕ) : Type 0 where
  pub done : List ℕ
  pub whole : done ++ later w j ≡ playing_order w
  pub put : Appended b 0 done o at
  pub some : j ≤ length w

pub order_begin : (w b : List ℕ) → Ordered w b b 0 0
order_begin w b = record { done = []; whole = later_none w; put = appended_none b 0 (omega arith); some = omega arith }

module _ {w b o : List ℕ} {at j : ℕ} (d : Ordered w b o at j) (h : j < length w) where
  pub order_room : length (playing_order w) ≤ length b → at + length (part_if_opened w (j + 1)) ≤ length o
  order_room l =
      rw add-one
      (omega (
        arith,
        l,
        ap length d.whole,
        length-append d.done (later w j),
        ap length (later_more w j h),
        length-append (part_if_opened w (suc j)) (later w (suc j)),
        d.put.end,
        appended_long d.put,
      ))

  pub order_more : {e : List ℕ} {n : ℕ} → Appended o at (part_if_opened w (j + 1)) e n → Ordered w b e n (j + 1)
  order_more f =
      record {
        done = d.done ++ part_if_opened w (j + 1);
        whole = rw add-one (append_assoc d.done (part_if_opened w (suc j)) (later w (suc j)) ∙ ap (λ x. d.done ++ x) (sym (later_more w j h)) ∙ d.whole);
        put = appended_then d.put f;
        some = omega arith;
      }

  -- entry j + 1 opens none
  pub order_same : ¬ (get_or w j 0 ≡ 0) → Ordered w b o at (j + 1)
  order_same q = order_more (rw (opened_no w j q) (appended_none o at (omega (arith, d.put.within, appended_long d.put))))

pub order_end : {w o : List ℕ} {at j : ℕ} → Ordered w (replicate 28 0) o at j → length w ≤ j → o ≡ padded 28 0 (playing_order w)
order_end {w} {o} {at} {j} d h =
    let e : d.done ≡ playing_order w = sym (append-nil d.done) ∙ ap (λ x. d.done ++ x) (sym (later_all w j h)) ∙ d.whole in
    let l : at ≡ length d.done = omega (arith, d.put.end) in
    d.put.is ∙ ap (λ x. d.done ++ x) (drop_replicate at 28 0) ∙ ap (λ n. d.done ++ replicate (28 - n) 0) l ∙ ap (λ x. x ++ replicate (28 - length x) 0) e
