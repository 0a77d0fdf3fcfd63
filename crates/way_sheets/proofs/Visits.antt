-- The sheets as they are written, entry after entry in playing order, are the sheets part by part.
use mathlib.Core.Path.{◌≡◌, refl, ap, sym, ◌∙◌}
use mathlib.Core.Logic.{inl, inr}
use mathlib.Core.List.{List, [], ◌∷◌, ◌++◌, flatten, append_assoc, append-nil}
use Prim.Native.Nat.{ℕ, zero, suc, ◌≤◌}
use native.Mathlib.Omega.{arith}
use Rattle.laws.specs.Members.{◌∈◌, Every, append_left, append_right}
use Rattle.book_form.specs.Book.{Book}
use Rattle.book_form.specs.WithinLimits.{WithinLimits}
use Rattle.way_theory.specs.Follow.{spare_ticks}
use Rattle.way_theory.specs.Ways.{IsWay}
use Rattle.way_parts.specs.Parts.{predecessor, parts, playing_order, Linked, IsPart}
use Rattle.way_parts.proofs.Theorems.{parts_end_lem, stands_inside}
use Rattle.way_gaps.specs.Gaps.{gap, gap_before, spare_before}
use Rattle.way_sheets.specs.Lines.{part_line, gap_line}
use Rattle.way_sheets.specs.Sheets.{play_of, plays_after, plays, sheet, sheets_from, sheets}
use Rattle.way_sheets.specs.Writing.{closing, lead, begun}

-- entry j, where n parts are begun; then each entry of a list, and the end of the last part
unfoldable pub visit : Book → List ℕ → ℕ → ℕ → List ℕ
visit book w n j = lead n (predecessor w j) (gap_before book w j) (spare_before book w j) ++ play_of book j

unfoldable pub visits : Book → List ℕ → ℕ → List ℕ → List ℕ
visits book w n [] = closing n
visits book w n (j ∷ l) = visit book w n j ++ visits book w (begun n (predecessor w j)) l

module _ (book : Book) (w : List ℕ) where
  -- an entry behind its predecessor
  visit_later : (n i j : ℕ) (l : List ℕ) → 1 ≤ i → predecessor w j ≡ i → visits book w n (j ∷ l) ≡ gap_line (gap book i j) (spare_ticks book i j) ++ play_of book j ++ visits book w n l
  unfolding visits visit lead
  visit_later n zero j l h e = absurd (omega arith)
  visit_later n (suc i) j l h e = rw e refl

  -- an entry that opens a part
  visit_first : (n j : ℕ) (l : List ℕ) → predecessor w j ≡ 0 → visits book w n (j ∷ l) ≡ closing n ++ (part_line (suc n) ++ (play_of book j ++ visits book w (suc n) l))
  unfolding visits visit lead
  visit_first n j l e = rw e (simp append_assoc)

  visits_after : (n i : ℕ) (p l : List ℕ) → 1 ≤ i → ((j : ℕ) → j ∈ p → 1 ≤ j) → Linked w i p → visits book w n (p ++ l) ≡ plays_after book i p ++ visits book w n l
  unfolding plays_after
  visits_after n i [] l h f k = refl
  visits_after n i (j ∷ p) l h f k =
      visit_later n i j (p ++ l) h k.0
      ∙ ap (λ x. gap_line (gap book i j) (spare_ticks book i j) ++ play_of book j ++ x) (visits_after n j p l (f j (inl refl)) (λ a m. f a (inr m)) k.1)
      ∙ simp append_assoc

  visits_part : (n : ℕ) (p l : List ℕ) → ((j : ℕ) → j ∈ p → 1 ≤ j) → IsPart w p → visits book w n (p ++ l) ≡ closing n ++ (part_line (suc n) ++ (plays book p ++ visits book w (suc n) l))
  unfolding plays
  visits_part n [] l f k = absurd k
  visits_part n (j ∷ p) l f k =
      visit_first n j (p ++ l) k.0
      ∙ ap (λ x. closing n ++ (part_line (suc n) ++ (play_of book j ++ x))) (visits_after (suc n) j p l (f j (inl refl)) (λ a m. f a (inr m)) k.1)
      ∙ simp append_assoc

  visits_from : (n : ℕ) (ps : List (List ℕ)) → ((j : ℕ) → j ∈ flatten ps → 1 ≤ j) → Every (IsPart w) ps → visits book w n (flatten ps) ≡ closing n ++ sheets_from book (suc n) ps
  unfolding visits sheets_from sheet closing flatten
  visits_from n [] f k = sym (append-nil (closing n))
  visits_from n (p ∷ ps) f k =
      visits_part n p (flatten ps) (λ j m. f j (append_left p (flatten ps) j m)) k.0
      ∙ ap (λ x. closing n ++ (part_line (suc n) ++ (plays book p ++ x))) (visits_from (suc n) ps (λ j m. f j (append_right p (flatten ps) j m)) k.1)
      ∙ simp append_assoc

  pub visits_all : WithinLimits book → IsWay book w → visits book w 0 (playing_order w) ≡ sheets book w
  unfolding playing_order sheets closing
  visits_all ok way = visits_from 0 (parts w) (λ j m. (stands_inside book ok w way j m).0) (parts_end_lem book ok w way)
