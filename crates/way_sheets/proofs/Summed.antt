-- How long the sheets are: what each entry takes, summed over the entries of the book.
use mathlib.Core.Path.{◌≡◌, refl, ap, ◌∙◌}
use mathlib.Core.Logic.{inl, inr}
use mathlib.Core.List.{List, [], ◌∷◌, ◌++◌, flatten}
use Prim.Native.Nat.{ℕ, zero, suc, ◌+◌, ◌≤◌, ◌<◌}
use native.Mathlib.Omega.{arith}
use lib.ListN.{length, length-append}
use Rattle.laws.specs.Members.{◌∈◌, Every, append_left, append_right}
use Rattle.laws.specs.Totals.{total_of, total_append}
use Rattle.text_read.specs.Heads.{bytes, space, line_end, name_end, play_head, part_head, newline}
use Rattle.text_write.specs.Decimal.{decimal}
use Rattle.text_write.proofs.Decimal.{decimal_one}
use Rattle.book_form.specs.Book.{Book}
use Rattle.book_form.specs.WithinLimits.{WithinLimits}
use Rattle.way_theory.specs.Follow.{spare_ticks}
use Rattle.way_theory.specs.Ways.{IsWay}
use Rattle.way_theory.specs.FullWays.{numbers}
use Rattle.way_parts.specs.Parts.{predecessor, parts, playing_order, Linked, IsPart}
use Rattle.way_parts.proofs.Theorems.{parts_end_lem, parts_few, stands_inside, summed}
use Rattle.way_gaps.specs.Gaps.{gap}
use Rattle.way_sheets.specs.Lines.{part_line, play_line, gap_line}
use Rattle.way_sheets.specs.Sheets.{play_of, plays_after, plays, sheet, sheets_from, sheets}
use Rattle.way_sheets.specs.EntrySize.{play_size, entry_size}

-- the line of an entry by the length of its name
pub play_size_lem : (name : List ℕ) (start finish : ℕ) → length (play_line name start finish) ≡ play_size (length name) start finish
unfolding play_line
play_size_lem name start finish =
    let head = play_head ++ name in
    omega (
      arith,
      length-append (head ++ (name_end ++ decimal start)) (space ++ decimal finish ++ line_end),
      length-append head (name_end ++ decimal start),
      length-append play_head name,
    )

-- a part number has one digit
one_digit : (n : ℕ) → n < 10 → length (part_line n) ≡ length (part_line 1)
unfolding part_line bytes
one_digit n h =
    omega (
      arith,
      length-append (part_head ++ decimal n) newline,
      length-append part_head (decimal n),
      ap length (decimal_one n h),
      length-append (part_head ++ decimal 1) newline,
      length-append part_head (decimal 1),
      ap length (decimal_one 1 (omega arith)),
    )

module _ (book : Book) (w : List ℕ) where
  -- an entry behind its predecessor, and one that opens a part
  later_size : (i j : ℕ) → 1 ≤ i → predecessor w j ≡ i → entry_size book w j ≡ length (gap_line (gap book i j) (spare_ticks book i j)) + length (play_of book j)
  unfolding entry_size
  later_size zero j h e = absurd (omega arith)
  later_size (suc i) j h e = rw e refl

  first_size : (j : ℕ) → predecessor w j ≡ 0 → entry_size book w j ≡ length (part_line 1) + length line_end + length (play_of book j)
  unfolding entry_size
  first_size j e = rw e refl

  after_summed : (i : ℕ) (p : List ℕ) → 1 ≤ i → ((j : ℕ) → j ∈ p → 1 ≤ j) → Linked w i p → length (plays_after book i p) ≡ total_of (entry_size book w) p
  unfolding plays_after
  after_summed i [] h f k = refl
  after_summed i (j ∷ p) h f k =
      let line = gap_line (gap book i j) (spare_ticks book i j) in
      omega (
        arith,
        length-append (line ++ play_of book j) (plays_after book j p),
        length-append line (play_of book j),
        later_size i j h k.0,
        after_summed j p (f j (inl refl)) (λ a m. f a (inr m)) k.1,
      )

  sheet_summed : (n : ℕ) (p : List ℕ) → n < 10 → ((j : ℕ) → j ∈ p → 1 ≤ j) → IsPart w p → length (sheet book n p) ≡ total_of (entry_size book w) p
  unfolding sheet plays
  sheet_summed n [] h f k = absurd k
  sheet_summed n (j ∷ p) h f k =
      omega (
        arith,
        length-append (part_line n ++ plays book (j ∷ p)) line_end,
        length-append (part_line n) (plays book (j ∷ p)),
        length-append (play_of book j) (plays_after book j p),
        one_digit n h,
        first_size j k.0,
        after_summed j p (f j (inl refl)) (λ a m. f a (inr m)) k.1,
      )

  from_summed : (n : ℕ) (ps : List (List ℕ)) → n + length ps ≤ 10 → ((j : ℕ) → j ∈ flatten ps → 1 ≤ j) → Every (IsPart w) ps
      → length (sheets_from book n ps) ≡ total_of (entry_size book w) (flatten ps)
  unfolding sheets_from flatten
  from_summed n [] h f k = refl
  from_summed n (p ∷ ps) h f k =
      omega (
        arith,
        length-append (sheet book n p) (sheets_from book (suc n) ps),
        total_append (entry_size book w) p (flatten ps),
        sheet_summed n p (omega arith) (λ j m. f j (append_left p (flatten ps) j m)) k.0,
        from_summed (suc n) ps (omega arith) (λ j m. f j (append_right p (flatten ps) j m)) k.1,
      )

  -- 02, request 8: "exactly how many bytes the sheets will take"
  pub sheets_summed : WithinLimits book → IsWay book w → length (sheets book w) ≡ total_of (entry_size book w) (numbers book)
  unfolding sheets playing_order
  sheets_summed ok way =
      from_summed 1 (parts w) (omega (arith, parts_few book ok w way, ok.players_high)) (λ j m. (stands_inside book ok w way j m).0) (parts_end_lem book ok w way)
      ∙ summed book ok w way (entry_size book w)
