-- What the lines take by their parts; of numbers of 32 bits, at most ten bytes each.
use mathlib.Core.Path.{◌≡◌, refl}
use mathlib.Core.List.{List, ◌++◌}
use Prim.Native.Nat.{ℕ, zero, suc, ◌+◌, ◌^◌, ◌≤◌, ◌<◌}
use native.Mathlib.Omega.{arith}
use lib.ListN.{length, length-append}
use Rattle.text_read.specs.Heads.{space, line_end, gap_head, part_head, newline}
use Rattle.text_write.specs.Decimal.{decimal}
use Rattle.text_write.proofs.Decimal.{decimal_size}
use Rattle.way_sheets.specs.Lines.{part_line, gap_line}
use Rattle.way_sheets.specs.EntrySize.{lead_size}

pub item_most : (head : List ℕ) (n : ℕ) → n < 2 ^ 32 → length (head ++ decimal n) ≤ length head + 10
item_most head n h = omega (arith, length-append head (decimal n), decimal_size 9 n (omega arith))

pub part_is : (n : ℕ) → length (part_line n) ≡ length (part_head ++ decimal n) + length newline
unfolding part_line
part_is n = length-append (part_head ++ decimal n) newline

pub gap_is : (g r : ℕ) → length (gap_line g r) ≡ length (gap_head ++ decimal g) + length (space ++ decimal r ++ line_end)
unfolding gap_line
gap_is g r = length-append (gap_head ++ decimal g) (space ++ decimal r ++ line_end)

-- by whether the entry opens a part
pub lead_first : (i g r : ℕ) → i ≡ 0 → lead_size i g r ≡ length (part_line 1) + length line_end
lead_first zero g r e = refl
lead_first (suc i) g r e = absurd (omega arith)

pub lead_later : (i g r : ℕ) → ¬ (i ≡ 0) → lead_size i g r ≡ length (gap_line g r)
lead_later zero g r e = absurd (e refl)
lead_later (suc i) g r e = refl
