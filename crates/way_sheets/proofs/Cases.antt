-- What is written by whether an entry opens a part, and whether a part was begun.
use mathlib.Core.Path.{◌≡◌, refl}
use mathlib.Core.List.{[], ◌++◌}
use Prim.Native.Nat.{ℕ, zero, suc, ◌+◌}
use native.Mathlib.Omega.{arith}
use native.Mathlib.Numerals.{add-one}
use Rattle.text_read.specs.Heads.{line_end}
use Rattle.way_sheets.specs.Lines.{part_line, gap_line}
use Rattle.way_sheets.specs.Writing.{closing, lead, begun}

pub closing_none : (n : ℕ) → n ≡ 0 → closing n ≡ []
unfolding closing
closing_none zero e = refl
closing_none (suc n) e = absurd (omega arith)

pub closing_some : (n : ℕ) → ¬ (n ≡ 0) → closing n ≡ line_end
unfolding closing
closing_some zero e = absurd (e refl)
closing_some (suc n) e = refl

pub lead_first : (n i g r : ℕ) → i ≡ 0 → lead n i g r ≡ closing n ++ part_line (n + 1)
unfolding lead
lead_first n zero g r e = rw add-one refl
lead_first n (suc i) g r e = absurd (omega arith)

pub lead_later : (n i g r : ℕ) → ¬ (i ≡ 0) → lead n i g r ≡ gap_line g r
unfolding lead
lead_later n zero g r e = absurd (e refl)
lead_later n (suc i) g r e = refl

pub begun_first : (n i : ℕ) → i ≡ 0 → n + 1 ≡ begun n i
begun_first n zero e = add-one n
begun_first n (suc i) e = absurd (omega arith)

pub begun_later : (n i : ℕ) → ¬ (i ≡ 0) → n ≡ begun n i
begun_later n zero e = absurd (e refl)
begun_later n (suc i) e = refl
