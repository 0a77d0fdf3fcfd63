-- How long the lines are at most, for a caller that lends the room.
use mathlib.Core.Path.{◌≡◌, refl}
use mathlib.Core.Bool.{Bool, true, false}
use mathlib.Core.List.{List, [], ◌∷◌, ◌++◌}
use Prim.Native.Nat.{ℕ, suc, ◌+◌, ◌*◌, ◌≤◌, ◌<◌}
use native.Mathlib.Omega.{arith}
use lib.Dec.{leb}
use lib.ListN.{length, length-append}
use borrow.Author.Tests.{leb-false}
use Rattle.laws.specs.Members.{Every, keep, keep_if}
use Rattle.text_read.specs.Heads.{bytes, space, line_end, cost_head, way_head, parts_end, end_head, refused_head}
use Rattle.text_write.specs.Decimal.{decimal}
use Rattle.text_listing.specs.Lines.{spaced, cost_line, way_line, end_line, more_line, none_line, refused_line}
use Rattle.text_write.proofs.Decimal.{decimal_size, row_size}

pub cost_size : (n : ℕ) → n < 100000000 → length (cost_line n) ≤ 16
unfolding bytes cost_line
cost_size n h = row_size cost_head n 7 h

pub end_size : (n : ℕ) → n ≤ 1000 → length (end_line n) ≤ 11
unfolding bytes end_line
end_size n h = row_size end_head n 3 (omega arith)

pub refused_size : (n : ℕ) → n < 100 → length (refused_line n) ≤ 13
unfolding bytes refused_line
refused_size n h = row_size refused_head n 1 h

pub more_size : length more_line ≡ 12
unfolding bytes more_line
more_size = refl

pub none_size : length none_line ≡ 7
unfolding bytes none_line
none_size = refl

-- a space and a digit for each number, and a digit more for those from 10 on
spaced_size : (ns : List ℕ) → Every (λ (n : ℕ). n < 100) ns → length (spaced ns) ≤ 2 * length ns + length (keep (leb 10) ns)
unfolding bytes spaced
spaced_size [] e = omega arith
spaced_size (n ∷ ns) e = go (leb 10 n) refl (spaced_size ns e.1)
  where
    sum : length (space ++ decimal n ++ spaced ns) ≡ 1 + length (decimal n) + length (spaced ns)
    sum = omega (arith, length-append (space ++ decimal n) (spaced ns), length-append space (decimal n))

    go : (t : Bool) → leb 10 n ≡ t → length (spaced ns) ≤ 2 * length ns + length (keep (leb 10) ns) → length (space ++ decimal n ++ spaced ns) ≤ 2 * suc (length ns) + length (keep_if t n (keep (leb 10) ns))
    go true q h = omega (arith, sum, decimal_size 1 n e.0)
    go false q h = omega (arith, sum, decimal_size 0 n (omega (arith, leb-false 10 n q)))

pub way_size : (n : ℕ) (ns : List ℕ) → n < 10 → Every (λ (p : ℕ). p < 100) ns → length (way_line n ns) ≤ 16 + 2 * length ns + length (keep (leb 10) ns)
unfolding bytes way_line
way_size n ns h e =
    omega (
      arith,
      length-append (way_head ++ decimal n ++ parts_end ++ spaced ns) line_end,
      length-append (way_head ++ decimal n ++ parts_end) (spaced ns),
      length-append (way_head ++ decimal n) parts_end,
      length-append way_head (decimal n),
      decimal_size 0 n h,
      spaced_size ns e,
    )
