-- A space and a number for each number of a list, by the number that comes next.
use Rattle.std.proofs.Common.{◌≡◌, refl, sym, ap, ◌∙◌, List, [], ◌∷◌, ◌++◌, append_assoc, append-nil, ℕ, ◌+◌, ◌<◌, length, get_or, take, drop, add-one, drop-cons}
use Rattle.std.proofs.Math.Seq.{take-suc}
use Rattle.text_read.specs.Heads.{space}
use Rattle.text_write.specs.Decimal.{decimal}
use Rattle.text_listing.specs.Lines.{spaced}

spaced_append : (xs ys : List ℕ) → spaced (xs ++ ys) ≡ spaced xs ++ spaced ys
unfolding spaced
spaced_append [] ys = refl
spaced_append (x ∷ xs) ys = ap (λ (l : List ℕ). space ++ decimal x ++ l) (spaced_append xs ys) ∙ sym (append_assoc (space ++ decimal x) (spaced xs) (spaced ys))

-- what is written up to it and with it
pub spaced_more : (l : List ℕ) (i : ℕ) → i < length l → spaced (take (i + 1) l) ≡ spaced (take i l) ++ (space ++ decimal (get_or l i 0))
unfolding spaced
spaced_more l i h = rw (add-one i, take-suc l i 0 h) (spaced_append (take i l) (get_or l i 0 ∷ []) ∙ ap (λ (w : List ℕ). spaced (take i l) ++ w) (append-nil (space ++ decimal (get_or l i 0))))

-- what is left to write from it on
pub spaced_next : (l : List ℕ) (i : ℕ) → i < length l → spaced (drop i l) ≡ (space ++ decimal (get_or l i 0)) ++ spaced (drop (i + 1) l)
unfolding spaced
spaced_next l i h = rw (add-one i, drop-cons l i 0 h) refl
