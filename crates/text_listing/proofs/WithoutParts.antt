-- A text without the words that request 6 of 02 puts into the lines of ways, and the lines of a listing without them.
use mathlib.Core.Path.{◌≡◌, refl, sym, ap, ◌∙◌}
use mathlib.Core.Bool.{Bool, true, false, not}
use mathlib.Core.List.{List, [], ◌∷◌, ◌++◌, append_assoc, append-nil}
use Prim.Native.Nat.{ℕ, ◌≤◌}
use native.Mathlib.Omega.{arith}
use lib.Dec.{eqb}
use lib.ListN.{length}
use borrow.Author.Tests.{ne_eqb}
use Rattle.laws.specs.Members.{Every}
use Rattle.text_read.specs.Reader.{begins}
use Rattle.text_read.specs.Heads.{bytes, space, line_end}
use Rattle.text_write.specs.Decimal.{decimal}
use Rattle.text_write.proofs.Decimal.{decimal_bytes, decimal_some}
use Rattle.text_listing.specs.Lines.{spaced, cost_line, way_line, end_line, more_line, none_line, refused_line}

-- from ` (parts ` on all is left out, up to the `)`, byte 41, that closes it; whether that has begun
unfoldable pub cut : Bool → List ℕ → List ℕ
cut b [] = []
cut true (c ∷ t) = cut (not (eqb c 41)) t
cut false (c ∷ t) = elim (begins (bytes " (parts ") (c ∷ t)) [ true ↦ cut true t | false ↦ c ∷ cut false t ]

abbrev pub without_parts : List ℕ → List ℕ
without_parts t = cut false t

-- 01: "`(way ..)` with the E predecessors for each way"
unfoldable pub old_line : List ℕ → List ℕ
old_line ns = bytes "(way" ++ spaced ns ++ line_end

-- a piece of text in which nothing is left out, whatever follows
abbrev pub Whole : List ℕ → Type 0
Whole p = (t : List ℕ) → without_parts (p ++ t) ≡ p ++ without_parts t

whole_then : (p q : List ℕ) → Whole p → Whole q → Whole (p ++ q)
whole_then p q f g t = ap without_parts (append_assoc p q t) ∙ f (q ++ t) ∙ ap (λ r. p ++ r) (g t) ∙ sym (append_assoc p q (without_parts t))

-- nothing but such a piece
pub whole_alone : {p : List ℕ} → Whole p → without_parts p ≡ p
unfolding cut
whole_alone {p} f = ap without_parts (sym (append-nil p)) ∙ f [] ∙ append-nil p

-- the bytes of a number are neither a space nor `(` nor `)`
digits_whole : (p : List ℕ) → Every (λ c. 48 ≤ c) p → Whole p
unfolding cut begins bytes
digits_whole [] e t = refl
digits_whole (c ∷ p) e t = rw (cut, ne_eqb c 32 (λ q. omega (arith, e.0))) (ap (λ r. c ∷ r) (digits_whole p e.1 t))

digits_cut : (p t : List ℕ) → Every (λ c. 48 ≤ c) p → cut true (p ++ (41 ∷ t)) ≡ without_parts t
unfolding cut
digits_cut [] t e = refl
digits_cut (c ∷ p) t e = rw (cut, ne_eqb c 41 (λ q. omega (arith, e.0))) (digits_cut p t e.1)

space_whole : (p : List ℕ) → Every (λ c. 48 ≤ c) p → 1 ≤ length p → Whole (space ++ p)
unfolding cut begins bytes
space_whole [] e h t = absurd (omega arith)
space_whole (c ∷ p) e h t = rw (cut, ne_eqb c 40 (λ q. omega (arith, e.0))) (ap (λ r. 32 ∷ r) (digits_whole (c ∷ p) e t))

number_whole : (n : ℕ) → Whole (space ++ decimal n)
number_whole n = space_whole (decimal n) (decimal_bytes n) (decimal_some n)

line_end_whole : Whole line_end
unfolding cut begins bytes
line_end_whole t = refl

-- the lines with one number
row_whole : (w : List ℕ) (n : ℕ) → Whole w → Whole (w ++ (space ++ decimal n ++ line_end))
row_whole w n f = whole_then w (space ++ decimal n ++ line_end) f (whole_then (space ++ decimal n) line_end (number_whole n) line_end_whole)

pub cost_whole : (n : ℕ) → Whole (cost_line n)
unfolding cut begins bytes cost_line
cost_whole n = row_whole (bytes "(cost") n (λ t. refl)

pub end_whole : (n : ℕ) → Whole (end_line n)
unfolding cut begins bytes end_line
end_whole n = row_whole (bytes "(end") n (λ t. refl)

pub refused_whole : (n : ℕ) → Whole (refused_line n)
unfolding cut begins bytes refused_line
refused_whole n = row_whole (bytes "(refused") n (λ t. refl)

-- and without
pub more_whole : Whole more_line
unfolding cut begins bytes more_line
more_whole t = refl

pub none_whole : Whole none_line
unfolding cut begins bytes none_line
none_whole t = refl

spaced_whole : (ns : List ℕ) → Whole (spaced ns)
unfolding spaced
spaced_whole [] t = refl
spaced_whole (n ∷ ns) t = whole_then (space ++ decimal n) (spaced ns) (number_whole n) (spaced_whole ns) t

-- the line of a way as it was
closed : (n : ℕ) (ns t : List ℕ) → decimal n ++ (41 ∷ []) ++ spaced ns ++ line_end ++ t ≡ decimal n ++ (41 ∷ (spaced ns ++ line_end ++ t))
closed n ns t =
    ap (λ r. r ++ line_end ++ t) (append_assoc (decimal n) (41 ∷ []) (spaced ns))
    ∙ ap (λ r. r ++ t) (append_assoc (decimal n) (41 ∷ spaced ns) line_end)
    ∙ append_assoc (decimal n) (41 ∷ (spaced ns ++ line_end)) t

pub way_cut : (n : ℕ) (ns t : List ℕ) → without_parts (way_line n ns ++ t) ≡ old_line ns ++ without_parts t
unfolding cut begins bytes way_line old_line
way_cut n ns t =
    ap (λ r. bytes "(way" ++ r)
    (ap (cut true) (closed n ns t) ∙ digits_cut (decimal n) _ (decimal_bytes n) ∙ whole_then (spaced ns) line_end (spaced_whole ns) line_end_whole t)
