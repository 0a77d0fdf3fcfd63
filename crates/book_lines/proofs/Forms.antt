-- The two forms of an entry: the count of numbers behind the name decides which it is.
use Prim.Native.Nat.{ℕ}
use mathlib.Core.Path.{◌≡◌, refl, sym, ap, ◌∙◌}
use mathlib.Core.List.{List, [], ◌∷◌}
use native.Mathlib.Omega.{arith}
use lib.ListN.{length, get_or}
use Rattle.laws.specs.Padded.{padded_at}
use Rattle.text_read.specs.declared.Row.{Row}
use Rattle.text_read.specs.Reader.{Parsed, fails, reads, ◌<|>◌, row, ReadAs, NumbersIn}
use Rattle.text_read.specs.Heads.{name_end}
use Rattle.text_read.proofs.Sequence.{mapped, then_fails}
use Rattle.text_read.proofs.Leaves.{both}
use Rattle.text_read.proofs.Alternatives.{first_reads, first_fails}
use Rattle.text_read.proofs.Rows.{one_count}
use Rattle.book_lines.specs.Lines.{long_form, both_same, short_form}

module _ (s : List ℕ) where
  no_short : row name_end 3 s ≡ fails → short_form s ≡ fails
  unfolding short_form
  no_short e = then_fails (row name_end 3) _ s e

  pub neither : row name_end 3 s ≡ fails → row name_end 4 s ≡ fails → (short_form <|> long_form) s ≡ fails
  unfolding long_form
  neither e f = first_fails short_form long_form s (no_short e) ∙ f

-- what is read behind a name, by the count of its numbers
module _ {s : List ℕ} {r : Row} {t : List ℕ} (x : NumbersIn s name_end r t) where
  abbrev number : ℕ → ℕ
  number k = get_or r.numbers k 0

  number_is : (k : ℕ) → number k ≡ get_or x.list k 0
  number_is k = ap (λ l. get_or l k 0) x.numbers_are ∙ padded_at 4 0 x.list k

  pub short_read : r.count ≡ 3 → ReadAs s ((short_form <|> long_form) s) (number 0 ∷ number 0 ∷ number 1 ∷ number 2 ∷ []) t
  unfolding short_form
  short_read e =
      let y = mapped (row name_end 3) both_same s (rw e at x.stands) in
      rw (number_is 0, number_is 1, number_is 2, ← three x.list (sym x.count_is ∙ e))
      (record { stands = first_reads short_form long_form s y.stands; fewer = y.fewer; ends = y.ends })
    where
      three : (l : List ℕ) → length l ≡ 3 → both_same l ≡ get_or l 0 0 ∷ get_or l 0 0 ∷ get_or l 1 0 ∷ get_or l 2 0 ∷ []
      three [] e = absurd (omega arith)
      three (a ∷ []) e = absurd (omega arith)
      three (a ∷ b ∷ []) e = absurd (omega arith)
      three (a ∷ b ∷ c ∷ []) e = refl
      three (a ∷ b ∷ c ∷ d ∷ l) e = absurd (omega arith)

  pub long_read : r.count ≡ 4 → ReadAs s ((short_form <|> long_form) s) (number 0 ∷ number 1 ∷ number 2 ∷ number 3 ∷ []) t
  unfolding long_form
  long_read e =
      let y : ReadAs s (row name_end 4 s) x.list t = rw e at x.stands in
      let short = no_short s (x.others 3 (omega arith) (omega arith) (λ z. omega arith)) in
      rw (number_is 0, number_is 1, number_is 2, number_is 3, ← four x.list (sym x.count_is ∙ e))
      (record { stands = first_fails short_form long_form s short ∙ y.stands; fewer = y.fewer; ends = y.ends })
    where
      four : (l : List ℕ) → length l ≡ 4 → l ≡ get_or l 0 0 ∷ get_or l 1 0 ∷ get_or l 2 0 ∷ get_or l 3 0 ∷ []
      four [] e = absurd (omega arith)
      four (a ∷ []) e = absurd (omega arith)
      four (a ∷ b ∷ []) e = absurd (omega arith)
      four (a ∷ b ∷ c ∷ []) e = absurd (omega arith)
      four (a ∷ b ∷ c ∷ d ∷ []) e = refl
      four (a ∷ b ∷ c ∷ d ∷ f ∷ l) e = absurd (omega arith)

  pub neither_read : ¬ (r.count ≡ 3) → ¬ (r.count ≡ 4) → (short_form <|> long_form) s ≡ fails
  neither_read z y = neither s (x.others 3 (omega arith) (omega arith) (λ e. z (sym e))) (x.others 4 (omega arith) (omega arith) (λ e. y (sym e)))

-- which form is tried first makes no difference
one_form : (s l t : List ℕ) → short_form s ≡ reads l t → long_form s ≡ fails
unfolding short_form long_form
one_form s l t e = one_count name_end 2 3 (omega arith) s (both (row name_end 3) _ s l t e).first

either_order : (s : List ℕ) → (short_form <|> long_form) s ≡ (long_form <|> short_form) s
either_order s = go (short_form s) refl (long_form s) refl
  where
    go : (x : Parsed (List ℕ)) → short_form s ≡ x → (y : Parsed (List ℕ)) → long_form s ≡ y → (short_form <|> long_form) s ≡ (long_form <|> short_form) s
    go fails p fails q = first_fails short_form long_form s p ∙ q ∙ sym p ∙ sym (first_fails long_form short_form s q)
    go fails p (reads l t) q = first_fails short_form long_form s p ∙ q ∙ sym (first_reads long_form short_form s q)
    go (reads l t) p y q = first_reads short_form long_form s p ∙ sym p ∙ sym (first_fails long_form short_form s (one_form s l t p))
