-- The first lines of a book, the last one, and the whole.
use Prim.Native.Nat.{ℕ}
use mathlib.Core.Path.{◌≡◌, refl, ap, ◌∙◌}
use mathlib.Core.Bool.{Bool, true, false, cond, ◌&&◌}
use mathlib.Core.Option.{none, some}
use mathlib.Core.List.{List, [], ◌∷◌}
use lib.ListN.{length, drop, get_or}
use lib.Dec.{eqb}
use lib.Pointwise.{pointwise}
use native.Mathlib.Omega.{arith}
use Rattle.text_read.specs.Reader.{Parsed, then_read, ◌>>=◌, ◌>>◌, give, begins, text, row, fails, reads, ReadAs}
use Rattle.text_read.specs.Heads.{bytes, line_end, book_line, players_head, fee_head}
use Rattle.book_form.specs.Book.{opening, Book, book, whole, parse}
use Rattle.book_check.specs.Closing.{Closing}
use Rattle.text_read.proofs.Sequence.{From, begin, next_read, stops, all_read}

-- the first lines, one behind the other
module _ (s : List ℕ) where
  pub no_book : text book_line s ≡ fails → opening s ≡ fails
  unfolding opening ◌>>◌
  no_book e = stops _ _ (begin opening s) e

  module _ {t : List ℕ} (r : ReadAs s (text book_line s) tt t) where
    headed : From (opening s) (row players_head 1 >>= (λ ps. row fee_head 1 >>= (λ cs. give (get_or ps 0 0, get_or cs 0 0)))) s t
    unfolding opening ◌>>◌
    headed = next_read _ _ (begin opening s) r

    pub no_players : row players_head 1 t ≡ fails → opening s ≡ fails
    no_players e = stops (row players_head 1) _ headed e

    module _ {p u : List ℕ} (o : ReadAs t (row players_head 1 t) p u) where
      pub no_fee : row fee_head 1 u ≡ fails → opening s ≡ fails
      no_fee e = stops (row fee_head 1) _ (next_read (row players_head 1) _ headed o) e

      pub opening_read : {c v : List ℕ} → ReadAs u (row fee_head 1 u) c v → ReadAs s (opening s) (get_or p 0 0, get_or c 0 0) v
      opening_read f =
          all_read (next_read (row fee_head 1) _ (next_read (row players_head 1) _ headed o) f) (omega (arith, r.fewer, o.fewer, f.fewer))

-- the last line
read_if : Bool → List ℕ → Parsed (Unit {0})
read_if true t = reads tt t
read_if false t = fails

nothing_more : (b : Book) (t : List ℕ) (p q : Bool)
    → whole (then_read (read_if (p && (q && true)) t) (λ _. give b)) ≡ cond (p && (q && pointwise eqb t [])) (some b) none
unfolding whole give then_read read_if
nothing_more b [] true true = refl
nothing_more b (z ∷ t) true true = refl
nothing_more b t true false = refl
nothing_more b t false q = refl

text_if : (w s : List ℕ) → text w s ≡ read_if (begins w s) (drop (length w) s)
unfolding text read_if
text_if w s = go (begins w s) refl
  where
    go : (x : Bool) → begins w s ≡ x → text w s ≡ read_if x (drop (length w) s)
    go true e = rw (text, e)
    go false e = rw (text, e)

-- what `s` holds where it is to be the last line
last_read : (b : Book) (s : List ℕ) → whole (then_read (read_if (begins line_end s) (drop (length line_end) s)) (λ _. give b)) ≡ cond (pointwise eqb s line_end) (some b) none
unfolding bytes begins
last_read b [] = nothing_more b [] false false
last_read b (x ∷ []) = nothing_more b [] (eqb x 41) false
last_read b (x ∷ y ∷ t) = nothing_more b t (eqb x 41) (eqb y 10)

pub closing_is : (s : List ℕ) → Closing s (pointwise eqb s line_end)
unfolding ◌>>=◌
closing_is s = record { is = λ b. ap (λ x. whole (then_read x (λ _. give b))) (text_if line_end s) ∙ last_read b s }

-- the whole
pub parse_fails : (s : List ℕ) → book s ≡ fails → parse s ≡ none
unfolding parse whole
parse_fails s e = rw e

module _ (s t : List ℕ) (b : Book) (r : Bool) (f : From (book s) (text line_end >>= (λ _. give b)) s t) (c : Closing t r) where
  parse_is : parse s ≡ cond r (some b) none
  unfolding parse
  parse_is = ap whole f.is ∙ c.is b

  pub parse_closed : r ≡ true → parse s ≡ some b
  parse_closed e = parse_is ∙ rw e

  pub parse_open : r ≡ false → parse s ≡ none
  parse_open e = parse_is ∙ rw e
