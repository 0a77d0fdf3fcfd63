-- The form of a book as it stood before request 5 of 02, with short forms alone. What kept it is read as it was, each entry on one instrument.
use Prim.Native.Nat.{ℕ}
use mathlib.Core.Path.{◌≡◌, refl, ap, subst, ◌∙◌}
use mathlib.Core.Option.{Option, some}
use mathlib.Core.List.{List, [], ◌∷◌}
use Rattle.laws.specs.Members.{Every, none_some}
use Rattle.text_read.specs.Reader.{Parsed, fails, reads, Reader, ◌>>=◌, ◌>>◌, ◌<|>◌, give, remaining, text, word, many}
use Rattle.text_read.specs.Heads.{bytes, line_end, entry_head}
use Rattle.text_read.proofs.Leaves.{reads_same, both, many_read}
use Rattle.text_read.proofs.Sequence.{then_fails}
use Rattle.text_read.proofs.Alternatives.{first_reads}
use Rattle.text_read.proofs.Rows.{not_at_end}
use Rattle.text_read.proofs.Wider.{Wider, then_wider, many_wider}
use Rattle.book_lines.specs.Lines.{move, Entry, short_form, long_form, both_same, entry_from, entry}
use Rattle.book_lines.proofs.EntryNames.{entry_named}
use Rattle.book_form.specs.Book.{Book, opening, book, whole, parse}

-- "`(entry (name W) I S F)`"
unfoldable pub old_entry : Reader Entry
old_entry = do
  text entry_head
  left ← remaining
  w ← word
  ns ← short_form
  give (entry_from w left ns)

-- "Order: `(book`, `(players P)`, `(fee C)`, any count of `(move A B T C)`, any count of `(entry (name W) I S F)`, then `)`"
unfoldable pub old_book : Reader Book
old_book = do
  o ← opening
  ms ← many move
  es ← many old_entry
  text line_end
  give (record { players = o.0; fee = o.1; moves = ms; entries = es })

unfoldable pub old_parse : List ℕ → Option Book
old_parse s = whole (old_book s)

-- "The short form means that both are the same."
abbrev pub OneInstrument : Entry → Type 0
OneInstrument e = e.arrives ≡ e.leaves

entry_wider : Wider old_entry entry
unfolding old_entry entry ◌>>◌
entry_wider =
    then_wider (text entry_head) (text entry_head) _ _ (λ s a t e. e)
    (λ _. then_wider remaining remaining _ _ (λ s a t e. e)
    (λ left. then_wider word word _ _ (λ s a t e. e)
    (λ w. then_wider short_form (short_form <|> long_form) _ _ (λ s a t e. first_reads short_form long_form s e) (λ ns s a t e. e))))

-- no entry stands where the book is closed
closed : (s : List ℕ) {a : Unit {0}} {t : List ℕ} → text line_end s ≡ reads a t → entry s ≡ fails
unfolding entry bytes ◌>>◌
closed s e = then_fails (text entry_head) _ s (not_at_end 40 _ s refl e)

book_wider : Wider old_book book
unfolding old_book book ◌>>◌
book_wider =
    then_wider opening opening _ _ (λ s a t e. e)
    (λ o. then_wider (many move) (many move) _ _ (λ s a t e. e)
    (λ ms. many_wider old_entry entry entry_wider _ (λ es s b t e. closed s (both (text line_end) _ s b t e).first)))

-- each entry that was read is on one instrument
one_instrument : (s : List ℕ) (e : Entry) (t : List ℕ) → old_entry s ≡ reads e t → OneInstrument e
unfolding old_entry short_form give ◌>>◌
one_instrument s e t h =
    let a = both (text entry_head) _ s e t h in
    let b = both remaining _ a.rest e t a.second in
    let c = both word _ b.rest e t b.second in
    let d = both short_form _ c.rest e t c.second in
    let f = both _ _ c.rest d.value d.rest d.first in
    let same = (reads_same _ e d.rest t d.second).0 in
    let twice = (reads_same (both_same f.value) d.value f.rest d.rest f.second).0 in
    subst OneInstrument (ap (entry_from c.value b.value) twice ∙ same) refl

book_short : (s : List ℕ) (b : Book) (t : List ℕ) → old_book s ≡ reads b t → Every OneInstrument b.entries
unfolding old_book give ◌>>◌
book_short s b t h =
    let o = both opening _ s b t h in
    let m = both (many move) _ o.rest b t o.second in
    let n = both (many old_entry) _ m.rest b t m.second in
    let x = both (text line_end) _ n.rest b t n.second in
    let same = (reads_same _ b x.rest t x.second).0 in
    let l = (many_read (λ _. OneInstrument) old_entry (λ s n e z. z) (λ s e t k. (one_instrument s e t k, (entry_named s e t (entry_wider s e t k)).1)) m.rest n.value n.rest n.first).0 in
    subst (Every OneInstrument) (ap (λ (k : Book). k.entries) same) l

pub read_before : (s : List ℕ) (b : Book) → old_parse s ≡ some b → (parse s ≡ some b) × Every OneInstrument b.entries
unfolding old_parse parse whole
read_before s b e = go (old_book s) refl e
  where
    go : (x : Parsed Book) → old_book s ≡ x → whole x ≡ some b → (whole (book s) ≡ some b) × Every OneInstrument b.entries
    go fails h q = absurd (none_some b q)
    go (reads c []) h q =
        let w : c ≡ b = cc in
        (rw (book_wider s c [] h) q, subst (λ k. Every OneInstrument k.entries) w (book_short s c [] h))
    go (reads c (y ∷ u)) h q = absurd (none_some b q)
