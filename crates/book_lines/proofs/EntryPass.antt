-- The pass over the lines of entries.
use Prim.Native.Nat.{ℕ, ◌+◌, ◌-◌, ◌<◌, ◌≤◌}
use mathlib.Core.Path.{◌≡◌, refl, sym, ap, ◌∙◌}
use mathlib.Core.Bool.{Bool, true, false}
use mathlib.Core.List.{List, [], ◌∷◌, ◌++◌, map}
use native.Mathlib.Omega.{arith}
use lib.ListN.{length, length-append, length-map, length-take, length-drop, take, drop, set}
use lib.Seq.{length-take-le, take_all, take-append-le}
use lib.Dec.{leb}
use borrow.Author.Tests.{leb-true, leb-false}
use Rattle.book_lines.specs.declared.entries.EntryLine.{EntryLine}
use Rattle.book_lines.specs.declared.entries.EntryNumbers.{EntryNumbers}
use Rattle.book_lines.specs.declared.entries.BookEntry.{BookEntry}
use Rattle.std.specs.Prelude.{Option, None}
use Rattle.text_read.specs.Reader.{fails, ◌>>=◌, ◌>>◌, ◌<|>◌, give, text, word, ReadAs}
use Rattle.text_read.specs.Heads.{entry_head}
use Rattle.book_lines.specs.Lines.{Entry, short_form, long_form, entry_from, entry}
use Rattle.book_lines.specs.Questions.{fair_entry, entries, first_bad}
use Rattle.book_lines.specs.Columns.{book_entry, blank_entry, entries_in}
use Rattle.book_lines.specs.Passes.{first_bad_after, numbers_of, entry_of, EntryRead, fair_line, told}
use Rattle.laws.specs.Padded.{padded_more}
use Rattle.laws.specs.Snoc.{map_more}
use Rattle.text_read.proofs.Sequence.{From, begin, next_read, skip, stops, all_read}
use Rattle.book_lines.proofs.EntryNames.{word_is}
use Rattle.book_lines.proofs.FirstBad.{first_bad_more}

-- The line of an entry.
module _ (s : List ℕ) where
  -- what is to be read behind its head, and behind its name
  entry_headed : {t : List ℕ} → ReadAs s (text entry_head s) tt t
      → From (entry s) (word >>= (λ w. (short_form <|> long_form) >>= (λ ns. give (entry_from w (length t) ns)))) s t
  unfolding entry ◌>>◌
  entry_headed r = skip _ (next_read _ _ (begin entry s) r)

  pub no_head : text entry_head s ≡ fails → entry s ≡ fails
  unfolding entry ◌>>◌
  no_head e = stops _ _ (begin entry s) e

  module _ {t : List ℕ} (r : ReadAs s (text entry_head s) tt t) where
    pub no_name : word t ≡ fails → entry s ≡ fails
    no_name e = stops word _ (entry_headed r) e

    module _ {w u : List ℕ} (o : ReadAs t (word t) w u) where
      named : From (entry s) ((short_form <|> long_form) >>= (λ ns. give (entry_from w (length t) ns))) s u
      named = next_read word _ (entry_headed r) o

      pub no_form : (short_form <|> long_form) u ≡ fails → entry s ≡ fails
      no_form e = stops (short_form <|> long_form) _ named e

      pub entry_read : (n : EntryNumbers) {v : List ℕ} → ReadAs u ((short_form <|> long_form) u) (numbers_of n) v
          → EntryRead s (record { left = length t; length = length w; arrives = n.arrives; leaves = n.leaves; start = n.start; finish = n.finish }) v
      entry_read n {v} f =
          let (_, _, is) = word_is t w u o.stands in
          let place : drop (length s - length t) s ≡ t = sym r.ends in
          record {
            right = rw (place, is) (all_read (next_read (short_form <|> long_form) _ named f) (omega (arith, r.fewer, o.fewer, f.fewer)));
            begins = omega (arith, r.fewer);
            ends = omega (arith, ap length is, length-take (length w) t);
          }

name_length : (t : List ℕ) (r : EntryLine) → {u : List ℕ} → EntryRead t r u → length (entry_of t r).name ≡ r.length
name_length t r e = length-take-le r.length (drop (length t - r.left) t) (rw length-drop (omega (arith, e.begins, e.ends)))

-- The entry of a line.
told_is : (total : ℕ) (t : List ℕ) (r : EntryLine) → {u : List ℕ} → EntryRead t r u → told total r ≡ book_entry total (entry_of t r)
told_is total t r e = rw (name_length t r e)

-- The array with one more entry.
entries_more : (total : ℕ) (es : List Entry) (e : Entry) (v : BookEntry) → length es < 28 → v ≡ book_entry total e
    → set (entries_in total es) (length es) v ≡ entries_in total (es ++ (e ∷ []))
entries_more total es e v h q =
    rw (map_more (book_entry total) es e, q, ← length-map es (book_entry total)) (padded_more 28 blank_entry (map (book_entry total) es) (book_entry total e) (rw length-map h))

-- What the loop of `read_entries` knows after the lines `done`.
pub record KnownEntries (first total : ℕ) (done : List Entry) (count line : ℕ) (bad : Option ℕ) (a : List BookEntry) : Type 0 where
  pub count_is : count ≡ length done
  pub line_is : line ≡ first + length done
  pub bad_is : bad ≡ first_bad first (entries done)
  pub entries_are : a ≡ entries_in total (take 28 done)

pub known_entries_none : (first total : ℕ) → KnownEntries first total [] 0 first None (entries_in total [])
unfolding first_bad
known_entries_none first total = record { count_is = refl; line_is = omega arith; bad_is = refl; entries_are = refl }

pub known_entries_more : (first total : ℕ) (done : List Entry) (count line : ℕ) (bad : Option ℕ) (a a' : List BookEntry) (t : List ℕ) (r : EntryLine)
    → KnownEntries first total done count line bad a
    → (count < 28 → a' ≡ set a count (told total r)) → (28 ≤ count → a' ≡ a)
    → {u : List ℕ} → EntryRead t r u
    → KnownEntries first total (done ++ (entry_of t r ∷ [])) (count + 1) (line + 1) (first_bad_after bad (fair_line r) line) a'
known_entries_more first total done count line bad a a' t r k put keep e =
    record {
      count_is = omega (arith, k.count_is, longer);
      line_is = omega (arith, k.line_is, longer);
      bad_is = first_bad_more first (entries done) (fair_line r) (fair_entry (entry_of t r)) k.bad_is (omega (arith, k.line_is, length-map done fair_entry)) (λ _. refl) ∙ ap (first_bad first) (sym (map_more fair_entry done (entry_of t r)));
      entries_are = go (leb 28 count) refl;
    }
  where
    longer : length (done ++ (entry_of t r ∷ [])) ≡ length done + 1
    longer = length-append done (entry_of t r ∷ [])

    go : (x : Bool) → leb 28 count ≡ x → a' ≡ entries_in total (take 28 (done ++ (entry_of t r ∷ [])))
    go true q =
        let h = leb-true 28 count q in
        keep h ∙ k.entries_are ∙ ap (entries_in total) (sym (take-append-le 28 done (entry_of t r ∷ []) (omega (arith, k.count_is))))
    go false q =
        let h = leb-false 28 count q in
        let few : length (done ++ (entry_of t r ∷ [])) ≤ 28 = omega (arith, k.count_is, longer) in
        put h
        ∙ rw (k.entries_are, take_all 28 done (omega (arith, longer)), k.count_is) (entries_more total done (entry_of t r) (told total r) (omega (arith, longer)) (told_is total t r e))
        ∙ ap (entries_in total) (sym (take_all 28 (done ++ (entry_of t r ∷ [])) few))
