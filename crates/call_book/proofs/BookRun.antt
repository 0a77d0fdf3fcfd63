-- Demand 3 of a book: its calls are read from its full list.
use mathlib.Core.Path.{◌≡◌, refl, ap, ◌∙◌}
use mathlib.Core.List.{List}
use Prim.Native.Nat.{ℕ, ◌*◌}
use lib.ListN.{length, take}
use Rattle.laws.specs.After.{Apart}
use Rattle.laws.specs.Run.{Readable}
use Rattle.bytes_read.specs.Words.{encode_words}
use Rattle.book_form.specs.Questions.{book_refusal}
use Rattle.way_network.proofs.Made.{held}
use Rattle.way_theory.specs.BookBytes.{ways, entry_count}
use Rattle.call_reply.specs.ByteLists.{room}
use Rattle.call_book.specs.BookCalls.{BookCall, book_lent, book_question}
use Rattle.call_book.specs.BookRules.{book_rules}
use Rattle.call_reply.proofs.Items.{FullOf, member_listed, items_apart, copy_written}
use Rattle.call_way_bytes.proofs.WayItems.{full_ways_lem}
use Rattle.call_reply.proofs.Turns.{first_passed, strange_refused}

module _ (s : List ℕ) where
  -- a call that is answered is one of an accepted book
  pub accepts : (c : BookCall) → book_question s c ≡ 0 → book_refusal s ≡ 0
  accepts c e = first_passed (book_refusal s) _ e

  pub full : book_refusal s ≡ 0 → FullOf (entry_count s) (ways s)
  full ok = let (b, c, p, e, h) = held s ok in rw p (full_ways_lem b h.limits)

  pub ways_apart : book_refusal s ≡ 0 → Apart encode_words (ways s)
  ways_apart ok = items_apart (entry_count s) (ways s) (full ok)

  pub book_readable : Readable (book_rules s)
  book_readable = record {
    apart = λ c e. ways_apart (accepts c e);
    strange = λ g b h. strange_refused (book_refusal s) (room (entry_count s) (length b)) 16 17 (ways s) g h;
    starts = λ l h. rw (h.0, h.1);
    goes_on = λ v b m h. rw (h.0, h.1, member_listed (encode_words v) v (ways s) m refl);
    takes = λ c v l e m w. ap (take (4 * entry_count s)) w ∙ copy_written (entry_count s) v (book_lent c) ((full (accepts c e)).long v m);
  }
