-- What the calls of a book are answered from, by its bytes. "The book or network is the same throughout".
use Rattle.std.specs.Prelude.{◌≡◌, true, List, ℕ, ◌*◌, length, take}
use Rattle.laws.specs.Equality.{same_list}
use Rattle.laws.specs.Rules.{Rules}
use Rattle.bytes_read.specs.Words.{encode_words}
use Rattle.book_form.specs.Questions.{book_refusal}
use Rattle.book_form.specs.LineTold.{line_told}
use Rattle.way_theory.specs.BookBytes.{ways, entry_count, way_cost_in}
use Rattle.call_reply.specs.ByteLists.{room}
use Rattle.call_book.specs.BookCalls.{book_lent, book_question, WroteWay}

abbrev pub book_rules : List ℕ → Rules (List ℕ) (List ℕ) (List ℕ) (List ℕ) (List ℕ)
book_rules s = record {
  -- "of all lists of E numbers from 0 to E, in the order of ways, keep the least-cost ways"
  full_list = ways s;
  -- "A call that fails a question: the number of the first it fails"
  question = book_question s;
  -- "A book is accepted if it passes 11 to 16"; the lent list passes 17
  Admits = λ c. (book_refusal s ≡ 0) × (room (entry_count s) (length (book_lent c)) ≡ true);
  -- 02, request 3: "Refusals 13, 14 and 15 now carry the lowest line number that fails that question."
  line_told = line_told s;
  -- "The cost is fee × openings plus the joins."
  cost = way_cost_in s;
  lent = book_lent;
  -- "First and next write a way to the first E places of the lent list; later places keep what they held."
  Wrote = WroteWay;
  -- "four a number": a way is 4 E bytes, the first of the lent list
  copy = encode_words;
  taken = λ l. take (4 * entry_count s) l;
  same = same_list;
}
