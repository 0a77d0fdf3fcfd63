-- The calls of a book: what they take, questions 17 and 18, what they write; counting.
use Rattle.std.specs.Prelude.{◌≡◌, List, ℕ, length}
use Rattle.laws.specs.Tests.{ask}
use Rattle.laws.specs.Rules.{Call, first, next}
use Rattle.laws.specs.Count.{Count, counted}
use Rattle.bytes_read.specs.Words.{encode_words, over}
use Rattle.book_form.specs.Questions.{book_refusal}
use Rattle.call_reply.specs.Replies.{or_else}
use Rattle.call_reply.specs.ByteLists.{room, fair_given}
use Rattle.way_theory.specs.BookBytes.{ways, entry_count}

-- `first` is lent a list for a way; `next` is given one and lent one
abbrev pub BookCall : Type 0
BookCall = Call (List ℕ) (List ℕ) (List ℕ)

abbrev pub book_lent : BookCall → List ℕ
book_lent (first l) = l
book_lent (next g l) = l

-- the number of the first question that a call fails, or 0.
-- 17. "Is the lent list long enough for E numbers?"
-- 18. "is the given list E numbers long and a least-cost way of the book?": it has the bytes of an item (`way_listed`,
-- crates/call_way_bytes/proofs/WayItems.antt, says it in these words)
abbrev pub book_question : List ℕ → BookCall → ℕ
book_question s c =
    or_else (book_refusal s)
    (ask (room (entry_count s) (length (book_lent c))) 17
    (ask (fair_given (ways s) c) 18
    0))

-- "First and next write a way to the first E places of the lent list; later places keep what they held."
abbrev pub WroteWay : List ℕ → List ℕ → List ℕ → Type 0
WroteWay w before after = after ≡ over (encode_words w) before

-- "the length of the list if that is at most the cap, else 'more'"
abbrev pub count_ways_in : List ℕ → ℕ → Count
count_ways_in s cap = counted cap (length (ways s))
