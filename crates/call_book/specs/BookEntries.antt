-- What each entry of a book promises, refused calls included: s is the book, l the list lent for a way, g the list given, r the reply; l' is the lent
-- list as the call leaves it.
use Rattle.std.specs.Prelude.{◌≡◌, List, ℕ, Result, MatchResult}
use Rattle.laws.specs.Rules.{first, next}
use Rattle.laws.specs.Run.{Answers}
use Rattle.book_form.specs.Questions.{book_refusal}
use Rattle.call_reply.specs.declared.Reply.{Reply}
use Rattle.call_reply.specs.Replies.{sees, count_unless}
use Rattle.book_form.specs.LineTold.{line_told}
use Rattle.call_way_bytes.specs.Refusals.{Refuses}
use Rattle.call_way_bytes.specs.declared.WayRefusal.{WayRefusal}
use Rattle.call_book.specs.BookCalls.{BookCall, book_lent, book_question, count_ways_in}
use Rattle.call_book.specs.BookRules.{book_rules}

-- the first way
abbrev pub BookFirst : (s l : List ℕ) → Reply → List ℕ → Type 0
BookFirst s l r l' = Answers (book_rules s) (first l) (sees r l')

-- the way after the one given
abbrev pub BookNext : (s g l : List ℕ) → Reply → List ℕ → Type 0
BookNext s g l r l' = Answers (book_rules s) (next g l) (sees r l')

-- how many ways there are, up to the cap
abbrev pub BookCount : (s : List ℕ) → ℕ → Reply → Type 0
BookCount s cap r = r ≡ count_unless (book_refusal s) (line_told s (book_refusal s)) (count_ways_in s cap)

-- a call before its refusals are replies: answered, or the question that it fails, with no lent list changed; l is the lent list as the call leaves it
abbrev pub Answered : List ℕ → BookCall → List ℕ → Result Reply WayRefusal → Type 0
Answered s c l r = MatchResult r (λ reply. Answers (book_rules s) c (sees reply l)) (λ refusal. Refuses s (book_question s c) refusal × (l ≡ book_lent c))
