-- What the steps of a call of a book ensure.
use Rattle.std.specs.Prelude.{◌≡◌, Bool, true, false, List, ℕ, ◌*◌, length, take, pos, Option as Optional, Some, None, Result, MatchResult}
use Rattle.std.proofs.Math.Option.{some}
use Rattle.laws.specs.Tests.{ask}
use Rattle.bytes_read.specs.Words.{words}
use Rattle.book_form.specs.Book.{Book, parse}
use Rattle.book_form.specs.Questions.{book_refusal}
use Rattle.book_form.specs.Checked.{checked_book}
use Rattle.book_form.specs.Held.{Holds}
use Rattle.book_form.specs.declared.CheckedBook.{CheckedBook}
use Rattle.way_theory.specs.Ways.{way_cost}
use Rattle.way_theory.specs.FullWays.{full_ways}
use Rattle.way_theory.specs.BookBytes.{entry_count}
use Rattle.flow_enumerate.specs.declared.Place.TheVariants.{Start}
use Rattle.way_enumerate.specs.WayEnumerator.{Enumerates, way_at, At}
use Rattle.way_enumerate.specs.declared.WayEnumerator.{WayEnumerator}
use Rattle.call_reply.specs.declared.Reply.{Reply}
use Rattle.call_reply.specs.Replies.{or_else, HandsItem}
use Rattle.call_reply.specs.ByteLists.{room, listed}
use Rattle.call_way_bytes.specs.Refusals.{Asked}
use Rattle.call_way_bytes.specs.declared.WayRefusal.{WayRefusal}
use Rattle.call_way_bytes.specs.declared.WayRefusal.TheVariants.{StrangeWay}

-- questions 11 to 17, with a list of so many bytes lent for the way
abbrev pub admit_question : List ℕ → ℕ → ℕ
admit_question s bytes = or_else (book_refusal s) (ask (room (entry_count s) bytes) 17 0)

-- past them, the checked book of the bytes, and the book that it holds, whose ways the list has room for
pub record Admitted (s : List ℕ) (bytes : ℕ) (c : CheckedBook) : Type 0 where
  pub checked : Some c ≡ checked_book s
  pub ok : book_refusal s ≡ 0
  pub book : Book
  pub parsed : parse s ≡ some book
  pub holds : Holds book c
  pub fits : room c.count bytes ≡ true

abbrev pub AdmitsWithRoom : List ℕ → ℕ → Result CheckedBook WayRefusal → Type 0
AdmitsWithRoom s bytes r = Asked s (admit_question s bytes) (Admitted s bytes) r

-- the numbers of a list given that has one for each entry
abbrev pub ReadsGiven : CheckedBook → List ℕ → Optional (List ℕ) → Type 0
ReadsGiven c g (Some numbers) = (length g ≡ 4 * c.count) × (take c.count numbers ≡ words g)
ReadsGiven c g None = ¬ (length g ≡ 4 * c.count)

-- question 18: an enumerator on the item that the given bytes are, or the refusal
pub record ResumesWay (c : CheckedBook) (g : List ℕ) (r : Result WayEnumerator WayRefusal) : Type 0 where
  pub each : (b : Book) → Holds b c
      → MatchResult r (λ e. (listed g (full_ways b) ≡ true) × At b Start (some (words g)) e) (λ refusal. (listed g (full_ways b) ≡ false) × (refusal ≡ StrangeWay))

-- question 18, "is the given list E numbers long and a least-cost way of the book?", as a test
pub record IsGiven (c : CheckedBook) (g : List ℕ) (r : Bool) : Type 0 where
  pub each : (b : Book) → Holds b c → r ≡ listed g (full_ways b)

-- the way that an enumerator stands on is written to the list lent for it; without one the reply is the code k
pub record HandsWay (s : WayEnumerator) (k : ℕ) (out : List ℕ) (r : Reply) (out' : List ℕ) : Type 0 where
  pub each : (b : Book) → Enumerates b s → HandsItem (λ w. pos (way_cost b w)) (way_at b s) k out r out'
