-- Document 01, "The listing": the text that `ways` prints of a book, and what a call of the listing answers.
use Rattle.std.specs.Prelude.{◌≡◌, List, [], ◌∷◌, ℕ, zero, suc, ◌≤◌, length, MatchOption}
use Rattle.book_form.specs.Book.{parse}
use Rattle.book_form.specs.Questions.{book_refusal}
use Rattle.laws.specs.Appended.{Appended}
use Rattle.text_listing.specs.Lines.{refused_line}
use Rattle.text_write.specs.Fit.{fit}
use Rattle.way_list.specs.Room.{listing_room}
use Rattle.way_list.specs.WayListing.{list_ways}
use Rattle.way_theory.specs.BookBytes.{ways, way_cost_or_zero}
use Rattle.call_reply.specs.declared.Reply.{Reply}
use Rattle.call_reply.specs.Replies.{or_else, if_ok, refused_at, value_reply}
use Rattle.book_form.specs.LineTold.{line_told}
use Rattle.call_listing.specs.declared.Written.{Written}

-- "for a refusal `(refused R)`"
abbrev pub or_refused_line : ℕ → List ℕ → List ℕ
or_refused_line zero text = text
or_refused_line (suc n) text = refused_line (suc n)

-- the text that `ways` prints of the bytes s
abbrev pub listing : List ℕ → List ℕ
listing s = or_refused_line (book_refusal s) (list_ways (way_cost_or_zero (parse s)) (ways s))

-- the text that `ways` prints: its length, and the lent list at exit
pub record Printed (s before after : List ℕ) (r : ℕ) : Type 0 where
  pub long : r ≡ length (listing s)
  pub few : r ≤ listing_room
  pub text : after ≡ fit (listing s) before

-- "A 'no' gives its number." Without a way 100, which is "none", else 0.
abbrev pub none_code : List (List ℕ) → ℕ
none_code [] = 100
none_code (w ∷ l) = 0

abbrev pub listing_code : List ℕ → ℕ
listing_code s = or_else (book_refusal s) (none_code (ways s))

-- a call of the listing: the reply, and the lent list at exit
pub record BookListing (s before : List ℕ) (r : Reply) (after : List ℕ) : Type 0 where
  pub reply_is : r ≡ value_reply (listing_code s) (line_told s (book_refusal s)) (length (listing s))
  pub text_is : after ≡ if_ok (listing_code s) (fit (listing s) before) before
  pub few : length (listing s) ≤ listing_room

-- what both take: the text that `ways` prints at the front of a list, and the reply where it is no listing of ways
pub record WritesListing (s before : List ℕ) (w : Written) (after : List ℕ) : Type 0 where
  pub text : Appended before 0 (listing s) after w.len
  pub refused_is : MatchOption w.refused (listing_code s ≡ 0) (λ reply. ¬ (listing_code s ≡ 0) × (reply ≡ refused_at (listing_code s) (line_told s (book_refusal s))))
