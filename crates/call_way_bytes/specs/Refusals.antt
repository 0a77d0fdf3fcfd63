-- The refusals of a call of a book, by the numbers of the questions that fail and the lines that are told.
use Rattle.std.specs.Prelude.{◌≡◌, List, ℕ, Result, MatchResult}
use Rattle.book_form.specs.Questions as book
use Rattle.book_form.specs.LineTold.{line_told}
use Rattle.call_way_bytes.specs.declared.WayRefusal.{WayRefusal}
use Rattle.call_way_bytes.specs.declared.WayRefusal.TheVariants.{Book, Room, StrangeWay, Text}

abbrev pub number_of : WayRefusal → ℕ
number_of (Book refusal) = book.question_of refusal
number_of Room = 17
number_of StrangeWay = 18
number_of Text = 21

abbrev pub line_of : WayRefusal → ℕ
line_of (Book refusal) = book.line_of refusal
line_of Room = 0
line_of StrangeWay = 0
line_of Text = 0

-- it is the question q that refuses the bytes s, and its line is told
abbrev pub Refuses : List ℕ → ℕ → WayRefusal → Type 0
Refuses s q refusal = (q ≡ number_of refusal) × (line_of refusal ≡ line_told s q)

-- questions were put to the bytes s, and q is the number of the first that fails, or 0: with none P holds of what is handed on
abbrev pub Asked : {A : Type 0} → List ℕ → ℕ → (A → Type 0) → Result A WayRefusal → Type 0
Asked s q P r = MatchResult r (λ x. (q ≡ 0) × P x) (Refuses s q)
