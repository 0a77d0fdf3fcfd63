-- What is told with each question.
use mathlib.Core.Path.{◌≡◌, refl}
use mathlib.Core.Bool.{Bool, true, false}
use mathlib.Core.List.{List, []}
use mathlib.Core.Option.{Option, none, some}
use Prim.Native.Nat.{ℕ, ◌≤◌}
use native.Mathlib.Omega.{arith}
use lib.ListN.{length}
use lib.Dec.{leb}
use Rattle.laws.specs.Tests.{ask}
use Rattle.book_lines.specs.Questions.{moves, entries, all_pass, first_bad, LowestFailing}
use Rattle.book_lines.proofs.FirstBad.{first_bad_lowest}
use Rattle.book_form.specs.Book.{Book, parse}
use Rattle.book_form.specs.Questions.{header, book_refusal}
use Rattle.book_form.specs.LineTold.{lines_asked, first_bad_line, first_bad_in, line_told}

-- a question that is put to no line tells none
pub none_asked : (b : Book) (question : ℕ) → (lines_asked b question).1 ≡ [] → first_bad_line b question ≡ 0
unfolding first_bad
none_asked b question e = rw e

pub untold : (s : List ℕ) (question : ℕ) → ((b : Book) → (lines_asked b question).1 ≡ []) → line_told s question ≡ 0
untold s question h = go (parse s)
  where
    go : (o : Option Book) → first_bad_in o question ≡ 0
    go none = refl
    go (some b) = none_asked b question (h b)

-- "the lowest line number that fails that question": the line told with 13, 14 and 15 fails it, and no lower one does
module _ (b : Book) where
  lowest : (t-11 t-13 t-14 t-15 t-16 : Bool) → all_pass (header b.players b.fee) ≡ t-13 → all_pass (moves [] b.moves) ≡ t-14 → all_pass (entries b.entries) ≡ t-15
      → (let question = ask t-11 11 (ask t-13 13 (ask t-14 14 (ask t-15 15 (ask t-16 16 0)))) in
      13 ≤ question → question ≤ 15 → LowestFailing (lines_asked b question).0 (lines_asked b question).1 (first_bad_line b question))
  lowest true false y z t p q r from to = first_bad_lowest 2 _ p
  lowest true true false z t p q r from to = first_bad_lowest 4 _ q
  lowest true true true false t p q r from to = first_bad_lowest _ _ r
  lowest true true true true true p q r from to = absurd (omega arith)
  lowest true true true true false p q r from to = absurd (omega arith)
  lowest false x y z t p q r from to = absurd (omega arith)

  pub told_lowest : (s : List ℕ) → parse s ≡ some b → (let question = book_refusal s in 13 ≤ question → question ≤ 15
      → LowestFailing (lines_asked b question).0 (lines_asked b question).1 (line_told s question))
  told_lowest s e = rw e (lowest (leb (length s) 16384) _ _ _ (leb (length b.entries) 28) refl refl refl)
