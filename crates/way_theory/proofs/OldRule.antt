-- The rule as it stood before request 1 of 02: question 14, and who may follow whom. A book without a move from an instrument to itself, and of
-- short forms alone, is judged as it was, and lists what it listed, at the cost that it had.
use mathlib.Core.Path.{◌≡◌, refl, sym, ap, ◌∙◌}
use mathlib.Core.Bool.{Bool, true, false, not, cond, ◌&&◌}
use mathlib.Core.Option.{Option, none, some}
use mathlib.Core.List.{List, [], ◌∷◌, ◌++◌}
use Prim.Native.Nat.{ℕ}
use lib.Dec.{eqb}
use borrow.Author.Tests.{eqb-true, eqb-false, ne_eqb, not-true}
use Rattle.laws.specs.Tests.{and_true}
use Rattle.laws.specs.Members.{Every}
use Rattle.book_lines.specs.declared.moves.Move.{Move}
use Rattle.book_lines.specs.Questions.{move_of, stands, moves, all_pass}
use Rattle.book_form.specs.Book.{Book}
use Rattle.way_theory.specs.Follow.{entry_at, stay, line_or, link, follow_cost}
use Rattle.way_theory.proofs.ByRule.{Rule, SameWays, same_ways}
use Rattle.way_theory.proofs.ShortForms.{instrument, follow_by, OneInstrumentEach, follow_before}

-- 14: "In each move, are A and B 1 to 16 and different, T and C at most 1,000,000, and the pair A, B on no earlier line?"
abbrev pub old_stands : List Move → Move → Bool
old_stands earlier m = not (eqb m.source m.target) && stands earlier m

unfoldable pub old_moves : List Move → List Move → List Bool
old_moves earlier [] = []
old_moves earlier (m ∷ later) = old_stands earlier m ∷ old_moves (earlier ++ (m ∷ [])) later

-- "Entry j may follow i (i ≠ j) if both are on one instrument and F of i ≤ S of j, at cost 0; or if a move leads from i's instrument
-- to j's and F of i + T ≤ S of j, at cost C. A missing move means it can't."
abbrev pub old_link : List Move → ℕ → ℕ → Option Move
old_link ms a b = cond (eqb a b) (some stay) (move_of ms a b)

abbrev pub old_may_follow : Book → Rule
old_may_follow book = follow_by (old_link book.moves) book

-- no line is a move from an instrument to itself
abbrev pub NoneStays : List Move → Type 0
NoneStays ms = Every (λ m. ¬ (m.source ≡ m.target)) ms

pub record AsBefore (book : Book) : Type 0 where
  -- each line of moves passes 14 if it passed
  pub judged : moves [] book.moves ≡ old_moves [] book.moves
  pub ways : SameWays (old_may_follow book) book

same_answers : (earlier ms : List Move) → NoneStays ms → moves earlier ms ≡ old_moves earlier ms
unfolding moves old_moves
same_answers earlier [] h = refl
same_answers earlier (m ∷ ms) h = rw (ne_eqb m.source m.target h.0) (ap (λ l. stands earlier m ∷ l) (same_answers (earlier ++ (m ∷ [])) ms h.1))

no_line_lem : (ms : List Move) (a b : ℕ) → NoneStays ms → a ≡ b → move_of ms a b ≡ none
no_line_lem [] a b h e = refl
no_line_lem (m ∷ ms) a b h e = go (eqb m.source a && eqb m.target b) refl (no_line_lem ms a b h.1 e)
  where
    go : (x : Bool) → (eqb m.source a && eqb m.target b) ≡ x → move_of ms a b ≡ none → cond x (some m) (move_of ms a b) ≡ none
    go false q n = n
    go true q n =
        let x = and_true (eqb m.source a) (eqb m.target b) q in
        absurd (h.0 (eqb-true m.source a x.0 ∙ e ∙ sym (eqb-true m.target b x.1)))

same_link : (ms : List Move) (a b : ℕ) → NoneStays ms → link ms a b ≡ old_link ms a b
same_link ms a b h = go (eqb a b) refl
  where
    alone : (o : Option Move) → line_or o none ≡ o
    alone none = refl
    alone (some m) = refl

    go : (x : Bool) → eqb a b ≡ x → line_or (move_of ms a b) (cond x (some stay) none) ≡ cond x (some stay) (move_of ms a b)
    go true q = rw (no_line_lem ms a b h (eqb-true a b q))
    go false q = alone (move_of ms a b)

module _ (book : Book) (one : OneInstrumentEach book) where
  same_follow : NoneStays book.moves → (i j : ℕ) → follow_cost book i j ≡ old_may_follow book i j
  same_follow h i j = follow_before book one i j ∙ rw (same_link book.moves (instrument (entry_at book i)) (instrument (entry_at book j)) h)

  pub as_before : NoneStays book.moves → AsBefore book
  as_before h = record { judged = same_answers [] book.moves h; ways = same_ways _ book (same_follow h) }

-- a book that passed 14 has no such move, so that it passes, and lists what it listed
none_stayed : (earlier ms : List Move) → all_pass (old_moves earlier ms) ≡ true → NoneStays ms
unfolding old_moves all_pass
none_stayed earlier [] a = tt
none_stayed earlier (m ∷ ms) a =
    let x = and_true (old_stands earlier m) (all_pass (old_moves (earlier ++ (m ∷ [])) ms)) a in
    let y = and_true (not (eqb m.source m.target)) (stands earlier m) x.0 in
    (eqb-false _ _ (not-true _ y.0), none_stayed (earlier ++ (m ∷ [])) ms x.1)

pub passed_before : (book : Book) → OneInstrumentEach book → all_pass (old_moves [] book.moves) ≡ true → AsBefore book
passed_before book one a = as_before book one (none_stayed [] book.moves a)
