-- The rule as it stood before request 5 of 02, when an entry was on one instrument: question 15, and who may follow whom. What kept the form
-- of that time is read and judged as it was, and lists what it listed, at the cost that it had.
use mathlib.Core.Path.{◌≡◌, refl, sym, ap₂, ◌∙◌}
use mathlib.Core.Bool.{Bool, true, false, cond, ◌&&◌}
use mathlib.Core.Option.{Option, none, some}
use mathlib.Core.List.{List, [], ◌∷◌, map}
use Prim.Native.Nat.{ℕ, zero, suc, ◌-◌}
use lib.Dec.{eqb, leb, ltb}
use lib.ListN.{get_or}
use Rattle.laws.specs.Members.{Every}
use Rattle.book_lines.specs.declared.moves.Move.{Move}
use Rattle.book_lines.specs.Lines.{Entry}
use Rattle.book_lines.specs.Questions.{is_instrument, entries}
use Rattle.book_lines.specs.Columns.{nobody}
use Rattle.book_form.specs.Book.{Book, parse}
use Rattle.book_form.proofs.ShortForms.{old_parse, OneInstrument, read_before}
use Rattle.way_theory.specs.Follow.{entry_at, link, road, follow_cost}
use Rattle.way_theory.proofs.ByRule.{Rule, SameWays, same_ways}
use Rattle.way_theory.proofs.Spare.{old_cost_in_time, cost_as_before}

-- the one instrument of an entry
abbrev pub instrument : Entry → ℕ
instrument e = e.arrives

-- 15: "In each entry, is I 1 to 16 and S < F ≤ 1,000,000?"
abbrev pub old_fair_entry : Entry → Bool
old_fair_entry e = is_instrument (instrument e) && ltb e.start e.finish && leb e.finish 1000000

-- who may follow whom, by how a player goes from i's instrument to j's
abbrev pub follow_by : (ℕ → ℕ → Option Move) → Book → Rule
follow_by link book i j =
    old_cost_in_time (cond (eqb i j) none (link (instrument (entry_at book i)) (instrument (entry_at book j)))) (entry_at book i).finish (entry_at book j).start

abbrev pub OneInstrumentEach : Book → Type 0
OneInstrumentEach book = Every OneInstrument book.entries

at_one : (es : List Entry) (n : ℕ) → Every OneInstrument es → (get_or es n nobody).leaves ≡ instrument (get_or es n nobody)
at_one [] n h = refl
at_one (e ∷ es) zero h = sym h.0
at_one (e ∷ es) (suc n) h = at_one es n h.1

pub follow_before : (book : Book) → OneInstrumentEach book → (i j : ℕ) → follow_cost book i j ≡ follow_by (link book.moves) book i j
follow_before book h i j =
    cost_as_before (road book i j) (entry_at book i).finish (entry_at book j).start ∙ rw (at_one book.entries (i - 1) h)

twice : (x : Bool) → (x && x) ≡ x
twice true = refl
twice false = refl

judged_before : (es : List Entry) → Every OneInstrument es → entries es ≡ map old_fair_entry es
judged_before [] h = refl
judged_before (e ∷ es) h = ap₂ (λ (x : Bool) l. x ∷ l) (rw (← h.0, twice (is_instrument e.arrives))) (judged_before es h.1)

-- a book of the form of that time
pub record ReadAsBefore (s : List ℕ) (book : Book) : Type 0 where
  pub parsed : parse s ≡ some book
  pub one_instrument : OneInstrumentEach book
  -- each line of entries passes 15 if it passed
  pub judged : entries book.entries ≡ map old_fair_entry book.entries
  pub ways : SameWays (follow_by (link book.moves) book) book

pub short_forms_as_before : (s : List ℕ) (book : Book) → old_parse s ≡ some book → ReadAsBefore s book
short_forms_as_before s book e =
    let r = read_before s book e in
    record { parsed = r.0; one_instrument = r.1; judged = judged_before book.entries r.1; ways = same_ways _ book (follow_before book r.1) }
