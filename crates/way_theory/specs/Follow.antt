-- Document 01, "The book": who may follow whom, and at what cost.
use Rattle.std.specs.Prelude.{Bool, false, cond, List, ℕ, ◌-◌, eqb, length, get_or, ℤ, pos, ◌-ℤ◌}
use Rattle.std.proofs.Math.Option.{Option, none, some}
use Rattle.std.specs.Int.Signed.{le_z}
use Rattle.laws.specs.Parts.{plus}
use Rattle.laws.specs.Image.{map_option}
use Rattle.book_lines.specs.declared.moves.Move.{Move}
use Rattle.book_lines.specs.Lines.{Entry}
use Rattle.book_lines.specs.Questions.{move_of}
use Rattle.book_lines.specs.Columns.{nobody}
use Rattle.book_form.specs.Book.{Book}

-- E
abbrev pub size : Book → ℕ
size book = length book.entries

-- "Entries are numbered 1 to E in book order"
abbrev pub entry_at : Book → ℕ → Entry
entry_at book j = get_or book.entries (j - 1) nobody

-- "Entry j may follow i (i ≠ j) if both are on one instrument and F of i ≤ S of j, at cost 0; or if a move leads from i's instrument
-- to j's and F of i + T ≤ S of j, at cost C. A missing move means it can't."

-- 02, request 1: "a move with A equal to B is allowed and states the ticks and cost of staying on that instrument. Where no such line
-- stands, staying still takes 0 ticks and costs 0."
abbrev pub stay : Move
stay = record { source = 0; target = 0; ticks = 0; cost = 0 }

-- how a player goes from instrument a to instrument b where no line says it
abbrev pub without_line : ℕ → ℕ → Option Move
without_line a b = cond (eqb a b) (some stay) none

abbrev pub line_or : Option Move → Option Move → Option Move
line_or none o = o
line_or (some m) o = some m

-- how a player goes from instrument a to instrument b
abbrev pub link : List Move → ℕ → ℕ → Option Move
link moves a b = line_or (move_of moves a b) (without_line a b)

-- how a player goes from entry i to entry j; no entry follows itself. 02, request 5: "A join leaves from the earlier entry's B and arrives at
-- the later one's A."
abbrev pub road : Book → ℕ → ℕ → Option Move
road book i j = cond (eqb i j) none (link book.moves (entry_at book i).leaves (entry_at book j).arrives)

-- 02, request 7: "Asked whether entry j may follow entry i, that test now gives the signed spare: S of j less F of i and less the ticks of the
-- move."
abbrev pub spare_with : ℕ → ℕ → ℕ → ℤ
spare_with ticks finish start = (pos start -ℤ pos finish) -ℤ pos ticks

-- "A missing move has an answer of its own, which is also given for an entry against itself."
abbrev pub spare_by : Option Move → ℕ → ℕ → Option ℤ
spare_by none finish start = none
spare_by (some m) finish start = some (spare_with m.ticks finish start)

abbrev pub spare : Book → ℕ → ℕ → Option ℤ
spare book i j = spare_by (road book i j) (entry_at book i).finish (entry_at book j).start

-- "Spare 0 or more means that j may follow."
abbrev pub enough : Option ℤ → Bool
enough none = false
enough (some z) = le_z (pos 0) z

abbrev pub may_follow : Book → ℕ → ℕ → Bool
may_follow book i j = enough (spare book i j)

-- a spare of 0 or more as a number of ticks
abbrev pub ticks_in : Option ℤ → ℕ
ticks_in none = 0
ticks_in (some z) = plus z

abbrev pub spare_ticks : Book → ℕ → ℕ → ℕ
spare_ticks book i j = ticks_in (spare book i j)

-- "at cost 0 .. at cost C": what the join from i to j costs, if j may follow i
abbrev pub follow_cost : Book → ℕ → ℕ → Option ℕ
follow_cost book i j = cond (may_follow book i j) (map_option (λ (m : Move). m.cost) (road book i j)) none
