-- Questions 14 and 15. A question that is put to lines has an answer of each of them, in their order.
use Rattle.std.specs.Prelude.{ℕ, ◌+◌, ◌≤◌, ◌≡◌, Bool, true, false, cond, ◌&&◌, List, [], ◌∷◌, ◌++◌, map, get_or, leb, ltb, eqb, Option, Some, None}
use Rattle.std.proofs.Math.Option.{Option as Maybe, none, some}
use Rattle.book_lines.specs.declared.moves.Move.{Move}
use Rattle.book_lines.specs.Lines.{Entry}

abbrev pub is_instrument : ℕ → Bool
is_instrument a = leb 1 a && leb a 16

-- 14: "In each move, are A and B 1 to 16 .., T and C at most 1,000,000,"; 02, request 1: "Question 14 no longer requires A and B to differ."
abbrev pub fair_move : Move → Bool
fair_move m = is_instrument m.source && is_instrument m.target && leb m.ticks 1000000 && leb m.cost 1000000

-- the move from instrument a to instrument b
abbrev pub move_of : List Move → ℕ → ℕ → Maybe Move
move_of [] a b = none
move_of (m ∷ ms) a b = cond (eqb m.source a && eqb m.target b) (some m) (move_of ms a b)

abbrev pub none? : Maybe Move → Bool
none? none = true
none? (some m) = false

-- "and the pair A, B on no earlier line?"
abbrev pub stands : List Move → Move → Bool
stands earlier m = fair_move m && none? (move_of earlier m.source m.target)

unfoldable pub moves : List Move → List Move → List Bool
moves earlier [] = []
moves earlier (m ∷ later) = stands earlier m ∷ moves (earlier ++ (m ∷ [])) later

-- 15: "In each entry, is I 1 to 16 and S < F ≤ 1,000,000?"; 02, request 5: "Question 15 puts both instruments to the range 1 to 16."
abbrev pub fair_entry : Entry → Bool
fair_entry e = is_instrument e.arrives && is_instrument e.leaves && ltb e.start e.finish && leb e.finish 1000000

abbrev pub entries : List Entry → List Bool
entries = map fair_entry

-- every line passes
unfoldable pub all_pass : List Bool → Bool
all_pass [] = true
all_pass (a ∷ l) = a && all_pass l

-- 02, request 3, "The first bad line": "the lowest line number that fails that question". Of the lines that gave these answers, the first of
-- which is line `line`; none if none fails
unfoldable pub first_bad : ℕ → List Bool → Option ℕ
first_bad line [] = None
first_bad line (true ∷ answers) = first_bad (line + 1) answers
first_bad line (false ∷ answers) = Some line

-- line k is one of the lines from `first` on that gave these answers, and it fails
abbrev pub FailsAt : ℕ → List Bool → ℕ → Type 0
FailsAt first answers k = (n : ℕ) × (k ≡ first + n) × (get_or answers n true ≡ false)

-- it is the lowest that fails
pub record LowestFailing (first : ℕ) (answers : List Bool) (k : ℕ) : Type 0 where
  pub fails : FailsAt first answers k
  pub lowest : (j : ℕ) → FailsAt first answers j → k ≤ j
