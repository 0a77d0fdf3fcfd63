-- What an accepted book keeps of its questions, for the functions that take one: the numbers are within their limits, and the entries are
-- few. That no two moves have one pair is not in it: of two such moves the first counts (`move_of`).
use Rattle.std.specs.Prelude.{ℕ, ◌≤◌, ◌<◌, ◌≡◌, true, length, get_or}
use Rattle.std.proofs.Math.Option.{some}
use Rattle.book_lines.specs.declared.moves.Move.{Move}
use Rattle.book_lines.specs.Questions.{move_of, fair_move, fair_entry}
use Rattle.book_lines.specs.Columns.{nobody}
use Rattle.book_form.specs.Book.{Book}

pub record WithinLimits (b : Book) : Type 0 where
  pub players_low : 1 ≤ b.players
  pub players_high : b.players ≤ 8
  pub fee_high : b.fee ≤ 1000000
  pub fair_moves : (p q : ℕ) (m : Move) → move_of b.moves p q ≡ some m → fair_move m ≡ true
  pub fair_entries : (n : ℕ) → n < length b.entries → fair_entry (get_or b.entries n nobody) ≡ true
  pub few : length b.entries ≤ 28
