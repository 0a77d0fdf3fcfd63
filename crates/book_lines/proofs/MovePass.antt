-- The pass over the lines of moves.
use Prim.Native.Nat.{ℕ, suc, ◌+◌}
use mathlib.Core.Path.{◌≡◌, refl, sym, ap, ◌∙◌}
use mathlib.Core.Bool.{Bool, true, false, cond}
use mathlib.Core.List.{List, [], ◌∷◌, ◌++◌, append_assoc, append-nil}
use native.Mathlib.Omega.{arith}
use lib.ListN.{length, length-append, replicate, set}
use Rattle.text_read.specs.Reader.{fails, row, ReadAs}
use Rattle.text_read.specs.Heads.{move_head}
use Rattle.text_read.proofs.Sequence.{then_fails, mapped}
use Rattle.std.specs.Prelude.{Option, Some, None}
use Rattle.book_lines.specs.declared.moves.Move.{Move}
use Rattle.book_lines.specs.declared.moves.PairMove.{PairMove}
use Rattle.book_lines.specs.Lines.{move, move_from}
use Rattle.book_lines.specs.Questions.{fair_move, move_of, none?, stands, moves, all_pass, first_bad}
use Rattle.book_lines.specs.Columns.{said, table}
use Rattle.book_lines.specs.Passes.{first_bad_after, place_of, may_stand, Put, kept}
use Rattle.laws.specs.Tests.{and_true}
use Rattle.book_lines.proofs.Table.{fair_parts, table_none, table_more, may_stand_stands}
use Rattle.book_lines.proofs.FirstBad.{none_bad, first_bad_more}

-- the line of a move, from its row
module _ (s : List ℕ) where
  pub move_read : {l t : List ℕ} → ReadAs s (row move_head 4 s) l t → ReadAs s (move s) (move_from l) t
  unfolding move
  move_read r = mapped (row move_head 4) move_from s r

  pub no_move : row move_head 4 s ≡ fails → move s ≡ fails
  unfolding move
  no_move e = then_fails (row move_head 4) _ s e

-- the answers to 14: of one more line, and how many
moves_more : (ds ms : List Move) (m : Move) → moves ds (ms ++ (m ∷ [])) ≡ moves ds ms ++ (stands (ds ++ ms) m ∷ [])
unfolding moves
moves_more ds [] m = rw append-nil
moves_more ds (d ∷ ms) m = ap (λ (l : List Bool). stands ds d ∷ l) (moves_more (ds ++ (d ∷ [])) ms m ∙ rw append_assoc)

moves_length : (ds ms : List Move) → length (moves ds ms) ≡ length ms
unfolding moves
moves_length ds [] = refl
moves_length ds (d ∷ ms) = ap suc (moves_length (ds ++ (d ∷ [])) ms)

-- the moves that are taken: of one more line, and of lines that all pass
kept_more : (ds ms : List Move) (m : Move) → kept ds (ms ++ (m ∷ [])) ≡ cond (stands (kept ds ms) m) (kept ds ms ++ (m ∷ [])) (kept ds ms)
unfolding kept
kept_more ds [] m = refl
kept_more ds (d ∷ ms) m = kept_more (cond (stands ds d) (ds ++ (d ∷ [])) ds) ms m

all_kept : (ds ms : List Move) → all_pass (moves ds ms) ≡ true → kept ds ms ≡ ds ++ ms
unfolding kept all_pass moves
all_kept ds [] a = sym (append-nil ds)
all_kept ds (m ∷ ms) a =
    let x = and_true (stands ds m) (all_pass (moves (ds ++ (m ∷ [])) ms)) a in
    rw x.0 (all_kept (ds ++ (m ∷ [])) ms x.1 ∙ append_assoc ds (m ∷ []) ms)

pub kept_all : (ms : List Move) → all_pass (moves [] ms) ≡ true → kept [] ms ≡ ms
kept_all ms a = all_kept [] ms a

-- What the loop of `read_moves` knows after the lines `done`.
pub record KnownMoves (done : List Move) (line : ℕ) (bad : Option ℕ) (t : List (Option PairMove)) : Type 0 where
  pub line_is : line ≡ 4 + length done
  pub bad_is : bad ≡ first_bad 4 (moves [] done)
  pub table_is : t ≡ table (kept [] done)

pub known_moves_none : KnownMoves [] 4 None (replicate 256 None)
unfolding moves kept first_bad
known_moves_none = record { line_is = refl; bad_is = refl; table_is = table_none }

-- a move is put into a table if it may stand
put_table : (ms : List Move) (m : Move) (t t' : List (Option PairMove)) (x : Bool) → stands ms m ≡ x → t ≡ table ms → t' ≡ cond x (set t (place_of m) (Some (said m))) t
    → t' ≡ table (cond x (ms ++ (m ∷ [])) ms)
put_table ms m t t' true s q p =
    let b = and_true (fair_move m) (none? (move_of ms m.source m.target)) s in
    p ∙ rw q (table_more m (fair_parts m b.0).pair ms b.1)
put_table ms m t t' false s q p = p ∙ q

pub known_moves_more : (done : List Move) (m : Move) (line : ℕ) (bad : Option ℕ) (t t' : List (Option PairMove)) (r : Bool)
    → KnownMoves done line bad t → Put m t t' r → KnownMoves (done ++ (m ∷ [])) (line + 1) (first_bad_after bad r line) t'
known_moves_more done m line bad t t' r k p =
    record {
      line_is = omega (arith, k.line_is, length-append done (m ∷ []));
      bad_is = first_bad_more 4 (moves [] done) r (stands done m) k.bad_is (omega (arith, k.line_is, moves_length [] done)) asked ∙ ap (first_bad 4) (sym (moves_more [] done m));
      table_is = put_table (kept [] done) m t t' (stands (kept [] done) m) refl k.table_is (p.table_is ∙ ap (λ x. cond x (set t (place_of m) (Some (said m))) t) test)
          ∙ ap table (sym (kept_more [] done m));
    }
  where
    test : may_stand t m ≡ stands (kept [] done) m
    test = ap (λ (t : List (Option PairMove)). may_stand t m) k.table_is ∙ may_stand_stands (kept [] done) m

    asked : bad ≡ None → r ≡ stands done m
    asked z = p.is ∙ test ∙ ap (λ l. stands l m) (kept_all done (none_bad 4 (moves [] done) (sym k.bad_is ∙ z)))
