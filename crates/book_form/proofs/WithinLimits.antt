-- A book that is accepted is within the limits.
use Prim.Native.Nat.{ℕ, zero, suc, ◌<◌}
use mathlib.Core.Path.{◌≡◌, refl}
use mathlib.Core.Bool.{Bool, true, false, ◌&&◌}
use mathlib.Core.Option.{some}
use mathlib.Core.List.{List, [], ◌∷◌, ◌++◌}
use native.Mathlib.Omega.{arith}
use lib.ListN.{length, get_or}
use lib.Dec.{leb, eqb}
use borrow.Author.Tests.{leb-true}
use Rattle.laws.specs.Tests.{and_true, ask}
use Rattle.book_lines.specs.declared.moves.Move.{Move}
use Rattle.book_lines.specs.Lines.{Entry}
use Rattle.book_form.specs.Book.{Book, parse}
use Rattle.book_form.specs.Questions.{header, ask_book, ask_form, book_refusal}
use Rattle.book_form.specs.WithinLimits.{WithinLimits}
use Rattle.book_lines.specs.Questions.{move_of, fair_move, none?, stands, moves, fair_entry, entries, all_pass}
use Rattle.book_lines.specs.Columns.{nobody}

asked : (t : Bool) (n next : ℕ) → ask t (suc n) next ≡ 0 → (t ≡ true) × (next ≡ 0)
asked true n next e = (refl, e)
asked false n next e = absurd (omega arith)

found_fair : (ds ms : List Move) → all_pass (moves ds ms) ≡ true → (p q : ℕ) (m : Move) → move_of ms p q ≡ some m → fair_move m ≡ true
unfolding all_pass moves
found_fair ds [] a p q m e = absurd (let z : ◌≡◌ {A = ℕ} 0 1 = cc in omega arith)
found_fair ds (d ∷ ms) a p q m e = go (eqb d.source p && eqb d.target q) refl (found_fair (ds ++ (d ∷ [])) ms x.1 p q m)
  where
    x : (stands ds d ≡ true) × (all_pass (moves (ds ++ (d ∷ [])) ms) ≡ true)
    x = and_true (stands ds d) (all_pass (moves (ds ++ (d ∷ [])) ms)) a

    fair : fair_move d ≡ true
    fair = (and_true (fair_move d) (none? (move_of ds d.source d.target)) x.0).0

    go : (y : Bool) → (eqb d.source p && eqb d.target q) ≡ y → (move_of ms p q ≡ some m → fair_move m ≡ true) → fair_move m ≡ true
    go true h ih =
        let f : some d ≡ some m = rw h at e in
        let g : d ≡ m = cc in
        rw g at fair
    go false h ih = ih (rw h at e)

all_fair : (es : List Entry) → all_pass (entries es) ≡ true → (n : ℕ) → n < length es → fair_entry (get_or es n nobody) ≡ true
unfolding all_pass
all_fair [] a n h = absurd (omega arith)
all_fair (e ∷ es) a zero h = (and_true (fair_entry e) (all_pass (entries es)) a).0
all_fair (e ∷ es) a (suc n) h = all_fair es (and_true (fair_entry e) (all_pass (entries es)) a).1 n (omega arith)

pub within_limits : (s : List ℕ) (b : Book) → book_refusal s ≡ 0 → parse s ≡ some b → WithinLimits b
unfolding all_pass
within_limits s b e p =
    let q0 = asked (leb (length s) 16384) 10 (ask_form (parse s)) e in
    let q : ask_book b ≡ 0 = rw p at q0.1 in
    let q1 = asked (all_pass (header b.players b.fee)) 12 _ q in
    let q2 = asked (all_pass (moves [] b.moves)) 13 _ q1.1 in
    let q3 = asked (all_pass (entries b.entries)) 14 _ q2.1 in
    let q4 = asked (leb (length b.entries) 28) 15 _ q3.1 in
    let h = and_true (leb 1 b.players && leb b.players 8) (leb b.fee 1000000 && true) q1.0 in
    let i = and_true (leb 1 b.players) (leb b.players 8) h.0 in
    record {
      players_low = leb-true _ _ i.0;
      players_high = leb-true _ _ i.1;
      fee_high = leb-true _ _ (and_true (leb b.fee 1000000) true h.1).0;
      fair_moves = found_fair [] b.moves q2.0;
      fair_entries = all_fair b.entries q3.0;
      few = leb-true _ _ q4.0;
    }
