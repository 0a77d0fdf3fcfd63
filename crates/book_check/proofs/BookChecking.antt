-- The questions 11 to 16, from what the passes found.
use Prim.Native.Nat.{ℕ, suc, ◌+◌, ◌<◌, ◌≤◌}
use mathlib.Core.Path.{◌≡◌, refl, sym, ap, ◌∙◌}
use mathlib.Core.Bool.{Bool, true, false, cond}
use mathlib.Core.Option.{Option as Maybe, none, some}
use mathlib.Core.List.{List, []}
use native.Mathlib.Omega.{arith}
use lib.ListN.{length, take}
use lib.Seq.{take_all}
use lib.Dec.{leb}
use borrow.Author.Tests.{le-leb, lt-leb, leb-true}
use Rattle.std.specs.Prelude.{Option, Some, None, is_none, unwrap_or, Result, Ok, Err}
use Rattle.std.specs.Result.{result_ok}
use Rattle.laws.specs.Tests.{ask}
use Rattle.book_lines.specs.declared.moves.Move.{Move}
use Rattle.book_lines.specs.declared.moves.Moves.{Moves}
use Rattle.book_lines.specs.declared.entries.Entries.{Entries}
use Rattle.book_form.specs.declared.Opening.{Opening}
use Rattle.book_form.specs.declared.CheckedBook.{CheckedBook}
use Rattle.book_form.specs.declared.BookRefusal.{BookRefusal}
use Rattle.book_form.specs.declared.BookRefusal.TheVariants.{TooLong, Malformed, BadHeader, BadMove, BadEntry, TooMany}
use Rattle.book_lines.specs.Lines.{Entry}
use Rattle.book_form.specs.Book.{Book, parse}
use Rattle.book_form.specs.Questions.{header, ask_book, book_refusal, question_of, line_of}
use Rattle.book_form.specs.LineTold.{first_bad_line, first_bad_in, line_told}
use Rattle.book_lines.specs.Questions.{moves, entries, first_bad}
use Rattle.book_lines.specs.Columns.{table, entries_in}
use Rattle.book_form.specs.Checked.{checked_of, checked_unless}
use Rattle.book_lines.specs.Passes.{kept}
use Rattle.book_form.specs.Steps.{unless_bad, header_bad, held_of, judged_of}
use Rattle.book_lines.proofs.FirstBad.{all_pass_lem, none_bad}
use Rattle.book_lines.proofs.MovePass.{kept_all}
use Rattle.book_form.proofs.LineTold.{none_asked, untold}
use Rattle.book_check.specs.BookCheck.{number_with, line_with, ChecksBook}

-- a refusal by 11, and by 12
refused_right : (s : List ℕ) (e : BookRefusal) (q : ℕ) → book_refusal s ≡ suc q → question_of e ≡ suc q → line_of e ≡ line_told s (suc q) → ChecksBook s (Err e)
refused_right s e q f g told = record { question = g ∙ sym f; line = told ∙ ap (line_told s) (sym f); book = rw f }

pub long_right : (s : List ℕ) → 16384 < length s → ChecksBook s (Err TooLong)
long_right s h = refused_right s TooLong 10 (rw (lt-leb (length s) 16384 h)) refl (sym (untold s 11 (λ b. refl)))

pub form_right : (s : List ℕ) → length s ≤ 16384 → parse s ≡ none → ChecksBook s (Err Malformed)
form_right s h p = refused_right s Malformed 11 (rw (le-leb (length s) 16384 h, p)) refl (sym (untold s 12 (λ b. refl)))

-- What the passes found of a book that keeps the form.
pub record PassesFound (s : List ℕ) (o : Opening) (m : Moves) (e : Entries) : Type 0 where
  pub move_list : List Move
  pub entry_list : List Entry
  pub parsed : parse s ≡ some (record { players = o.players; fee = o.fee; moves = move_list; entries = entry_list })
  pub moves_bad : m.bad ≡ first_bad 4 (moves [] move_list)
  pub table_is : m.table ≡ table (kept [] move_list)
  pub count : e.count ≡ length entry_list
  pub entries_bad : e.bad ≡ first_bad (4 + length move_list) (entries entry_list)
  pub entries_are : e.entries ≡ entries_in (length s) (take 28 entry_list)

module _ (s : List ℕ) (o : Opening) (m : Moves) (e : Entries) (f : PassesFound s o m e) where
  abbrev B : Book
  B = record { players = o.players; fee = o.fee; moves = f.move_list; entries = f.entry_list }

  held : m.bad ≡ None → leb e.count 28 ≡ true → held_of o m e ≡ checked_of (length s) B
  held clean few =
      let taken = kept_all f.move_list (none_bad 4 (moves [] f.move_list) (sym f.moves_bad ∙ clean)) in
      let a = f.table_is ∙ ap table taken in
      let b = f.entries_are ∙ ap (entries_in (length s)) (take_all 28 f.entry_list (omega (arith, f.count, leb-true e.count 28 few))) in
      let c = f.count in
      cc

  -- what is answered, by the first lines that fail 13, 14 and 15, and the test of 16
  record Answered (r : Result CheckedBook BookRefusal) (x y z : Option ℕ) (t : Bool) : Type 0 where
    number : number_with r ≡ ask (is_none x) 13 (ask (is_none y) 14 (ask (is_none z) 15 (ask t 16 0)))
    line : line_with r ≡ first_bad_line B (number_with r)
    book : result_ok r ≡ checked_unless (number_with r) (length s) (some B)

  told : {k : ℕ} {x : Option ℕ} → Some k ≡ x → k ≡ unwrap_or x 0
  told p = ap (λ x. unwrap_or x 0) p

  answered : (x y z : Option ℕ) (t : Bool) → x ≡ header_bad o → y ≡ m.bad → z ≡ e.bad → t ≡ leb e.count 28
      → Answered (unless_bad x BadHeader (unless_bad y BadMove (unless_bad z BadEntry (cond t (Ok (held_of o m e)) (Err TooMany))))) x y z t
  answered (Some k) y z t p q r u = record { number = refl; line = told p; book = refl }
  answered None (Some k) z t p q r u = record { number = refl; line = told (q ∙ f.moves_bad); book = refl }
  answered None None (Some k) t p q r u = record { number = refl; line = told (r ∙ f.entries_bad); book = refl }
  answered None None None false p q r u = record { number = refl; line = sym (none_asked B 16 refl); book = refl }
  answered None None None true p q r u = record { number = refl; line = sym (none_asked B 0 refl); book = ap Some (held (sym q) (sym u)) }

  found : Answered (judged_of o m e) (header_bad o) m.bad e.bad (leb e.count 28)
  found = answered (header_bad o) m.bad e.bad (leb e.count 28) refl refl refl refl

  pub judged_right : length s ≤ 16384 → ChecksBook s (judged_of o m e)
  judged_right h =
      record {
        question = same;
        line = found.line ∙ ap (first_bad_line B) same ∙ ap (λ x. first_bad_in x (book_refusal s)) (sym f.parsed);
        book = found.book ∙ ap (λ (n : ℕ). checked_unless n (length s) (some B)) same ∙ ap (λ (x : Maybe Book). checked_unless (book_refusal s) (length s) x) (sym f.parsed);
      }
    where
      asked : book_refusal s ≡ ask_book B
      asked = rw (le-leb (length s) 16384 h, f.parsed)

      same : number_with (judged_of o m e) ≡ book_refusal s
      same =
          found.number
          ∙ rw (all_pass_lem 2 (header o.players o.fee), all_pass_lem 4 (moves [] f.move_list), all_pass_lem (4 + length f.move_list) (entries f.entry_list), ← f.moves_bad, ← f.entries_bad, ← f.count) refl
          ∙ sym asked
