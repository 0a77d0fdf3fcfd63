-- From the steps of `admit_with_room` to what it ensures; what a refused book is told.
use mathlib.Core.Path.{◌≡◌, refl, sym, ap, ◌∙◌}
use mathlib.Core.Bool.{Bool, true, false}
use mathlib.Core.List.{List}
use Prim.Native.Nat.{ℕ, zero, suc}
use native.Mathlib.Omega.{arith}
use lib.ListN.{length}
use Rattle.std.specs.Prelude.{Ok, Err}
use Rattle.book_form.specs.Questions.{book_refusal}
use Rattle.book_form.specs.Checked.{entries_of}
use Rattle.book_form.specs.declared.BookRefusal.{BookRefusal}
use Rattle.book_form.specs.declared.BookRefusal.TheVariants.{TooLong, Malformed, BadHeader, BadMove, BadEntry, TooMany}
use Rattle.book_form.specs.declared.CheckedBook.{CheckedBook}
use Rattle.book_form.proofs.LineTold.{untold}
use Rattle.book_check.specs.BookCheck.{ChecksBook}
use Rattle.book_check.proofs.Accepting.{Accepted, accepted, accepted_holds}
use Rattle.way_theory.specs.BookBytes.{entry_count}
use Rattle.call_reply.specs.Replies.{or_else}
use Rattle.call_reply.specs.ByteLists.{room}
use Rattle.call_way_bytes.specs.Refusals.{number_of, Refuses}
use Rattle.call_way_bytes.specs.WaySteps.{admit_question, Admitted}
use Rattle.call_way_bytes.specs.declared.WayRefusal.{WayRefusal}
use Rattle.call_way_bytes.specs.declared.WayRefusal.TheVariants.{Book, Room, StrangeWay, Text}

-- no refusal has the number 0
pub refuses : (r : WayRefusal) → ¬ (number_of r ≡ 0)
refuses (Book TooLong) e = omega arith
refuses (Book Malformed) e = omega arith
refuses (Book (BadHeader k)) e = omega arith
refuses (Book (BadMove k)) e = omega arith
refuses (Book (BadEntry k)) e = omega arith
refuses (Book TooMany) e = omega arith
refuses Room e = omega arith
refuses StrangeWay e = omega arith
refuses Text e = omega arith

-- further questions change nothing for a refused book
pub refused_or_else : (s : List ℕ) (k : ℕ) (e : BookRefusal) → ChecksBook s (Err e) → Refuses s (or_else (book_refusal s) k) (Book e)
refused_or_else s k e h = go (book_refusal s) refl
  where
    go : (q : ℕ) → book_refusal s ≡ q → Refuses s (or_else (book_refusal s) k) (Book e)
    go zero z = absurd (refuses (Book e) (h.question ∙ z))
    go (suc q) z = (rw z (sym (h.question ∙ z)), h.line ∙ rw z refl)

module _ (s : List ℕ) (c : CheckedBook) (h : ChecksBook s (Ok c)) where
  past : Accepted s c
  past = accepted h

  pub count_is : c.count ≡ entry_count s
  count_is = ap (λ (c : CheckedBook). c.count) past.is ∙ sym (ap (λ o. length (entries_of o)) past.parsed)

  -- questions 11 to 17 with a list of so many bytes for the way, where none fails, and where 17 does
  module _ (bytes : ℕ) where
    room_is : (b : Bool) → room c.count bytes ≡ b → room (entry_count s) bytes ≡ b
    room_is b e = ap (λ n. room n bytes) (sym count_is) ∙ e

    pub admitted : room c.count bytes ≡ true → (admit_question s bytes ≡ 0) × Admitted s bytes c
    admitted e = (
      rw (past.ok, room_is true e) refl,
      record { checked = h.book; ok = past.ok; book = past.book; parsed = past.parsed; holds = accepted_holds past; fits = e },
    )

    pub no_room : room c.count bytes ≡ false → Refuses s (admit_question s bytes) Room
    no_room e = (rw (past.ok, room_is false e) refl, rw (past.ok, room_is false e) (sym (untold s 17 (λ b. refl))))
