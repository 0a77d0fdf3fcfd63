-- What a check hands back of accepted bytes: the book that they hold.
use Prim.Native.Nat.{ℕ, zero, suc}
use mathlib.Core.Path.{◌≡◌, refl, sym}
use mathlib.Core.Option.{Option as Maybe, none, some}
use mathlib.Core.List.{List}
use lib.ListN.{length}
use Rattle.std.specs.Prelude.{Some, Ok}
use Rattle.std.proofs.lemmas.Option.{none-some, same_Some}
use Rattle.book_form.specs.declared.CheckedBook.{CheckedBook}
use Rattle.book_form.specs.Book.{Book, parse}
use Rattle.book_form.specs.Checked.{checked_of, checked_unless}
use Rattle.book_form.specs.Questions.{book_refusal}
use Rattle.book_form.specs.Held.{Holds, Held}
use Rattle.book_form.proofs.WithinLimits.{within_limits}
use Rattle.book_check.specs.BookCheck.{ChecksBook}

-- c is the checked book of the bytes s, which are accepted
pub record Accepted (s : List ℕ) (c : CheckedBook) : Type 0 where
  pub ok : book_refusal s ≡ 0
  pub book : Book
  pub parsed : parse s ≡ some book
  pub is : c ≡ checked_of (length s) book

pub accepted : {s : List ℕ} {c : CheckedBook} → ChecksBook s (Ok c) → Accepted s c
accepted {s} {c} h = go (book_refusal s) refl (parse s) refl h.book
  where
    go : (q : ℕ) → book_refusal s ≡ q → (o : Maybe Book) → parse s ≡ o → Some c ≡ checked_unless q (length s) o → Accepted s c
    go zero a (some b) p e = record { ok = a; book = b; parsed = p; is = same_Some _ _ e }
    go zero a none p e = absurd (none-some c (sym e))
    go (suc q) a o p e = absurd (none-some c (sym e))

pub accepted_holds : {s : List ℕ} {c : CheckedBook} (a : Accepted s c) → Holds a.book c
accepted_holds {s} a = record { limits = within_limits s a.book a.ok a.parsed; total = length s; is = a.is }

pub accepted_held : {s : List ℕ} {c : CheckedBook} → Accepted s c → Held c
accepted_held a = record { book = a.book; holds = accepted_holds a }
