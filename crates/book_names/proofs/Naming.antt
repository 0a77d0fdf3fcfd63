-- Question 19, and where the name of an entry lies.
use Prim.Native.Nat.{ℕ, ◌-◌, ◌≤◌, ◌<◌}
use mathlib.Core.Path.{◌≡◌, refl, sym, ap, subst, ◌∙◌}
use mathlib.Core.Bool.{true}
use mathlib.Core.List.{List}
use native.Mathlib.Omega.{arith}
use lib.ListN.{length, get_or}
use lib.Dec.{leb}
use borrow.Author.Tests.{leb-true}
use Rattle.std.specs.Prelude.{Ok}
use Rattle.laws.specs.Tests.{and_true, ask}
use Rattle.book_lines.specs.Columns.{blank_entry}
use Rattle.book_form.specs.declared.CheckedBook.{CheckedBook}
use Rattle.book_form.proofs.Judging.{entry_in}
use Rattle.book_form.proofs.Names.{names_placed, checked_name}
use Rattle.book_check.specs.BookCheck.{ChecksBook}
use Rattle.book_check.proofs.Accepting.{Accepted, accepted}
use Rattle.book_names.specs.Name.{is_entry, name_refusal}
use Rattle.book_names.specs.BookNames.{BookName}

pub from_one : (j n : ℕ) → is_entry n j ≡ true → (1 ≤ j) × (j ≤ n)
from_one j n e = let h = and_true (leb 1 j) (leb j n) e in (leb-true 1 j h.0, leb-true j n h.1)

-- by the check of the book, which accepts it
module _ (s : List ℕ) (j : ℕ) (c : CheckedBook) (h : ChecksBook s (Ok c)) where
  held : Accepted s c
  held = accepted h

  asked_last : name_refusal s j ≡ ask (is_entry c.count j) 19 0
  asked_last = let a = held in rw (a.ok, a.parsed) (ap (λ n. ask (is_entry n j) 19 0) (sym (ap (λ (c : CheckedBook). c.count) a.is)))

  module _ (e : is_entry c.count j ≡ true) where
    inside : j - 1 < length held.book.entries
    inside = let a = held in omega (arith, ap (λ (c : CheckedBook). c.count) a.is, from_one j c.count e)

    pub somewhere : let x = get_or c.entries (j - 1) blank_entry in BookName s j (record { start = x.name; length = x.length })
    somewhere =
        let a = held in
        let z = asked_last ∙ ap (λ t. ask t 19 0) e in
        let l = checked_name s a.book a.parsed (j - 1) inside in
        let b : BookName s j _ = record {
          within = l.0;
          given = record {
            is = l.1 ∙ rw (z, a.parsed) refl;
            some = λ _. rw l.1 (names_placed s a.book a.parsed (j - 1) inside).some;
          };
          here = λ _. rw (entry_in (length s) a.book.entries (j - 1) blank_entry inside, a.parsed) refl;
          zero = λ y. absurd (y z);
        } in
        subst (λ (c : CheckedBook). let x = get_or c.entries (j - 1) blank_entry in BookName s j (record { start = x.name; length = x.length })) (sym a.is) b
