-- From the steps of the call of a spare to what it ensures.
use mathlib.Core.Path.{◌≡◌, refl, sym, ap, ◌∙◌}
use mathlib.Core.Bool.{Bool, true, ◌&&◌}
use mathlib.Core.List.{List}
use Prim.Native.Nat.{ℕ, ◌≤◌}
use lib.IntN.{ℤ}
use Rattle.std.specs.Prelude.{Option, Ok}
use Rattle.laws.specs.Tests.{and_true, ask}
use Rattle.book_form.specs.declared.CheckedBook.{CheckedBook}
use Rattle.book_check.specs.BookCheck.{ChecksBook}
use Rattle.book_check.proofs.Accepting.{Accepted, accepted, accepted_holds, accepted_held}
use Rattle.book_names.specs.Name.{is_entry}
use Rattle.book_names.proofs.Naming.{from_one}
use Rattle.way_joins.specs.Tables.{HasTiming}
use Rattle.way_joins.specs.Joins.{Spares}
use Rattle.way_joins.proofs.Tables.{holds_timing, held_timing}
use Rattle.call_spare.specs.SpareCall.{spare_question, spare_reply, BookSpare}

module _ (s : List ℕ) (i j : ℕ) where
  -- past questions 11 to 16, 19 is left to be put
  module _ (c : CheckedBook) (h : ChecksBook s (Ok c)) where
    a : Accepted s c
    a = accepted h

    past_16 : (t : Bool) → (is_entry c.count i && is_entry c.count j) ≡ t → spare_question s i j ≡ ask t 19 0
    past_16 t e = rw (a.ok, a.parsed) (ap (λ n. ask (is_entry n i && is_entry n j) 19 0) (sym (ap (λ (c : CheckedBook). c.count) a.is)) ∙ ap (λ t. ask t 19 0) e)

    module _ (e : (is_entry c.count i && is_entry c.count j) ≡ true) where
      pub inside : HasTiming c × (1 ≤ i) × (i ≤ c.count) × (1 ≤ j) × (j ≤ c.count)
      inside =
          let (x, y) = and_true (is_entry c.count i) (is_entry c.count j) e in
          let p = from_one i c.count x in
          let q = from_one j c.count y in
          (held_timing (accepted_held a), p.0, p.1, q.0, q.1)

      pub told : (r : Option ℤ) → Spares c i j r → BookSpare s i j (spare_reply r)
      told r k = ap spare_reply (k.each a.book (holds_timing (accepted_holds a))) ∙ rw (past_16 true e, a.parsed) refl
