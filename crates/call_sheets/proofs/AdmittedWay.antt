-- From the steps of `admit_way` to what it ensures; and what is known of a way that is admitted.
use mathlib.Core.Path.{◌≡◌, refl, sym, ap, ◌∙◌}
use mathlib.Core.Bool.{true, false}
use mathlib.Core.List.{List}
use Prim.Native.Nat.{ℕ, ◌*◌, ◌≤◌}
use native.Mathlib.Omega.{arith}
use lib.ListN.{length, take, length-take}
use Rattle.std.specs.Prelude.{Ok}
use Rattle.laws.specs.Padded.{padded, padded_length}
use Rattle.bytes_read.specs.Words.{words}
use Rattle.book_form.specs.Questions.{book_refusal}
use Rattle.book_form.specs.declared.CheckedBook.{CheckedBook}
use Rattle.book_form.specs.Held.{Held, Holds}
use Rattle.book_form.proofs.LineTold.{untold}
use Rattle.book_check.specs.BookCheck.{ChecksBook}
use Rattle.book_check.proofs.Accepting.{Accepted, accepted, accepted_holds, accepted_held}
use Rattle.way_theory.specs.Ways.{LeastCostWay}
use Rattle.way_theory.specs.FullWays.{full_ways}
use Rattle.way_theory.specs.BookBytes.{ways_in, ways}
use Rattle.way_joins.proofs.Tables.{holds_timing}
use Rattle.way_gaps.specs.declared.JoinTicks.{JoinTicks}
use Rattle.way_gaps.specs.Gaps.{HasWay, TellsTicks}
use Rattle.way_sheets.specs.Writing.{HasSheets}
use Rattle.call_reply.specs.ByteLists.{listed}
use Rattle.call_reply.proofs.Turns.{all_passed}
use Rattle.call_way_bytes.specs.Refusals.{Refuses}
use Rattle.call_way_bytes.specs.declared.WayRefusal.TheVariants.{StrangeWay}
use Rattle.call_way_bytes.proofs.WayItems.{listed_way}
use Rattle.call_way_bytes.proofs.GivenWays.{few, read_given}
use Rattle.call_sheets.specs.SheetCalls.{room_question}

module _ (s g : List ℕ) (c : CheckedBook) (h : ChecksBook s (Ok c)) where
  pub past : Accepted s c
  past = accepted h

  pub holds : Holds past.book c
  holds = accepted_holds past

  pub held : Held c
  held = accepted_held past

  -- question 18 of the bytes
  listed_is : listed g (ways s) ≡ listed g (full_ways past.book)
  listed_is = ap (λ o. listed g (ways_in o)) past.parsed

  pub strange : listed g (full_ways past.book) ≡ false → Refuses s (room_question s g) StrangeWay
  strange off =
      let q : room_question s g ≡ 18 = rw (past.ok, listed_is ∙ off) refl in
      (q, sym (untold s 18 (λ b. refl)) ∙ rw q refl)

  pub given : listed g (full_ways past.book) ≡ true → room_question s g ≡ 0
  given on = rw (past.ok, listed_is ∙ on) refl

  -- past questions 11 to 16 and 18
  module _ (ok : room_question s g ≡ 0) where
    on : listed g (full_ways past.book) ≡ true
    on = sym listed_is ∙ all_passed (book_refusal s) 17 (listed g (ways s)) ok

    least : LeastCostWay past.book (words g)
    least = (listed_way past.book holds.limits g on).1

    -- the numbers read: as many as the book has entries lie in the array, and are the way
    module _ (v : List ℕ) (read : v ≡ padded 512 0 (take 512 (words g))) where
      pub inside : c.count ≤ length v
      inside = omega (arith, few c held, ap length read, padded_length 512 0 (take 512 (words g)) (omega (arith, length-take 512 (words g))))

      pub way_read : take c.count v ≡ words g
      way_read =
          let e = ap (λ (c : CheckedBook). c.count) past.is in
          read_given c held g ((listed_way past.book holds.limits g on).0 ∙ ap (λ k. 4 * k) (sym e)) v read

      pub has_way : HasWay c (take c.count v)
      has_way = record { book = past.book; timing = holds_timing holds; way = rw way_read least.way }

      pub has_sheets : (x : List JoinTicks) → TellsTicks c (take c.count v) x → HasSheets s c (take c.count v) x
      has_sheets x told = record {
        book = past.book;
        holds = past.parsed;
        limits = holds.limits;
        is = past.is;
        way = rw way_read least.way;
        ticks = told.each past.book (holds_timing holds);
      }
