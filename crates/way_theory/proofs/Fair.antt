-- What question 15 leaves of an entry.
use mathlib.Core.Path.{◌≡◌}
use mathlib.Core.Bool.{true, ◌&&◌}
use Prim.Native.Nat.{◌≤◌, ◌<◌}
use lib.Dec.{leb, ltb}
use borrow.Author.Tests.{leb-true, ltb-true}
use Rattle.laws.specs.Tests.{and_true}
use Rattle.book_lines.specs.Lines.{Entry}
use Rattle.book_lines.specs.Questions.{is_instrument, fair_entry}

pub record FairEntry (e : Entry) : Type 0 where
  pub arrives_in : is_instrument e.arrives ≡ true
  pub leaves_in : is_instrument e.leaves ≡ true
  pub ends_later : e.start < e.finish
  pub finish_high : e.finish ≤ 1000000

pub fair_entry_lem : (e : Entry) → fair_entry e ≡ true → FairEntry e
fair_entry_lem e q =
    let x3 = and_true (is_instrument e.arrives && is_instrument e.leaves && ltb e.start e.finish) (leb e.finish 1000000) q in
    let x2 = and_true (is_instrument e.arrives && is_instrument e.leaves) (ltb e.start e.finish) x3.0 in
    let x1 = and_true (is_instrument e.arrives) (is_instrument e.leaves) x2.0 in
    record {
      arrives_in = x1.0;
      leaves_in = x1.1;
      ends_later = ltb-true e.start e.finish x2.1;
      finish_high = leb-true e.finish 1000000 x3.1;
    }
