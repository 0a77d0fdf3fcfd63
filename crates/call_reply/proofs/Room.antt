-- A list with room for so many numbers.
use mathlib.Core.Path.{◌≡◌}
use mathlib.Core.Bool.{true}
use mathlib.Core.List.{List}
use Prim.Native.Nat.{ℕ, ◌/◌, ◌%◌, ◌≤◌}
use native.Mathlib.Omega.{arith}
use lib.Dec.{eqb, leb}
use lib.ListN.{length}
use borrow.Author.Tests.{leb-true}
use Rattle.laws.specs.Tests.{and_true}
use Rattle.bytes_write.specs.Writing.{fitting}
use Rattle.call_reply.specs.ByteLists.{room}

-- it takes all
pub room_fits : (m : ℕ) (out : List ℕ) → room m (length out) ≡ true → fitting m out ≡ m
room_fits m out e =
    let h : m ≤ length out / 4 = leb-true _ _ (and_true (eqb (length out % 4) 0) (leb m (length out / 4)) e).1 in
    omega arith
