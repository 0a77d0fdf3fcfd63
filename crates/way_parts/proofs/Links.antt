-- Each part is linked from predecessor to successor.
use mathlib.Core.List.{List}
use Prim.Native.Nat.{ℕ}
use Rattle.laws.specs.Members.{Every}
use Rattle.way_parts.specs.Parts.{part_of, parts, Linked, IsPart}
use Rattle.way_parts.specs.Acyclic.{Acyclic}
use Rattle.way_parts.proofs.Successors.{IsSuccessor}
use Rattle.way_parts.proofs.Induction.{part_induction, every_part}

pub parts_linked : (w : List ℕ) → Acyclic w → Every (IsPart w) (parts w)
parts_linked w ok = every_part w (IsPart w) linked
  where
    linked : (j : ℕ) → IsSuccessor w 0 j → IsPart w (part_of w j)
    linked j f =
        let (l, e, p) = part_induction w ok (Linked w) (record { last = λ i e. e; back = λ i k l h e f p. (f.is, p) }) j f.low f.high in
        rw e (f.is, p)
