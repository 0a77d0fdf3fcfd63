-- The network of a book, filled arc after arc.
use Rattle.std.specs.Prelude.{◌≡◌, List, [], ◌∷◌, ◌++◌, map, ℕ, ◌+◌, ◌*◌, set, pos}
use Rattle.laws.specs.Within.{from}
use Rattle.net_model.specs.Struct.{struct_of}
use Rattle.net_model.specs.declared.Arc.{Arc}
use Rattle.net_model.specs.declared.Network.{Network}
use Rattle.book_form.specs.Book.{Book}
use Rattle.book_form.specs.Held.{Holds}
use Rattle.book_form.specs.declared.CheckedBook.{CheckedBook}
use Rattle.way_joins.specs.Tables.{TablesOf}
use Rattle.way_theory.specs.BookNet.{BookArc, sources, join_arc, entry_arc, book_net}

-- an arc as a network holds it
abbrev pub arc_with : (tail head low up cost : ℕ) → Arc
arc_with tail head low up cost = record { tail = tail; head = head; low = low; up = up; cost = pos cost }

abbrev pub held_arc : BookArc → Arc
held_arc a = arc_with a.tail a.head a.low a.up a.cost

-- an arc put behind those of a network, and arcs put one after another
abbrev pub put_arc : Network → Arc → Network
put_arc s a = record s { arcs = s.arcs + 1; table = set s.table s.arcs a }

abbrev pub put_arcs : Network → List BookArc → Network
put_arcs s [] = s
put_arcs s (a ∷ l) = put_arcs (put_arc s (held_arc a)) l

-- the joins and the opening arc of entry j are put, of each book that has these tables
pub record AddsJoins (c : CheckedBook) (j : ℕ) (s r : Network) : Type 0 where
  pub each : (b : Book) → TablesOf b c → r ≡ put_arcs s (map (join_arc b j) (sources b j))

-- the arcs behind the joins of a book of e entries
abbrev pub end_to : ℕ → ℕ → BookArc
end_to e j = record { tail = 2 * j; head = 2 * e + 1; low = 0; up = 1; cost = 0 }

abbrev pub last_to : ℕ → ℕ → BookArc
last_to e players = record { tail = 0; head = 2 * e + 1; low = 0; up = players; cost = 0 }

abbrev pub rows_by : ℕ → ℕ → List BookArc
rows_by e players = map entry_arc (from e 1) ++ (map (end_to e) (from e 1) ++ (last_to e players ∷ []))

-- the struct of the network of each book that the checked book holds
pub record IsNetworkOf (c : CheckedBook) (r : Network) : Type 0 where
  pub each : (b : Book) → Holds b c → r ≡ struct_of (book_net b)
