-- The invariant: n ways are written, and the enumerator stands on the next one.
use Rattle.std.proofs.Common.{◌≡◌, ◌+◌, ◌*◌, ◌≤◌, length}
use Rattle.flow_enumerate.specs.declared.Place.TheVariants.{Item}
use Rattle.book_form.specs.Book.{Book}
use Rattle.way_theory.specs.FullWays.{first_way}
use Rattle.way_enumerate.specs.WayEnumerator.{EnumeratesSome, Enumerates, way_at}
use Rattle.way_list.specs.Room.{way_room}
use Rattle.way_list.proofs.Progress.{ListedSoFar}
use Rattle.way_list.proofs.list_from.Given as goal

abbrev pub invariant-loop-n : goal.invariant-loop-n
invariant-loop-n l = (l.writer.out.ghost_name ≡ l.initial.writer.out.ghost_name) × (length l.writer.out.now ≡ length l.initial.writer.out.now) × (l.writer.at ≤ l.initial.writer.at + way_room * l.n) × (l.ways.flows.place ≡ Item) × EnumeratesSome l.ways × ((b : Book) → Enumerates b l.initial.ways → way_at b l.initial.ways ≡ first_way b → Enumerates b l.ways × ListedSoFar b l.initial.writer (way_at b l.ways) l.writer l.n)
