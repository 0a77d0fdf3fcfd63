-- How many bytes a listing has at most; that of `LONGEST` in tests/way_books.py has so many.
use Rattle.std.specs.Prelude.{ℕ, ◌+◌, ◌*◌}

-- the line of a way: 12 bytes, N in one digit as at most 8 players are called, a byte; 28 predecessors with a space before each, of which 19 at
-- most have two digits, as those from 10 to 28 stand once; and 2 bytes
abbrev pub way_room : ℕ
way_room = 91

-- 1,000 of them, and `(more 1000)`
abbrev pub ways_room : ℕ
ways_room = 1000 * way_room + 12

-- `(cost C)` before them, C being at most 28,000,000
abbrev pub listing_room : ℕ
listing_room = 16 + ways_room
