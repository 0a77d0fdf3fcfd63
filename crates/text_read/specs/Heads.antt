-- The fixed texts of books, listings and sheets; src/heads.rt has the same for the program. Document 01: "fixed heads such as "(players " and
-- "(entry (name " matched at the start of a line and written again by the generator and sheets".
use Rattle.std.specs.Prelude.{ℕ, List, [], ◌∷◌}
use Prim.Native.Char.{code}
use Prim.Native.String.{String, [] as []ˢ, ◌∷◌ as ◌∷ˢ◌}

-- the bytes of a text of ASCII
unfoldable pub bytes : String → List ℕ
bytes []ˢ = []
bytes (c ∷ˢ w) = code c ∷ bytes w

-- "One space between items, none elsewhere."
abbrev pub space : List ℕ
space = bytes " "

-- the end of a line that is closed
abbrev pub line_end : List ℕ
line_end = bytes ")\n"

-- `(book`, `(players P)`, `(fee C)`, `(move A B T C)`, `(entry (name W) I S F)`
abbrev pub book_line : List ℕ
book_line = bytes "(book\n"

abbrev pub players_head : List ℕ
players_head = bytes "(players "

abbrev pub fee_head : List ℕ
fee_head = bytes "(fee "

abbrev pub move_head : List ℕ
move_head = bytes "(move "

abbrev pub entry_head : List ℕ
entry_head = bytes "(entry (name "

-- what stands between a name and the numbers behind it
abbrev pub name_end : List ℕ
name_end = bytes ") "

-- `(cost C)`, `(way (parts N) ..)`, `(end N)`, `(refused R)`
abbrev pub cost_head : List ℕ
cost_head = bytes "(cost "

abbrev pub way_head : List ℕ
way_head = bytes "(way (parts "

-- what stands between the number of parts and the predecessors
abbrev pub parts_end : List ℕ
parts_end = bytes ")"

abbrev pub end_head : List ℕ
end_head = bytes "(end "

abbrev pub refused_head : List ℕ
refused_head = bytes "(refused "

-- `(part N`, `(play (name W) S F)`, `(gap G R)`
abbrev pub part_head : List ℕ
part_head = bytes "(part "

abbrev pub play_head : List ℕ
play_head = bytes "(play (name "

abbrev pub gap_head : List ℕ
gap_head = bytes "(gap "

-- byte 10, the end of a line that stays open
abbrev pub newline : List ℕ
newline = bytes "\n"
