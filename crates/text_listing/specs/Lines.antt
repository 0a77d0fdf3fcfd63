-- The lines of a listing as bytes. Document 01: "The program `ways` reads a book from standard input and prints ..".
use Rattle.std.specs.Prelude.{List, [], ◌∷◌, ◌++◌, ℕ}
use Rattle.text_read.specs.Heads.{bytes, space, line_end, cost_head, way_head, parts_end, end_head, refused_head}
use Rattle.text_write.specs.Decimal.{decimal}

-- a space and the number, for each number
unfoldable pub spaced : List ℕ → List ℕ
spaced [] = []
spaced (n ∷ ns) = space ++ decimal n ++ spaced ns

-- "`(cost C)`"; each line is closed by byte 10
unfoldable pub cost_line : ℕ → List ℕ
cost_line n = cost_head ++ decimal n ++ line_end

-- a way, with its number of parts before its predecessors. Document 02, request 6: "`(way (parts N) ..)`"
unfoldable pub way_line : ℕ → List ℕ → List ℕ
way_line n ns = way_head ++ decimal n ++ parts_end ++ spaced ns ++ line_end

-- "`(end N)` with the count of ways"
unfoldable pub end_line : ℕ → List ℕ
end_line n = end_head ++ decimal n ++ line_end

-- "After 1,000 ways, if more exist, the last line is `(more 1000)` instead."
unfoldable pub more_line : List ℕ
more_line = bytes "(more 1000)\n"

-- "Without a way it prints `(none)`"
unfoldable pub none_line : List ℕ
none_line = bytes "(none)\n"

-- "for a refusal `(refused R)`"
unfoldable pub refused_line : ℕ → List ℕ
refused_line n = refused_head ++ decimal n ++ line_end
