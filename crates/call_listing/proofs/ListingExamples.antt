-- Document 01's example book and others, as bytes: what `ways` prints, and the codes of the call.
use mathlib.Core.Path.{◌≡◌, refl}
use mathlib.Core.List.{List, [], ◌∷◌, map}
use Prim.Native.Nat.{ℕ}
use Rattle.text_read.specs.Reader.{then_read, ◌>>=◌, ◌>>◌, ◌<|>◌, give, guard, remaining, begins, text, front, run, value_from, number, word, row, more, up_to, many}
use Rattle.text_read.specs.Heads.{bytes}
use Rattle.book_lines.specs.Lines.{move, long_form, short_form, entry}
use Rattle.book_lines.specs.Questions as lines
use Rattle.book_form.specs.Book.{opening, book, whole, parse}
use Rattle.book_form.proofs.Example.{sample}
use Rattle.way_theory.specs.FullWays.{way_list, full_ways}
use Rattle.text_write.specs.Decimal.{digits, decimal}
use Rattle.text_listing.specs.Lines.{spaced, cost_line, way_line, end_line, more_line, none_line, refused_line}
use Rattle.call_listing.specs.Listing.{listing, listing_code}

-- one player, and the snare ends at 97
abbrev late : List ℕ
late = bytes "(book\n(players 1)\n(fee 6)\n(move 1 2 24 3)\n(move 2 1 24 3)\n(entry (name snare) 1 0 97)\n(entry (name xylo) 2 120 200)\n(entry (name snare2) 1 240 300)\n)\n"

-- no players; nothing closes the book
abbrev nobody : List ℕ
nobody = bytes "(book\n(players 0)\n(fee 6)\n)\n"

abbrev unclosed : List ℕ
unclosed = bytes "(book\n(players 1)\n(fee 6)\n"

-- "prints"
prints : listing sample ≡ bytes "(cost 12)\n(way (parts 2) 0 0 1)\n(way (parts 1) 0 1 2)\n(end 2)\n"
unfolding way_list full_ways bytes then_read ◌>>=◌ ◌>>◌ ◌<|>◌ give guard remaining begins text front run value_from number word row more up_to many move long_form short_form entry opening book whole parse lines.moves lines.all_pass digits decimal spaced cost_line way_line end_line more_line none_line refused_line
prints = refl

-- "With one player and snare ending at 97: none."
prints_none : listing late ≡ bytes "(none)\n"
unfolding way_list full_ways bytes then_read ◌>>=◌ ◌>>◌ ◌<|>◌ give guard remaining begins text front run value_from number word row more up_to many move long_form short_form entry opening book whole parse lines.moves lines.all_pass digits decimal spaced cost_line way_line end_line more_line none_line refused_line
prints_none = refl

-- 02: "For a book without entries the line is `(way (parts 0))`."
no_entries : listing (bytes "(book\n(players 1)\n(fee 6)\n)\n") ≡ bytes "(cost 0)\n(way (parts 0))\n(end 1)\n"
unfolding way_list full_ways bytes then_read ◌>>=◌ ◌>>◌ ◌<|>◌ give guard remaining begins text front run value_from number word row more up_to many move long_form short_form entry opening book whole parse lines.moves lines.all_pass digits decimal spaced cost_line way_line end_line more_line none_line refused_line
no_entries = refl

prints_refusals : listing nobody ≡ bytes "(refused 13)\n"
unfolding way_list full_ways bytes then_read ◌>>=◌ ◌>>◌ ◌<|>◌ give guard remaining begins text front run value_from number word row more up_to many move long_form short_form entry opening book whole parse lines.moves lines.all_pass digits decimal spaced cost_line way_line end_line more_line none_line refused_line
prints_refusals = refl

prints_malformed : listing unclosed ≡ bytes "(refused 12)\n"
unfolding way_list full_ways bytes then_read ◌>>=◌ ◌>>◌ ◌<|>◌ give guard remaining begins text front run value_from number word row more up_to many move long_form short_form entry opening book whole parse lines.moves lines.all_pass digits decimal spaced cost_line way_line end_line more_line none_line refused_line
prints_malformed = refl

codes : map listing_code (sample ∷ late ∷ nobody ∷ unclosed ∷ []) ≡ 0 ∷ 100 ∷ 13 ∷ 12 ∷ []
unfolding way_list full_ways bytes then_read ◌>>=◌ ◌>>◌ ◌<|>◌ give guard remaining begins text front run value_from number word row more up_to many move long_form short_form entry opening book whole parse lines.moves lines.all_pass
codes = refl
