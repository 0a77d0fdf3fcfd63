-- The lines of document 01's listing, in the form of request 6 of 02, byte for byte.
use mathlib.Core.Path.{◌≡◌, refl}
use mathlib.Core.List.{[], ◌∷◌, ◌++◌}
use Rattle.text_read.specs.Heads.{bytes}
use Rattle.text_read.specs.Reader.{begins}
use Rattle.text_write.specs.Decimal.{digits, decimal}
use Rattle.text_listing.specs.Lines.{spaced, cost_line, way_line, end_line, more_line, none_line, refused_line}
use Rattle.text_listing.proofs.WithoutParts.{cut, without_parts}

listing : cost_line 12 ++ way_line 2 (0 ∷ 0 ∷ 1 ∷ []) ++ way_line 1 (0 ∷ 1 ∷ 2 ∷ []) ++ end_line 2 ≡ bytes "(cost 12)\n(way (parts 2) 0 0 1)\n(way (parts 1) 0 1 2)\n(end 2)\n"
unfolding bytes digits decimal spaced cost_line way_line end_line
listing = refl

no_entries : cost_line 0 ++ way_line 0 [] ++ end_line 1 ≡ bytes "(cost 0)\n(way (parts 0))\n(end 1)\n"
unfolding bytes digits decimal spaced cost_line way_line end_line
no_entries = refl

others : more_line ++ none_line ++ refused_line 17 ≡ bytes "(more 1000)\n(none)\n(refused 17)\n"
unfolding bytes digits decimal more_line none_line refused_line
others = refl

-- the words of request 6 taken out
without : without_parts (bytes "(cost 12)\n(way (parts 2) 0 0 1)\n(way (parts 0))\n(end 2)\n") ≡ bytes "(cost 12)\n(way 0 0 1)\n(way)\n(end 2)\n"
unfolding bytes begins cut
without = refl
