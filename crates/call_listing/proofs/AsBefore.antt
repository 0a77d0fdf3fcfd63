-- Document 02, request 6: "which ways stand in them, and in what order, is unaltered". The listing as it was before is the listing without the
-- words ` (parts N)`; both are written from the same list of ways.
use mathlib.Core.Path.{◌≡◌, refl, ap, ◌∙◌}
use mathlib.Core.List.{List, [], ◌∷◌, ◌++◌, append_assoc}
use Prim.Native.Nat.{ℕ, zero, suc}
use lib.ListN.{length, take}
use Rattle.laws.specs.Count.{Count, exactly, more, counted}
use Rattle.text_listing.specs.Lines.{cost_line}
use Rattle.text_listing.proofs.WithoutParts.{without_parts, old_line, Whole, whole_alone, cost_whole, end_whole, refused_whole, more_whole, none_whole, way_cut}
use Rattle.book_form.specs.Book.{parse}
use Rattle.book_form.specs.Questions.{book_refusal}
use Rattle.way_theory.specs.BookBytes.{ways, way_cost_or_zero}
use Rattle.way_theory.specs.Ways.{times}
use Rattle.way_list.specs.WayListing.{line_of_way, lines_by, last_line, list_by}
use Rattle.call_listing.specs.Listing.{or_refused_line, listing}

-- the text that `ways` printed before
abbrev pub old_listing : List ℕ → List ℕ
old_listing s = or_refused_line (book_refusal s) (list_by old_line (way_cost_or_zero (parse s)) (ways s))

lines_cut : (l : List (List ℕ)) (t : List ℕ) → without_parts (lines_by line_of_way l ++ t) ≡ lines_by old_line l ++ without_parts t
lines_cut [] t = refl
lines_cut (w ∷ l) t =
    ap without_parts (append_assoc (line_of_way w) (lines_by line_of_way l) t)
    ∙ way_cut (times 0 w) w (lines_by line_of_way l ++ t)
    ∙ rw (lines_cut l t, append_assoc (old_line w) (lines_by old_line l) (without_parts t)) refl

last_whole : (n : Count) → Whole (last_line n)
last_whole (exactly n) = end_whole n
last_whole more = more_whole

list_cut : (cost : List ℕ → ℕ) (l : List (List ℕ)) → without_parts (list_by line_of_way cost l) ≡ list_by old_line cost l
list_cut cost [] = whole_alone none_whole
list_cut cost (w ∷ l) =
    cost_whole (cost w) _
    ∙ ap (λ r. cost_line (cost w) ++ r)
    (lines_cut (take 1000 (w ∷ l)) _ ∙ ap (λ r. lines_by old_line (take 1000 (w ∷ l)) ++ r) (whole_alone (last_whole (counted 1000 (length (w ∷ l))))))

refused_cut : (n : ℕ) (cost : List ℕ → ℕ) (l : List (List ℕ)) → without_parts (or_refused_line n (list_by line_of_way cost l)) ≡ or_refused_line n (list_by old_line cost l)
refused_cut zero cost l = list_cut cost l
refused_cut (suc n) cost l = whole_alone (refused_whole (suc n))

pub listing_as_before : (s : List ℕ) → without_parts (listing s) ≡ old_listing s
listing_as_before s = refused_cut (book_refusal s) (way_cost_or_zero (parse s)) (ways s)
