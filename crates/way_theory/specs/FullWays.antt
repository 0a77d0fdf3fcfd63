-- Document 01, "The full list", of a book; and first, next, "none" and the count, which are read off it. No network is spoken of.
use Rattle.std.specs.Prelude.{Bool, true, ◌&&◌, List, [], ◌∷◌, ℕ, suc, leb, length, replicate}
use Rattle.std.proofs.Math.Option.{Option}
use Rattle.laws.specs.Tests.{all}
use Rattle.laws.specs.Members.{keep, first?}
use Rattle.laws.specs.Best.{best}
use Rattle.laws.specs.Within.{from, within}
use Rattle.laws.specs.After.{after}
use Rattle.laws.specs.Equality.{same_list}
use Rattle.laws.specs.Count.{Count, counted}
use Rattle.book_form.specs.Book.{Book}
use Rattle.way_theory.specs.Follow.{size}
use Rattle.way_theory.specs.Ways.{permits, times, way_cost}

-- the numbers 1 to E
abbrev pub numbers : Book → List ℕ
numbers book = from (size book) 1

-- "Each predecessor must be one it may follow": whether those of the entries from j on are
abbrev pub is_joined : Book → ℕ → List ℕ → Bool
is_joined book j [] = true
is_joined book j (p ∷ w) = permits book p j && is_joined book (suc j) w

-- whether a list of E numbers from 0 to E is a way
abbrev pub is_way : Book → List ℕ → Bool
is_way book w = is_joined book 1 w && (all (λ i. leb (times i w) 1) (numbers book) && leb (times 0 w) book.players)

-- whether w costs no more than x
abbrev pub no_dearer_way : Book → List ℕ → List ℕ → Bool
no_dearer_way book w x = leb (way_cost book w) (way_cost book x)

-- the bounds of E numbers from 0 to E
abbrev pub way_bounds : Book → List (ℕ × ℕ)
way_bounds book = replicate (size book) (0, size book)

-- "of all lists of E numbers from 0 to E, in the order of ways"
unfoldable pub way_list : Book → List (List ℕ)
way_list book = keep (is_way book) (within (way_bounds book))

-- "keep the least-cost ways"
unfoldable pub full_ways : Book → List (List ℕ)
full_ways book = best (no_dearer_way book) (way_list book)

-- "First ...: the finger goes to line 1. ... Without lines: 'none'"
abbrev pub first_way : Book → Option (List ℕ)
first_way book = first? (full_ways book)

-- "Next: one line down ... From the last line: 'end'"
abbrev pub next_way : Book → List ℕ → Option (List ℕ)
next_way book w = after same_list (λ x. x) w (full_ways book)

-- "the length of the list if that is at most the cap, else 'more'"
abbrev pub count_ways : Book → ℕ → Count
count_ways book cap = counted cap (length (full_ways book))
