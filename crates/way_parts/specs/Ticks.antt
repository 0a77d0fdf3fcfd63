-- Document 02, requests 2 and 7: the ticks that are played, and that the entries of a sheet follow one another in time.
use Rattle.std.specs.Prelude.{◌≡◌, List, [], ◌∷◌, ℕ, ◌-◌, ◌≤◌, pos}
use Rattle.std.proofs.Math.Option.{some}
use Rattle.book_form.specs.Book.{Book}
use Rattle.way_theory.specs.Follow.{entry_at, spare, spare_ticks}

-- "the ticks played": of entry j, from its S to its F
abbrev pub ticks_of : Book → ℕ → ℕ
ticks_of book j = (entry_at book j).finish - (entry_at book j).start

-- "G being the ticks from one entry's F to the next one's S", and R "the spare": each entry but the first starts no earlier than the one before it
-- finishes, and their spare is a number of ticks
abbrev pub FollowInTime : Book → List ℕ → Type 0
FollowInTime book [] = Unit {0}
FollowInTime book (i ∷ []) = Unit {0}
FollowInTime book (i ∷ j ∷ p) =
    ((entry_at book i).finish ≤ (entry_at book j).start) × (spare book i j ≡ some (pos (spare_ticks book i j))) × FollowInTime book (j ∷ p)
