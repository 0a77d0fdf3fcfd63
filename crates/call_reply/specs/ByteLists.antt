-- Lists of numbers that a call takes as bytes: room for so many numbers, and bytes that are an item of the full list.
use Rattle.std.specs.Prelude.{Bool, true, false, ◌&&◌, ◌||◌, List, [], ◌∷◌, ℕ, ◌/◌, ◌%◌, eqb, leb}
use Rattle.laws.specs.Tests.{test}
use Rattle.laws.specs.Equality.{same_list}
use Rattle.laws.specs.Rules.{Call, first, next}
use Rattle.bytes_read.specs.Words.{encode_words}

-- whether so many bytes are a list long enough for k numbers. Bytes that are no whole numbers are none.
abbrev pub room : ℕ → ℕ → Bool
room k bytes = eqb (bytes % 4) 0 && leb k (bytes / 4)

-- whether some item has these bytes
abbrev pub listed : List ℕ → List (List ℕ) → Bool
listed g [] = false
listed g (v ∷ l) = test (same_list (encode_words v) g) || listed g l

-- "For next: is the given list" on the full list L?
abbrev pub fair_given : {F N : Type 0} → List (List ℕ) → Call F (List ℕ) N → Bool
fair_given L (first l) = true
fair_given L (next g l) = listed g L
