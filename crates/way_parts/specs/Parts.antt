-- Document 02, request 2: the parts of a way.
use Rattle.std.specs.Prelude.{◌≡◌, cond, ℕ, zero, suc, ◌-◌, eqb, length, get_or}
use mathlib.Core.List.{List, [], ◌∷◌, map, flatten}
use Rattle.std.proofs.Math.Option.{Option, none, some}
use Rattle.laws.specs.Members.{keep, first?}
use Rattle.laws.specs.Within.{from}

-- 01: "A way gives each entry its predecessor, or 0 if it opens a part."
abbrev pub predecessor : List ℕ → ℕ → ℕ
predecessor w j = get_or w (j - 1) 0

-- the entries whose predecessor is i, by rising entry number
abbrev pub successors : List ℕ → ℕ → List ℕ
successors w i = keep (λ j. eqb (predecessor w j) i) (from (length w) 1)

-- the entry that is played next after entry i; 01: "no entry is the predecessor of two"
abbrev pub successor : List ℕ → ℕ → Option ℕ
successor w i = first? (successors w i)

-- the entries that open a part
abbrev pub openers : List ℕ → List ℕ
openers w = successors w 0

-- "in playing order": what is played from an entry on, and no more than n entries of it
abbrev pub played_from : List ℕ → ℕ → Option ℕ → List ℕ
played_from w zero o = []
played_from w (suc n) none = []
played_from w (suc n) (some i) = i ∷ played_from w n (successor w i)

-- the part that entry j opens; no part has more entries than the way
unfoldable pub part_of : List ℕ → ℕ → List ℕ
part_of w j = played_from w (length w) (some j)

-- the part that entry j opens, if it opens one
abbrev pub part_if_opened : List ℕ → ℕ → List ℕ
part_if_opened w j = cond (eqb (predecessor w j) 0) (part_of w j) []

-- "the parts by rising entry number of their opening entries"
unfoldable pub parts : List ℕ → List (List ℕ)
parts w = map (part_of w) (openers w)

-- the entries in the order in which the sheets have them
unfoldable pub playing_order : List ℕ → List ℕ
playing_order w = flatten (parts w)

-- what a part is: its first entry opens it, each other has the one before it as predecessor, and nobody follows the last
abbrev pub Linked : List ℕ → ℕ → List ℕ → Type 0
Linked w i [] = successor w i ≡ none
Linked w i (j ∷ p) = (predecessor w j ≡ i) × Linked w j p

abbrev pub IsPart : List ℕ → List ℕ → Type 0
IsPart w [] = ⊥
IsPart w (j ∷ p) = (predecessor w j ≡ 0) × Linked w j p
