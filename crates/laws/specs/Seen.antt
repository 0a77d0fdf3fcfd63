-- What the reader says of a call, and all that a caller sees of it.
use Rattle.std.specs.Prelude.{◌≡◌, ℕ, ℤ, pos}
use Rattle.laws.specs.Rules.{Call, Rules}

-- `nothing` is the word "none"
pub data Reading (Item : Type 0) : Type 0 where
  refused : ℕ → Reading Item
  nothing : Reading Item
  end : Reading Item
  item : Item → Reading Item

-- the number of the answer, the line told with a refusal, the cost, and every lent list as the call leaves it
pub record Seen (Lent : Type 0) : Type 0 where
  pub number : ℕ
  pub told : ℕ
  pub cost : ℤ
  pub lists : Lent

-- "A 'no' gives its number"; 100 is "none", 101 "end", 0 comes with an item
abbrev pub code_of : {Item : Type 0} → Reading Item → ℕ
code_of (refused n) = n
code_of nothing = 100
code_of end = 101
code_of (item v) = 0

module _ {Item F G N Lent : Type 0} (R : Rules Item F G N Lent) where
  -- a line of the text is told with a refusal alone
  abbrev pub line_seen : Reading Item → ℕ
  line_seen (refused n) = R.line_told n
  line_seen nothing = 0
  line_seen end = 0
  line_seen (item v) = 0

  -- "cost 0" with a refusal, "none" and "end"
  abbrev pub cost_seen : Reading Item → ℤ
  cost_seen (refused n) = pos 0
  cost_seen nothing = pos 0
  cost_seen end = pos 0
  cost_seen (item v) = R.cost v

  -- only an item is written
  abbrev pub ListsAfter : Reading Item → Lent → Lent → Type 0
  ListsAfter (refused n) l l' = l' ≡ l
  ListsAfter nothing l l' = l' ≡ l
  ListsAfter end l l' = l' ≡ l
  ListsAfter (item v) l l' = R.Wrote v l l'

  -- what is seen of the call c, s, is the reading a
  pub record Shows (c : Call F G N) (a : Reading Item) (s : Seen Lent) : Type 0 where
    pub number_is : s.number ≡ code_of a
    pub told_is : s.told ≡ line_seen a
    pub cost_is : s.cost ≡ cost_seen a
    pub lists_are : ListsAfter a (R.lent c) s.lists
