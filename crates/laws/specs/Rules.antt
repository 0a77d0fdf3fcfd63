-- What the calls of one book, or of one network, are answered from.
use Rattle.std.specs.Prelude.{List, ℕ, ℤ}

-- a call: `first` with what it is lent (F), `next` with the list given (G) and what it is lent (N)
pub data Call (F G N : Type 0) : Type 0 where
  first : F → Call F G N
  next : G → N → Call F G N

-- Item: a member of the full list. Lent: the lists that a call is lent.
pub record Rules (Item F G N Lent : Type 0) : Type 1 where
  -- "The full list"
  pub full_list : List Item
  -- "the number of the first it fails", or 0
  pub question : Call F G N → ℕ
  -- the questions put before the one about the given list are passed
  pub Admits : Call F G N → Type 0
  -- with the number of a refusal, the line of the book's text that is told, or 0
  pub line_told : ℕ → ℕ
  -- "that line and its cost"
  pub cost : Item → ℤ
  -- the lent lists as they come
  pub lent : Call F G N → Lent
  -- "A line fills the first E or m places lent": an item, the lists as they come, and as they are with the item in them
  pub Wrote : Item → Lent → Lent → Type 0
  -- "a copy of the line": of an item; as a caller takes it from the lists that it was written to; and whether two copies are one
  pub copy : Item → G
  pub taken : Lent → G
  pub same : Discrete G
