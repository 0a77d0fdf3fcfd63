-- The reply of a call, and what C sees of a call.
use Rattle.std.specs.Prelude.{◌≡◌, Bool, true, false, List, ℕ, zero, suc, ℤ, pos}
use Rattle.std.proofs.Math.Option.{Option, none, some}
use Rattle.laws.specs.Seen.{Seen}
use Rattle.laws.specs.Count.{Count, exactly, more}
use Rattle.bytes_read.specs.Words.{encode_words, over}
use Rattle.flow_enumerate.specs.declared.Place.{Place}
use Rattle.flow_enumerate.specs.declared.Place.TheVariants.{Start, Item, None, End}
use Rattle.call_reply.specs.declared.Reply.{Reply}

-- further questions, put where those before are passed; 0 says that none is failed
abbrev pub or_else : ℕ → ℕ → ℕ
or_else zero k = k
or_else (suc n) k = suc n

-- "The rest of the result is then zero and no lent list changes." "'None' and 'end' are no refusals; they too write nothing.": x with the
-- code 0, and y with any other
abbrev pub if_ok : {A : Type 0} → ℕ → A → A → A
if_ok zero x y = x
if_ok (suc n) x y = y

-- the reply, and the lent lists as the call leaves them
abbrev pub sees : {Lent : Type 0} → Reply → Lent → Seen Lent
sees r l = record { number = r.code; told = r.line; cost = r.value; lists = l }

-- the reply with a value
abbrev pub value_alone : ℤ → Reply
value_alone z = record { code = 0; line = 0; value = z }

-- "The rest of the result is then zero"
abbrev pub code_alone : ℕ → Reply
code_alone k = record { code = k; line = 0; value = pos 0 }

-- the same, but for the line told
abbrev pub refused_at : ℕ → ℕ → Reply
refused_at k l = record { code = k; line = l; value = pos 0 }

-- the reply with an item is its cost; without one it is the code k
abbrev pub item_reply : (List ℕ → ℤ) → Option (List ℕ) → ℕ → Reply
item_reply cost none k = code_alone k
item_reply cost (some v) k = value_alone (cost v)

-- an item is written to the first places of a list
abbrev pub item_written : Option (List ℕ) → List ℕ → List ℕ
item_written none out = out
item_written (some v) out = over (encode_words v) out

pub record HandsItem (cost : List ℕ → ℤ) (o : Option (List ℕ)) (k : ℕ) (out : List ℕ) (r : Reply) (out' : List ℕ) : Type 0 where
  pub reply_is : r ≡ item_reply cost o k
  pub list_is : out' ≡ item_written o out

-- whether an enumerator stands on an item
abbrev pub on_item : Place → Bool
on_item Start = false
on_item Item = true
on_item None = false
on_item End = false

-- "the length of the list if that is at most the cap, else 'more'"
abbrev pub count_reply : Count → Reply
count_reply (exactly n) = value_alone (pos n)
count_reply more = code_alone 102

-- x unless a question fails: k is its number, or 0, and l the line told with it
abbrev pub reply_unless : ℕ → ℕ → Reply → Reply
reply_unless zero l x = x
reply_unless (suc k) l x = refused_at (suc k) l

-- the reply of counting
abbrev pub count_unless : ℕ → ℕ → Count → Reply
count_unless k l n = reply_unless k l (count_reply n)

-- the reply with the code k and the line l: the value is n with the code 0
abbrev pub value_reply : ℕ → ℕ → ℕ → Reply
value_reply k l n = record { code = k; line = l; value = pos (if_ok k n 0) }
