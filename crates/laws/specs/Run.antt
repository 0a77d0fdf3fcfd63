-- A reader with a finger on the full list, and a program that keeps nothing between calls: in every run of calls what the program's contract allows is
-- what the reader says.
use Rattle.std.specs.Prelude.{◌≡◌, refl, ◌⊎◌, List, [], ◌∷◌, ℕ, zero, suc}
use Rattle.std.proofs.Common.{subst, ◌∙◌, inl, inr}
use Rattle.std.proofs.Math.Option.{Option, none, some}
use Rattle.std.proofs.Math.ListN.{get_elem?}
use Rattle.laws.specs.Members.{◌∈◌, first?, first_at, none_some}
use Rattle.laws.specs.After.{after, Apart, after_at}
use Rattle.laws.specs.Rules.{Call, first, next, Rules}
use Rattle.laws.specs.Seen.{Reading, refused, nothing, end, item, Seen, Shows}

-- where the finger is: on no item, or on the item at a place counted from 0
pub data Cursor : Type 0 where
  off : Cursor
  on : ℕ → Cursor

-- the item, or the word where there is none
abbrev pub shown : {A : Type 0} → Option A → Reading A → Reading A
shown none word = word
shown (some v) word = item v

-- the finger goes to place i if an item is there
abbrev pub moved : {A : Type 0} → Cursor → ℕ → Option A → Cursor
moved f i none = f
moved f i (some v) = on i

-- the item last written, after a call
abbrev pub written : {A : Type 0} → Option A → Reading A → Option A
written w (refused n) = w
written w nothing = w
written w end = w
written w (item v) = some v

module _ {Item F G N Lent : Type 0} (R : Rules Item F G N Lent) where
  -- The reader, by the number of the first question that the call fails, or 0. "A call that fails a question: the number of the first it fails, cost 0;
  -- the finger stays." "First, which is given no list: the finger goes to line 1." "Next: one line down, that line and its cost. From the last line:
  -- 'end', cost 0; the finger stays." A consistent run (below) never has him answer `next` with his finger on no line: there is no item written then,
  -- and a list that is not on the full list is refused.
  abbrev pub read_unless : ℕ → Cursor → Call F G N → Cursor × Reading Item
  read_unless (suc n) f c = (f, refused (suc n))
  read_unless zero f (first a) = (moved f 0 (get_elem? R.full_list 0), shown (get_elem? R.full_list 0) nothing)
  read_unless zero off (next g b) = (off, end)
  read_unless zero (on i) (next g b) = (moved (on i) (suc i) (get_elem? R.full_list (suc i)), shown (get_elem? R.full_list (suc i)) end)

  abbrev pub read : Cursor → Call F G N → Cursor × Reading Item
  read f c = read_unless (R.question c) f c

  -- the program, which has no finger: `first` is the first item, `next` the item after the one that was given
  abbrev pub respond_unless : ℕ → Call F G N → Reading Item
  respond_unless (suc n) c = refused (suc n)
  respond_unless zero (first a) = shown (first? R.full_list) nothing
  respond_unless zero (next g b) = shown (after R.same R.copy g R.full_list) end

  abbrev pub respond : Call F G N → Reading Item
  respond c = respond_unless (R.question c) c

  -- what an entry promises of a call and what is seen of it
  abbrev pub Answers : Call F G N → Seen Lent → Type 0
  Answers c s = Shows R c (respond c) s

  -- calls, each with what is seen of it
  abbrev pub Run : Type 0
  Run = List (Call F G N × Seen Lent)

  -- g is a copy of no item
  abbrev pub Strange : G → Type 0
  Strange g = (i : ℕ) (v : Item) → get_elem? R.full_list i ≡ some v → ¬ (R.copy v ≡ g)

  -- "Next is given a copy of the line last written, or a list that isn't on the full list."
  abbrev pub ConsistentCall : Option Item → Call F G N → Type 0
  ConsistentCall w (first a) = Unit {0}
  ConsistentCall w (next g b) = ((v : Item) × (w ≡ some v) × (R.copy v ≡ g)) ⊎ Strange g

  abbrev pub ConsistentFrom : Option Item → Run → Type 0
  ConsistentFrom w [] = Unit {0}
  ConsistentFrom w (e ∷ r) = ConsistentCall w e.0 × ConsistentFrom (written w (respond e.0)) r

  abbrev pub ConsistentRun : Run → Type 0
  ConsistentRun r = ConsistentFrom none r

  -- every call keeps its own contract
  abbrev pub Kept : Run → Type 0
  Kept [] = Unit {0}
  Kept (e ∷ r) = Answers e.0 e.1 × Kept r

  -- "A reader has a finger on it, on no line at first": every call is answered as he does
  abbrev pub ReadFrom : Cursor → Run → Type 0
  ReadFrom f [] = Unit {0}
  ReadFrom f (e ∷ r) = Shows R e.0 (read f e.0).1 e.1 × ReadFrom (read f e.0).0 r

  abbrev pub AsRead : Run → Type 0
  AsRead r = ReadFrom off r

  -- What the theorems about runs ask. No two items have the same copy; a list that is not on the full list is refused, and nothing else that is admitted;
  -- what is taken from the lists that an item was written to is its copy.
  pub record Readable : Type 0 where
    pub apart : (c : Call F G N) → R.question c ≡ 0 → Apart R.copy R.full_list
    pub strange : (g : G) (b : N) → Strange g → ¬ (R.question (next g b) ≡ 0)
    pub starts : (a : F) → R.Admits (first a) → R.question (first a) ≡ 0
    pub goes_on : (v : Item) (b : N) → v ∈ R.full_list → R.Admits (next (R.copy v) b) → R.question (next (R.copy v) b) ≡ 0
    pub takes : (c : Call F G N) (v : Item) (l : Lent) → R.question c ≡ 0 → v ∈ R.full_list → R.Wrote v (R.lent c) l → R.taken l ≡ R.copy v

  -- the finger is on the item last written
  abbrev Points : Option Item → Cursor → Type 0
  Points none off = Unit {0}
  Points none (on i) = ⊥
  Points (some v) off = ⊥
  Points (some v) (on i) = get_elem? R.full_list i ≡ some v

  abbrev Agree : ℕ → Option Item → Cursor → Call F G N → Type 0
  Agree n w f c = (respond_unless n c ≡ (read_unless n f c).1) × Points (written w (respond_unless n c)) (read_unless n f c).0

  shown_points : (o : Option Item) (i : ℕ) (word : Reading Item) (w : Option Item) (f : Cursor)
      → get_elem? R.full_list i ≡ o → written w word ≡ w → Points w f → Points (written w (shown o word)) (moved f i o)
  shown_points none i word w f e q s = rw q s
  shown_points (some v) i word w f e q s = e

module _ {Item F G N Lent : Type 0} (R : Rules Item F G N Lent) (readable : Readable R) where
  agree : (n : ℕ) (w : Option Item) (f : Cursor) (c : Call F G N) → R.question c ≡ n → ConsistentCall R w c → Points R w f → Agree R n w f c
  agree (suc n) w f c e g s = (refl, s)
  agree zero w f (first a) e g s = rw (first_at R.full_list) (refl, shown_points R (get_elem? R.full_list 0) 0 nothing w f refl refl s)
  agree zero w f (next g b) e (inr n) s = absurd (readable.strange g b n e)
  agree zero none f (next g b) e (inl (v, q, r)) s = absurd (none_some v q)
  agree zero (some u) off (next g b) e (inl (v, q, r)) s = absurd s
  agree zero (some u) (on i) (next g b) e (inl (v, q, r)) s =
      let p : after R.same R.copy g R.full_list ≡ get_elem? R.full_list (suc i) =
      after_at R.same R.copy R.full_list (readable.apart (next g b) e) i v g (s ∙ q) r in
      rw p (refl, shown_points R (get_elem? R.full_list (suc i)) (suc i) end (some u) (on i) refl refl s)

  run_from : (r : Run R) (w : Option Item) (f : Cursor) → ConsistentFrom R w r → Points R w f → Kept R r → ReadFrom R f r
  run_from [] w f g s k = tt
  run_from (e ∷ r) w f g s k =
      let (p, q) = agree (R.question e.0) w f e.0 refl g.0 s in
      (subst (λ a. Shows R e.0 a e.1) p k.0, run_from r (written w (respond R e.0)) (read R f e.0).0 g.1 q k.1)

  -- whatever calls are made, they are answered as by the reader
  pub run_is_read : (r : Run R) → ConsistentRun R r → Kept R r → AsRead R r
  run_is_read r g k = run_from r none off g tt k
