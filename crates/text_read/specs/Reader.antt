-- Readers: what stands at the front of a list of bytes, and the bytes that follow it.
use Rattle.std.specs.Prelude.{ℕ, zero, suc, ◌+◌, ◌*◌, ◌-◌, ◌<◌, ◌≤◌, ◌≡◌, List, [], ◌∷◌, Bool, true, false, not, ◌&&◌, ◌||◌, Option, MatchOption, length, drop, get_or, leb, eqb}
use Rattle.laws.specs.Padded.{padded}
use Rattle.text_read.specs.declared.Row.{Row}
use Rattle.text_read.specs.Heads.{space, line_end}

-- a form was read, with its value and the bytes that follow it; or it does not stand there
pub data Parsed (A : Type 0) : Type 0 where
  fails : Parsed A
  reads : A → List ℕ → Parsed A

abbrev pub Reader : Type 0 → Type 0
Reader A = List ℕ → Parsed A

unfoldable pub then_read : {A B : Type 0} → Parsed A → (A → Reader B) → Parsed B
then_read fails k = fails
then_read (reads a s) k = k a s

infixl 20 ◌>>=◌ ◌>>◌
-- "Each form is read from the rest of the book that follows the form before it."
unfoldable pub ◌>>=◌ : {A B : Type 0} → Reader A → (A → Reader B) → Reader B
unfolding then_read
◌>>=◌ p k s = then_read (p s) k

unfoldable pub ◌>>◌ : {A B : Type 0} → Reader A → Reader B → Reader B
◌>>◌ p q = p >>= (λ _. q)

infixr 25 ◌<|>◌
-- the first of two forms that stands there; the second is read from the same rest
unfoldable pub ◌<|>◌ : {A : Type 0} → Reader A → Reader A → Reader A
◌<|>◌ p q s = elim (p s) [ fails ↦ q s | reads a t ↦ reads a t ]

-- nothing is read, and the value is a
unfoldable pub give : {A : Type 0} → A → Reader A
give a s = reads a s

-- nothing is read, and the test must hold
unfoldable pub guard : Bool → Reader (Unit {0})
guard true s = reads tt s
guard false s = fails

-- how many bytes are left
unfoldable pub remaining : Reader ℕ
remaining s = reads (length s) s

-- whether s begins with w
unfoldable pub begins : List ℕ → List ℕ → Bool
begins [] s = true
begins (a ∷ w) [] = false
begins (a ∷ w) (b ∷ s) = eqb b a && begins w s

-- the bytes of w
unfoldable pub text : List ℕ → Reader (Unit {0})
text w s = elim (begins w s) [ true ↦ reads tt (drop (length w) s) | false ↦ fails ]

-- the longest front of s whose bytes all pass the test
unfoldable pub front : (ℕ → Bool) → List ℕ → List ℕ
front test [] = []
front test (b ∷ s) = elim (test b) [ true ↦ b ∷ front test s | false ↦ [] ]

unfoldable pub run : (ℕ → Bool) → Reader (List ℕ)
run test s = reads (front test s) (drop (length (front test s)) s)

-- 48 to 57 are the bytes of 0 to 9, 97 to 122 those of a to z
abbrev pub digit : ℕ → Bool
digit b = leb 48 b && leb b 57

abbrev pub letter : ℕ → Bool
letter b = leb 97 b && leb b 122

-- the value of a run of digits that follows the digits of the number a
unfoldable pub value_from : ℕ → List ℕ → ℕ
value_from a [] = a
value_from a (d ∷ ds) = value_from (a * 10 + (d - 48)) ds

-- "A number is 1 to 7 digits without a needless leading 0."
abbrev pub plain : List ℕ → Bool
plain ds = leb 1 (length ds) && leb (length ds) 7 && (leb (length ds) 1 || not (eqb (get_or ds 0 0) 48))

unfoldable pub number : Reader ℕ
number = do
  ds ← run digit
  guard (plain ds)
  give (value_from 0 ds)

-- "W is 1 to 16 of a–z and 0–9."
abbrev pub word_byte : ℕ → Bool
word_byte b = digit b || letter b

abbrev pub short : List ℕ → Bool
short w = leb 1 (length w) && leb (length w) 16

unfoldable pub word : Reader (List ℕ)
word = do
  w ← run word_byte
  guard (short w)
  give w

-- the rest of a line from `head` on: n numbers, `)` and byte 10. "One space between items, none elsewhere."
unfoldable pub row : List ℕ → ℕ → Reader (List ℕ)
row head zero = do
  text line_end
  give []
row head (suc n) = do
  text head
  v ← number
  vs ← row space n
  give (v ∷ vs)

-- the forms read, put before those that follow
unfoldable pub more : {A : Type 0} → A → Parsed (List A) → Parsed (List A)
more a fails = fails
more a (reads l s) = reads (a ∷ l) s

-- a reader again and again, while it reads; n bounds how often
unfoldable pub up_to : {A : Type 0} → ℕ → Reader A → Reader (List A)
up_to zero p s = reads [] s
up_to (suc n) p s = elim (p s) [ fails ↦ reads [] s | reads a t ↦ more a (up_to n p t) ]

-- any count of a form
unfoldable pub many : {A : Type 0} → Reader A → Reader (List A)
many p s = up_to (length s) p s

-- n numbers behind one another, the first behind `head`, and each other behind a space
unfoldable pub numbers : List ℕ → ℕ → Reader (List ℕ)
numbers head zero = give []
numbers head (suc n) = do
  text head
  v ← number
  vs ← numbers space n
  give (v ∷ vs)

-- What is read at the front of s, where p is what stands there: a, and the bytes `after` that follow it, which s ends with.
pub record ReadAs {A : Type 0} (s : List ℕ) (p : Parsed A) (a : A) (after : List ℕ) : Type 0 where
  pub stands : p ≡ reads a after
  pub fewer : length after < length s
  pub ends : after ≡ drop (length s - length after) s

-- What a function answers that reads at the front of s, where p is what stands there: nothing, if it is not there, and else its value and the
-- bytes that follow it.
abbrev pub ReadsFront : {A X : Type 0} → List ℕ → Parsed A → Option X → (X → A) → (X → List ℕ) → Type 0
ReadsFront s p r value after = MatchOption r (p ≡ fails) (λ x. ReadAs s p (value x) (after x))

-- What is answered of the rest of a line whose numbers are `list`, and which ends before `after`: of the rows of 1 to 4 numbers the one with as
-- many stands there, and no other.
pub record NumbersIn (s head : List ℕ) (r : Row) (after : List ℕ) : Type 0 where
  pub list : List ℕ
  pub numbers_are : r.numbers ≡ padded 4 0 list
  pub count_is : r.count ≡ length list
  pub some : 1 ≤ r.count
  pub few : r.count ≤ 4
  pub stands : ReadAs s (row head r.count s) list after
  pub others : (n : ℕ) → 1 ≤ n → n ≤ 4 → ¬ (n ≡ r.count) → row head n s ≡ fails

-- The same where there may be no such row: then none of 1 to 4 numbers stands there.
abbrev pub NumbersRead : {X : Type 0} → List ℕ → List ℕ → Option X → (X → Row) → (X → List ℕ) → Type 0
NumbersRead s head r value after = MatchOption r ((n : ℕ) → 1 ≤ n → n ≤ 4 → row head n s ≡ fails) (λ x. NumbersIn s head (value x) (after x))
