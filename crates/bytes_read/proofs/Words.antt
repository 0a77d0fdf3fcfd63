-- Laws of numbers lent as bytes: written and read back, read and written back, the number at a place.
use mathlib.Core.Path.{◌≡◌, refl, sym, ap, ◌∙◌}
use mathlib.Core.Bool.{Bool, true, false}
use mathlib.Core.List.{List, [], ◌∷◌, ◌++◌, map}
use Prim.Native.Nat.{ℕ, zero, suc, ◌+◌, ◌*◌, ◌-◌, ◌/◌, ◌%◌, ◌≤◌, ◌<◌}
use native.Mathlib.Omega.{arith}
use lib.Dec.{ltb}
use lib.IntN.{ℤ, pos, negsuc}
use lib.ListN.{length, get_or, length-map, get_or-map, get_or-eq_default}
use borrow.Author.Tests.{lt-ltb, le-ltb}
use mir.Syntax.{w32}
use mir.Val.{SFits, to_z}
use Rattle.std.specs.Int.{from_le_bytes}
use Rattle.std.specs.Simd.{first_chunks}
use Rattle.laws.specs.Members.{Every}
use Rattle.bytes_read.specs.Words.{word_of, bytes_of, signed, unsigned, words, encode_words, ints, encode_ints}

-- ---- one number
pub signed_low : (n : ℕ) → n < 2147483648 → signed n ≡ pos n
signed_low n h = rw (lt-ltb n 2147483648 h)

pub signed_high : (n : ℕ) → 2147483648 ≤ n → signed n ≡ negsuc (4294967295 - n)
signed_high n h = rw (le-ltb n 2147483648 h)

-- the language has the same number for the same bits
pub signed_to_z : (n : ℕ) → signed n ≡ to_z w32 n
signed_to_z n = go (ltb n 2147483648) refl
  where
    go : (t : Bool) → ltb n 2147483648 ≡ t → signed n ≡ to_z w32 n
    go true e = rw e
    go false e = rw e (ap negsuc (omega arith))

pub signed_unsigned : (z : ℤ) → SFits w32 z → signed (unsigned z) ≡ z
signed_unsigned (pos n) h = signed_low n (omega (arith, h.sfits))
signed_unsigned (negsuc n) h = signed_high (4294967295 - n) (omega (arith, h.sfits)) ∙ ap negsuc (omega (arith, h.sfits))

unsigned_small : (z : ℤ) → SFits w32 z → unsigned z < 4294967296
unsigned_small (pos n) h = omega (arith, h.sfits)
unsigned_small (negsuc n) h = omega arith

-- ---- what is written is read again
word_bytes : (n : ℕ) → n < 4294967296 → word_of (n % 256) (n / 256 % 256) (n / 256 / 256 % 256) (n / 256 / 256 / 256 % 256) ≡ n
word_bytes n h = omega arith

pub words_encode : (l : List ℕ) → Every (λ n. n < 4294967296) l → words (encode_words l) ≡ l
words_encode [] h = refl
words_encode (n ∷ l) h = cc (word_bytes n h.0, words_encode l h.1)

unsigned_all : (l : List ℤ) → Every (SFits w32) l → Every (λ n. n < 4294967296) (map unsigned l)
unsigned_all [] h = tt
unsigned_all (z ∷ l) h = (unsigned_small z h.0, unsigned_all l h.1)

signed_all : (l : List ℤ) → Every (SFits w32) l → map signed (map unsigned l) ≡ l
signed_all [] h = refl
signed_all (z ∷ l) h = cc (signed_unsigned z h.0, signed_all l h.1)

pub ints_encode : (l : List ℤ) → Every (SFits w32) l → ints (encode_ints l) ≡ l
ints_encode l h = ap (map signed) (words_encode (map unsigned l) (unsigned_all l h)) ∙ signed_all l h

-- ---- what is read is written again
bytes_word : (a b c d : ℕ) → a < 256 → b < 256 → c < 256 → d < 256 → bytes_of (word_of a b c d) ≡ a ∷ b ∷ c ∷ d ∷ []
bytes_word a b c d ha hb hc hd =
    let n = word_of a b c d in
    let e0 : n % 256 ≡ a = omega arith in
    let q1 : n / 256 ≡ b + 256 * c + 65536 * d = omega arith in
    let e1 : n / 256 % 256 ≡ b = rw q1 (omega arith) in
    let q2 : n / 256 / 256 ≡ c + 256 * d = rw q1 (omega arith) in
    let e2 : n / 256 / 256 % 256 ≡ c = rw q2 (omega arith) in
    let q3 : n / 256 / 256 / 256 ≡ d = rw q2 (omega arith) in
    let e3 : n / 256 / 256 / 256 % 256 ≡ d = rw q3 (omega arith) in
    cc (e0, e1, e2, e3)

pub encode_words_lem : (l : List ℕ) → Every (λ n. n < 256) l → length l % 4 ≡ 0 → encode_words (words l) ≡ l
encode_words_lem [] h e = refl
encode_words_lem (a ∷ []) h e = absurd (omega arith)
encode_words_lem (a ∷ b ∷ []) h e = absurd (omega arith)
encode_words_lem (a ∷ b ∷ c ∷ []) h e = absurd (omega arith)
encode_words_lem (a ∷ b ∷ c ∷ d ∷ l) h e =
    ap {B = List ℕ} (λ x. x ++ encode_words (words l)) (bytes_word a b c d h.0 h.1.0 h.1.1.0 h.1.1.1.0)
    ∙ ap {B = List ℕ} (λ x. a ∷ b ∷ c ∷ d ∷ x) (encode_words_lem l h.1.1.1.1 (omega arith))

-- ---- the count of numbers, and the number at a place
pub length_words : (l : List ℕ) → length (words l) ≡ length l / 4
length_words [] = refl
length_words (a ∷ []) = refl
length_words (a ∷ b ∷ []) = refl
length_words (a ∷ b ∷ c ∷ []) = refl
length_words (a ∷ b ∷ c ∷ d ∷ l) = let e = length_words l in omega arith

pub length_ints : (l : List ℕ) → length (ints l) ≡ length l / 4
length_ints l = length-map (words l) signed ∙ length_words l

-- the library reads a number of four bytes so
chunk_word : (l : List ℕ) (k i : ℕ) → i < k → k ≤ length l / 4 → from_le_bytes w32 (get_or (first_chunks 4 k l) i []) ≡ get_or (words l) i 0
chunk_word l zero i h g = absurd (omega arith)
chunk_word [] (suc k) i h g = absurd (omega arith)
chunk_word (a ∷ []) (suc k) i h g = absurd (omega arith)
chunk_word (a ∷ b ∷ []) (suc k) i h g = absurd (omega arith)
chunk_word (a ∷ b ∷ c ∷ []) (suc k) i h g = absurd (omega arith)
chunk_word (a ∷ b ∷ c ∷ d ∷ l) (suc k) zero h g = omega arith
chunk_word (a ∷ b ∷ c ∷ d ∷ l) (suc k) (suc i) h g = chunk_word l k i (omega arith) (omega arith)

pub word_of_chunk : (l : List ℕ) (i : ℕ) (four : List ℕ) → i < length l / 4 → four ≡ get_or (first_chunks 4 (length l / 4) l) i []
    → from_le_bytes w32 four ≡ get_or (words l) i 0
word_of_chunk l i four h e = ap (from_le_bytes w32) e ∙ chunk_word l (length l / 4) i h (omega arith)

-- number i of a list of bytes cut into fours, where there is one and where there is none
pub number_read : (b : List ℕ) (i : ℕ) (fours : List (List ℕ)) (four : List ℕ) → fours ≡ first_chunks 4 (length b / 4) b → i < length b / 4 → four ≡ get_or fours i []
    → get_or (ints b) i (pos 0) ≡ to_z w32 (from_le_bytes w32 four)
number_read b i fours four e h q =
    get_or-map signed (words b) i 0 ∙ ap signed (sym (word_of_chunk b i four h (q ∙ ap (λ l. get_or l i []) e))) ∙ signed_to_z (from_le_bytes w32 four)

pub ints_past : (l : List ℕ) (i : ℕ) → length l / 4 ≤ i → get_or (ints l) i (pos 0) ≡ pos 0
ints_past l i h = get_or-eq_default (ints l) (pos 0) (omega (arith, length_ints l))

-- ---- the bytes of numbers
pub length_encode : (l : List ℕ) → length (encode_words l) ≡ 4 * length l
length_encode [] = refl
length_encode (n ∷ l) = let e = length_encode l in omega arith
