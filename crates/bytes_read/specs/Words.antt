-- Document 01: "In a C call a list of 32-bit numbers is lent as bytes, four a number, two's complement, lowest byte first".
use Rattle.std.specs.Prelude.{cond, List, [], ◌∷◌, ◌++◌, map, ℕ, ◌+◌, ◌*◌, ◌-◌, ◌/◌, ◌%◌, ltb, ℤ, pos, negsuc, length, drop}

-- "four a number, ... lowest byte first"
abbrev pub word_of : ℕ → ℕ → ℕ → ℕ → ℕ
word_of a b c d = a + 256 * b + 65536 * c + 16777216 * d

abbrev pub bytes_of : ℕ → List ℕ
bytes_of n = n % 256 ∷ n / 256 % 256 ∷ n / 256 / 256 % 256 ∷ n / 256 / 256 / 256 % 256 ∷ []

-- "two's complement": below 2 ^ 31 the number itself, else the number less 2 ^ 32
abbrev pub signed : ℕ → ℤ
signed n = cond (ltb n 2147483648) (pos n) (negsuc (4294967295 - n))

abbrev pub unsigned : ℤ → ℕ
unsigned (pos n) = n
unsigned (negsuc n) = 4294967295 - n

-- the numbers of a list of bytes; up to three bytes at its end are no number
abbrev pub words : List ℕ → List ℕ
words [] = []
words (a ∷ []) = []
words (a ∷ b ∷ []) = []
words (a ∷ b ∷ c ∷ []) = []
words (a ∷ b ∷ c ∷ d ∷ l) = word_of a b c d ∷ words l

abbrev pub ints : List ℕ → List ℤ
ints l = map signed (words l)

-- the bytes of a list of numbers
abbrev pub encode_words : List ℕ → List ℕ
encode_words [] = []
encode_words (n ∷ l) = bytes_of n ++ encode_words l

abbrev pub encode_ints : List ℤ → List ℕ
encode_ints l = encode_words (map unsigned l)

-- "places beyond these keep what they held": bytes written to the first places of a list
abbrev pub over : List ℕ → List ℕ → List ℕ
over bytes out = bytes ++ drop (length bytes) out
