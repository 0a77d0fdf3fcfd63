-- Numbers written one after another.
use Rattle.std.proofs.Common.{◌≡◌, refl, ap, sym, ◌∙◌, List, [], ◌∷◌, ◌++◌, map, ℕ, zero, suc, ◌+◌, ◌*◌, ◌/◌, ◌≤◌, ◌<◌, min, length, get_or, take, drop, add-one, arith, length-append, length-drop, take-suc, take_at, length-take-le, w32}
use Rattle.std.proofs.Math.Seq.{drop-drop, drop-append-add, paste}
use Rattle.std.proofs.lemmas.List.{get_or-map, get_or-take}
use Rattle.std.proofs.lemmas.Slice.{put_mid-paste}
use Rattle.std.specs.Int.{to_le_bytes}
use borrow.Rule.Slice.PartMut.{put_mid}
use native.Mathlib.Nat.{suc-min-suc}
use Rattle.bytes_read.specs.Words.{bytes_of, encode_words, over}
use Rattle.bytes_read.proofs.Words.{length_encode}

-- ---- the bytes of numbers
encode_append : (l r : List ℕ) → encode_words (l ++ r) ≡ encode_words l ++ encode_words r
encode_append [] r = refl
encode_append (n ∷ l) r = ap {B = List ℕ} (λ t. bytes_of n ++ t) (encode_append l r)

-- the library writes a number so
bytes_are : (n : ℕ) → to_le_bytes w32 n ≡ bytes_of n
bytes_are n =
    let e2 : n / 65536 ≡ n / 256 / 256 = omega arith in
    let e3 : n / 16777216 ≡ n / 256 / 256 / 256 = omega arith in
    cc

-- ---- one number after another
module _ (xs out : List ℕ) where
  first_length : (i : ℕ) → i ≤ length xs → length (encode_words (take i xs)) ≡ 4 * i
  first_length i h = length_encode (take i xs) ∙ ap (λ k. 4 * k) (length-take-le i xs h)

  pub length_over : (i : ℕ) → i ≤ length xs → 4 * i ≤ length out → length (over (encode_words (take i xs)) out) ≡ length out
  length_over i h k =
      let e = first_length i h in
      let q = encode_words (take i xs) in
      length-append q (drop (length q) out) ∙ let b = length-drop (length q) out in omega arith

  put_next : (i : ℕ) → i < length xs → paste (over (encode_words (take i xs)) out) (4 * i) (bytes_of (get_or xs i 0)) 4 ≡ over (encode_words (take (suc i) xs)) out
  put_next i h =
      let q = encode_words (take i xs) in
      let e : length q ≡ 4 * i = first_length i (omega arith) in
      let t : take (4 * i) (over q out) ≡ q = take_at q (drop (length q) out) (4 * i) e in
      let e4 : 4 * i + 4 ≡ length q + 4 = omega arith in
      let e5 : length q + 4 ≡ 4 * suc i = omega arith in
      let d : drop (4 * i + 4) (over q out) ≡ drop (4 * suc i) out =
      ap (λ k. drop k (over q out)) e4 ∙ drop-append-add q (drop (length q) out) 4 ∙ drop-drop 4 (length q) out ∙ ap (λ k. drop k out) e5 in
      let s : encode_words (take (suc i) xs) ≡ q ++ bytes_of (get_or xs i 0) = rw (take-suc xs i 0) (encode_append (take i xs) (get_or xs i 0 ∷ [])) in
      let l : length (encode_words (take (suc i) xs)) ≡ 4 * suc i = first_length (suc i) (omega arith) in
      rw (t, d, l, s)

-- four bytes of out, from number i's place on, are those of number i
pub written_more : (xs out₀ out bs : List ℕ) (i k n : ℕ) → out ≡ over (encode_words (take i xs)) out₀ → i < length xs → k ≡ 4 → bs ≡ to_le_bytes w32 n → n ≡ get_or xs i 0
    → put_mid (4 * i) k out bs ≡ over (encode_words (take (i + 1) xs)) out₀
written_more xs out₀ out bs i k n w h four b q =
    put_mid-paste (4 * i) k out bs (bytes_of (get_or xs i 0)) 4 (b ∙ bytes_are n ∙ ap bytes_of q) (sym four) refl
    ∙ ap (λ o. paste o (4 * i) (bytes_of (get_or xs i 0)) 4) w ∙ put_next xs out₀ i h ∙ ap (λ j. over (encode_words (take j xs)) out₀) (sym (add-one i))

-- number i of the first k, as it is written
pub word_of_item : {A : Type 0} (word : A → ℕ) (xs : List A) (k i : ℕ) (x : A) → i < k → i < length xs → x ≡ get_or (take k xs) i x → word x ≡ get_or (map word xs) i 0
word_of_item word xs k i x h g e =
    ap word (e ∙ get_or-take k xs i x h) ∙ sym (get_or-map word xs i x 0 g)

-- the first m, and the first a of them
pub take_twice : {A : Type 0} (a m : ℕ) (xs : List A) → take a (take m xs) ≡ take (min m a) xs
take_twice zero m xs = let e : min m 0 ≡ 0 = omega arith in rw e
take_twice (suc a) zero xs = let e : min 0 (suc a) ≡ 0 = omega arith in rw e
take_twice (suc a) (suc m) [] = rw (suc-min-suc m a)
take_twice (suc a) (suc m) (x ∷ xs) = rw (suc-min-suc m a) (ap (λ l. x ∷ l) (take_twice a m xs))
