-- A fixed text, a number and a word, at the front of the bytes.
use Prim.Native.Nat.{ℕ, zero, suc, min, ◌+◌, ◌*◌, ◌-◌, ◌^◌, ◌<◌, ◌≤◌}
use mathlib.Core.Path.{◌≡◌, refl, sym, ap, ◌∙◌}
use mathlib.Core.List.{List, [], ◌∷◌, ◌++◌}
use mathlib.Core.Bool.{Bool, true, false, ◌&&◌, false≢true}
use native.Mathlib.Omega.{arith}
use native.Mathlib.Numerals.{add-one}
use native.Mathlib.Nat.{pow-suc, lt_of_lt_of_le, pow-le-pow_right}
use lib.ListN.{length, length-take, length-drop, take, drop, get_or}
use lib.Dec.{eqb, leb}
use lib.Seq.{take-suc, length-take-le}
use lib.Pointwise.{pointwise}
use denote.Bor.{Bor}
use borrow.Author.Tests.{le-leb, lt-leb, leb-true, leb-false}
use Rattle.std.specs.List.{prefix_len}
use Rattle.std.specs.Option.{MatchOption}
use Rattle.std.proofs.Common.{Option, Some, None}
use Rattle.std.proofs.lemmas.List.Folds.{length-prefix_len}
use Rattle.std.proofs.lemmas.List.Sums.{prefix_len-le-length, prefix_len_passes, prefix_len_stops}
use Rattle.text_read.specs.Reader.{Parsed, fails, reads, then_read, ◌>>=◌, ◌>>◌, give, guard, begins, text, front, run, digit, plain, value_from, number, short, word_byte, word, ReadAs, ReadsFront}
use Rattle.laws.specs.Tests.{and_true}

-- what is read of the first n bytes
pub read_of : {A : Type 0} {s : List ℕ} {p : Parsed A} {a : A} (n : ℕ) → 0 < n → n ≤ length s → p ≡ reads a (drop n s) → ReadAs s p a (drop n s)
read_of {s = s} n h k e =
    let l : length (drop n s) ≡ length s - n = length-drop n s in
    let place : length s - length (drop n s) ≡ n = omega arith in
    record { stands = e; fewer = omega arith; ends = ap (λ k. drop k s) (sym place) }

-- A fixed text.
begins_is : (w s : List ℕ) → begins w s ≡ pointwise eqb (take (length w) s) w
unfolding begins
begins_is [] s = refl
begins_is (a ∷ w) [] = refl
begins_is (a ∷ w) (b ∷ s) = rw (begins, begins_is w s)

-- by what `strip_prefix` says
pub text_read_lem : (w s : List ℕ) → 0 < length w → (r : Option (Bor (List ℕ)))
    → MatchOption r (pointwise eqb (take (length w) s) w ≡ false) (λ x. (pointwise eqb (take (length w) s) w ≡ true) × (x.now ≡ drop (length w) s) × (length x.now + length w ≡ length s))
    → ReadsFront s (text w s) r (λ _. tt) (λ x. x.now)
unfolding text
text_read_lem w s h None m = rw (text, begins_is w s, m)
text_read_lem w s h (Some x) m = rw m.1 (read_of (length w) h (omega (arith, m.2)) (rw (text, begins_is w s, m.0)))

-- The longest front of bytes that pass a test.
front_is : (test : ℕ → Bool) (s : List ℕ) → front test s ≡ take (prefix_len test s) s
unfolding front
front_is test [] = refl
front_is test (b ∷ s) = go (test b) refl (front_is test s)
  where
    go : (x : Bool) → test b ≡ x → front test s ≡ take (prefix_len test s) s → front test (b ∷ s) ≡ take (prefix_len test (b ∷ s)) (b ∷ s)
    go true e h = let q : 1 + prefix_len test s ≡ suc (prefix_len test s) = omega arith in rw (front, e, h, q)
    go false e h = rw (front, e)

front_length : (test : ℕ → Bool) (s : List ℕ) → length (front test s) ≡ prefix_len test s
front_length test s = ap length (front_is test s) ∙ length-prefix_len test s

pub take_front : (test : ℕ → Bool) (s : List ℕ) → take (length (front test s)) s ≡ front test s
take_front test s = rw (front_length test s) (sym (front_is test s))

-- a run of bytes that is judged as a whole: a number, a word
module _ {B : Type 0} (test : ℕ → Bool) (passes : List ℕ → Bool) (f : List ℕ → B) (s : List ℕ) {n : ℕ} (e : n ≡ prefix_len test s) where
  front_taken : front test s ≡ take n s
  front_taken = front_is test s ∙ ap (λ k. take k s) (sym e)

  judged_stands : passes (take n s) ≡ true → 0 < length (take n s) → ReadAs s ((run test >>= (λ w. guard (passes w) >>= (λ _. give (f w)))) s) (f (take n s)) (drop n s)
  unfolding run guard give ◌>>=◌ then_read
  judged_stands q h =
      let some : 0 < n = omega (arith, h, length-take {A = ℕ}) in
      read_of n some (omega (arith, e, prefix_len-le-length test s)) (rw (front_length test s, ← e, front_taken, q))

  judged_fails : passes (take n s) ≡ false → (run test >>= (λ w. guard (passes w) >>= (λ _. give (f w)))) s ≡ fails
  unfolding run guard give ◌>>=◌ then_read
  judged_fails q = rw (front_taken, q)

module _ (s : List ℕ) {n : ℕ} where
  module _ (e : n ≡ prefix_len digit s) where
    pub number_stands : plain (take n s) ≡ true → ReadAs s (number s) (value_from 0 (take n s)) (drop n s)
    unfolding number ◌>>◌
    number_stands q =
        let (some_few, _) = and_true (leb 1 (length (take n s)) && leb (length (take n s)) 7) _ q in
        judged_stands digit (λ w. plain w) (value_from 0) s e q (leb-true _ _ (and_true _ _ some_few).0)

    pub number_fails : plain (take n s) ≡ false → number s ≡ fails
    unfolding number ◌>>◌
    number_fails q = judged_fails digit (λ w. plain w) (value_from 0) s e q

  module _ (e : n ≡ prefix_len word_byte s) where
    pub word_stands : short (take n s) ≡ true → ReadAs s (word s) (take n s) (drop n s)
    unfolding word ◌>>◌
    word_stands q = judged_stands word_byte (λ w. short w) (λ w. w) s e q (leb-true _ _ (and_true _ _ q).0)

    pub word_fails : short (take n s) ≡ false → word s ≡ fails
    unfolding word ◌>>◌
    word_fails q = judged_fails word_byte (λ w. short w) (λ w. w) s e q

-- Of a longer run the first 17 bytes are enough to see that it is no word.
prefix_taken : (test : ℕ → Bool) (k : ℕ) (s : List ℕ) → prefix_len test (take k s) ≡ min k (prefix_len test s)
prefix_taken test zero s = omega arith
prefix_taken test (suc k) [] = omega arith
prefix_taken test (suc k) (b ∷ s) = go (test b) refl (prefix_taken test k s)
  where
    go : (x : Bool) → test b ≡ x → prefix_len test (take k s) ≡ min k (prefix_len test s) → prefix_len test (take (suc k) (b ∷ s)) ≡ min (suc k) (prefix_len test (b ∷ s))
    go true e h = rw e (omega (arith, h))
    go false e h = rw e (omega arith)

module _ (s : List ℕ) {k n : ℕ} (looked : k ≡ min (length s) 17) (e : n ≡ prefix_len word_byte (take k s)) where
  at_most : n ≡ min 17 (prefix_len word_byte s)
  at_most = omega (arith, looked, e ∙ prefix_taken word_byte k s, prefix_len-le-length word_byte s)

  pub short_within : n ≤ length s
  short_within = omega (arith, at_most, prefix_len-le-length word_byte s)

  taken_length : length (take n s) ≡ n
  taken_length = length-take-le n s short_within

  pub short_stands : short (take n s) ≡ true → ReadAs s (word s) (take n s) (drop n s)
  short_stands q =
      let few = leb-true _ _ (and_true (leb 1 (length (take n s))) (leb (length (take n s)) 16) q).1 in
      word_stands s (omega (arith, at_most, few, taken_length)) q

  pub short_fails : short (take n s) ≡ false → word s ≡ fails
  short_fails q = go (leb 17 n) refl
    where
      long : (w : List ℕ) → 16 < length w → short w ≡ false
      long w h = rw (le-leb 1 (length w) (omega arith), lt-leb (length w) 16 h)

      go : (x : Bool) → leb 17 n ≡ x → word s ≡ fails
      go true k =
          let l = length-take-le (prefix_len word_byte s) s (prefix_len-le-length word_byte s) in
          word_fails s {n = prefix_len word_byte s} refl (long (take (prefix_len word_byte s) s) (omega (arith, l, at_most, leb-true 17 n k)))
      go false k = let whole : n ≡ prefix_len word_byte s = omega (arith, at_most, leb-false 17 n k) in word_fails s whole q

-- The value of digits, one after another.
pub digit_range : (b : ℕ) → digit b ≡ true → (48 ≤ b) × (b ≤ 57)
digit_range b e = let x = and_true (leb 48 b) (leb b 57) e in (leb-true 48 b x.0, leb-true b 57 x.1)

-- What the loop of `read_number` knows after i digits of the value v.
pub record Digits (s : List ℕ) (v i : ℕ) : Type 0 where
  pub within : i ≤ prefix_len digit s
  pub few : i ≤ 8
  pub small : v < 10 ^ i
  pub value : value_from 0 (take i s) ≡ v

pub digits_none : (s : List ℕ) → Digits s 0 0
unfolding value_from
digits_none s = record { within = omega arith; few = omega arith; small = omega arith; value = refl }

value_more : (a : ℕ) (ds : List ℕ) (d : ℕ) → value_from a (ds ++ (d ∷ [])) ≡ value_from a ds * 10 + (d - 48)
unfolding value_from
value_more a [] d = refl
value_more a (x ∷ ds) d = value_more (a * 10 + (x - 48)) ds d

module _ {s : List ℕ} {v i : ℕ} (d : Digits s v i) where
  pub digits_more : i < length s → digit (get_or s i 0) ≡ true → i < 8 → Digits s (v * 10 + (get_or s i 0 - 48)) (i + 1)
  digits_more h e n =
      let r = digit_range (get_or s i 0) e in
      record {
        within = go (leb (prefix_len digit s) i) refl;
        few = omega arith;
        small = rw (add-one, pow-suc) (omega (arith, d.small, r));
        value = rw (add-one, take-suc s i 0 h, value_more, d.value);
      }
    where
      go : (x : Bool) → leb (prefix_len digit s) i ≡ x → i + 1 ≤ prefix_len digit s
      go true q =
          let at : i ≡ prefix_len digit s = omega (arith, d.within, leb-true (prefix_len digit s) i q) in
          let stop = prefix_len_stops digit s 0 (rw at at h) in
          absurd (false≢true (sym (rw (← at) at stop) ∙ e))
      go false q = omega (arith, leb-false (prefix_len digit s) i q)

  -- what the next digit has room for
  pub digits_room : i < 8 → v < 10000000
  digits_room n = lt_of_lt_of_le d.small (pow-le-pow_right {n = 10} (omega arith) {i = i} {j = 7} (omega arith))

  -- no digit follows
  pub digits_stop : i < length s → digit (get_or s i 0) ≡ false → i ≡ prefix_len digit s
  digits_stop h e = go (leb (prefix_len digit s) i) refl
    where
      go : (x : Bool) → leb (prefix_len digit s) i ≡ x → i ≡ prefix_len digit s
      go true q = omega (arith, d.within, leb-true (prefix_len digit s) i q)
      go false q = absurd (false≢true (sym e ∙ prefix_len_passes digit s i 0 (leb-false (prefix_len digit s) i q)))

  pub digits_all : length s ≤ i → i ≡ prefix_len digit s
  digits_all h = omega (arith, d.within, prefix_len-le-length digit s)

  -- all digits are passed, or more than a number has
  module _ (ended : i < 8 → i ≡ prefix_len digit s) where
    taken : length (take i s) ≡ i
    taken = length-take-le i s (omega (arith, d.within, prefix_len-le-length digit s))

    pub number_read : plain (take i s) ≡ true → ReadAs s (number s) v (drop i s)
    number_read q =
        let some_few = (and_true (leb 1 (length (take i s)) && leb (length (take i s)) 7) _ q).0 in
        let few = leb-true (length (take i s)) 7 (and_true (leb 1 (length (take i s))) (leb (length (take i s)) 7) some_few).1 in
        rw (d.value) at (number_stands s (ended (omega (arith, few, taken))) q)

    pub number_none : plain (take i s) ≡ false → number s ≡ fails
    number_none q = go (leb 8 i) refl
      where
        long : (ds : List ℕ) → 7 < length ds → plain ds ≡ false
        long ds h = rw (le-leb 1 (length ds) (omega arith), lt-leb (length ds) 7 h)

        go : (x : Bool) → leb 8 i ≡ x → number s ≡ fails
        go true k =
            let l = length-take-le (prefix_len digit s) s (prefix_len-le-length digit s) in
            number_fails s {n = prefix_len digit s} refl (long (take (prefix_len digit s) s) (omega (arith, l, d.within, leb-true 8 i k)))
        go false k = number_fails s (ended (leb-false 8 i k)) q
