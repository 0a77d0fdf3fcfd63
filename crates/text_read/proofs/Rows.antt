-- The rest of a line: its numbers one after another, and what a loop knows that reads them.
use Prim.Native.Nat.{ℕ, zero, suc, ◌+◌, ◌-◌, ◌<◌, ◌≤◌}
use mathlib.Core.Path.{◌≡◌, refl, sym, ap, ◌∙◌}
use mathlib.Core.Bool.{Bool, true, false}
use mathlib.Core.List.{List, [], ◌∷◌, ◌++◌, append_assoc, append-nil}
use native.Mathlib.Omega.{arith}
use lib.Dec.{eqb, leb}
use lib.ListN.{length, length-append, replicate, set}
use borrow.Author.Tests.{eqb-true, leb-true, leb-false}
use Rattle.laws.specs.Padded.{padded, padded_more}
use Rattle.text_read.specs.Reader.{Parsed, fails, reads, Reader, then_read, ◌>>=◌, ◌>>◌, give, begins, text, number, numbers, row, ReadAs, NumbersIn}
use Rattle.text_read.specs.Heads.{bytes, space, line_end}
use Rattle.text_read.proofs.Leaves.{not_read, both}
use Rattle.text_read.proofs.Sequence.{From, then_reads, then_fails, begin, next_read, stops, all_read}

-- with the numbers d read before
abbrev after : List ℕ → Reader (List ℕ) → Reader (List ℕ)
after d p = p >>= (λ vs. give (d ++ vs))

-- readers put together in another order
module _ {A B C : Type 0} (p : Reader A) (f : A → Reader B) (g : B → Reader C) where
  then_then : (s : List ℕ) → ((p >>= f) >>= g) s ≡ (p >>= (λ a. f a >>= g)) s
  unfolding ◌>>=◌ then_read
  then_then s = go (p s)
    where
      go : (x : Parsed A) → then_read (then_read x f) g ≡ then_read x (λ a t. then_read (f a t) g)
      go fails = refl
      go (reads a t) = refl

  -- the first of three
  regrouped : {q : Parsed C} {s t : List ℕ} → From q ((p >>= f) >>= g) s t → From q (p >>= (λ a. f a >>= g)) s t
  regrouped {t = t} h = record { is = h.is ∙ then_then t; ends = h.ends }

then_alike : {A B : Type 0} (p : Reader A) (f g : A → Reader B) → ((a : A) (t : List ℕ) → f a t ≡ g a t) → (s : List ℕ) → (p >>= f) s ≡ (p >>= g) s
unfolding ◌>>=◌ then_read
then_alike p f g h s = go (p s)
  where
    go : (x : Parsed _) → then_read x f ≡ then_read x g
    go fails = refl
    go (reads a t) = h a t

after_nothing : (p : Reader (List ℕ)) (s : List ℕ) → after [] p s ≡ p s
unfolding ◌>>=◌ then_read give
after_nothing p s = go (p s)
  where
    go : (x : Parsed (List ℕ)) → then_read x (λ vs. give vs) ≡ x
    go fails = refl
    go (reads a t) = refl

after_one : (d : List ℕ) (v : ℕ) (p : Reader (List ℕ)) (s : List ℕ) → after d (p >>= (λ vs. give (v ∷ vs))) s ≡ after (d ++ (v ∷ [])) p s
unfolding ◌>>=◌ then_read give
after_one d v p s = go (p s)
  where
    go : (x : Parsed (List ℕ)) → then_read (then_read x (λ vs. give (v ∷ vs))) (λ vs. give (d ++ vs)) ≡ then_read x (λ vs. give ((d ++ (v ∷ [])) ++ vs))
    go fails = refl
    go (reads a t) = ap (λ l. reads l t) (sym (append_assoc d (v ∷ []) a))

-- where a line ends, no text stands that begins with another byte than `)`
pub not_at_end : (a : ℕ) (w s : List ℕ) {x : Unit {0}} {t : List ℕ} → eqb 41 a ≡ false → text line_end s ≡ reads x t → text (a ∷ w) s ≡ fails
unfolding text begins bytes
not_at_end a w [] n e = absurd (not_read _ _ e)
not_at_end a w (b ∷ s) n e = go (eqb b 41) refl
  where
    go : (x : Bool) → eqb b 41 ≡ x → text (a ∷ w) (b ∷ s) ≡ fails
    go true h = rw (text, eqb-true b 41 h, n)
    go false h = absurd (not_read _ _ (rw (text, h) at e))

pub no_space : (s : List ℕ) {x : Unit {0}} {t : List ℕ} → text line_end s ≡ reads x t → text space s ≡ fails
unfolding bytes
no_space s e = not_at_end 32 [] s refl e

-- A line has one count of numbers: where a row stands, none of more numbers does.
begins_alike : (head : List ℕ) (n m : ℕ) (s : List ℕ) {l t : List ℕ} → ((s l t : List ℕ) → row space n s ≡ reads l t → row space m s ≡ fails) → row head (suc n) s ≡ reads l t
    → row head (suc m) s ≡ fails
unfolding row ◌>>◌
begins_alike head n m s {l} {t} deep e =
    let a = both (text head) _ s l t e in
    let b = both number _ a.rest l t a.second in
    let c = both (row space n) _ b.rest l t b.second in
    then_reads (text head) _ s a.first ∙ then_reads number _ a.rest b.first ∙ then_fails (row space m) _ b.rest (deep b.rest c.value c.rest c.first)

no_longer : (n m : ℕ) → n < m → (s l t : List ℕ) → row space n s ≡ reads l t → row space m s ≡ fails
unfolding row ◌>>◌
no_longer n zero h s l t e = absurd (omega arith)
no_longer zero (suc m) h s l t e = then_fails (text space) _ s (no_space s (both (text line_end) _ s l t e).first)
no_longer (suc n) (suc m) h s l t e = begins_alike space n m s (no_longer n m (omega arith)) e

pub one_count : (head : List ℕ) (n m : ℕ) → n < m → (s : List ℕ) {l t : List ℕ} → row head (suc n) s ≡ reads l t → row head (suc m) s ≡ fails
one_count head n m h s e = begins_alike head n m s (no_longer n m h) e

-- What the loop of `read_sequence` knows, which is to read n numbers of s: the numbers d are read and m are left, the first of them behind `head'`.
pub record Known (head s : List ℕ) (n : ℕ) (d : List ℕ) (m : ℕ) (head' t : List ℕ) : Type 0 where
  pub count : length d + m ≡ n
  pub from : From (numbers head n s) (after d (numbers head' m)) s t
  pub shorter : length d + length t ≤ length s

pub known_none : (head s : List ℕ) (n m : ℕ) → m ≡ n → Known head s n [] m head s
known_none head s n m z = rw z (known_all head s n)
  where
    known_all : (head s : List ℕ) (n : ℕ) → Known head s n [] n head s
    known_all head s n =
        let f = begin (numbers head n) s in
        record { count = omega arith; from = record { is = f.is ∙ sym (after_nothing (numbers head n) s); ends = f.ends }; shorter = omega arith }

module _ {head s : List ℕ} {n : ℕ} {d : List ℕ} {m : ℕ} {head' t : List ℕ} (k : Known head s n d m head' t) where
  module _ {left : ℕ} (z : m ≡ suc left) where
    headed : From (numbers head n s) (text head' >>= (λ _. number >>= (λ v. after d (numbers space left >>= (λ vs. give (v ∷ vs)))))) s t
    unfolding numbers ◌>>◌
    headed = let f = regrouped (text head') _ _ (rw z at k.from) in record { is = f.is ∙ then_alike (text head') _ _ (λ _ u. then_then number _ _ u) t; ends = f.ends }

    pub no_head : text head' t ≡ fails → numbers head n s ≡ fails
    no_head e = stops (text head') _ headed e

    module _ {u : List ℕ} (r : ReadAs t (text head' t) tt u) where
      pub no_number : number u ≡ fails → numbers head n s ≡ fails
      no_number e = stops number _ (next_read (text head') _ headed r) e

      pub one_more : {v : ℕ} {w : List ℕ} → ReadAs u (number u) v w → Known head s n (d ++ (v ∷ [])) left space w
      one_more {v} {w} o =
          let f = next_read number _ (next_read (text head') _ headed r) o in
          let longer : length (d ++ (v ∷ [])) ≡ length d + 1 = length-append d (v ∷ []) in
          record {
            count = omega (arith, k.count, z, longer);
            from = record { is = f.is ∙ after_one d v (numbers space left) w; ends = f.ends };
            shorter = omega (arith, k.shorter, longer, r.fewer, o.fewer);
          }

  -- all are read
  pub all_known : m ≡ 0 → 0 < n → ReadAs s (numbers head n s) d t
  unfolding numbers give ◌>>=◌ then_read
  all_known z h =
      let f = k.from in
      let is : numbers head n s ≡ give d t = f.is ∙ rw (z, append-nil) in
      all_read (record { is = is; ends = f.ends }) (omega (arith, k.count, k.shorter))

-- A row is its first numbers, and a rest: K tells it by the numbers before it, which it hands on.
module _ (K : List ℕ → Reader (List ℕ)) (hands_on : (v : ℕ) (vs t : List ℕ) → K (v ∷ vs) t ≡ (K vs >>= (λ l. give (v ∷ l))) t) where
  one_before : (head : List ℕ) (n m : ℕ) → ((u : List ℕ) → row space m u ≡ (numbers space n >>= K) u) → (s : List ℕ) → row head (suc m) s ≡ (numbers head (suc n) >>= K) s
  unfolding row numbers ◌>>◌ give ◌>>=◌ then_read
  one_before head n m e s =
      then_alike (text head) _ _ (λ _ t. then_alike number _ _ deep t ∙ sym (then_then number _ _ t)) s ∙ sym (then_then (text head) _ _ s)
    where
      deep : (v : ℕ) (u : List ℕ) → (row space m >>= (λ l. give (v ∷ l))) u ≡ ((numbers space n >>= (λ vs. give (v ∷ vs))) >>= K) u
      deep v u =
          ap (λ x. then_read x (λ l. give (v ∷ l))) (e u)
          ∙ then_then (numbers space n) K (λ l. give (v ∷ l)) u
          ∙ then_alike (numbers space n) _ _ (λ vs t. sym (hands_on v vs t)) u
          ∙ sym (then_then (numbers space n) (λ vs. give (v ∷ vs)) K u)

-- the rest is the end of the line
row_is : (head : List ℕ) (n : ℕ) (s : List ℕ) → row head n s ≡ (numbers head n >>= (λ vs. text line_end >>= (λ _. give vs))) s
unfolding row numbers ◌>>◌ give ◌>>=◌ then_read
row_is head zero s = refl
row_is head (suc n) s =
    one_before (λ vs. text line_end >>= (λ _. give vs)) (λ v vs t. sym (then_then (text line_end) (λ _. give vs) (λ l. give (v ∷ l)) t)) head n n (row_is space n) s

module _ (head s : List ℕ) (n : ℕ) where
  pub row_unread : numbers head n s ≡ fails → row head n s ≡ fails
  row_unread e = row_is head n s ∙ then_fails (numbers head n) _ s e

  module _ {l t : List ℕ} (r : ReadAs s (numbers head n s) l t) where
    rowed : From (row head n s) (text line_end >>= (λ _. give l)) s t
    rowed = let f = begin (row head n) s in next_read (numbers head n) _ (record { is = f.is ∙ row_is head n s; ends = f.ends }) r

    pub row_open : text line_end t ≡ fails → row head n s ≡ fails
    row_open e = stops (text line_end) _ rowed e

    pub row_closed : {u : List ℕ} → ReadAs t (text line_end t) tt u → ReadAs s (row head n s) l u
    row_closed o = all_read (next_read (text line_end) _ rowed o) (omega (arith, r.fewer, o.fewer))

-- What the loop of `read_numbers` knows after `count` numbers, which are d: no row has as few, and each longer one goes on behind `head'`.
pub record Passed (head s numbers : List ℕ) (count : ℕ) (head' t : List ℕ) : Type 0 where
  pub d : List ℕ
  pub numbers_are : numbers ≡ padded 4 0 d
  pub count_is : count ≡ length d
  pub some : 0 < length head'
  pub shorter : (n : ℕ) → 1 ≤ n → n ≤ count → row head n s ≡ fails
  pub longer : (m : ℕ) → Known head s (count + m) d m head' t

pub passed_none : (head s : List ℕ) → 0 < length head → Passed head s (replicate 4 0) 0 head s
passed_none head s h =
    record { d = []; numbers_are = refl; count_is = refl; some = h; shorter = λ n low high. absurd (omega arith); longer = λ m. known_none head s (0 + m) m (omega arith) }

module _ {head s values : List ℕ} {count : ℕ} {head' t : List ℕ} (p : Passed head s values count head' t) where
  -- where no longer row goes on, there is none
  none_longer : ((m : ℕ) → numbers head (count + suc m) s ≡ fails) → (n : ℕ) → 1 ≤ n → row head n s ≡ fails
  none_longer f n h = go (leb n count) refl
    where
      go : (x : Bool) → leb n count ≡ x → row head n s ≡ fails
      go true q = p.shorter n h (leb-true n count q)
      go false q = let z : count + suc (n - count - 1) ≡ n = omega (arith, leb-false n count q) in row_unread head s n (rw z at (f (n - count - 1)))

  pub none_headed : text head' t ≡ fails → (n : ℕ) → 1 ≤ n → row head n s ≡ fails
  none_headed e = none_longer (λ m. no_head (p.longer (suc m)) refl e)

  module _ {u : List ℕ} (r : ReadAs t (text head' t) tt u) where
    pub none_numbered : number u ≡ fails → (n : ℕ) → 1 ≤ n → row head n s ≡ fails
    none_numbered e = none_longer (λ m. no_number (p.longer (suc m)) refl r e)

    module _ (few : count < 4) {v : ℕ} {w : List ℕ} (o : ReadAs u (number u) v w) where
      length_more : length (p.d ++ (v ∷ [])) ≡ count + 1
      length_more = length-append p.d (v ∷ []) ∙ omega (arith, p.count_is)

      put : set values count v ≡ padded 4 0 (p.d ++ (v ∷ []))
      put = rw (p.numbers_are, p.count_is) (padded_more 4 0 p.d v (omega (arith, few, p.count_is)))

      longer_still : (m : ℕ) → Known head s (count + 1 + m) (p.d ++ (v ∷ [])) m space w
      longer_still m = let z : count + suc m ≡ count + 1 + m = omega arith in rw z at (one_more (p.longer (suc m)) refl r o)

      as_many : ReadAs s (numbers head (count + 1) s) (p.d ++ (v ∷ [])) w
      as_many = let z : count + 1 + 0 ≡ count + 1 = omega arith in all_known (rw z at (longer_still 0)) refl (omega arith)

      pub row_ended : {x : List ℕ} → ReadAs w (text line_end w) tt x → NumbersIn s head (record { numbers = set values count v; count = count + 1 }) x
      row_ended {x} e =
          record {
            list = p.d ++ (v ∷ []);
            numbers_are = put;
            count_is = sym length_more;
            some = omega arith;
            few = omega (arith, few);
            stands = here;
            others = λ n low high z. go n low z (leb n count) refl;
          }
        where
          here : ReadAs s (row head (count + 1) s) (p.d ++ (v ∷ [])) x
          here = row_closed head s (count + 1) as_many e

          go : (n : ℕ) → 1 ≤ n → ¬ (n ≡ count + 1) → (x : Bool) → leb n count ≡ x → row head n s ≡ fails
          go n low z true q = p.shorter n low (leb-true n count q)
          go n low z false q =
              let more = leb-false n count q in
              let next : suc (n - 1) ≡ n = omega (arith, low) in
              let one : count + 1 ≡ suc count = omega arith in
              rw next at (one_count head count (n - 1) (omega (arith, more, z)) s (rw one at here.stands))

      pub going_on : text line_end w ≡ fails → Passed head s (set values count v) (count + 1) space w
      unfolding bytes
      going_on e =
          record { d = p.d ++ (v ∷ []); numbers_are = put; count_is = sym length_more; some = omega arith; shorter = λ n low high. go n low high (leb n count) refl; longer = longer_still }
        where
          go : (n : ℕ) → 1 ≤ n → n ≤ count + 1 → (x : Bool) → leb n count ≡ x → row head n s ≡ fails
          go n low high true q = p.shorter n low (leb-true n count q)
          go n low high false q =
              let last : count + 1 ≡ n = omega (arith, high, leb-false n count q) in
              rw last at (row_open head s (count + 1) as_many e)
