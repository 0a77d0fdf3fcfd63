-- One form after another, each read from the rest that follows the one before.
use Prim.Native.Nat.{ℕ, ◌+◌, ◌-◌, ◌<◌, ◌≤◌}
use mathlib.Core.Path.{◌≡◌, refl, ap, ◌∙◌}
use mathlib.Core.List.{List}
use native.Mathlib.Omega.{arith}
use native.Mathlib.Nat.{sub_self}
use lib.ListN.{length, length-drop, drop}
use lib.Seq.{drop-drop}
use Rattle.text_read.specs.Reader.{Parsed, fails, reads, Reader, then_read, ◌>>=◌, give, remaining, ReadAs}

-- s ends with t
pub record Ends (s t : List ℕ) : Type 0 where
  pub within : length t ≤ length s
  pub is : t ≡ drop (length s - length t) s

pub ends_all : (s : List ℕ) → Ends s s
ends_all s = record { within = omega arith; is = rw sub_self }

pub ends_drop : (s : List ℕ) (n : ℕ) → n ≤ length s → Ends s (drop n s)
ends_drop s n h =
    let l : length (drop n s) ≡ length s - n = length-drop n s in
    let place : n ≡ length s - length (drop n s) = omega arith in
    record { within = omega arith; is = ap (λ k. drop k s) place }

pub ends_more : {s t u : List ℕ} → Ends s t → Ends t u → Ends s u
ends_more {s} {t} {u} x y =
    let place : length s - length t + (length t - length u) ≡ length s - length u = omega (arith, x.within, y.within) in
    record { within = omega (arith, x.within, y.within); is = y.is ∙ ap (drop (length t - length u)) x.is ∙ drop-drop (length t - length u) (length s - length t) s ∙ ap (λ (k : ℕ). drop k s) place }

pub read_ends : {A : Type 0} {s : List ℕ} {p : Parsed A} {a : A} {t : List ℕ} → ReadAs s p a t → Ends s t
read_ends r = record { within = omega (arith, r.fewer); is = r.ends }

-- What is to be read of s is p: what k reads of t, with which s ends.
pub record From {A : Type 0} (p : Parsed A) (k : Reader A) (s t : List ℕ) : Type 0 where
  pub is : p ≡ k t
  pub ends : Ends s t

module _ {A B : Type 0} (q : Reader A) (k : A → Reader B) where
  pub then_reads : (s : List ℕ) {a : A} {t : List ℕ} → q s ≡ reads a t → (q >>= k) s ≡ k a t
  unfolding ◌>>=◌ then_read
  then_reads s e = rw e

  pub then_fails : (s : List ℕ) → q s ≡ fails → (q >>= k) s ≡ fails
  unfolding ◌>>=◌ then_read
  then_fails s e = rw e

  module _ {p : Parsed B} {s t : List ℕ} (f : From p (q >>= k) s t) where
    -- the next form is read
    pub next : {a : A} {u : List ℕ} → q t ≡ reads a u → Ends t u → From p (k a) s u
    next e h = record { is = f.is ∙ then_reads t e; ends = ends_more f.ends h }

    pub next_read : {a : A} {u : List ℕ} → ReadAs t (q t) a u → From p (k a) s u
    next_read r = next r.stands (read_ends r)

    -- it does not stand there
    pub stops : q t ≡ fails → p ≡ fails
    stops e = f.is ∙ then_fails t e

-- how many bytes are left
pub skip : {B : Type 0} (k : ℕ → Reader B) {p : Parsed B} {s t : List ℕ} → From p (remaining >>= k) s t → From p (k (length t)) s t
unfolding remaining
skip k {t = t} f = record { is = f.is ∙ then_reads remaining k t refl; ends = f.ends }

-- a form whose value is taken over
module _ {A B : Type 0} (q : Reader A) (f : A → B) (s : List ℕ) where
  pub mapped : {a : A} {t : List ℕ} → ReadAs s (q s) a t → ReadAs s ((q >>= (λ x. give (f x))) s) (f a) t
  unfolding give
  mapped r = record { stands = then_reads q (λ x. give (f x)) s r.stands; fewer = r.fewer; ends = r.ends }

-- all is read
pub all_read : {A : Type 0} {a : A} {p : Parsed A} {s t : List ℕ} → From p (give a) s t → length t < length s → ReadAs s p a t
unfolding give
all_read f h = record { stands = f.is; fewer = h; ends = f.ends.is }

pub begin : {A : Type 0} (k : Reader A) (s : List ℕ) → From (k s) k s s
begin k s = record { is = refl; ends = ends_all s }
