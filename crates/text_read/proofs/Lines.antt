-- Lines of one form, one after another: what a loop knows that reads them.
use Prim.Native.Nat.{ℕ, zero, suc, ◌+◌, ◌-◌, ◌≤◌}
use mathlib.Core.Path.{◌≡◌, refl, ap, ◌∙◌}
use mathlib.Core.List.{List, [], ◌∷◌, ◌++◌}
use native.Mathlib.Omega.{arith}
use lib.ListN.{length, length-append, drop}
use Rattle.text_read.specs.Reader.{Parsed, fails, reads, Reader, more, up_to, many, ReadAs}
use Rattle.text_read.proofs.Sequence.{Ends, ends_all, ends_more, read_ends}

-- the forms of d, put before what p gives
unfoldable pub before : {A : Type 0} → List A → Parsed (List A) → Parsed (List A)
before [] p = p
before (a ∷ d) p = more a (before d p)

before_more : {A : Type 0} (d : List A) (a : A) (p : Parsed (List A)) → before d (more a p) ≡ before (d ++ (a ∷ [])) p
unfolding before
before_more [] a p = refl
before_more (b ∷ d) a p = ap (more b) (before_more d a p)

before_reads : {A : Type 0} (d : List A) (t : List ℕ) → before d (reads [] t) ≡ reads d t
unfolding before more
before_reads [] t = refl
before_reads (a ∷ d) t = ap (more a) (before_reads d t)

up_to_fails : {A : Type 0} (p : Reader A) (n : ℕ) (t : List ℕ) → p t ≡ fails → up_to n p t ≡ reads [] t
unfolding up_to
up_to_fails p zero t e = refl
up_to_fails p (suc n) t e = rw (up_to, e)

-- From the front of s the lines `done` are read, and t is left.
pub record Lines {A : Type 0} (p : Reader A) (s : List ℕ) (done : List A) (t : List ℕ) : Type 0 where
  pub fuel : ℕ
  pub enough : length t ≤ fuel
  pub is : many p s ≡ before done (up_to fuel p t)
  pub shorter : length done + length t ≤ length s
  pub ends : Ends s t

pub lines_none : {A : Type 0} (p : Reader A) (s : List ℕ) → Lines p s [] s
unfolding before many
lines_none p s = record { fuel = length s; enough = omega arith; is = refl; shorter = omega arith; ends = ends_all s }

module _ {A : Type 0} {p : Reader A} {s : List ℕ} {done : List A} {t : List ℕ} (d : Lines p s done t) where
  -- one more line
  pub lines_more : {a : A} {u : List ℕ} → ReadAs t (p t) a u → Lines p s (done ++ (a ∷ [])) u
  unfolding up_to
  lines_more {a} {u} r = go d.fuel d.enough d.is
    where
      go : (n : ℕ) → length t ≤ n → many p s ≡ before done (up_to n p t) → Lines p s (done ++ (a ∷ [])) u
      go zero h e = absurd (omega (arith, r.fewer))
      go (suc n) h e =
          record {
            fuel = n;
            enough = omega (arith, r.fewer);
            is = e ∙ ap (before done) (rw (up_to, r.stands)) ∙ before_more done a (up_to n p u);
            shorter = omega (arith, length-append done (a ∷ []), r.fewer, d.shorter);
            ends = ends_more d.ends (read_ends r);
          }

  -- no more lines
  pub lines_all : p t ≡ fails → many p s ≡ reads done (drop (length s - length t) s)
  lines_all e = d.is ∙ ap (before done) (up_to_fails p d.fuel t e) ∙ before_reads done t ∙ ap (reads done) d.ends.is
