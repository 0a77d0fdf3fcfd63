-- A form that reads whatever another reads, and reads it in the same way.
use Prim.Native.Nat.{ℕ, zero, suc}
use mathlib.Core.Path.{◌≡◌, refl, ap, ◌∙◌}
use mathlib.Core.List.{List, [], ◌∷◌}
use lib.ListN.{length}
use Rattle.text_read.specs.Reader.{Parsed, fails, reads, Reader, ◌>>=◌, more, up_to, many}
use Rattle.text_read.proofs.Sequence.{then_reads}
use Rattle.text_read.proofs.Leaves.{not_read, reads_same, both}

abbrev pub Wider : {A : Type 0} → Reader A → Reader A → Type 0
Wider {A} p q = (s : List ℕ) (a : A) (t : List ℕ) → p s ≡ reads a t → q s ≡ reads a t

pub then_wider : {A B : Type 0} (p q : Reader A) (k m : A → Reader B) → Wider p q → ((a : A) → Wider (k a) (m a)) → Wider (p >>= k) (q >>= m)
then_wider p q k m f g s b t e =
    let r = both p k s b t e in
    then_reads q m s (f s r.value r.rest r.first) ∙ g r.value r.rest b t r.second

module _ {A : Type 0} (p q : Reader A) (wide : Wider p q) where
  more_same : (a : A) (x y : Parsed (List A)) (l : List A) (t : List ℕ) → more a x ≡ reads l t → ((k : List A) → x ≡ reads k t → y ≡ reads k t) → more a y ≡ reads l t
  unfolding more
  more_same a fails y l t e deep = absurd (not_read l t e)
  more_same a (reads k v) y l t e deep =
      let r = reads_same (a ∷ k) l v t e in
      rw (deep k (ap (reads k) r.1)) (ap (λ l. reads l t) r.0)

  up_to_same : (n : ℕ) (s : List ℕ) (l : List A) (t : List ℕ) → up_to n p s ≡ reads l t → q t ≡ fails → up_to n q s ≡ reads l t
  unfolding up_to
  up_to_same zero s l t e z = e
  up_to_same (suc n) s l t e z = go (p s) refl (up_to_same n)
    where
      go : (x : Parsed A) → p s ≡ x → ((s : List ℕ) (l : List A) (t : List ℕ) → up_to n p s ≡ reads l t → q t ≡ fails → up_to n q s ≡ reads l t) → up_to (suc n) q s ≡ reads l t
      go fails h deep =
          let f : reads [] s ≡ reads l t = rw (up_to, h) at e in
          let none : q s ≡ fails = ap q (reads_same [] l s t f).1 ∙ z in
          rw (up_to, none) f
      go (reads a u) h deep = rw (up_to, wide s a u h) (more_same a (up_to n p u) (up_to n q u) l t (rw (up_to, h) at e) (λ k f. deep u k t f z))

  many_same : (s : List ℕ) (l : List A) (t : List ℕ) → many p s ≡ reads l t → q t ≡ fails → many q s ≡ reads l t
  unfolding many
  many_same s l t e z = up_to_same (length s) s l t e z

  -- any count of a form, with something behind it where the wider form does not stand
  pub many_wider : {B : Type 0} (k : List A → Reader B) → ((l : List A) (s : List ℕ) (b : B) (t : List ℕ) → k l s ≡ reads b t → q s ≡ fails) → Wider (many p >>= k) (many q >>= k)
  many_wider k stop s b t e =
      let r = both (many p) k s b t e in
      then_reads (many q) k s (many_same s r.value r.rest r.first (stop r.value r.rest b t r.second)) ∙ r.second
