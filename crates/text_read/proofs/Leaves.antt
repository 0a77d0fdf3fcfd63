-- What a reader leaves of the bytes is a suffix of them; and what holds of a form where it is read holds of any count of that form.
use Prim.Native.Nat.{ℕ, zero, suc, ◌+◌}
use mathlib.Core.Path.{◌≡◌, refl, sym, ap, subst, ◌∙◌}
use mathlib.Core.Bool.{Bool, true, false}
use mathlib.Core.List.{List, [], ◌∷◌}
use native.Mathlib.Omega.{arith}
use lib.ListN.{length, drop}
use lib.Seq.{drop-drop}
use Rattle.laws.specs.Members.{Every, every_map}
use Rattle.text_read.specs.Reader.{Parsed, fails, reads, Reader, then_read, ◌>>=◌, ◌>>◌, give, guard, remaining, begins, text, front, run, digit, plain, value_from, number, row, more, up_to, many}
use Rattle.text_read.specs.Heads.{space, line_end}

pub not_read : {A : Type 0} (a : A) (t : List ℕ) → ¬ (◌≡◌ {A = Parsed A} fails (reads a t))
not_read a t e = let z : ◌≡◌ {A = ℕ} 0 1 = cc in omega arith

pub reads_same : {A : Type 0} (a b : A) (s t : List ℕ) → ◌≡◌ {A = Parsed A} (reads a s) (reads b t) → (a ≡ b) × (s ≡ t)
reads_same a b s t e = (cc, cc)

-- a form read after another: both were read
pub record Both {A B : Type 0} (p : Reader A) (k : A → Reader B) (s : List ℕ) (b : B) (t : List ℕ) : Type 0 where
  pub value : A
  pub rest : List ℕ
  pub first : p s ≡ reads value rest
  pub second : k value rest ≡ reads b t

pub both : {A B : Type 0} (p : Reader A) (k : A → Reader B) (s : List ℕ) (b : B) (t : List ℕ) → (p >>= k) s ≡ reads b t → Both p k s b t
unfolding then_read ◌>>=◌
both p k s b t e = go (p s) refl e
  where
    go : (x : Parsed _) → p s ≡ x → then_read x k ≡ reads b t → Both p k s b t
    go fails f g = absurd (not_read b t g)
    go (reads a u) f g = record { value = a; rest = u; first = f; second = g }

abbrev pub Suffix : List ℕ → List ℕ → Type 0
Suffix s t = (n : ℕ) × (t ≡ drop n s)

pub suffix_more : (s t u : List ℕ) → Suffix s t → Suffix t u → Suffix s u
suffix_more s t u p q = (p.0 + q.0, q.1 ∙ ap (drop q.0) p.1 ∙ drop-drop q.0 p.0 s)

-- whatever p reads, it leaves a suffix
abbrev pub Leaves : {A : Type 0} → Reader A → Type 0
Leaves {A} p = (s : List ℕ) (a : A) (t : List ℕ) → p s ≡ reads a t → Suffix s t

pub then_leaves : {A B : Type 0} (p : Reader A) (k : A → Reader B) → Leaves p → ((a : A) → Leaves (k a)) → Leaves (p >>= k)
then_leaves p k f g s b t e =
    let r = both p k s b t e in
    suffix_more s r.rest t (f s r.value r.rest r.first) (g r.value r.rest b t r.second)

pub text_leaves : (w : List ℕ) → Leaves (text w)
unfolding text
text_leaves w s a t e = go (begins w s) refl
  where
    go : (x : Bool) → begins w s ≡ x → Suffix s t
    go true q = (length w, sym (reads_same tt a (drop (length w) s) t (rw (text, q) at e)).1)
    go false q = absurd (not_read a t (rw (text, q) at e))

pub give_leaves : {A : Type 0} (a : A) → Leaves (give a)
unfolding give
give_leaves a s b t e = (0, sym (reads_same a b s t e).1)

pub remaining_leaves : Leaves remaining
unfolding remaining
remaining_leaves s n t e = (0, sym (reads_same (length s) n s t e).1)

-- a run of bytes that is judged as a whole: a number, a word
module _ {B : Type 0} (test : ℕ → Bool) (passes : List ℕ → Bool) (f : List ℕ → B) where
  pub judged_read : (s : List ℕ) (b : B) (t : List ℕ) → (run test >>= (λ w. guard (passes w) >>= (λ _. give (f w)))) s ≡ reads b t
      → (passes (front test s) ≡ true) × (f (front test s) ≡ b) × (drop (length (front test s)) s ≡ t)
  unfolding run guard give ◌>>=◌ then_read
  judged_read s b t e = go (passes (front test s)) refl
    where
      go : (x : Bool) → passes (front test s) ≡ x → (passes (front test s) ≡ true) × (f (front test s) ≡ b) × (drop (length (front test s)) s ≡ t)
      go true q = let r = reads_same (f (front test s)) b (drop (length (front test s)) s) t (rw q at e) in (q, r.0, r.1)
      go false q = absurd (not_read b t (rw q at e))

  pub judged_leaves : Leaves (run test >>= (λ w. guard (passes w) >>= (λ _. give (f w))))
  judged_leaves s b t e = (length (front test s), sym (judged_read s b t e).2)

pub row_leaves : (head : List ℕ) (n : ℕ) → Leaves (row head n)
unfolding row number ◌>>◌
row_leaves head zero = then_leaves (text line_end) _ (text_leaves line_end) (λ _. give_leaves [])
row_leaves head (suc n) =
    then_leaves (text head) _ (text_leaves head)
    (λ _. then_leaves number _ (judged_leaves digit (λ ds. plain ds) (value_from 0))
    (λ v. then_leaves (row space n) _ (row_leaves space n) (λ vs. give_leaves (v ∷ vs))))

-- any count of a form
module _ {A : Type 0} (P : List ℕ → A → Type 0) (p : Reader A) (later : (s : List ℕ) (n : ℕ) (a : A) → P (drop n s) a → P s a)
    (one : (s : List ℕ) (a : A) (t : List ℕ) → p s ≡ reads a t → P s a × Suffix s t) where
  none_read : (s : List ℕ) (l : List A) (t : List ℕ) → reads [] s ≡ reads l t → Every (P s) l × Suffix s t
  none_read s l t e = let q = reads_same [] l s t e in (subst (Every (P s)) q.0 tt, (0, sym q.1))

  more_read : (a : A) (x : Parsed (List A)) (s u : List ℕ) (l : List A) (t : List ℕ) → more a x ≡ reads l t → P s a → Suffix s u
      → ((k : List A) (v : List ℕ) → x ≡ reads k v → Every (P u) k × Suffix u v) → Every (P s) l × Suffix s t
  unfolding more
  more_read a fails s u l t e h w deep = absurd (not_read l t e)
  more_read a (reads k v) s u l t e h w deep =
      let r = deep k v refl in
      let q = reads_same (a ∷ k) l v t e in
      let all = every_map (P u) (P s) k (λ b z. later s w.0 b (subst (λ (x : List ℕ). P x b) w.1 z)) r.0 in
      (subst (Every (P s)) q.0 (h, all), suffix_more s u t w (subst (Suffix u) q.1 r.1))

  up_to_read : (n : ℕ) (s : List ℕ) (l : List A) (t : List ℕ) → up_to n p s ≡ reads l t → Every (P s) l × Suffix s t
  unfolding up_to
  up_to_read zero s l t e = none_read s l t e
  up_to_read (suc n) s l t e = go (p s) refl (up_to_read n)
    where
      go : (x : Parsed A) → p s ≡ x → ((s : List ℕ) (l : List A) (t : List ℕ) → up_to n p s ≡ reads l t → Every (P s) l × Suffix s t) → Every (P s) l × Suffix s t
      go fails q deep = none_read s l t (rw (up_to, q) at e)
      go (reads a u) q deep = let r = one s a u q in more_read a (up_to n p u) s u l t (rw (up_to, q) at e) r.0 r.1 (λ k v. deep u k v)

  pub many_read : (s : List ℕ) (l : List A) (t : List ℕ) → many p s ≡ reads l t → Every (P s) l × Suffix s t
  unfolding many
  many_read s l t e = up_to_read (length s) s l t e

pub many_leaves : {A : Type 0} (p : Reader A) → Leaves p → Leaves (many p)
many_leaves p f s l t e = (many_read (λ _ _. Unit {0}) p (λ s n a h. h) (λ s a t h. (tt, f s a t h)) s l t e).1
