-- A list after one of its places is set: by cases, and beyond that place.
use Rattle.std.specs.Prelude.{◌≡◌, List, ◌≢◌, ℕ, ◌+◌, ◌<◌, length, get_or, set, drop}
use Rattle.std.proofs.Common.{sym, ap, ◌∙◌, arith, get_or-set_same, get_or-set_other, drop-set-lt, drop-drop}
use Rattle.std.proofs.Math.Decide.{ℕ_discrete}

pub set_cases : {A : Type 0} (P : ℕ → A → Type 0) (l : List A) (i : ℕ) (a d : A) → i < length l → P i a → ((j : ℕ) → j ≢ i → P j (get_or l j d)) → (j : ℕ) → P j (get_or (set l i a) j d)
set_cases P l i a d h here other j = go (ℕ_discrete j i)
  where
    go : Dec (j ≡ i) → P j (get_or (set l i a) j d)
    go (yes q) = rw (q, get_or-set_same l i a d h) here
    go (no q) = rw (get_or-set_other l i j a d q) (other j q)

-- a list that is written place by place keeps what it held beyond them
pub drop_set_next : {A : Type 0} (l l₀ : List A) (n : ℕ) (a : A) → drop n l ≡ drop n l₀ → drop (n + 1) (set l n a) ≡ drop (n + 1) l₀
drop_set_next {A} l l₀ n a e = drop-set-lt (n + 1) l n a (omega arith) ∙ sym (drop-drop 1 n l) ∙ ap (λ (k : List A). drop 1 k) e ∙ drop-drop 1 n l₀
