-- The first of two forms that stands there.
use Prim.Native.Nat.{ℕ}
use mathlib.Core.Path.{◌≡◌, refl, sym, ◌∙◌}
use mathlib.Core.List.{List}
use Rattle.text_read.specs.Reader.{Parsed, fails, reads, Reader, ◌<|>◌}
use Rattle.text_read.proofs.Leaves.{Leaves, Suffix}

module _ {A : Type 0} (p q : Reader A) where
  pub first_reads : (s : List ℕ) {a : A} {t : List ℕ} → p s ≡ reads a t → (p <|> q) s ≡ reads a t
  unfolding ◌<|>◌
  first_reads s e = rw (◌<|>◌, e)

  pub first_fails : (s : List ℕ) → p s ≡ fails → (p <|> q) s ≡ q s
  unfolding ◌<|>◌
  first_fails s e = rw (◌<|>◌, e)

  pub either_leaves : Leaves p → Leaves q → Leaves (p <|> q)
  either_leaves f g s a t e = go (p s) refl
    where
      go : (x : Parsed A) → p s ≡ x → Suffix s t
      go fails h = g s a t (sym (first_fails s h) ∙ e)
      go (reads b v) h = f s a t (h ∙ sym (first_reads s h) ∙ e)
