-- The balances of a book's network, set in an array of zeros.
use mathlib.Core.Path.{◌≡◌, sym, ap, ap₂, ◌∙◌}
use mathlib.Core.List.{List, [], ◌∷◌, ◌++◌, append_assoc}
use Prim.Native.Nat.{ℕ, ◌+◌, ◌*◌, ◌-◌, ◌≤◌}
use native.Mathlib.Omega.{arith}
use lib.ListN.{length, set, replicate, length-replicate, length-append, replicate-append-replicate}
use lib.IntN.{ℤ, pos, neg_ℤ, ◌-ℤ◌}
use mir.Syntax.{w32}
use mir.Val.{SFits, to_z, of_z}
use mir.Facts.{to_z-of_z, to_z_pos}
use Rattle.laws.specs.Linear.{lin}
use Rattle.laws.specs.Range.{fits}
use Rattle.laws.specs.Padded.{padded, padded_more}

-- the places hold d already
padded_none : {A : Type 0} (k : ℕ) (d : A) (l : List A) (n : ℕ) → length l + n ≤ k → padded k d (l ++ replicate n d) ≡ padded k d l
padded_none k d l n h =
    append_assoc l (replicate n d) (replicate (k - length (l ++ replicate n d)) d)
    ∙ ap (λ t. l ++ t) (replicate-append-replicate n (k - length (l ++ replicate n d)) d
    ∙ ap (λ i. replicate i d) (let f : n + (k - length (l ++ replicate n d)) ≡ k - length l = omega (arith, length-append l (replicate n d), length-replicate n d) in f))

two_set : (p q : ℤ) (n : ℕ) → n ≤ 62 → set (p ∷ replicate 63 (pos 0)) (n + 1) q ≡ padded 64 (pos 0) (p ∷ (replicate n (pos 0) ++ (q ∷ [])))
two_set p q n h =
    let long : n + 1 ≡ length (p ∷ replicate n (pos 0)) = omega (arith, length-replicate n (pos 0)) in
    ap₂ (λ l i. set l i q) (sym (padded_none 64 (pos 0) (p ∷ []) n (let f : length (p ∷ []) + n ≤ 64 = omega arith in f))) long
    ∙ padded_more 64 (pos 0) (p ∷ replicate n (pos 0)) q (omega arith)

module _ (players : ℕ) (few : players ≤ 8) where
  is_pos : to_z w32 players ≡ pos players
  is_pos = to_z_pos w32 (omega arith)

  pub less_fits : SFits w32 (pos 0 -ℤ to_z w32 players)
  less_fits = rw is_pos (simp fits (omega arith))

  is_less : to_z w32 (of_z w32 (pos 0 -ℤ to_z w32 players)) ≡ neg_ℤ (pos players)
  is_less = to_z-of_z less_fits ∙ rw is_pos (simp lin (omega arith))

  pub balances_set : (e : ℕ) → e ≤ 28
      → set (to_z w32 players ∷ replicate 63 (pos 0)) (2 * e + 1) (to_z w32 (of_z w32 (pos 0 -ℤ to_z w32 players)))
      ≡ padded 64 (pos 0) (pos players ∷ (replicate (2 * e) (pos 0) ++ (neg_ℤ (pos players) ∷ [])))
  balances_set e h = ap₂ (λ p q. set (p ∷ replicate 63 (pos 0)) (2 * e + 1) q) is_pos is_less ∙ two_set (pos players) (neg_ℤ (pos players)) (2 * e) (omega arith)
