-- What stands behind the joins, of arcs as of numbers on them: a row of one for each of n entries, a second such row, and one element more.
use mathlib.Core.Path.{◌≡◌, ap, ◌∙◌}
use mathlib.Core.List.{List, [], ◌∷◌, ◌++◌, map}
use Prim.Native.Nat.{ℕ, ◌+◌, ◌*◌, ◌-◌, ◌≤◌, ◌<◌}
use native.Mathlib.Omega.{arith}
use lib.ListN.{length, get_or, length-append, get_or-append}
use lib.Seq.{get_or_at, get_or-append-add}
use Rattle.laws.specs.Within.{from}
use Rattle.laws.specs.Rows.{row_length, row_at}

module _ {A : Type 0} (φ ψ : ℕ → A) (z : A) (n : ℕ) where
  abbrev pub behind_joins : List A
  behind_joins = map φ (from n 1) ++ (map ψ (from n 1) ++ (z ∷ []))

  pub rows_length : length behind_joins ≡ 2 * n + 1
  rows_length = omega (arith, length-append (map φ (from n 1)) (map ψ (from n 1) ++ (z ∷ [])), length-append (map ψ (from n 1)) (z ∷ []), row_length φ n 1, row_length ψ n 1)

  module _ (k : ℕ) (d : A) where
    pub in_first : k < n → get_or behind_joins k d ≡ φ (k + 1)
    in_first h = get_or-append (map φ (from n 1)) _ d k (rw (row_length φ n 1) h) ∙ row_at φ n 1 k d h ∙ ap φ (omega arith)

    past : n ≤ k → get_or behind_joins k d ≡ get_or (map ψ (from n 1) ++ (z ∷ [])) (k - n) d
    past h =
        let e : k ≡ length (map φ (from n 1)) + (k - n) = omega (arith, row_length φ n 1) in
        ap (λ i. get_or behind_joins i d) e ∙ get_or-append-add (map φ (from n 1)) (map ψ (from n 1) ++ (z ∷ [])) (k - n) d

    pub in_second : n ≤ k → k < 2 * n → get_or behind_joins k d ≡ ψ (k - n + 1)
    in_second h l =
        let i : k - n < n = omega arith in
        past h ∙ get_or-append (map ψ (from n 1)) _ d (k - n) (rw (row_length ψ n 1) i) ∙ row_at ψ n 1 (k - n) d i ∙ ap ψ (omega arith)

    pub in_one_more : k ≡ 2 * n → get_or behind_joins k d ≡ z
    in_one_more e = past (omega arith) ∙ get_or_at (map ψ (from n 1)) z [] d (k - n) (row_length ψ n 1 ∙ omega arith)
