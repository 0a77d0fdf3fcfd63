-- The first bad line of the lines that a question is put to.
use Prim.Native.Nat.{ℕ, zero, suc, ◌+◌, ◌≤◌}
use mathlib.Core.Path.{◌≡◌, refl, ap, ◌∙◌}
use mathlib.Core.Bool.{Bool, true, false, cond, true≢false}
use mathlib.Core.List.{List, [], ◌∷◌, ◌++◌}
use native.Mathlib.Omega.{arith}
use lib.ListN.{length, get_or}
use Rattle.std.specs.Prelude.{Option, Some, None, is_none, unwrap_or}
use Rattle.book_lines.specs.Questions.{all_pass, first_bad, LowestFailing}
use Rattle.book_lines.specs.Passes.{first_bad_after}

-- none says that no line fails
pub all_pass_lem : (first : ℕ) (l : List Bool) → all_pass l ≡ is_none (first_bad first l)
unfolding all_pass first_bad
all_pass_lem first [] = refl
all_pass_lem first (true ∷ l) = all_pass_lem (first + 1) l
all_pass_lem first (false ∷ l) = refl

pub none_bad : (first : ℕ) (l : List Bool) → first_bad first l ≡ None → all_pass l ≡ true
none_bad first l z = all_pass_lem first l ∙ rw z

-- lowest after a line that passes
lowest_after : (first : ℕ) (l : List Bool) (k : ℕ) → LowestFailing (first + 1) l k → LowestFailing first (true ∷ l) k
lowest_after first l k r = record { fails = (suc r.fails.0, omega (arith, r.fails.1), r.fails.2); lowest = λ j f. later j f.0 f.1 f.2 }
  where
    later : (j n : ℕ) → j ≡ first + n → get_or (true ∷ l) n true ≡ false → k ≤ j
    later j zero p f = absurd (true≢false f)
    later j (suc n) p f = r.lowest j (n, omega (arith, p), f)

-- "the lowest line number that fails that question"
pub first_bad_lowest : (first : ℕ) (l : List Bool) → all_pass l ≡ false → LowestFailing first l (unwrap_or (first_bad first l) 0)
unfolding all_pass first_bad
first_bad_lowest first [] e = absurd (true≢false e)
first_bad_lowest first (false ∷ l) e = record { fails = (0, omega arith, refl); lowest = λ j f. omega (arith, f.1) }
first_bad_lowest first (true ∷ l) e = lowest_after first l _ (first_bad_lowest (first + 1) l e)

-- one line more, which passes by the test that the code makes while none failed
one_more : (first : ℕ) (l : List Bool) (passes answer : Bool) → (first_bad first l ≡ None → passes ≡ answer)
    → first_bad_after (first_bad first l) passes (first + length l) ≡ first_bad first (l ++ (answer ∷ []))
unfolding first_bad
one_more first [] passes answer same = rw (same refl) (alone answer)
  where
    here : first + 0 ≡ first
    here = omega arith

    alone : (x : Bool) → cond x None (Some (first + 0)) ≡ first_bad first (x ∷ [])
    alone true = refl
    alone false = ap Some here
one_more first (true ∷ l) passes answer same = ap (first_bad_after (first_bad (first + 1) l) passes) (omega arith) ∙ one_more (first + 1) l passes answer same
one_more first (false ∷ l) passes answer same = refl

pub first_bad_more : (first : ℕ) (l : List Bool) {bad : Option ℕ} {line : ℕ} (passes answer : Bool) → bad ≡ first_bad first l → line ≡ first + length l → (bad ≡ None → passes ≡ answer)
    → first_bad_after bad passes line ≡ first_bad first (l ++ (answer ∷ []))
first_bad_more first l passes answer e at same = rw (e, at) (one_more first l passes answer (λ z. same (e ∙ z)))
