-- Counting with a cap: items are handed out until the list ends or one item beyond the cap is met.
use Rattle.std.specs.Prelude.{◌≡◌, refl, List, [], ◌∷◌, ◌++◌, Bool, true, false, ℕ, zero, suc, ◌+◌, ◌≤◌, ◌<◌, leb, length}
use Rattle.std.proofs.Common.{ap, ◌∙◌, arith, leb-true, leb-false}
use Rattle.std.proofs.Math.Option.{Option, none, some}
use Rattle.laws.specs.Members.{first?}
use Rattle.laws.specs.After.{after, Apart, after_in, one_on}
use Rattle.laws.specs.Rules.{Rules}

pub data Count : Type 0 where
  exactly : ℕ → Count
  more : Count

abbrev pub exactly_if : Bool → ℕ → Count
exactly_if true n = exactly n
exactly_if false n = more

-- "the length of the list if that is at most the cap, else more"
abbrev pub counted : ℕ → ℕ → Count
counted cap len = exactly_if (leb len cap) len

module _ {Item F G N Lent : Type 0} (R : Rules Item F G N Lent) where
  -- from an item on, at most n more items; `seen` were handed out before
  abbrev pub count_on : ℕ → ℕ → Option Item → Count
  count_on zero seen none = exactly seen
  count_on zero seen (some v) = more
  count_on (suc n) seen none = exactly seen
  count_on (suc n) seen (some v) = count_on n (suc seen) (after R.same R.copy (R.copy v) R.full_list)

  abbrev pub count : ℕ → Count
  count cap = count_on cap 0 (first? R.full_list)

module _ {Item F G N Lent : Type 0} (R : Rules Item F G N Lent) (apart : Apart R.copy R.full_list) where
  after_it : (pre rest : List Item) (v : Item) → pre ++ (v ∷ rest) ≡ R.full_list → after R.same R.copy (R.copy v) R.full_list ≡ first? rest
  after_it pre rest v e = after_in R.same R.copy R.full_list apart pre rest v e

  count_few : (n seen : ℕ) (pre rest : List Item) → pre ++ rest ≡ R.full_list → length rest ≤ n
      → count_on R n seen (first? rest) ≡ exactly (seen + length rest)
  count_few zero seen pre [] e h = ap exactly (omega arith)
  count_few (suc n) seen pre [] e h = ap exactly (omega arith)
  count_few zero seen pre (v ∷ rest) e h = absurd (omega arith)
  count_few (suc n) seen pre (v ∷ rest) e h =
      rw (after_it pre rest v e) (count_few n (suc seen) (pre ++ (v ∷ [])) rest (one_on R.full_list pre rest v e) (omega arith) ∙ ap exactly (omega arith))

  count_many : (n seen : ℕ) (pre rest : List Item) → pre ++ rest ≡ R.full_list → n < length rest → count_on R n seen (first? rest) ≡ more
  count_many n seen pre [] e h = absurd (omega arith)
  count_many zero seen pre (v ∷ rest) e h = refl
  count_many (suc n) seen pre (v ∷ rest) e h =
      rw (after_it pre rest v e) (count_many n (suc seen) (pre ++ (v ∷ [])) rest (one_on R.full_list pre rest v e) (omega arith))

  -- handing out counts the list
  pub count_is : (cap : ℕ) → count R cap ≡ counted cap (length R.full_list)
  count_is cap = go (leb (length R.full_list) cap) refl
    where
      go : (t : Bool) → leb (length R.full_list) cap ≡ t → count R cap ≡ exactly_if t (length R.full_list)
      go true e = count_few cap 0 [] R.full_list refl (leb-true (length R.full_list) cap e) ∙ ap exactly (omega arith)
      go false e = count_many cap 0 [] R.full_list refl (leb-false (length R.full_list) cap e)
