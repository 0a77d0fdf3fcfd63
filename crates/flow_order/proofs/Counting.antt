-- The turns of `count`: cur is item n of the full list, counted from 1.
use mathlib.Core.Path.{◌≡◌, refl, sym, ap, subst, ◌∙◌}
use mathlib.Core.List.{List, [], ◌∷◌}
use mathlib.Core.Option.{none, some}
use mathlib.Core.Bool.{Bool, true, false}
use Prim.Native.Nat.{ℕ, zero, suc, ◌+◌, ◌-◌, ◌≤◌, ◌<◌}
use native.Mathlib.Omega.{arith}
use lib.ListN.{length, get_elem?}
use borrow.Author.Tests.{lt-leb, le-leb}
use Rattle.std.specs.Prelude.{None, Some}
use Rattle.laws.specs.Members.{none_some}
use Rattle.laws.specs.After.{after_at}
use Rattle.laws.specs.Ascending.{ascending_apart}
use Rattle.laws.specs.Count.{exactly, more, counted}
use Rattle.laws.specs.Equality.{same_list}
use Rattle.laws.specs.Lexicographic.{◌<lex◌, lex_irrefl, lex_trans}
use Rattle.net_model.specs.Network.{Net, WellFormed, LeastCost}
use Rattle.net_model.specs.FullList.{full_list, next_flow}
use Rattle.net_model.proofs.FullList.{full_ascending}
use Rattle.flow_order.specs.Following.{Next, CountsFlows}

pub record Line (N : Net) (n : ℕ) (cur : List ℕ) : Type 0 where
  pub least : LeastCost N cur
  pub place : ℕ
  pub is : n ≡ suc place
  pub stands : get_elem? (full_list N) place ≡ some cur

some_in : {A : Type 0} (l : List A) (i : ℕ) (x : A) → get_elem? l i ≡ some x → i < length l
some_in [] i x e = absurd (none_some x e)
some_in (a ∷ l) zero x e = omega arith
some_in (a ∷ l) (suc i) x e = omega (arith, some_in l i x e)

none_out : {A : Type 0} (l : List A) (i : ℕ) → get_elem? l i ≡ none → length l ≤ i
none_out [] i e = omega arith
none_out (a ∷ l) zero e = absurd (none_some a (sym e))
none_out (a ∷ l) (suc i) e = omega (arith, none_out l i e)

within : (cap m : ℕ) → m ≤ cap → counted cap m ≡ exactly m
within cap m h = rw (le-leb m cap h)

beyond : (cap m : ℕ) → cap < m → counted cap m ≡ more
beyond cap m h = rw (lt-leb m cap h)

module _ (N : Net) (n : ℕ) (cur : List ℕ) (l : Line N n cur) where
  item_in : n ≤ length (full_list N)
  item_in = omega (arith, some_in (full_list N) l.place cur l.stands, l.is)

  item_at_lem : get_elem? (full_list N) (n - 1) ≡ some cur
  item_at_lem = subst (λ i. get_elem? (full_list N) i ≡ some cur) {x = l.place} {y = n - 1} (omega (arith, l.is)) l.stands

  -- n is one more than the cap
  pub item_beyond : (cap : ℕ) → n ≡ suc cap → CountsFlows N cap None cur
  item_beyond cap e = (beyond cap (length (full_list N)) (omega (arith, item_in)), subst (λ i. get_elem? (full_list N) i ≡ some cur) {x = n - 1} {y = cap} (omega arith) item_at_lem)

  module _ (ok : WellFormed N) where
    follow : next_flow N cur ≡ get_elem? (full_list N) (suc l.place)
    follow = after_at same_list (λ g. g) (full_list N) (ascending_apart ◌<lex◌ lex_irrefl lex_trans (full_list N) (full_ascending N ok)) l.place cur cur l.stands refl

    pub item_next : (g : List ℕ) (r : Bool) → r ≡ true → Next N cur g r → Line N (n + 1) g
    item_next g r e x = record { least = x.least e; place = suc l.place; is = omega (arith, l.is); stands = sym follow ∙ x.follows e }

    pub item_last : (cap : ℕ) (g : List ℕ) (r : Bool) → n ≤ cap → r ≡ false → g ≡ cur → Next N cur g r → CountsFlows N cap (Some n) g
    item_last cap g r h e q x =
        let all : length (full_list N) ≡ n = omega (arith, none_out (full_list N) (suc l.place) (sym follow ∙ x.end e), item_in, l.is) in
        (ap (counted cap) all ∙ within cap n h, item_at_lem ∙ ap some (sym q))
