-- The order of the full list from certificates arc by arc: the first item, the item after an item, the last item.
use mathlib.Core.Path.{◌≡◌, refl, sym, ap, ◌∙◌}
use mathlib.Core.List.{List, [], ◌∷◌}
use mathlib.Core.Option.{none, some}
use Prim.Native.Nat.{ℕ, zero, suc, ◌≤◌, ◌<◌}
use native.Mathlib.Omega.{arith}
use native.Mathlib.Decide.{dec_lt}
use lib.ListN.{length, get_or, take}
use lib.Seq.{get_or-take}
use Rattle.laws.specs.Ascending.{first_is, after_is, after_none}
use Rattle.laws.specs.Equality.{same_list}
use Rattle.laws.specs.Lexicographic.{◌<lex◌, lex_irrefl, lex_trans, FirstDifference, lex_first_difference}
use Rattle.net_model.proofs.FullList.{full_member, full_ascending}
use Rattle.net_model.specs.FullList.{first_flow, next_flow, full_list}
use Rattle.net_model.specs.Network.{Net, arcs, LeastCost, WellFormed}
use Rattle.net_theory.specs.Order.{Agree, MinimalFrom, TopFrom}
use Rattle.net_theory.specs.ArcChange.{Moved}

take_agree : (x y : List ℕ) (k : ℕ) → take k x ≡ take k y → Agree k x y
take_agree x y k e a h = sym (get_or-take k x a 0 h) ∙ ap (λ l. get_or l a 0) e ∙ get_or-take k y a 0 h

agree_take : (k : ℕ) (x y : List ℕ) → k ≤ length x → k ≤ length y → Agree k x y → take k x ≡ take k y
agree_take zero x y p q h = refl
agree_take (suc k) [] y p q h = absurd (omega arith)
agree_take (suc k) (a ∷ x) [] p q h = absurd (omega arith)
agree_take (suc k) (a ∷ x) (b ∷ y) p q h = cc (h 0 (omega arith), agree_take k x y (omega arith) (omega arith) (λ i l. h (suc i) (omega arith)))

module _ (N : Net) (ok : WellFormed N) where
  minimal_from : (k : ℕ) (f : List ℕ) → LeastCost N f → MinimalFrom N k f → (g : List ℕ) → LeastCost N g → Agree k f g → ¬ (g <lex f)
  minimal_from k f lf mn g lg ag l = go ((lex_first_difference g f).0 l)
    where
      go : (j : ℕ) × FirstDifference g f j → ⊥
      go (j, d) =
          let ga : Agree j g f = take_agree g f j d.equal_before in
          let fa : Agree j f g = λ a h. sym (ga a h) in
          step (dec_lt j k) fa
        where
          step : Dec (j < k) → Agree j f g → ⊥
          step (yes h) fa = omega (arith, ag j h, d.smaller)
          step (no h) fa = omega (arith, mn j (omega arith) (omega (arith, d.in_right, lf.flow.all_arcs)) g lg fa, d.smaller)

  -- k = 0: the first item
  pub first_item : (f : List ℕ) → LeastCost N f → MinimalFrom N 0 f → first_flow N ≡ some f
  first_item f lf mn =
      first_is ◌<lex◌ lex_irrefl lex_trans (full_list N) (full_ascending N ok) f ((full_member N ok f).1 lf)
      (λ z m. minimal_from 0 f lf mn z ((full_member N ok z).0 m) (λ a h. omega arith))

  raised_greater : (f f' : List ℕ) (k : ℕ) → k < arcs N → LeastCost N f → Moved N f f' k (suc (get_or f k 0)) → f <lex f'
  raised_greater f f' k l lf r =
      (lex_first_difference f f').1 (
        k,
        record {
          in_left = omega (arith, lf.flow.all_arcs);
          in_right = omega (arith, r.least_cost.flow.all_arcs);
          equal_before = agree_take k f f' (omega (arith, lf.flow.all_arcs)) (omega (arith, r.least_cost.flow.all_arcs)) r.same_before;
          smaller = omega (arith, r.at_k);
        },
      )

  -- no least-cost flow lies between
  none_between : (f f' : List ℕ) (k : ℕ) → LeastCost N f → Moved N f f' k (suc (get_or f k 0)) → TopFrom N (suc k) f → MinimalFrom N (suc k) f'
      → (z : List ℕ) → LeastCost N z → f <lex z → ¬ (z <lex f')
  none_between f f' k lf r top mn z lz l l' = go ((lex_first_difference f z).0 l) ((lex_first_difference z f').0 l')
    where
      go : (j : ℕ) × FirstDifference f z j → (i : ℕ) × FirstDifference z f' i → ⊥
      go (j, d) (i, e) = step (dec_lt k j) (dec_lt k i) (dec_lt j k) (dec_lt i j) (dec_lt i k)
        where
          fz : Agree j f z
          fz = take_agree f z j d.equal_before

          zf : Agree i z f'
          zf = take_agree z f' i e.equal_before

          step : Dec (k < j) → Dec (k < i) → Dec (j < k) → Dec (i < j) → Dec (i < k) → ⊥
          step (yes h) q s t u = omega (arith, top j (omega arith) (omega (arith, d.in_left, lf.flow.all_arcs)) z lz fz, d.smaller)
          step (no h) (yes q) (yes s) t u = omega (arith, zf j (omega arith), r.same_before j s, d.smaller)
          step (no h) (yes q) (no s) t u =
              omega (arith, mn i (omega arith) (omega (arith, e.in_right, r.least_cost.flow.all_arcs)) z lz (λ a m. sym (zf a m)), e.smaller)
          step (no h) (no q) (yes s) (yes t) u = omega (arith, fz i t, r.same_before i (omega arith), e.smaller)
          step (no h) (no q) (no s) (yes t) u = omega (arith, fz i t, r.same_before i (omega arith), e.smaller)
          step (no h) (no q) (yes s) (no t) (yes u) = later (dec_lt j i)
            where
              later : Dec (j < i) → ⊥
              later (yes w) = omega (arith, zf j w, r.same_before j s, d.smaller)
              later (no w) = let q : i ≡ j = omega arith in omega (arith, rw q at e.smaller, r.same_before j s, d.smaller)
          step (no h) (no q) (yes s) (no t) (no u) = omega (arith, zf j (omega arith), r.same_before j s, d.smaller)
          step (no h) (no q) (no s) (no t) u =
              let p : j ≡ k = omega arith in
              let w : i ≡ k = omega arith in
              omega (arith, rw p at d.smaller, rw w at e.smaller, r.at_k)

  pub next_is : (f f' : List ℕ) (k : ℕ) → k < arcs N → LeastCost N f → Moved N f f' k (suc (get_or f k 0)) → TopFrom N (suc k) f → MinimalFrom N (suc k) f'
      → next_flow N f ≡ some f'
  next_is f f' k l lf r top mn =
      after_is ◌<lex◌ lex_irrefl lex_trans same_list (full_list N) (full_ascending N ok) f f'
      ((full_member N ok f).1 lf) ((full_member N ok f').1 r.least_cost) (raised_greater f f' k l lf r)
      (λ z m. none_between f f' k lf r top mn z ((full_member N ok z).0 m))

  pub next_none : (f : List ℕ) → LeastCost N f → TopFrom N 0 f → next_flow N f ≡ none
  next_none f lf top =
      after_none ◌<lex◌ lex_irrefl lex_trans same_list (full_list N) (full_ascending N ok) f
      (λ z m l. go z ((full_member N ok z).0 m) ((lex_first_difference f z).0 l))
    where
      go : (z : List ℕ) → LeastCost N z → (j : ℕ) × FirstDifference f z j → ⊥
      go z lz (j, d) =
          omega (arith, top j (omega arith) (omega (arith, d.in_left, lf.flow.all_arcs)) z lz (take_agree f z j d.equal_before), d.smaller)
