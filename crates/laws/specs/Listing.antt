-- `first`, then `next` of each item as it was seen, until a call shows none: the full list, once, in order, and then the word.
use Rattle.std.specs.Prelude.{◌≡◌, refl, List, [], ◌∷◌, ◌++◌, map}
use Rattle.std.proofs.Common.{sym, ap, subst, ◌∙◌, inl, arith}
use Rattle.laws.specs.Members.{◌∈◌, Every, first?, append_right}
use Rattle.laws.specs.After.{after, after_in, one_on}
use Rattle.laws.specs.Rules.{Call, first, next, Rules}
use Rattle.laws.specs.Seen.{Reading, nothing, end, item, Seen, Shows}
use Rattle.laws.specs.Run.{shown, Answers, Run, Kept, Readable}

-- the word after the last item
abbrev pub last_word : {Item : Type 0} → List Item → Reading Item
last_word [] = nothing
last_word (v ∷ l) = end

module _ {Item F G N Lent : Type 0} (R : Rules Item F G N Lent) where
  -- what follows a call after which s is seen: with an item, `next` of its copy, and so on; with none, no further call
  abbrev pub Follows : Seen Lent → Run R → Type 0
  Follows s [] = ¬ (s.number ≡ 0)
  Follows s ((first a, t) ∷ r) = ⊥
  Follows s ((next g b, t) ∷ r) = (s.number ≡ 0) × (g ≡ R.taken s.lists) × Follows t r

  abbrev pub FirstThenNext : Run R → Type 0
  FirstThenNext [] = ⊥
  FirstThenNext ((first a, s) ∷ r) = Follows s r
  FirstThenNext ((next g b, s) ∷ r) = ⊥

  -- first, then next until there is no item, of an accepted book or network, each call with room for what it writes
  pub record CompleteRun (r : Run R) : Type 0 where
    pub asks : FirstThenNext r
    pub admitted : Every (λ e. R.Admits e.0) r

  -- each call of a run shows its reading, and there are as many of both
  abbrev pub ShowsEach : Run R → List (Reading Item) → Type 0
  ShowsEach [] [] = Unit {0}
  ShowsEach [] (a ∷ readings) = ⊥
  ShowsEach (e ∷ r) [] = ⊥
  ShowsEach (e ∷ r) (a ∷ readings) = Shows R e.0 a e.1 × ShowsEach r readings

  -- the full list, once, in order, and then "end" ("none" without an item)
  abbrev pub ShowsFullList : Run R → Type 0
  ShowsFullList r = ShowsEach r (map item R.full_list ++ (last_word R.full_list ∷ []))

module _ {Item F G N Lent : Type 0} (R : Rules Item F G N Lent) (readable : Readable R) where
  -- after the last word there is no call
  stops : (c : Call F G N) (s : Seen Lent) (r : Run R) (a : Reading Item) → Shows R c a s → ¬ (s.number ≡ 0) → Follows R s r
      → ShowsEach R ((c, s) ∷ r) (a ∷ [])
  stops c s [] a h n f = (h, tt)
  stops c s ((first b, t) ∷ r) a h n f = absurd f
  stops c s ((next g b, t) ∷ r) a h n f = absurd (n f.0)

  -- after a call that shows the item v, which stands between pre and rest
  module _ (pre rest : List Item) (v : Item) (e : pre ++ (v ∷ rest) ≡ R.full_list) (c : Call F G N) (s : Seen Lent) (fair : R.question c ≡ 0)
      (h : Shows R c (item v) s) (g : G) (b : N) (asks : g ≡ R.taken s.lists) where
    member : v ∈ R.full_list
    member = rw (← e) (append_right pre (v ∷ rest) v (inl refl))

    copied : g ≡ R.copy v
    copied = asks ∙ readable.takes c v s.lists fair member h.lists_are

    next_fair : R.Admits (next g b) → R.question (next g b) ≡ 0
    next_fair k = subst (λ x. R.question (next x b) ≡ 0) (sym copied) (readable.goes_on v b member (subst (λ x. R.Admits (next x b)) copied k))

    next_shows : (t : Seen Lent) → R.Admits (next g b) → Answers R (next g b) t → Shows R (next g b) (shown (first? rest) end) t
    next_shows t k a =
        let apart = readable.apart c fair in
        let o : after R.same R.copy g R.full_list ≡ first? rest =
        ap (λ x. after R.same R.copy x R.full_list) copied ∙ after_in R.same R.copy R.full_list apart pre rest v e in
        subst (λ o. Shows R (next g b) (shown o end) t) o (rw (next_fair k) at a)

  -- the calls after it
  from : (pre rest : List Item) (v : Item) → pre ++ (v ∷ rest) ≡ R.full_list → (c : Call F G N) (s : Seen Lent) → R.question c ≡ 0 → Shows R c (item v) s
      → (r : Run R) → Kept R r → Every (λ e. R.Admits e.0) r → Follows R s r → ShowsEach R r (map item rest ++ (end ∷ []))
  from pre rest v e c s fair h [] k fit f = absurd (f h.number_is)
  from pre rest v e c s fair h ((first b, t) ∷ r) k fit f = absurd f
  from pre [] v e c s fair h ((next g b, t) ∷ r) k fit f =
      let w = next_shows pre [] v e c s fair h g b f.1 t fit.0 k.0 in
      stops (next g b) t r end w (λ z. omega (arith, z, w.number_is)) f.2
  from pre (u ∷ rest) v e c s fair h ((next g b, t) ∷ r) k fit f =
      let w = next_shows pre (u ∷ rest) v e c s fair h g b f.1 t fit.0 k.0 in
      let on = one_on R.full_list pre (u ∷ rest) v e in
      (w, from (pre ++ (v ∷ [])) rest u on (next g b) t (next_fair pre (u ∷ rest) v e c s fair h g b f.1 fit.0) w r k.1 fit.1 f.2)

  begun : (l : List Item) → l ≡ R.full_list → (a : F) (s : Seen Lent) → R.question (first a) ≡ 0 → Shows R (first a) (shown (first? l) nothing) s
      → (r : Run R) → Kept R r → Every (λ e. R.Admits e.0) r → Follows R s r → ShowsEach R ((first a, s) ∷ r) (map item l ++ (last_word l ∷ []))
  begun [] e a s fair h r k fit f = stops (first a) s r nothing h (λ z. omega (arith, z, h.number_is)) f
  begun (v ∷ l) e a s fair h r k fit f = (h, from [] l v e (first a) s fair h r k fit f)

  -- every such run, each call with its contract kept
  lists : (r : Run R) → FirstThenNext R r → Every (λ e. R.Admits e.0) r → Kept R r → ShowsFullList R r
  lists [] f fit k = absurd f
  lists ((next g b, s) ∷ r) f fit k = absurd f
  lists ((first a, s) ∷ r) f fit k = let fair = readable.starts a fit.0 in begun R.full_list refl a s fair (rw fair at k.0) r k.1 fit.1 f

  pub complete_shows_all : (r : Run R) → CompleteRun R r → Kept R r → ShowsFullList R r
  complete_shows_all r c k = lists r c.asks c.admitted k
