-- The joins and openings of a book's network: one arc that carries 1 in each entry's block is the same as a predecessor.
use mathlib.Core.Path.{◌≡◌, refl, sym, ap, ap₂, subst, ◌∙◌}
use mathlib.Core.Logic.{◌⊎◌, inl, inr}
use mathlib.Core.Bool.{true}
use mathlib.Core.List.{List, [], ◌∷◌, ◌++◌, map, append_assoc}
use Prim.Native.Nat.{ℕ, zero, suc, ◌+◌, ◌*◌, ◌-◌, ◌≤◌, ◌<◌}
use native.Mathlib.Omega.{arith}
use native.Mathlib.Nat.{suc_inj}
use native.Mathlib.Decide.{ℕ_discrete}
use lib.ListN.{length, length-map, length-append}
use Rattle.laws.specs.Members.{◌∈◌, kept, keeps, every_member, member_every, append_cases, member_map}
use Rattle.laws.specs.Ascending.{Ascending, ascending_keep}
use Rattle.laws.specs.Lexicographic.{◌<lex◌}
use Rattle.laws.specs.Equality.{cons_same}
use Rattle.laws.specs.Totals.{total, weigh, weigh_append, weigh_none, weigh_ones, weigh_map}
use Rattle.book_form.specs.Book.{Book}
use Rattle.way_theory.specs.Follow.{size}
use Rattle.way_theory.specs.Ways.{permits, Joined}
use Rattle.way_theory.specs.BookNet.{BookArc, down, sources, join_arc, join_arcs}
use Rattle.way_theory.specs.WayFlow.{one_if_same, marked, join_flow}
use Rattle.way_theory.proofs.OneIfSame.{same_one, other_none, Above, marked_one}

-- a list beside two lists, cut where they meet
pub split : {A : Type 0} (l k : List A) (f : List ℕ) → length f ≡ length (l ++ k)
    → (g : List ℕ) × (h : List ℕ) × (f ≡ g ++ h) × (length g ≡ length l) × (length h ≡ length k)
split [] k f e = ([], f, refl, refl, e)
split (a ∷ l) k [] e = absurd (omega arith)
split (a ∷ l) k (x ∷ f) e =
    let (g, h, q, r, s) = split l k f (suc_inj e) in
    (x ∷ g, h, cons_same x x f (g ++ h) refl q, ap suc r, s)

-- one block
zeros : (l g : List ℕ) (p : ℕ) → length g ≡ length l → total g ≡ 0 → ((a : ℕ) → a ∈ l → ¬ (a ≡ p)) → g ≡ marked p l
zeros [] [] p e t h = refl
zeros [] (x ∷ g) p e t h = absurd (omega arith)
zeros (a ∷ l) [] p e t h = absurd (omega arith)
zeros (a ∷ l) (x ∷ g) p e t h =
    cons_same x (one_if_same a p) g (marked p l) (let z = other_none a p (h a (inl refl)) in omega arith) (zeros l g p (suc_inj e) (omega arith) (λ b m. h b (inr m)))

pub unmark : (l g : List ℕ) → Ascending Above l → length g ≡ length l → total g ≡ 1 → (p : ℕ) × (p ∈ l) × (g ≡ marked p l)
unmark [] [] h e t = absurd (omega arith)
unmark [] (x ∷ g) h e t = absurd (omega arith)
unmark (a ∷ l) [] h e t = absurd (omega arith)
unmark (a ∷ l) (zero ∷ g) h e t =
    let (p, m, q) = unmark l g h.1 (suc_inj e) (omega arith) in
    let b = every_member (Above a) l h.0 p m in
    (p, inr m, cons_same 0 (one_if_same a p) g (marked p l) (sym (other_none a p (λ z. omega arith))) q)
unmark (a ∷ l) (suc zero ∷ g) h e t =
    (a, inl refl, cons_same 1 (one_if_same a a) g (marked a l) (sym (same_one a a refl)) (zeros l g a (suc_inj e) (omega arith) (λ b m. (let k = every_member (Above a) l h.0 b m in λ z. omega arith))))
unmark (a ∷ l) (suc (suc x) ∷ g) h e t = absurd (omega arith)

lex_prefix : (l x y : List ℕ) → x <lex y → (l ++ x) <lex (l ++ y)
lex_prefix [] x y h = h
lex_prefix (a ∷ l) x y h = inr (refl, lex_prefix l x y h)

marked_less : (l : List ℕ) (p q : ℕ) (x y : List ℕ) → Ascending Above l → q ∈ l → p < q → (marked p l ++ x) <lex (marked q l ++ y)
marked_less [] p q x y h m k = absurd m
marked_less (a ∷ l) p q x y h (inl e) k =
    inl (let u = other_none a p (λ z. omega arith) in let v = same_one a q (sym e) in omega arith)
marked_less (a ∷ l) p q x y h (inr m) k =
    let b = every_member (Above a) l h.0 q m in
    inr (other_none a p (λ z. omega arith) ∙ sym (other_none a q (λ z. omega arith)), marked_less l p q x y h.1 m k)

-- the predecessors that an entry may have
down_member : (n p : ℕ) → p ∈ down n → p ≤ n
down_member zero p (inl e) = omega arith
down_member zero p (inr m) = absurd m
down_member (suc n) p (inl e) = omega arith
down_member (suc n) p (inr m) = let h = down_member n p m in omega arith

member_down : (n p : ℕ) → p ≤ n → p ∈ down n
member_down zero p h = inl (omega arith)
member_down (suc n) p h = step (ℕ_discrete p (suc n)) (member_down n p)
  where
    step : Dec (p ≡ suc n) → (p ≤ n → p ∈ down n) → (p ≡ suc n) ⊎ (p ∈ down n)
    step (yes e) f = inl e
    step (no e) f = inr (f (omega arith))

down_falls : (n : ℕ) → Ascending Above (down n)
down_falls zero = (tt, tt)
down_falls (suc n) = (member_every (Above (suc n)) (down n) (λ p m. (let h = down_member n p m in omega arith)), down_falls n)

-- the sum of ψ along a way, from entry j on
abbrev pub along : (ℕ → ℕ → ℕ) → ℕ → List ℕ → ℕ
along ψ j [] = 0
along ψ j (p ∷ w) = ψ p j + along ψ (suc j) w

-- whether an arc leaves node v, whether it goes there
abbrev pub out_of : ℕ → BookArc → ℕ
out_of v a = one_if_same a.tail v

abbrev pub into : ℕ → BookArc → ℕ
into v a = one_if_same a.head v

module _ (book : Book) where
  pub sources_fall : (j : ℕ) → Ascending Above (sources book j)
  sources_fall j = ascending_keep Above (λ i. permits book i j) (down (size book)) (down_falls (size book))

  pub source : (j p : ℕ) → p ≤ size book → permits book p j ≡ true → p ∈ sources book j
  source j p h e = keeps (λ i. permits book i j) (down (size book)) p (member_down (size book) p h) e

  pub source_permits : (j p : ℕ) → p ∈ sources book j → (p ≤ size book) × (permits book p j ≡ true)
  source_permits j p m = let (d, e) = kept (λ i. permits book i j) (down (size book)) p m in (down_member (size book) p d, e)

  block_length : (j p : ℕ) → length (marked p (sources book j)) ≡ length (map (join_arc book j) (sources book j))
  block_length j p = length-map (sources book j) (λ i. one_if_same i p) ∙ sym (length-map (sources book j) (join_arc book j))

  pub join_flow_length : (j : ℕ) (w : List ℕ) → length (join_flow book j w) ≡ length (join_arcs book (length w) j)
  join_flow_length j [] = refl
  join_flow_length j (p ∷ w) =
      length-append (marked p (sources book j)) (join_flow book (suc j) w)
      ∙ ap₂ ◌+◌ (block_length j p) (join_flow_length (suc j) w)
      ∙ sym (length-append (map (join_arc book j) (sources book j)) (join_arcs book (length w) (suc j)))

  pub joins_member : (n s : ℕ) (a : BookArc) → a ∈ join_arcs book n s → (i : ℕ) × (j : ℕ) × (s ≤ j) × (j < s + n) × (i ≤ size book) × (a ≡ join_arc book j i)
  joins_member zero s a m = absurd m
  joins_member (suc n) s a m =
      step (joins_member n (suc s) a) (append_cases (map (join_arc book s) (sources book s)) (join_arcs book n (suc s)) a m)
    where
      step : (a ∈ join_arcs book n (suc s) → (i : ℕ) × (j : ℕ) × (suc s ≤ j) × (j < suc s + n) × (i ≤ size book) × (a ≡ join_arc book j i))
          → (a ∈ map (join_arc book s) (sources book s)) ⊎ (a ∈ join_arcs book n (suc s))
          → (i : ℕ) × (j : ℕ) × (s ≤ j) × (j < s + suc n) × (i ≤ size book) × (a ≡ join_arc book j i)
      step deep (inl m) = let (i, k, q) = member_map (join_arc book s) (sources book s) a m in (i, s, omega arith, omega arith, (source_permits s i k).0, q)
      step deep (inr m) = let (i, j, h, k, l, q) = deep m in (i, j, omega arith, omega arith, l, q)

  pub joins_none : (φ : BookArc → ℕ) (n s : ℕ) (g : List ℕ) → ((i j : ℕ) → s ≤ j → j < s + n → φ (join_arc book j i) ≡ 0) → weigh φ (join_arcs book n s) g ≡ 0
  joins_none φ n s g h =
      weigh_none φ (join_arcs book n s) g (λ a m. (let (i, j, b, k, l, q) = joins_member n s a m in ap φ q ∙ h i j b k))

  pub weigh_joins : (φ : BookArc → ℕ) (j : ℕ) (w : List ℕ) → Joined book j w
      → weigh φ (join_arcs book (length w) j) (join_flow book j w) ≡ along (λ p k. φ (join_arc book k p)) j w
  weigh_joins φ j [] h = refl
  weigh_joins φ j (p ∷ w) h =
      weigh_append φ (map (join_arc book j) (sources book j)) (join_arcs book (length w) (suc j)) (marked p (sources book j)) (join_flow book (suc j) w) (block_length j p)
      ∙ ap₂ ◌+◌ (weigh_map φ (join_arc book j) (sources book j) (marked p (sources book j))
      ∙ marked_one (λ i. φ (join_arc book j i)) (sources book j) p (sources_fall j) (source j p h.0 h.1))
      (weigh_joins φ (suc j) w h.2)

  pub unjoin : (n s : ℕ) (g : List ℕ) → 1 ≤ s → length g ≡ length (join_arcs book n s)
      → ((j : ℕ) → s ≤ j → j < s + n → weigh (into (2 * j - 1)) (join_arcs book n s) g ≡ 1)
      → (w : List ℕ) × (length w ≡ n) × Joined book s w × (g ≡ join_flow book s w)
  unjoin zero s [] b e h = ([], refl, tt, refl)
  unjoin zero s (x ∷ g) b e h = absurd (omega arith)
  unjoin (suc n) s g b e h =
      let (x, y, q, k, l) = split here rest g e in
      let first : weigh (into (2 * s - 1)) (here ++ rest) (x ++ y) ≡ 1 = subst (λ z. weigh (into (2 * s - 1)) (here ++ rest) z ≡ 1) q (h s (omega arith) (omega arith)) in
      let one : total x ≡ 1 = whole x k ∙ omega (arith, weigh_append (into (2 * s - 1)) here rest x y k, later y) in
      let (p, m, r) = unmark (sources book s) x (sources_fall s) (k ∙ length-map (sources book s) (join_arc book s)) one in
      let (w, d, f, t) = unjoin n (suc s) y (omega arith) l (λ j i u. apart j i x y k (subst (λ z. weigh (into (2 * j - 1)) (here ++ rest) z ≡ 1) q (h j (omega arith) (omega arith)))) in
      let o = source_permits s p m in
      (p ∷ w, ap suc d, (o.0, o.1, f), q ∙ ap₂ ◌++◌ r t)
    where
      here : List BookArc
      here = map (join_arc book s) (sources book s)

      rest : List BookArc
      rest = join_arcs book n (suc s)

      whole : (x : List ℕ) → length x ≡ length here → total x ≡ weigh (into (2 * s - 1)) here x
      whole x k =
          sym (weigh_map (into (2 * s - 1)) (join_arc book s) (sources book s) x
          ∙ weigh_ones (λ i. into (2 * s - 1) (join_arc book s i)) (sources book s) x (k ∙ length-map (sources book s) (join_arc book s)) (λ i m. same_one (2 * s - 1) (2 * s - 1) refl))

      later : (y : List ℕ) → weigh (into (2 * s - 1)) rest y ≡ 0
      later y = joins_none (into (2 * s - 1)) n (suc s) y (λ i j c d. other_none (2 * j - 1) (2 * s - 1) (λ z. omega arith))

      apart : (j : ℕ) → suc s ≤ j → (x y : List ℕ) → length x ≡ length here → weigh (into (2 * j - 1)) (here ++ rest) (x ++ y) ≡ 1 → weigh (into (2 * j - 1)) rest y ≡ 1
      apart j c x y k u =
          let none : weigh (into (2 * j - 1)) here x ≡ 0 =
          weigh_map (into (2 * j - 1)) (join_arc book s) (sources book s) x
          ∙ weigh_none (λ i. into (2 * j - 1) (join_arc book s i)) (sources book s) x (λ i m. other_none (2 * s - 1) (2 * j - 1) (λ z. omega arith)) in
          omega (arith, weigh_append (into (2 * j - 1)) here rest x y k)

  -- the order of ways is the order of their joins
  pub join_flow_less : (j : ℕ) (w v x y : List ℕ) → Joined book j w → Joined book j v → w <lex v → (join_flow book j w ++ x) <lex (join_flow book j v ++ y)
  join_flow_less j [] v x y h g k = absurd k
  join_flow_less j (p ∷ w) [] x y h g k = absurd k
  join_flow_less j (p ∷ w) (q ∷ v) x y h g (inl k) =
      rw (append_assoc (marked p (sources book j)) (join_flow book (suc j) w) x, append_assoc (marked q (sources book j)) (join_flow book (suc j) v) y)
      (marked_less (sources book j) p q (join_flow book (suc j) w ++ x) (join_flow book (suc j) v ++ y) (sources_fall j) (source j q g.0 g.1) k)
  join_flow_less j (p ∷ w) (q ∷ v) x y h g (inr (e, k)) =
      rw (append_assoc (marked p (sources book j)) (join_flow book (suc j) w) x, append_assoc (marked q (sources book j)) (join_flow book (suc j) v) y, e)
      (lex_prefix (marked q (sources book j)) (join_flow book (suc j) w ++ x) (join_flow book (suc j) v ++ y) (join_flow_less (suc j) w v x y h.2 g.2 k))
