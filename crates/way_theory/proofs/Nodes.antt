-- What a list of numbers on a book's arcs carries out of each node and into it.
use mathlib.Core.Path.{◌≡◌, refl, sym, ap, ap₂, ◌∙◌}
use mathlib.Core.Logic.{◌⊎◌, inl, inr}
use mathlib.Core.List.{List, [], ◌∷◌, ◌++◌, map}
use Prim.Native.Nat.{ℕ, zero, suc, ◌+◌, ◌*◌, ◌-◌, ◌≤◌, ◌<◌}
use native.Mathlib.Omega.{arith}
use native.Mathlib.Decide.{ℕ_discrete}
use lib.ListN.{length, get_or, length-map, length-append, length-replicate, replicate, get_or-replicate, get_or-append, get_or-map}
use lib.Seq.{get_or_at}
use lib.IntN.{pos, neg_ℤ, ◌-ℤ◌, ◌*ℤ◌, pos-*ℤ-pos}
use Rattle.laws.specs.Divergence.{at, at_same, at_other}
use Rattle.laws.specs.Within.{from_member}
use Rattle.laws.specs.Totals.{total, weigh, weigh_append, weigh_none, weigh_ones, weigh_map, weigh_from, sum_weigh}
use Rattle.laws.specs.Rows.{from_length, row_length}
use Rattle.net_model.specs.Network.{nodes, arcs, net_out, balance, cost_of}
use Rattle.book_form.specs.Book.{Book}
use Rattle.way_theory.specs.Follow.{size}
use Rattle.way_theory.specs.FullWays.{numbers}
use Rattle.way_theory.specs.BookNet.{BookArc, last_node, join_arcs, entry_arc, end_arc, last_arc, book_arcs, book_net}
use Rattle.way_theory.specs.WayFlow.{one_if_same}
use Rattle.way_theory.proofs.OneIfSame.{same_one, other_none}
use Rattle.way_theory.proofs.Blocks.{out_of, into, joins_none}
use Rattle.way_theory.proofs.Rows.{rows_length}

-- every node is the first, the last, or one of an entry's two
pub data NodeKind (n v : ℕ) : Type 0 where
  origin : v ≡ 0 → NodeKind n v
  odd : (i : ℕ) → 1 ≤ i → i ≤ n → v ≡ 2 * i - 1 → NodeKind n v
  even : (i : ℕ) → 1 ≤ i → i ≤ n → v ≡ 2 * i → NodeKind n v
  last : v ≡ 2 * n + 1 → NodeKind n v

half : (v : ℕ) → (k : ℕ) × ((v ≡ 2 * k) ⊎ (v ≡ 2 * k + 1))
half zero = (0, inl refl)
half (suc v) = let (k, c) = half v in step k c
  where
    step : (k : ℕ) → (v ≡ 2 * k) ⊎ (v ≡ 2 * k + 1) → (k : ℕ) × ((suc v ≡ 2 * k) ⊎ (suc v ≡ 2 * k + 1))
    step k (inl e) = (k, inr (omega arith))
    step k (inr e) = (suc k, inl (omega arith))

pub node_kind : (n v : ℕ) → v < 2 * n + 2 → NodeKind n v
node_kind n v h = let (k, c) = half v in step k c (ℕ_discrete k 0) (ℕ_discrete k n)
  where
    step : (k : ℕ) → (v ≡ 2 * k) ⊎ (v ≡ 2 * k + 1) → Dec (k ≡ 0) → Dec (k ≡ n) → NodeKind n v
    step k (inl e) (yes q) d = origin (omega arith)
    step k (inl e) (no q) d = even k (omega arith) (omega arith) e
    step k (inr e) c (yes q) = last (omega arith)
    step k (inr e) c (no q) = odd (suc k) (omega arith) (omega arith) (omega arith)

-- the four parts of a list of numbers on the arcs
abbrev pub four_parts : List ℕ → List ℕ → List ℕ → ℕ → List ℕ
four_parts g x y z = g ++ (x ++ (y ++ (z ∷ [])))

pub record Fits (book : Book) (g x y : List ℕ) : Type 0 where
  pub joins : length g ≡ length (join_arcs book (size book) 1)
  pub enters : length x ≡ size book
  pub ends : length y ≡ size book

module _ (book : Book) (g x y : List ℕ) (z : ℕ) (fit : Fits book g x y) where
  pub parts : (φ : BookArc → ℕ) (a b c d : ℕ) → weigh φ (join_arcs book (size book) 1) g ≡ a → weigh (λ j. φ (entry_arc j)) (numbers book) x ≡ b
      → weigh (λ j. φ (end_arc book j)) (numbers book) y ≡ c → φ (last_arc book) ≡ d
      → weigh φ (book_arcs book) (four_parts g x y z) ≡ a + (b + (c + d * z))
  parts φ a b c d p q r s =
      weigh_append φ (join_arcs book (size book) 1) (map entry_arc (numbers book) ++ (map (end_arc book) (numbers book) ++ (last_arc book ∷ []))) g (x ++ (y ++ (z ∷ []))) fit.joins
      ∙ ap₂ ◌+◌ p (weigh_append φ (map entry_arc (numbers book)) (map (end_arc book) (numbers book) ++ (last_arc book ∷ [])) x (y ++ (z ∷ [])) (fit.enters ∙ sym (row_length entry_arc (size book) 1))
      ∙ ap₂ ◌+◌ (weigh_map φ entry_arc (numbers book) x ∙ q)
      (weigh_append φ (map (end_arc book) (numbers book)) (last_arc book ∷ []) y (z ∷ []) (fit.ends ∙ sym (row_length (end_arc book) (size book) 1))
      ∙ ap₂ ◌+◌ (weigh_map φ (end_arc book) (numbers book) y ∙ r) (rw s (omega arith))))

  -- rows that miss the node
  misses : (φ : ℕ → ℕ) (l : List ℕ) → ((j : ℕ) → 1 ≤ j → j ≤ size book → φ j ≡ 0) → weigh φ (numbers book) l ≡ 0
  misses φ l h = weigh_none φ (numbers book) l (λ j m. (let b = from_member (size book) 1 j m in h j (omega arith) (omega arith)))

  hits : (φ : ℕ → ℕ) (l : List ℕ) (i : ℕ) → length l ≡ size book → 1 ≤ i → i ≤ size book → φ i ≡ 1 → ((j : ℕ) → 1 ≤ j → ¬ (j ≡ i) → φ j ≡ 0) → weigh φ (numbers book) l ≡ get_or l (i - 1) 0
  hits φ l i e h k one none =
      let q : 1 + (i - 1) ≡ i = omega arith in
      weigh_from φ (size book) 1 l e (i - 1) (omega arith) (rw q one) (λ j b n. none j b (λ r. n (omega arith)))

  pub out_zero : weigh (out_of 0) (book_arcs book) (four_parts g x y z) ≡ weigh (out_of 0) (join_arcs book (size book) 1) g + z
  out_zero = omega (
    arith,
    parts (out_of 0) (weigh (out_of 0) (join_arcs book (size book) 1) g) 0 0 1 refl
        (misses (λ j. one_if_same (2 * j - 1) 0) x (λ j h k. other_none (2 * j - 1) 0 (λ e. omega arith)))
        (misses (λ j. one_if_same (2 * j) 0) y (λ j h k. other_none (2 * j) 0 (λ e. omega arith)))
        (same_one 0 0 refl),
  )

  pub in_zero : weigh (into 0) (book_arcs book) (four_parts g x y z) ≡ 0
  in_zero = omega (
    arith,
    parts (into 0) 0 0 0 0
        (joins_none book (into 0) (size book) 1 g (λ i j h k. other_none (2 * j - 1) 0 (λ e. omega arith)))
        (misses (λ j. one_if_same (2 * j) 0) x (λ j h k. other_none (2 * j) 0 (λ e. omega arith)))
        (misses (λ j. one_if_same (last_node book) 0) y (λ j h k. other_none (last_node book) 0 (λ e. omega arith)))
        (other_none (last_node book) 0 (λ e. omega arith)),
  )

  pub out_last : weigh (out_of (last_node book)) (book_arcs book) (four_parts g x y z) ≡ 0
  out_last = omega (
    arith,
    parts (out_of (last_node book)) 0 0 0 0
        (joins_none book (out_of (last_node book)) (size book) 1 g (λ i j h k. other_none (2 * i) (last_node book) (λ e. omega arith)))
        (misses (λ j. one_if_same (2 * j - 1) (last_node book)) x (λ j h k. other_none (2 * j - 1) (last_node book) (λ e. omega arith)))
        (misses (λ j. one_if_same (2 * j) (last_node book)) y (λ j h k. other_none (2 * j) (last_node book) (λ e. omega arith)))
        (other_none 0 (last_node book) (λ e. omega arith)),
  )

  pub in_last : weigh (into (last_node book)) (book_arcs book) (four_parts g x y z) ≡ total y + z
  in_last = omega (
    arith,
    parts (into (last_node book)) 0 0 (total y) 1
        (joins_none book (into (last_node book)) (size book) 1 g (λ i j h k. other_none (2 * j - 1) (last_node book) (λ e. omega arith)))
        (misses (λ j. one_if_same (2 * j) (last_node book)) x (λ j h k. other_none (2 * j) (last_node book) (λ e. omega arith)))
        (weigh_ones (λ j. one_if_same (last_node book) (last_node book)) (numbers book) y (fit.ends ∙ sym (from_length (size book) 1)) (λ j m. same_one (last_node book) (last_node book) refl))
        (same_one (last_node book) (last_node book) refl),
  )

  module _ (i : ℕ) (low : 1 ≤ i) (high : i ≤ size book) where
    pub out_odd : weigh (out_of (2 * i - 1)) (book_arcs book) (four_parts g x y z) ≡ get_or x (i - 1) 0
    out_odd = omega (
      arith,
      parts (out_of (2 * i - 1)) 0 (get_or x (i - 1) 0) 0 0
          (joins_none book (out_of (2 * i - 1)) (size book) 1 g (λ k j h l. other_none (2 * k) (2 * i - 1) (λ e. omega arith)))
          (hits (λ j. one_if_same (2 * j - 1) (2 * i - 1)) x i fit.enters low high (same_one (2 * i - 1) (2 * i - 1) refl) (λ j h n. other_none (2 * j - 1) (2 * i - 1) (λ e. n (omega arith))))
          (misses (λ j. one_if_same (2 * j) (2 * i - 1)) y (λ j h k. other_none (2 * j) (2 * i - 1) (λ e. omega arith)))
          (other_none 0 (2 * i - 1) (λ e. omega arith)),
    )

    pub in_odd : weigh (into (2 * i - 1)) (book_arcs book) (four_parts g x y z) ≡ weigh (into (2 * i - 1)) (join_arcs book (size book) 1) g
    in_odd = omega (
      arith,
      parts (into (2 * i - 1)) (weigh (into (2 * i - 1)) (join_arcs book (size book) 1) g) 0 0 0 refl
          (misses (λ j. one_if_same (2 * j) (2 * i - 1)) x (λ j h k. other_none (2 * j) (2 * i - 1) (λ e. omega arith)))
          (misses (λ j. one_if_same (last_node book) (2 * i - 1)) y (λ j h k. other_none (last_node book) (2 * i - 1) (λ e. omega arith)))
          (other_none (last_node book) (2 * i - 1) (λ e. omega arith)),
    )

    pub out_even : weigh (out_of (2 * i)) (book_arcs book) (four_parts g x y z) ≡ weigh (out_of (2 * i)) (join_arcs book (size book) 1) g + get_or y (i - 1) 0
    out_even = omega (
      arith,
      parts (out_of (2 * i)) (weigh (out_of (2 * i)) (join_arcs book (size book) 1) g) 0 (get_or y (i - 1) 0) 0 refl
          (misses (λ j. one_if_same (2 * j - 1) (2 * i)) x (λ j h k. other_none (2 * j - 1) (2 * i) (λ e. omega arith)))
          (hits (λ j. one_if_same (2 * j) (2 * i)) y i fit.ends low high (same_one (2 * i) (2 * i) refl) (λ j h n. other_none (2 * j) (2 * i) (λ e. n (omega arith))))
          (other_none 0 (2 * i) (λ e. omega arith)),
    )

    pub in_even : weigh (into (2 * i)) (book_arcs book) (four_parts g x y z) ≡ get_or x (i - 1) 0
    in_even = omega (
      arith,
      parts (into (2 * i)) 0 (get_or x (i - 1) 0) 0 0
          (joins_none book (into (2 * i)) (size book) 1 g (λ k j h l. other_none (2 * j - 1) (2 * i) (λ e. omega arith)))
          (hits (λ j. one_if_same (2 * j) (2 * i)) x i fit.enters low high (same_one (2 * i) (2 * i) refl) (λ j h n. other_none (2 * j) (2 * i) (λ e. n (omega arith))))
          (misses (λ j. one_if_same (last_node book) (2 * i)) y (λ j h k. other_none (last_node book) (2 * i) (λ e. omega arith)))
          (other_none (last_node book) (2 * i) (λ e. omega arith)),
    )

-- the network's own words
abbrev pub no_book_arc : BookArc
no_book_arc = record { tail = 0; head = 0; low = 0; up = 0; cost = 0 }

at_one_if_same : (e v n : ℕ) → at e v (pos n) ≡ pos (one_if_same e v * n)
at_one_if_same e v n = go (ℕ_discrete e v)
  where
    go : Dec (e ≡ v) → at e v (pos n) ≡ pos (one_if_same e v * n)
    go (yes q) = at_same q (pos n) ∙ ap pos (rw (same_one e v q) (omega arith))
    go (no q) = at_other q (pos n) ∙ ap pos (rw (other_none e v q) (omega arith))

pub count_arcs : (book : Book) → arcs (book_net book) ≡ length (book_arcs book)
count_arcs book = length-map (book_arcs book) (λ a. a.tail)

pub arcs_parts : (book : Book) → length (book_arcs book) ≡ length (join_arcs book (size book) 1) + (2 * size book + 1)
arcs_parts book =
    let a = length-append (join_arcs book (size book) 1) (map entry_arc (numbers book) ++ (map (end_arc book) (numbers book) ++ (last_arc book ∷ []))) in
    let b = rows_length entry_arc (end_arc book) (last_arc book) (size book) in
    omega arith

module _ (book : Book) (f : List ℕ) (fits : length f ≡ length (book_arcs book)) where
  pub net_out_weigh : (v : ℕ) → net_out (book_net book) f v ≡ pos (weigh (out_of v) (book_arcs book) f) -ℤ pos (weigh (into v) (book_arcs book) f)
  net_out_weigh v = ap₂ ◌-ℤ◌
      (sum_weigh (out_of v) no_book_arc (book_arcs book) f (arcs (book_net book)) (count_arcs book) fits (λ a. at (get_or (book_net book).tails a 0) v (pos (get_or f a 0)))
      (λ k. ap (λ e. at e v (pos (get_or f k 0))) (get_or-map (λ a. a.tail) (book_arcs book) k no_book_arc) ∙ at_one_if_same (get_or (book_arcs book) k no_book_arc).tail v (get_or f k 0)))
      (sum_weigh (into v) no_book_arc (book_arcs book) f (arcs (book_net book)) (count_arcs book) fits (λ a. at (get_or (book_net book).heads a 0) v (pos (get_or f a 0)))
      (λ k. ap (λ e. at e v (pos (get_or f k 0))) (get_or-map (λ a. a.head) (book_arcs book) k no_book_arc) ∙ at_one_if_same (get_or (book_arcs book) k no_book_arc).head v (get_or f k 0)))

  pub cost_weigh : cost_of (book_net book) f ≡ pos (weigh (λ a. a.cost) (book_arcs book) f)
  cost_weigh =
      sum_weigh (λ a. a.cost) no_book_arc (book_arcs book) f (arcs (book_net book)) (count_arcs book) fits (λ a. get_or (book_net book).costs a (pos 0) *ℤ pos (get_or f a 0))
      (λ k. ap (λ c. c *ℤ pos (get_or f k 0)) (get_or-map (λ a. pos a.cost) (book_arcs book) k no_book_arc) ∙ pos-*ℤ-pos (get_or (book_arcs book) k no_book_arc).cost (get_or f k 0))

module _ (book : Book) where
  pub nodes_count : nodes (book_net book) ≡ 2 * size book + 2
  nodes_count =
      ap suc (length-append (replicate (2 * size book) (pos 0)) (neg_ℤ (pos book.players) ∷ []) ∙ ap (λ n. n + 1) (length-replicate (2 * size book) (pos 0)))
      ∙ omega arith

  pub balance_inner : (v : ℕ) → 1 ≤ v → v ≤ 2 * size book → balance (book_net book) v ≡ pos 0
  balance_inner zero h k = absurd (omega arith)
  balance_inner (suc v) h k =
      get_or-append (replicate (2 * size book) (pos 0)) (neg_ℤ (pos book.players) ∷ []) (pos 0) v (rw length-replicate (omega arith))
      ∙ get_or-replicate (2 * size book) v (pos 0) (pos 0) (omega arith)

  pub balance_last : (v : ℕ) → v ≡ last_node book → balance (book_net book) v ≡ neg_ℤ (pos book.players)
  balance_last zero e = absurd (omega arith)
  balance_last (suc v) e =
      get_or_at (replicate (2 * size book) (pos 0)) (neg_ℤ (pos book.players)) [] (pos 0) v (length-replicate (2 * size book) (pos 0) ∙ omega arith)
