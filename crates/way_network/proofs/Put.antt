-- Arcs put one after another into a network.
use Rattle.std.proofs.Common.{◌≡◌, refl, sym, ap, ap₂, ◌∙◌, List, [], ◌∷◌, ◌++◌, map, ℕ, zero, suc, ◌+◌, ◌*◌, ◌-◌, ◌≤◌, ◌<◌, length, replicate, append_assoc, append-nil, add-one, arith, length-append, set, ℤ, pos}
use Rattle.std.proofs.lemmas.List.{length-map}
use Rattle.std.specs.Prelude.{Some, None}
use Rattle.std.proofs.Math.Option.{Option as Maybe, none, some}
use lib.IntN.{neg_ℤ}
use lib.ListN.{get_or, get_or-map}
use lib.Seq.{append_snoc}
use Rattle.laws.specs.Optional.{optional}
use Rattle.laws.specs.Members.{keep, keep_if}
use Rattle.laws.specs.Padded.{padded, padded_more}
use Rattle.laws.specs.Within.{from}
use Rattle.laws.specs.Rows.{row_is}
use Rattle.net_model.specs.Network.{arcs, cost}
use Rattle.net_model.specs.Struct.{blank_arc, arc_in, arcs_in, struct_of}
use Rattle.net_model.specs.declared.Arc.{Arc}
use Rattle.net_model.specs.declared.Network.{Network}
use Rattle.book_form.specs.Book.{Book}
use Rattle.book_form.specs.Held.{Holds, Held}
use Rattle.book_form.specs.declared.CheckedBook.{CheckedBook}
use Rattle.way_theory.specs.Follow.{size}
use Rattle.way_theory.specs.Ways.{predecessor_cost, given?, or_none, permits}
use Rattle.way_theory.specs.BookNet.{BookArc, balances_of, down, sources, join_arc, join_arcs, entry_arc, book_arcs, book_net, arc_cost}
use Rattle.way_theory.proofs.Nodes.{no_book_arc, count_arcs, nodes_count}
use Rattle.way_theory.proofs.Accepted.{arc_cost_small}
use Rattle.way_theory.proofs.Rows.{rows_length}
use Rattle.way_theory.proofs.Size.{arcs_few}
use Rattle.way_joins.specs.Tables.{TablesOf, HasTables}
use Rattle.way_joins.specs.Joins.{Joins}
use Rattle.way_joins.proofs.Tables.{tables_timing, holds_tables, holds_timing}
use Rattle.way_joins.proofs.Lookup.{count_is}
use Rattle.way_network.specs.Network.{arc_with, held_arc, put_arc, put_arcs, AddsJoins, end_to, last_to, rows_by, IsNetworkOf}

pub put_append : (s : Network) (l r : List BookArc) → put_arcs s (l ++ r) ≡ put_arcs (put_arcs s l) r
put_append s [] r = refl
put_append s (a ∷ l) r = put_append (put_arc s (held_arc a)) l r

pub put_count : (s : Network) (l : List BookArc) → (put_arcs s l).arcs ≡ s.arcs + length l
put_count s [] = omega arith
put_count s (a ∷ l) = let e = put_count (put_arc s (held_arc a)) l in omega arith

-- ---- the joins of entry j, those of the i lowest predecessors ahead
abbrev below : ℕ → List ℕ
below zero = []
below (suc i) = down i

abbrev left : Book → ℕ → ℕ → List BookArc
left b j i = map (join_arc b j) (keep (λ p. permits b p j) (below i))

pub record JoinsLeft (c : CheckedBook) (j : ℕ) (s r : Network) (i : ℕ) : Type 0 where
  pub upto : i ≤ c.count + 1
  pub room : r.arcs + i ≤ s.arcs + c.count + 1
  pub each : (b : Book) → TablesOf b c → put_arcs r (left b j i) ≡ put_arcs s (map (join_arc b j) (sources b j))

module _ (c : CheckedBook) (j : ℕ) where
  pub joins_start : (s : Network) → JoinsLeft c j s s (c.count + 1)
  joins_start s = record { upto = omega arith; room = omega arith; each = λ b t. rw (add-one c.count, count_is (tables_timing t)) }

  keep_below : (b : Book) (i : ℕ) → keep (λ p. permits b p j) (below (suc i)) ≡ keep_if (given? (predecessor_cost b i j)) i (keep (λ p. permits b p j) (below i))
  keep_below b zero = refl
  keep_below b (suc i) = refl

  pub joins_skip : (s r : Network) (i : ℕ) → JoinsLeft c j s r (i + 1) → Joins c i j None → JoinsLeft c j s r i
  joins_skip s r i g o = record {
    upto = omega (arith, g.upto);
    room = omega (arith, g.room);
    each = λ b h. go b (predecessor_cost b i j) refl (o.each b h) ∙ (rw add-one at g.each b h);
  }
    where
      go : (b : Book) (x : Maybe ℕ) → predecessor_cost b i j ≡ x → None ≡ optional x → put_arcs r (left b j i) ≡ put_arcs r (left b j (suc i))
      go b none e q = ap (λ l. put_arcs r (map (join_arc b j) l)) (sym (keep_below b i ∙ ap (λ x. keep_if (given? x) i (keep (λ p. permits b p j) (below i))) e))
      go b (some x) e q = cc

  pub joins_put : (s r t : Network) (i cost : ℕ) → JoinsLeft c j s r (i + 1) → Joins c i j (Some cost) → t ≡ put_arc r (arc_with (2 * i) (2 * j - 1) 0 1 cost) → JoinsLeft c j s t i
  joins_put s r t i cost g o w = record {
    upto = omega (arith, g.upto);
    room = omega (arith, g.room, ap (λ (n : Network). n.arcs) w);
    each = λ b h. ap (λ n. put_arcs n (left b j i)) w ∙ go b (predecessor_cost b i j) refl (o.each b h) ∙ (rw add-one at g.each b h);
  }
    where
      go : (b : Book) (x : Maybe ℕ) → predecessor_cost b i j ≡ x → Some cost ≡ optional x
          → put_arcs (put_arc r (arc_with (2 * i) (2 * j - 1) 0 1 cost)) (left b j i) ≡ put_arcs r (left b j (suc i))
      go b none e q = cc
      go b (some x) e q =
          let d : cost ≡ arc_cost b i j = (let u : cost ≡ x = cc in u ∙ sym (ap or_none e)) in
          let k : keep (λ p. permits b p j) (below (suc i)) ≡ i ∷ keep (λ p. permits b p j) (below i) = keep_below b i ∙ ap (λ x. keep_if (given? x) i (keep (λ p. permits b p j) (below i))) e in
          ap (λ c. put_arcs (put_arc r (arc_with (2 * i) (2 * j - 1) 0 1 c)) (left b j i)) d ∙ ap (λ l. put_arcs r (map (join_arc b j) l)) (sym k)

  pub joins_done : (s r : Network) → JoinsLeft c j s r 0 → AddsJoins c j s r
  joins_done s r g = record { each = λ b h. g.each b h }

pub cost_small : (c : CheckedBook) (i j cost : ℕ) → HasTables c → Joins c i j (Some cost) → cost ≤ 1000000
cost_small c i j cost h o = go (predecessor_cost h.book i j) (o.each h.book h.tables) (arc_cost_small h.book h.tables.limits i j)
  where
    go : (x : Maybe ℕ) → Some cost ≡ optional x → or_none x ≤ 1000000 → cost ≤ 1000000
    go none q k = cc
    go (some x) q k = let u : cost ≡ x = cc in omega arith

-- ---- the numbers from j to e
from_next : (e j : ℕ) → j ≤ e → from (e + 1 - j) j ≡ j ∷ from (e + 1 - (j + 1)) (j + 1)
from_next e j h = let n : e + 1 - j ≡ suc (e + 1 - (j + 1)) = omega arith in rw (n, ← add-one j)

from_none : (e j : ℕ) → e < j → from (e + 1 - j) j ≡ []
from_none e j h = let n : e + 1 - j ≡ 0 = omega arith in rw n

joins_next : (b : Book) (e j : ℕ) → j ≤ e → join_arcs b (e + 1 - j) j ≡ map (join_arc b j) (sources b j) ++ join_arcs b (e + 1 - (j + 1)) (j + 1)
joins_next b e j h = let n : e + 1 - j ≡ suc (e + 1 - (j + 1)) = omega arith in rw (n, ← add-one j)

joins_none : (b : Book) (e j : ℕ) → e < j → join_arcs b (e + 1 - j) j ≡ []
joins_none b e j h = let n : e + 1 - j ≡ 0 = omega arith in rw n

-- ---- the arcs behind the joins
module _ (e players : ℕ) (s : Network) where
  abbrev last : List BookArc
  last = last_to e players ∷ []

  abbrev ends : List BookArc
  ends = map (end_to e) (from e 1) ++ last

  -- those of the entries from j on ahead
  pub record EntriesLeft (r : Network) (j : ℕ) : Type 0 where
    pub low : 1 ≤ j
    pub upto : j ≤ e + 1
    pub count : r.arcs + 1 ≡ s.arcs + j
    pub left : put_arcs r (map entry_arc (from (e + 1 - j) j) ++ ends) ≡ put_arcs s (rows_by e players)

  pub record EndsLeft (r : Network) (j : ℕ) : Type 0 where
    pub low : 1 ≤ j
    pub upto : j ≤ e + 1
    pub count : r.arcs + 1 ≡ s.arcs + e + j
    pub left : put_arcs r (map (end_to e) (from (e + 1 - j) j) ++ last) ≡ put_arcs s (rows_by e players)

  pub entries_start : EntriesLeft s 1
  entries_start = record { low = omega arith; upto = omega arith; count = refl; left = let n : e + 1 - 1 ≡ e = omega arith in rw n }

  pub entries_on : (r t : Network) (j : ℕ) → EntriesLeft r j → j ≤ e → t ≡ put_arc r (arc_with (2 * j - 1) (2 * j) 1 1 0) → EntriesLeft t (j + 1)
  entries_on r t j g h w = record {
    low = omega arith;
    upto = omega arith;
    count = omega (arith, ap (λ (n : Network). n.arcs) w, g.count);
    left = ap (λ n. put_arcs n (map entry_arc (from (e + 1 - (j + 1)) (j + 1)) ++ ends)) w ∙ ap (λ l. put_arcs r (map entry_arc l ++ ends)) (sym (from_next e j h)) ∙ g.left;
  }

  pub ends_start : (r : Network) (j : ℕ) → EntriesLeft r j → e < j → EndsLeft r 1
  ends_start r j g h = record {
    low = omega arith;
    upto = omega arith;
    count = omega (arith, g.count, g.upto);
    left = let n : e + 1 - 1 ≡ e = omega arith in rw n (ap (λ l. put_arcs r (map entry_arc l ++ ends)) (sym (from_none e j h)) ∙ g.left);
  }

  pub ends_on : (r t : Network) (j : ℕ) → EndsLeft r j → j ≤ e → t ≡ put_arc r (arc_with (2 * j) (2 * e + 1) 0 1 0) → EndsLeft t (j + 1)
  ends_on r t j g h w = record {
    low = omega arith;
    upto = omega arith;
    count = omega (arith, ap (λ (n : Network). n.arcs) w, g.count);
    left = ap (λ n. put_arcs n (map (end_to e) (from (e + 1 - (j + 1)) (j + 1)) ++ last)) w ∙ ap (λ l. put_arcs r (map (end_to e) l ++ last)) (sym (from_next e j h)) ∙ g.left;
  }

  pub rows_done : (r t : Network) (j : ℕ) → EndsLeft r j → e < j → t ≡ put_arc r (arc_with 0 (2 * e + 1) 0 players 0) → t ≡ put_arcs s (rows_by e players)
  rows_done r t j g h w = w ∙ ap (λ l. put_arcs r (map (end_to e) l ++ last)) (sym (from_none e j h)) ∙ g.left

-- ---- all arcs of a book
abbrev rows_of : Book → List BookArc
rows_of b = rows_by (size b) b.players

few_arcs : (b : Book) {c : CheckedBook} → Holds b c → length (book_arcs b) ≤ 463
few_arcs b h = omega (arith, arcs_few b h.limits, count_arcs b)

module _ (c : CheckedBook) (s : Network) where
  -- the joins of the entries from j on ahead
  pub record BlocksLeft (r : Network) (j : ℕ) : Type 0 where
    pub low : 1 ≤ j
    pub upto : j ≤ c.count + 1
    pub each : (b : Book) → Holds b c → put_arcs r (join_arcs b (c.count + 1 - j) j ++ rows_of b) ≡ put_arcs s (book_arcs b)

  pub blocks_start : BlocksLeft s 1
  blocks_start = record {
    low = omega arith;
    upto = omega arith;
    each = λ b h. (let n : c.count + 1 - 1 ≡ size b = omega (arith, count_is (holds_timing h)) in rw n);
  }

  pub blocks_on : (r t : Network) (j : ℕ) → BlocksLeft r j → j ≤ c.count → AddsJoins c j r t → BlocksLeft t (j + 1)
  blocks_on r t j g l w = record {
    low = omega arith;
    upto = omega arith;
    each = λ b h.
        (let block = map (join_arc b j) (sources b j) in
        let more = join_arcs b (c.count + 1 - (j + 1)) (j + 1) ++ rows_of b in
        ap (λ n. put_arcs n more) (w.each b (holds_tables h)) ∙ sym (put_append r block more)
        ∙ ap (put_arcs r) (sym (append_assoc block (join_arcs b (c.count + 1 - (j + 1)) (j + 1)) (rows_of b)))
        ∙ ap (λ l. put_arcs r (l ++ rows_of b)) (sym (joins_next b c.count j l)) ∙ g.each b h);
  }

  -- as many arcs are in as leave room for the others
  pub blocks_room : Held c → s.arcs ≡ 0 → (r : Network) (j : ℕ) → BlocksLeft r j → r.arcs ≤ 463
  blocks_room h z r j g =
      let b = h.book in
      omega (arith, few_arcs b h.holds, put_count r (join_arcs b (c.count + 1 - j) j ++ rows_of b), put_count s (book_arcs b), ap (λ (n : Network). n.arcs) (g.each b h.holds))

  rows_length_of : (b : Book) → length (rows_of b) ≡ 2 * size b + 1
  rows_length_of b = rows_length entry_arc (end_to (size b)) (last_to (size b) b.players) (size b)

  pub rows_room : Held c → s.arcs ≡ 0 → (r : Network) (j : ℕ) → BlocksLeft r j → r.arcs + 2 * c.count < 512
  rows_room h z r j g =
      let b = h.book in
      omega (
        arith,
        few_arcs b h.holds,
        put_count r (join_arcs b (c.count + 1 - j) j ++ rows_of b),
        put_count s (book_arcs b),
        ap (λ (n : Network). n.arcs) (g.each b h.holds),
        length-append (join_arcs b (c.count + 1 - j) j) (rows_of b),
        rows_length_of b,
        count_is (holds_timing h.holds),
      )

  pub all_put : (r t : Network) (j : ℕ) → BlocksLeft r j → c.count < j → t ≡ put_arcs r (rows_by c.count c.players) → (b : Book) → Holds b c → t ≡ put_arcs s (book_arcs b)
  all_put r t j g l w b h =
      w ∙ ap₂ (λ n p. put_arcs r (rows_by n p)) (count_is (holds_timing h)) (ap (λ (c : CheckedBook). c.players) h.is)
      ∙ ap (λ l. put_arcs r (l ++ rows_of b)) (sym (joins_none b c.count j l)) ∙ g.each b h

-- ---- the struct of it
-- arcs put behind others: how many they are then, and where they are
put_held : (l : List BookArc) (held : List Arc) (s : Network) → s.arcs ≡ length held → s.table ≡ padded 512 blank_arc held → length held + length l ≤ 512
    → put_arcs s l ≡ record s { arcs = length held + length l; table = padded 512 blank_arc (held ++ map held_arc l) }
put_held [] held s n e h =
    let m : s.arcs ≡ length held + 0 = omega (arith, n) in
    ap₂ (λ n t. (let r : Network = record s { arcs = n; table = t } in r)) m (e ∙ ap (padded 512 blank_arc) (sym (append-nil held)))
put_held (a ∷ l) held s n e h =
    let longer = length-append held (held_arc a ∷ []) in
    let m : s.arcs + 1 ≡ length (held ++ (held_arc a ∷ [])) = omega (arith, n, longer) in
    let t : set s.table s.arcs (held_arc a) ≡ padded 512 blank_arc (held ++ (held_arc a ∷ [])) =
    ap₂ (λ t i. set t i (held_arc a)) e n ∙ padded_more 512 blank_arc held (held_arc a) (omega arith) in
    put_held l (held ++ (held_arc a ∷ [])) (put_arc s (held_arc a)) m t (omega arith)
    ∙ ap₂ (λ n t. (let r : Network = record s { arcs = n; table = padded 512 blank_arc t } in r)) (omega arith) (append_snoc held (held_arc a) (map held_arc l))

same_arc : {t t' h h' l l' u u' : ℕ} {c c' : ℤ} → t ≡ t' → h ≡ h' → l ≡ l' → u ≡ u' → c ≡ c'
    → ◌≡◌ {A = Arc} (record { tail = t; head = h; low = l; up = u; cost = c }) (record { tail = t'; head = h'; low = l'; up = u'; cost = c' })
same_arc p q r s v = cc

arcs_are : (b : Book) → arcs_in (book_net b) ≡ map held_arc (book_arcs b)
arcs_are b = sym (row_is (arc_in (book_net b)) (arcs (book_net b)) 0 (map held_arc (book_arcs b)) blank_arc (length-map (book_arcs b) held_arc ∙ sym (count_arcs b)) at)
  where
    at : (k : ℕ) → k < arcs (book_net b) → get_or (map held_arc (book_arcs b)) k blank_arc ≡ arc_in (book_net b) (0 + k)
    at k h =
        let L = book_arcs b in
        let z : k ≡ 0 + k = omega arith in
        get_or-map held_arc L k no_book_arc
        ∙ sym (same_arc (get_or-map (λ a. a.tail) L k no_book_arc) (get_or-map (λ a. a.head) L k no_book_arc) (get_or-map (λ a. a.low) L k no_book_arc) (get_or-map (λ a. a.up) L k no_book_arc)
        (get_or-map (λ a. pos a.cost) L k no_book_arc))
        ∙ ap (arc_in (book_net b)) z

same_net : {n n' m m' : ℕ} {b b' : List ℤ} {t t' : List Arc} → n ≡ n' → m ≡ m' → b ≡ b' → t ≡ t'
    → ◌≡◌ {A = Network} (record { nodes = n; arcs = m; balances = b; table = t }) (record { nodes = n'; arcs = m'; balances = b'; table = t' })
same_net p q r s = cc

struct_made : (b : Book) (s : Network) → s.nodes ≡ 2 * size b + 2 → s.arcs ≡ 0 → s.balances ≡ padded 64 (pos 0) (balances_of b) → s.table ≡ replicate 512 blank_arc → length (book_arcs b) ≤ 463
    → put_arcs s (book_arcs b) ≡ struct_of (book_net b)
struct_made b s n m w t few =
    put_held (book_arcs b) [] s m t (omega arith)
    ∙ same_net (n ∙ sym (nodes_count b)) (omega (arith, count_arcs b)) w (ap (padded 512 blank_arc) (sym (arcs_are b)))

module _ (c : CheckedBook) (s : Network) (n : s.nodes ≡ 2 * c.count + 2) (m : s.arcs ≡ 0) where
  pub makes_net : (t : Network) → s.balances ≡ padded 64 (pos 0) (pos c.players ∷ (replicate (2 * c.count) (pos 0) ++ (neg_ℤ (pos c.players) ∷ []))) → s.table ≡ replicate 512 blank_arc
      → ((b : Book) → Holds b c → t ≡ put_arcs s (book_arcs b)) → IsNetworkOf c t
  makes_net t w e p = record {
    each = λ b h.
        p b h ∙ struct_made b s (n ∙ ap (λ n. 2 * n + 2) (count_is (holds_timing h))) m
        (w ∙ ap₂ (λ p n. padded 64 (pos 0) (pos p ∷ (replicate (2 * n) (pos 0) ++ (neg_ℤ (pos p) ∷ [])))) (ap (λ (c : CheckedBook). c.players) h.is) (count_is (holds_timing h))) e (few_arcs b h);
  }
