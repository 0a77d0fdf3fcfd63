-- The flow of a list of numbers, arc by arc.
use Rattle.std.proofs.Common.{◌≡◌, refl, sym, ap, ap₂, subst, ◌∙◌, Bool, true, false, cond, List, [], ◌∷◌, ◌++◌, map, ℕ, zero, suc, ◌+◌, ◌*◌, ◌-◌, ◌/◌, ◌≤◌, ◌<◌, length, get_or, take, drop, set, replicate, count_by, append_assoc, arith, length-append, take_at}
use Rattle.std.proofs.lemmas.List.Recursion.{is_count_by}
use Rattle.std.proofs.lemmas.List.{length-map, drop_at, map-id}
use lib.Dec.{eqb}
use Rattle.std.specs.Int.{from_bool}
use lib.ListN.{get_or-append, get_or-map}
use lib.Seq.{get_or-append-add}
use native.Mathlib.Nat.{suc_inj}
use borrow.Rule.Slice.PartMut.{put_mid}
use Rattle.laws.specs.Padded.{padded, filled, filled_more, filled_all, drop_replicate}
use Rattle.laws.specs.Members.{map_at}
use Rattle.laws.specs.Suffix.{drop_front}
use Rattle.laws.specs.Equality.{cons_same}
use Rattle.laws.specs.Within.{from}
use Rattle.laws.specs.Rows.{row_length}
use Rattle.net_model.specs.Struct.{blank_arc}
use Rattle.net_model.specs.declared.Arc.{Arc}
use Rattle.book_form.specs.Book.{Book}
use Rattle.way_theory.specs.Follow.{size}
use Rattle.way_theory.specs.Ways.{one_if, times}
use Rattle.way_theory.specs.BookNet.{BookArc, sources, join_arc, join_arcs, book_arcs}
use Rattle.way_theory.specs.WayFlow.{one_if_same, marked, join_flow, flow_of}
use Rattle.way_theory.proofs.Blocks.{join_flow_length}
use Rattle.way_theory.proofs.Rows.{behind_joins, rows_length, in_second, in_one_more}
use Rattle.way_theory.proofs.Nodes.{no_book_arc, count_arcs}
use Rattle.way_theory.proofs.Size.{arcs_few}
use Rattle.way_flow.specs.Arcs.{ArcEnds, HasEnds, IsFlowOf}
use Rattle.way_flow.proofs.Reading.{tails, heads, joins_count, tail_is, head_is}

-- the library counts so
pub times_counted : (i : ℕ) (w : List ℕ) → times i w ≡ count_by (λ p. eqb p i) w
times_counted i w = is_count_by (times i) (λ p. eqb p i) refl (λ p w. go (eqb p i) (times i w)) w
  where
    go : (t : Bool) (n : ℕ) → one_if t + n ≡ cond t (1 + n) n
    go true n = refl
    go false n = omega arith

pub byte_same : (m n : ℕ) → from_bool (eqb m n) ≡ one_if_same m n
byte_same m n = go (eqb m n)
  where
    go : (t : Bool) → from_bool t ≡ one_if t
    go true = refl
    go false = refl

-- B written behind A
pub padded_put : {X : Type 0} (k : ℕ) (d : X) (A B : List X) (a n : ℕ) → a ≡ length A → n ≡ length B → put_mid a n (padded k d A) B ≡ padded k d (A ++ B)
padded_put k d A B a n e f =
    let left : k - length A - n ≡ k - length (A ++ B) = omega (arith, length-append A B) in
    ap (λ l. l ++ (B ++ drop n (drop a (padded k d A)))) (take_at A (replicate (k - length A) d) a (sym e))
    ∙ ap (λ l. A ++ (B ++ drop n l)) (drop_at A (replicate (k - length A) d) a (sym e))
    ∙ ap (λ l. A ++ (B ++ l)) (drop_replicate n (k - length A) d ∙ ap (λ i. replicate i d) left)
    ∙ sym (append_assoc A B (replicate (k - length (A ++ B)) d))

-- the joins: on the arc from 2i to 2j − 1, whether i is number j of the list
module _ (b : Book) (all : List ℕ) where
  carries : BookArc → ℕ
  carries a = one_if_same (a.tail / 2) (get_or all ((a.head - 1) / 2) 0)

  block_carries : (j p : ℕ) (l : List ℕ) (r : List BookArc) → 1 ≤ j → get_or all (j - 1) 0 ≡ p → map carries (map (join_arc b j) l ++ r) ≡ marked p l ++ map carries r
  unfolding carries
  block_carries j p [] r k e = refl
  block_carries j p (i ∷ l) r k e =
      let u : (2 * j - 1 - 1) / 2 ≡ j - 1 = omega arith in
      let v : 2 * i / 2 ≡ i = omega arith in
      let h : one_if_same (2 * i / 2) (get_or all ((2 * j - 1 - 1) / 2) 0) ≡ one_if_same i p = ap₂ one_if_same v (ap (λ n. get_or all n 0) u ∙ e) in
      cons_same _ (one_if_same i p) _ (marked p l ++ map carries r) h (block_carries j p l r k e)

  joins_carry : (j : ℕ) (w : List ℕ) → 1 ≤ j → drop (j - 1) all ≡ w → (n : ℕ) → n ≡ length w → map carries (join_arcs b n j) ≡ join_flow b j w
  joins_carry j w k e zero n = go w n
    where
      go : (w : List ℕ) → 0 ≡ length w → [] ≡ join_flow b j w
      go [] n = refl
      go (p ∷ w) n = absurd (omega arith)
  joins_carry j [] k e (suc m) n = absurd (omega arith)
  joins_carry j (p ∷ w) k e (suc m) n =
      let f = drop_front 0 all (j - 1) p w e in
      let s : suc j - 1 ≡ suc (j - 1) = omega arith in
      block_carries j p (sources b j) (join_arcs b m (suc j)) k f.here
      ∙ ap (λ l. marked p (sources b j) ++ l) (joins_carry (suc j) w (omega arith) (ap (λ i. drop i all) s ∙ f.later) m (suc_inj n))

module _ (e : ℕ) (held : List Arc) (b : Book) (h : ArcEnds b e held) (w : List ℕ) (len : length w ≡ e) where
  joined_length : length (join_flow b 1 w) ≡ length (join_arcs b (size b) 1)
  joined_length = subst (λ n. length (join_flow b 1 w) ≡ length (join_arcs b n 1)) (len ∙ h.entries_are) (join_flow_length b 1 w)

  joined_all : length held ≡ length (join_flow b 1 w) + (2 * e + 1)
  joined_all = joins_count e held b h ∙ ap (λ n. n + (2 * e + 1)) (sym joined_length)

  -- what stands behind the joins
  abbrev behind : List ℕ
  behind = behind_joins (λ j. 1) (λ j. 1 - times j w) (b.players - times 0 w) (size b)

  pub flow_long : length (flow_of b w) ≡ length held
  flow_long = omega (arith, length-append (join_flow b 1 w) behind, rows_length (λ j. 1) (λ j. 1 - times j w) (b.players - times 0 w) (size b), joined_all, h.entries_are)

  pub on_join : (k : ℕ) → k < length held - (2 * e + 1) → get_or (flow_of b w) k 0 ≡ one_if_same (get_or (tails e held) k 0 / 2) (get_or w ((get_or (heads e held) k 0 - 1) / 2) 0)
  unfolding carries
  on_join k l =
      let n : k < length (join_flow b 1 w) = omega (arith, joined_all) in
      let m : k < length (join_arcs b (size b) 1) = omega (arith, joined_length) in
      get_or-append (join_flow b 1 w) _ 0 k n
      ∙ ap (λ l. get_or l k 0) (sym (joins_carry b w 1 w (omega arith) refl (size b) (sym (len ∙ h.entries_are))))
      ∙ map_at (carries b w) (join_arcs b (size b) 1) k no_book_arc 0 m
      ∙ ap (λ a. carries b w a) (sym (get_or-append (join_arcs b (size b) 1) _ no_book_arc k m))
      ∙ sym (ap₂ (λ t d. one_if_same (t / 2) (get_or w ((d - 1) / 2) 0)) (ap (λ l. get_or l k 0) h.tails_are ∙ get_or-map (λ a. a.tail) (book_arcs b) k no_book_arc)
      (ap (λ l. get_or l k 0) h.heads_are ∙ get_or-map (λ a. a.head) (book_arcs b) k no_book_arc))

  module _ (k row : ℕ) (at : k ≡ length held - (2 * e + 1) + row) where
    shift : get_or (flow_of b w) k 0 ≡ get_or behind row 0
    shift = ap (λ i. get_or (flow_of b w) i 0) (let q : k ≡ length (join_flow b 1 w) + row = omega (arith, joined_all) in q) ∙ get_or-append-add (join_flow b 1 w) behind row 0

    on_end : e ≤ row → row < 2 * e → get_or (flow_of b w) k 0 ≡ 1 - times (row - e + 1) w
    on_end g l =
        shift ∙ in_second (λ j. 1) (λ j. 1 - times j w) (b.players - times 0 w) (size b) row 0 (omega (arith, h.entries_are)) (omega (arith, h.entries_are))
        ∙ ap (λ n. 1 - times (row - n + 1) w) (sym h.entries_are)

    on_last : row ≡ 2 * e → get_or (flow_of b w) k 0 ≡ b.players - times 0 w
    on_last l = shift ∙ in_one_more (λ j. 1) (λ j. 1 - times j w) (b.players - times 0 w) (size b) row 0 (omega (arith, h.entries_are))

  abbrev laid : ℕ → List ℕ
  laid k = filled (λ x. x) (flow_of b w) 512 0 k

  few : length held ≤ 463
  few = omega (arith, arcs_few b h.limits, count_arcs b, ap length h.tails_are, length-map held (λ (a : Arc). a.tail))

  laid_one : (flow : List ℕ) (k x : ℕ) → flow ≡ laid k → k < length held → x ≡ get_or (flow_of b w) k 0 → set flow k x ≡ laid (k + 1)
  laid_one flow k x q l p = filled_more (λ x. x) (flow_of b w) 512 0 0 k flow x q (omega (arith, flow_long)) (omega (arith, few)) p

  -- 1 on each entry arc
  laid_entries : (flow ys : List ℕ) (m n : ℕ) → m ≡ length held - (2 * e + 1) → n ≡ e → flow ≡ laid m → ys ≡ replicate n 1 → put_mid m n flow ys ≡ laid (m + e)
  laid_entries flow ys m n l f q p =
      let A = join_flow b 1 w in
      let B = map {B = ℕ} (λ (j : ℕ). 1) (from (size b) 1) in
      let C = map (λ j. 1 - times j w) (from (size b) 1) ++ ((b.players - times 0 w) ∷ []) in
      let a : m ≡ length A = omega (arith, joined_all) in
      let c : e ≡ length B = h.entries_are ∙ sym (row_length {A = ℕ} (λ (j : ℕ). 1) (size b) 1) in
      let u : ys ≡ B = p ∙ ap (λ i. replicate i 1) (f ∙ h.entries_are) ∙ sym (ones_from (size b) 1) in
      let first : laid m ≡ padded 512 0 A = ap (padded 512 0) (map-id (take m (A ++ (B ++ C))) ∙ take_at A (B ++ C) m (sym a)) in
      let both : laid (m + e) ≡ padded 512 0 (A ++ B) =
      ap (padded 512 0) (map-id (take (m + e) (A ++ (B ++ C))) ∙ ap (take (m + e)) (sym (append_assoc A B C)) ∙ take_at (A ++ B) C (m + e) (omega (arith, length-append A B))) in
      ap₂ (λ s t. put_mid m n s t) (q ∙ first) u ∙ padded_put 512 0 A B m n a (f ∙ c) ∙ sym both
    where
      ones_from : (n s : ℕ) → map {B = ℕ} (λ (j : ℕ). 1) (from n s) ≡ replicate n 1
      ones_from zero s = refl
      ones_from (suc n) s = ap (λ l. 1 ∷ l) (ones_from n (suc s))

-- the numbers of the first k arcs are laid, for each book
module _ (e players : ℕ) (held : List Arc) (w : List ℕ) where
  pub record Laying (flow : List ℕ) (k : ℕ) : Type 0 where
    pub each : (b : Book) → ArcEnds b e held → players ≡ b.players → flow ≡ filled (λ x. x) (flow_of b w) 512 0 k

  pub laying_room : length w ≡ e → HasEnds e players held → (length held ≤ 463) × (2 * e + 1 ≤ length held) × (e ≤ 28)
  laying_room len h = (few e held h.book h.ends w len, omega (arith, joined_all e held h.book h.ends w len), omega (arith, h.ends.entries_are, h.ends.limits.few))

  pub laying_start : Laying (replicate 512 0) 0
  laying_start = record { each = λ b h p. refl }

  pub laying_join : (flow : List ℕ) (n k x : ℕ) (a : Arc) → n ≡ length held - (2 * e + 1) → length w ≡ e → Laying flow k → k < n → a ≡ get_or (take n held) k blank_arc
      → x ≡ one_if_same (a.tail / 2) (get_or w ((a.head - 1) / 2) 0) → Laying (set flow k x) (k + 1)
  laying_join flow n k x a f len g l q p = record {
    each = λ b h r.
        (let t : a.tail ≡ get_or (tails e held) k 0 = ap (λ (a : Arc). a.tail) q ∙ tail_is e held n k l in
        let d : a.head ≡ get_or (heads e held) k 0 = ap (λ (a : Arc). a.head) q ∙ head_is e held n k l in
        laid_one e held b h w len flow k x (g.each b h r) (omega arith)
        (p ∙ ap₂ (λ t d. one_if_same (t / 2) (get_or w ((d - 1) / 2) 0)) t d ∙ sym (on_join e held b h w len k (omega arith))));
  }

  pub laying_entries : (flow ys : List ℕ) (m n : ℕ) → m ≡ length held - (2 * e + 1) → n ≡ e → length w ≡ e → Laying flow m → ys ≡ replicate n 1 → Laying (put_mid m n flow ys) (m + e)
  laying_entries flow ys m n l f len g p = record { each = λ b h r. laid_entries e held b h w len flow ys m n l f (g.each b h r) p }

  -- entry j + 1
  pub laying_end : (flow : List ℕ) (k j x : ℕ) → 2 * e + 1 ≤ length held → k ≡ length held - (2 * e + 1) + e → j < e → length w ≡ e → Laying flow (k + j) → x ≡ 1 - times (j + 1) w → Laying (set flow (k + j) x) (k + j + 1)
  laying_end flow k j x n l m len g p = record {
    each = λ b h r.
        laid_one e held b h w len flow (k + j) x (g.each b h r) (omega arith)
        (p ∙ ap (λ i. 1 - times i w) (let q : j + 1 ≡ e + j - e + 1 = omega arith in q) ∙ sym (on_end e held b h w len (k + j) (e + j) (omega arith) (omega arith) (omega arith)));
  }

  pub laying_done : (flow : List ℕ) (k x : ℕ) → 2 * e + 1 ≤ length held → k ≡ length held - (2 * e + 1) + e + e → length w ≡ e → Laying flow k → x ≡ players - times 0 w → IsFlowOf e players held w (set flow k x)
  laying_done flow k x n l len g p = record {
    each = λ b h r.
        laid_one e held b h w len flow k x (g.each b h r) (omega arith) (p ∙ ap (λ n. n - times 0 w) r ∙ sym (on_last e held b h w len k (2 * e) (omega arith) refl))
        ∙ filled_all (λ x. x) (flow_of b w) 512 0 (k + 1) (omega (arith, flow_long e held b h w len)) ∙ ap (padded 512 0) (map-id (flow_of b w));
  }
