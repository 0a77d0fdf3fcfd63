-- What a checked book tells of its entries and of the moves between them, in each book that it has the timing of, or the tables.
use mathlib.Core.Path.{◌≡◌, refl, sym, ap, subst, ◌∙◌}
use mathlib.Core.List.{List, map}
use mathlib.Core.Bool.{Bool, true, false, cond}
use mathlib.Core.Option.{Option as Maybe, none, some}
use Prim.Native.Nat.{ℕ, ◌-◌, ◌≤◌}
use native.Mathlib.Omega.{arith}
use lib.Dec.{eqb}
use lib.IntN.{ℤ}
use lib.ListN.{get_or, get_or-map}
use borrow.Author.Tests.{eq-eqb, ne_eqb}
use Rattle.std.specs.Prelude.{Option, Some, None, option_map}
use Rattle.laws.specs.Optional.{optional}
use Rattle.book_lines.specs.declared.moves.Move.{Move}
use Rattle.book_lines.specs.declared.moves.PairMove.{PairMove}
use Rattle.book_lines.specs.declared.entries.BookEntry.{BookEntry}
use Rattle.book_lines.specs.Questions.{move_of}
use Rattle.book_lines.specs.Columns.{place, said, table, book_entry, blank_entry, entries_in}
use Rattle.book_lines.proofs.Table.{Instruments, instruments_in, fair_parts, table_at}
use Rattle.book_form.specs.declared.CheckedBook.{CheckedBook}
use Rattle.book_form.specs.Book.{Book}
use Rattle.book_form.proofs.Judging.{entry_in}
use Rattle.way_theory.specs.Follow.{size, entry_at, stay, without_line, line_or, link, road, spare_with, spare_by, spare}
use Rattle.way_joins.specs.Tables.{ticks_of, cost_of, nameless, Timing, Tables, TimingOf, HasTiming}
use Rattle.way_joins.specs.Joins.{Roads}
use Rattle.way_joins.proofs.Tables.{tables_timing}
use Rattle.std.proofs.lemmas.Option.{none-some, same_Some}
use Rattle.way_theory.proofs.Fair.{FairEntry, fair_entry_lem}

-- what can be read of an entry
pub record Readable (e : BookEntry) : Type 0 where
  pub ends : Instruments e.arrives e.leaves
  pub start_high : e.start ≤ 1000000
  pub finish_high : e.finish ≤ 1000000

-- entry k of a checked book
abbrev pub kept_at : CheckedBook → ℕ → BookEntry
kept_at c k = get_or c.entries (k - 1) blank_entry

module _ {b : Book} {c : CheckedBook} (h : TimingOf b c) where
  pub count_is : c.count ≡ size b
  count_is = ap (λ (t : Timing). t.count) h.are

  pub few : c.count ≤ 28
  few = omega (arith, count_is, h.limits.few)

  module _ (k : ℕ) (low : 1 ≤ k) (high : k ≤ c.count) where
    pub entry_is : nameless (kept_at c k) ≡ nameless (book_entry 0 (entry_at b k))
    entry_is =
        sym (get_or-map nameless c.entries (k - 1) blank_entry)
        ∙ ap (λ (t : Timing). get_or t.entries (k - 1) blank_entry) h.are
        ∙ get_or-map nameless (entries_in 0 b.entries) (k - 1) blank_entry
        ∙ ap nameless (entry_in 0 b.entries (k - 1) blank_entry (omega (arith, count_is)))

    fair_at : FairEntry (entry_at b k)
    fair_at = fair_entry_lem (entry_at b k) (h.limits.fair_entries (k - 1) (omega (arith, count_is)))

    readable : Readable (kept_at c k)
    readable =
        let f = fair_at in
        let r : Readable (nameless (kept_at c k)) =
        subst Readable (sym entry_is) (record { ends = instruments_in _ _ f.arrives_in f.leaves_in; start_high = omega (arith, f.ends_later, f.finish_high); finish_high = f.finish_high }) in
        record { ends = r.ends; start_high = r.start_high; finish_high = r.finish_high }

-- Of what the lines say: their ticks, or their costs.
module _ (f : PairMove → ℕ) where
  -- the line of two instruments
  line_is : (ms : List Move) (moves : List (Option PairMove)) → map (option_map f) moves ≡ map (option_map f) (table ms) → (p q : ℕ) → Instruments p q
      → option_map f (get_or moves (place p q) None) ≡ option_map f (option_map said (optional (move_of ms p q)))
  line_is ms moves e p q r =
      sym (get_or-map (option_map f) moves (place p q) None)
      ∙ ap (λ l. get_or l (place p q) None) e
      ∙ get_or-map (option_map f) (table ms) (place p q) None
      ∙ ap (option_map f) (table_at p q r ms)

-- How a player goes between two instruments, by what their line says.
abbrev pub road_told : ℕ → ℕ → Option PairMove → Option PairMove
road_told p q None = cond (eqb p q) (Some (said stay)) None
road_told p q (Some m) = Some m

pub told_stay : (p q : ℕ) (line : Option PairMove) → line ≡ None → p ≡ q → Some (record { ticks = 0; cost = 0 }) ≡ road_told p q line
told_stay p q line e f = rw (e, eq-eqb p q f)

pub told_none : (p q : ℕ) (line : Option PairMove) → line ≡ None → ¬ (p ≡ q) → line ≡ road_told p q line
told_none p q line e f = rw (e, ne_eqb p q f)

pub told_line : (p q : ℕ) (line : Option PairMove) {m : PairMove} → line ≡ Some m → line ≡ road_told p q line
told_line p q line e = rw e

told_is : (f : PairMove → ℕ) (p q : ℕ) (line : Option PairMove) (o : Maybe Move) → option_map f line ≡ option_map f (option_map said (optional o))
    → option_map f (road_told p q line) ≡ option_map f (option_map said (optional (line_or o (without_line p q))))
told_is f p q None none e = go (eqb p q)
  where
    go : (t : Bool) → option_map f (cond t (Some (said stay)) None) ≡ option_map f (option_map said (optional (cond t (some stay) none)))
    go true = refl
    go false = refl
told_is f p q None (some m) e = absurd (none-some _ e)
told_is f p q (Some r) none e = absurd (none-some _ (sym e))
told_is f p q (Some r) (some m) e = e

module _ {b : Book} {c : CheckedBook} (h : TimingOf b c) (i j : ℕ) (i-low : 1 ≤ i) (i-high : i ≤ c.count) (j-low : 1 ≤ j) (j-high : j ≤ c.count) where
  abbrev leaves : ℕ
  leaves = (kept_at c i).leaves

  abbrev arrives : ℕ
  arrives = (kept_at c j).arrives

  abbrev finish : ℕ
  finish = (kept_at c i).finish

  abbrev start : ℕ
  start = (kept_at c j).start

  instruments : Instruments leaves arrives
  instruments =
      let p = (readable h i i-low i-high).ends in
      let q = (readable h j j-low j-high).ends in
      record { source_low = p.target_low; source_high = p.target_high; target_low = q.source_low; target_high = q.source_high }

  road_by : (f : PairMove → ℕ) → map (option_map f) c.moves ≡ map (option_map f) (table b.moves) → ¬ (i ≡ j) → (k : ℕ) → k ≡ place leaves arrives
      → option_map f (road_told leaves arrives (get_or c.moves k None)) ≡ option_map f (option_map said (optional (road b i j)))
  road_by f same n k e =
      rw (e, ne_eqb i j n)
      (told_is f leaves arrives _ (move_of b.moves leaves arrives) (line_is f b.moves c.moves same leaves arrives instruments)
      ∙ ap (λ p. option_map f (option_map said (optional (link b.moves p arrives)))) (ap (λ (e : BookEntry). e.leaves) (entry_is h i i-low i-high))
      ∙ ap (λ q. option_map f (option_map said (optional (link b.moves (entry_at b i).leaves q)))) (ap (λ (e : BookEntry). e.arrives) (entry_is h j j-low j-high)))

  module _ (n : ℕ) (e : Some n ≡ ticks_of (option_map said (optional (road b i j)))) where
    ticks_high : n ≤ 1000000
    ticks_high = go (eqb i j) (eqb (entry_at b i).leaves (entry_at b j).arrives) (move_of b.moves (entry_at b i).leaves (entry_at b j).arrives) (λ m q. (fair_parts m (h.limits.fair_moves _ _ m q)).ticks_high) e
      where
        go : (t u : Bool) (o : Maybe Move) → ((m : Move) → o ≡ some m → m.ticks ≤ 1000000) → Some n ≡ ticks_of (option_map said (optional (cond t none (line_or o (cond u (some stay) none))))) → n ≤ 1000000
        go true u o f q = absurd (none-some _ (sym q))
        go false true none f q = omega (arith, same_Some _ _ q)
        go false false none f q = absurd (none-some _ (sym q))
        go false u (some m) f q = omega (arith, same_Some _ _ q, f m refl)

    by_book : spare_with n finish start ≡ spare_with n (entry_at b i).finish (entry_at b j).start
    by_book = ap (λ f. spare_with n f start) (ap (λ (e : BookEntry). e.finish) (entry_is h i i-low i-high)) ∙ ap (λ s. spare_with n (entry_at b i).finish s) (ap (λ (e : BookEntry). e.start) (entry_is h j j-low j-high))

    pub spare_is : (z : ℤ) → z ≡ spare_with n finish start → Some z ≡ optional (spare b i j)
    spare_is z q = ap Some (q ∙ by_book) ∙ go (road b i j) e (entry_at b i).finish (entry_at b j).start
      where
        go : (o : Maybe Move) → Some n ≡ ticks_of (option_map said (optional o)) → (f s : ℕ) → Some (spare_with n f s) ≡ optional (spare_by o f s)
        go none x f s = absurd (none-some _ (sym x))
        go (some m) x f s = ap (λ n. Some (spare_with n f s)) (same_Some _ _ x)

-- What the calls ask for, and how a player goes, of a checked book that has the timing of some.
module _ {c : CheckedBook} (h : HasTiming c) (i j : ℕ) (i-low : 1 ≤ i) (i-high : i ≤ c.count) (j-low : 1 ≤ j) (j-high : j ≤ c.count) where
  pub pair : Instruments (kept_at c i).leaves (kept_at c j).arrives
  pair = instruments h.timing i j i-low i-high j-low j-high

  pub small : (r : PairMove) → Roads c i j (Some r) → (r.ticks ≤ 1000000) × ((kept_at c i).finish ≤ 1000000) × ((kept_at c j).start ≤ 1000000)
  small r e = (ticks_high h.timing i j i-low i-high j-low j-high r.ticks (e.ticks h.book h.timing), (readable h.timing i i-low i-high).finish_high, (readable h.timing j j-low j-high).start_high)

  -- by the place k of the line of the two instruments
  pub roads : ¬ (i ≡ j) → (k : ℕ) → k ≡ place (kept_at c i).leaves (kept_at c j).arrives → (r : Option PairMove) → r ≡ road_told (kept_at c i).leaves (kept_at c j).arrives (get_or c.moves k None) → Roads c i j r
  roads n k e r q = record {
    ticks = λ b h. ap ticks_of q ∙ road_by h i j i-low i-high j-low j-high (λ (m : PairMove). m.ticks) (ap (λ (t : Timing). t.ticks) h.are) n k e;
    cost = λ b t. ap cost_of q ∙ road_by (tables_timing t) i j i-low i-high j-low j-high (λ (m : PairMove). m.cost) (ap (λ (t : Tables). t.costs) t.are) n k e;
  }
