-- The loop over the entries: what the first k of them take, by the arrays of the checked book and by the book.
use mathlib.Core.Path.{◌≡◌, refl, ap, sym, ◌∙◌}
use mathlib.Core.List.{List}
use Prim.Native.Nat.{ℕ, ◌+◌, ◌-◌, ◌*◌, ◌≤◌, ◌<◌}
use native.Mathlib.Omega.{arith}
use native.Mathlib.Numerals.{add-one}
use lib.ListN.{length, get_or}
use Rattle.laws.specs.Within.{from, from_member}
use Rattle.laws.specs.Totals.{total_of, total_equal, total_last}
use Rattle.book_lines.specs.Columns.{blank_entry}
use Rattle.book_lines.specs.declared.entries.BookEntry.{BookEntry}
use Rattle.book_form.specs.declared.CheckedBook.{CheckedBook}
use Rattle.book_form.proofs.Names.{names_short}
use Rattle.way_theory.specs.Follow.{size, entry_at}
use Rattle.way_theory.specs.FullWays.{numbers}
use Rattle.way_gaps.specs.declared.JoinTicks.{JoinTicks}
use Rattle.way_gaps.specs.Gaps.{no_ticks}
use Rattle.way_gaps.proofs.Filling.{gap_at, spare_at_lem}
use Rattle.way_sheets.specs.Writing.{HasSheets}
use Rattle.way_sheets.specs.EntrySize.{play_size, lead_size, entry_size}
use Rattle.way_sheets.proofs.Columns.{start_is, finish_is, length_is}
use Rattle.way_sheets.proofs.Summed.{play_size_lem, sheets_summed}
use Rattle.way_sheet_sizes.specs.Sizing.{IsSizeOf}

-- what entry j takes, by the arrays
abbrev size_by : (way : List ℕ) (entries : List BookEntry) (ticks : List JoinTicks) → ℕ → ℕ
size_by way entries ticks j =
    let t = get_or ticks (j - 1) no_ticks in
    let e = get_or entries (j - 1) blank_entry in
    lead_size (get_or way (j - 1) 0) t.gap t.spare + play_size e.length e.start e.finish

-- the first k entries are summed
pub record Summed (way : List ℕ) (entries : List BookEntry) (ticks : List JoinTicks) (sum k : ℕ) : Type 0 where
  pub is : sum ≡ total_of (size_by way entries ticks) (from k 1)
  pub few : sum ≤ 100 * k
  pub some : k ≤ length way

module _ (way : List ℕ) (entries : List BookEntry) (ticks : List JoinTicks) where
  pub sum_none : Summed way entries ticks 0 0
  sum_none = record { is = refl; few = omega arith; some = omega arith }

  -- one entry more
  pub sum_more : {sum : ℕ} (k : ℕ) → k < length way → Summed way entries ticks sum k → (lead play : ℕ)
      → lead ≡ lead_size (get_or way k 0) (get_or ticks k no_ticks).gap (get_or ticks k no_ticks).spare → lead ≤ 40
      → play ≡ play_size (get_or entries k blank_entry).length (get_or entries k blank_entry).start (get_or entries k blank_entry).finish → play ≤ 60
      → Summed way entries ticks (sum + (lead + play)) (k + 1)
  sum_more {sum} k h d lead play p m q n =
      let same : 1 + k - 1 ≡ k = omega arith in
      let here : size_by way entries ticks (1 + k) ≡ lead + play = rw (same, p, q) refl in
      record {
        is = rw add-one (omega (arith, d.is, here, total_last (size_by way entries ticks) k 1));
        few = omega (arith, d.few, m, n);
        some = omega arith;
      }

module _ (c : CheckedBook) (w : List ℕ) (x : List JoinTicks) where
  abbrev size_in : ℕ → ℕ
  size_in = size_by w c.entries x

  module _ (s : List ℕ) (has : HasSheets s c w x) where
    pub short : (k : ℕ) → k < length w → (get_or c.entries k blank_entry).length ≤ 16
    short k h =
        let e : k + 1 - 1 ≡ k = omega arith in
        let f = rw e at (length_is s c w x has (k + 1) (omega arith) (omega (arith, has.way.all_entries))) in
        omega (arith, f, names_short s has.book has.holds k (omega (arith, has.way.all_entries)))

    same_size : (j : ℕ) → 1 ≤ j → j ≤ size has.book → size_in j ≡ entry_size has.book w j
    unfolding entry_size
    same_size j h k =
        let e = entry_at has.book j in
        rw (
          gap_at has.book w x has.ticks j h k,
          spare_at_lem has.book w x has.ticks j h k,
          length_is s c w x has j h k,
          start_is s c w x has j h k,
          finish_is s c w x has j h k,
          play_size_lem e.name e.start e.finish,
        ) refl

    size_is : (sum k : ℕ) → length w ≤ k → Summed w c.entries x sum k → sum ≡ total_of (entry_size has.book w) (numbers has.book)
    size_is sum k h d =
        let e : k ≡ size has.book = omega (arith, d.some, has.way.all_entries) in
        d.is
        ∙ ap (λ n. total_of size_in (from n 1)) e
        ∙ total_equal size_in (entry_size has.book w) (numbers has.book) (λ j m. (let (a, b) = from_member (size has.book) 1 j m in same_size j a (omega arith)))

  pub sum_all : (sum k : ℕ) → length w ≤ k → Summed w c.entries x sum k → IsSizeOf c w x sum
  sum_all sum k h d = record { each = λ s has. size_is s has sum k h d ∙ sym (sheets_summed has.book w has.limits has.way) }
