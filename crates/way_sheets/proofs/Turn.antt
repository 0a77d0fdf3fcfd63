-- The loop over the playing order: what is written after k entries, and the entry of one turn as the program reads it.
use mathlib.Core.Path.{◌≡◌, refl, ap, sym, subst, ◌∙◌}
use mathlib.Core.List.{List, [], ◌++◌, append_assoc}
use mathlib.Core.Option.{some, some-injective}
use Prim.Native.Nat.{ℕ, zero, suc, ◌+◌, ◌-◌, ◌≤◌, ◌<◌}
use native.Mathlib.Omega.{arith}
use lib.ListN.{length, take, drop, get_or, length-append, length-take}
use lib.Seq.{drop-length}
use Rattle.std.proofs.lemmas.List.{get_or-take}
use Rattle.laws.specs.Padded.{padded, padded_length}
use Rattle.laws.specs.Appended.{Appended, appended_long}
use Rattle.text_write.specs.declared.Writer.{Writer}
use Rattle.text_write.specs.Writing.{HasRoomFor, Writes}
use Rattle.text_write.proofs.Writing.{writes_none, writes_then}
use Rattle.book_lines.specs.Columns.{blank_entry}
use Rattle.book_form.specs.Book.{Book, parse}
use Rattle.book_form.specs.declared.CheckedBook.{CheckedBook}
use Rattle.book_form.proofs.Names.{checked_name}
use Rattle.way_theory.specs.Follow.{size, entry_at}
use Rattle.way_parts.specs.Parts.{predecessor, playing_order}
use Rattle.way_parts.specs.Acyclic.{Acyclic}
use Rattle.way_parts.proofs.Ranks.{way_acyclic}
use Rattle.way_parts.proofs.Theorems.{as_many}
use Rattle.way_parts.proofs.Places.{place_inside, place_next}
use Rattle.way_gaps.specs.declared.JoinTicks.{JoinTicks}
use Rattle.way_gaps.specs.Gaps.{no_ticks}
use Rattle.way_gaps.proofs.Filling.{gap_at, spare_at_lem}
use Rattle.way_sheets.specs.Lines.{play_line}
use Rattle.way_sheets.specs.Sheets.{sheets}
use Rattle.way_sheets.specs.Writing.{closing, lead, begun, HasSheets, HasRoom, WritesSheets}
use Rattle.way_sheets.proofs.Columns.{start_is, finish_is}
use Rattle.way_sheets.proofs.Visits.{visit, visits, visits_all}

-- the first k entries of the playing order are written, and n parts are begun
pub record Put (book : Book) (w : List ℕ) (before now : Writer) (n k : ℕ) : Type 0 where
  pub done : List ℕ
  pub whole : done ++ visits book w n (drop k (playing_order w)) ≡ visits book w 0 (playing_order w)
  pub put : Writes before done now
  pub few : n ≤ k
  pub some : k ≤ length w

-- of the book that the bytes s hold
pub record Puts (s w : List ℕ) (before now : Writer) (n k : ℕ) : Type 0 where
  pub lent : now.out.ghost_name ≡ before.out.ghost_name
  pub each : (b : Book) → parse s ≡ some b → Put b w before now n k

pub put_none : (s w : List ℕ) (before : Writer) → before.at ≡ 0 → Puts s w before before 0 0
put_none s w before e = record { lent = refl; each = λ b f. record { done = []; whole = refl; put = writes_none {p = []} (record { fits = omega arith }); few = omega arith; some = omega arith } }

begun_more : (n i : ℕ) → begun n i ≤ n + 1
begun_more n zero = omega arith
begun_more n (suc i) = omega arith

module _ (s : List ℕ) (c : CheckedBook) (w : List ℕ) (x : List JoinTicks) (room : ℕ) (roomy : HasRoom s c w x room) where
  abbrev has : HasSheets s c w x
  has = roomy.has

  abbrev book : Book
  book = has.book

  same_book : (b : Book) → parse s ≡ some b → book ≡ b
  same_book b e = some-injective book b (sym has.holds ∙ e)

  it : {b o : Writer} {n k : ℕ} → Puts s w b o n k → Put book w b o n k
  it d = d.each book has.holds

  pub begun_few : {b o : Writer} {n k : ℕ} → Puts s w b o n k → n ≤ k
  begun_few d = (it d).few

  pub acyclic : Acyclic w
  acyclic = way_acyclic book has.limits w has.way

  long : length (playing_order w) ≡ length w
  long = as_many book has.limits w has.way ∙ sym has.way.all_entries

  whole_is : visits book w 0 (playing_order w) ≡ sheets book w
  whole_is = visits_all book w has.limits has.way

  -- the name of entry j, as the program takes it from the bytes
  abbrev name_read : ℕ → List ℕ
  name_read j = let e = get_or c.entries (j - 1) blank_entry in take (e.name + e.length - e.name) (drop e.name s)

  -- the name of entry j lies in the bytes
  module _ (j : ℕ) (h : 1 ≤ j) (k : j ≤ size book) where
    named : let e = get_or c.entries (j - 1) blank_entry in (e.name + e.length ≤ length s) × (take e.length (drop e.name s) ≡ (entry_at book j).name)
    named =
        subst (λ (y : CheckedBook). let e = get_or y.entries (j - 1) blank_entry in (e.name + e.length ≤ length s) × (take e.length (drop e.name s) ≡ (entry_at book j).name)) (sym has.is)
        (checked_name s book has.holds (j - 1) (omega arith))

    pub name_inside : let e = get_or c.entries (j - 1) blank_entry in e.name + e.length ≤ length s
    name_inside = named.0

    name_is : name_read j ≡ (entry_at book j).name
    name_is =
        let e = get_or c.entries (j - 1) blank_entry in
        let q : e.name + e.length - e.name ≡ e.length = omega arith in
        ap (λ n. take n (drop e.name s)) q ∙ named.1

  -- the list a is the playing order, as the array has it
  module _ (a : List ℕ) (q : a ≡ take (length w) (padded 28 0 (playing_order w))) where
    pub as_long : length a ≡ length w
    as_long = omega (arith, ap length q, length-take (length w) (padded 28 0 (playing_order w)), padded_length 28 0 (playing_order w) (omega (arith, long, acyclic.few)), acyclic.few)

    -- the entry at place k of it
    module _ (k : ℕ) (h : k < length a) where
      abbrev entry : ℕ
      entry = get_or a k 0

      in_way : k < length w
      in_way = omega (arith, as_long, h)

      placed : get_or (padded 28 0 (playing_order w)) k 0 ≡ entry
      placed = sym (ap (λ l. get_or l k 0) q ∙ get_or-take (length w) (padded 28 0 (playing_order w)) k 0 in_way)

      pub entry_inside : (1 ≤ entry) × (entry ≤ length w) × (entry ≤ size book)
      entry_inside = let m : (1 ≤ entry) × (entry ≤ length w) = rw placed at (place_inside w acyclic (padded 28 0 (playing_order w)) refl k in_way) in omega (arith, m, has.way.all_entries)

      next_visit : (n : ℕ) → visits book w n (drop k (playing_order w)) ≡ visit book w n entry ++ visits book w (begun n (predecessor w entry)) (drop (k + 1) (playing_order w))
      unfolding visits
      next_visit n = rw (← placed) (ap (visits book w n) (place_next w acyclic (padded 28 0 (playing_order w)) refl k in_way))

      -- what the program writes in this turn
      abbrev turn : ℕ → List ℕ
      turn n =
          let t = get_or x (entry - 1) no_ticks in
          let e = get_or c.entries (entry - 1) blank_entry in
          lead n (predecessor w entry) t.gap t.spare ++ play_line (name_read entry) e.start e.finish

      turn_is : (n : ℕ) → turn n ≡ visit book w n entry
      unfolding visit
      turn_is n =
          let (a, b, d) = entry_inside in
          rw (
            gap_at book w x has.ticks entry a d,
            spare_at_lem book w x has.ticks entry a d,
            name_is entry a d,
            start_is s c w x has entry a d,
            finish_is s c w x has entry a d,
          ) refl

      module _ {b o : Writer} {n : ℕ} (d : Puts s w b o n k) where
        pub put_room : b.at ≡ 0 → room ≤ length b.out.now → HasRoomFor o (turn n)
        put_room start fit = record {
          fits = omega (
            arith,
            roomy.room,
            ap length whole_is,
            ap length (it d).whole,
            length-append (it d).done (visits book w n (drop k (playing_order w))),
            ap length (next_visit n),
            length-append (visit book w n entry) (visits book w (begun n (predecessor w entry)) (drop (k + 1) (playing_order w))),
            ap length (turn_is n),
            (it d).put.appended.end,
            appended_long (it d).put.appended,
          );
        }

        pub put_more : {p : Writer} {m : ℕ} → Writes o (turn n) p → m ≡ begun n (predecessor w entry) → Puts s w b p m (k + 1)
        put_more {p} {m} f z = record { lent = f.lent ∙ d.lent; each = λ c e. subst (λ x. Put x w b p m (k + 1)) (same_book c e) more }
          where
            more : Put book w b p m (k + 1)
            more = record {
              done = (it d).done ++ visit book w n entry;
              whole =
                  ap (λ x. (it d).done ++ visit book w n entry ++ visits book w x (drop (k + 1) (playing_order w))) z
                  ∙ append_assoc (it d).done (visit book w n entry) (visits book w (begun n (predecessor w entry)) (drop (k + 1) (playing_order w)))
                  ∙ ap (λ x. (it d).done ++ x) (sym (next_visit n))
                  ∙ (it d).whole;
              put = writes_then (it d).put (subst (λ x. Writes o x p) (turn_is n) f);
              few = omega (arith, z, (it d).few, begun_more n (predecessor w entry));
              some = omega (arith, in_way);
            }

  -- after the last entry
  module _ {b o : Writer} {n k : ℕ} (d : Puts s w b o n k) (h : length w ≤ k) where
    last : visits book w n (drop k (playing_order w)) ≡ closing n
    unfolding visits
    last =
        let e : k ≡ length (playing_order w) = omega (arith, long, (it d).some) in
        rw (e, drop-length (playing_order w)) refl

    pub last_room : b.at ≡ 0 → room ≤ length b.out.now → HasRoomFor o (closing n)
    last_room start fit = record {
      fits = omega (
        arith,
        roomy.room,
        ap length whole_is,
        ap length (it d).whole,
        length-append (it d).done (visits book w n (drop k (playing_order w))),
        ap length last,
        (it d).put.appended.end,
        appended_long (it d).put.appended,
      );
    }

    pub put_all : {p : Writer} → Writes o (closing n) p → Writes b (sheets book w) p
    put_all {p} f = subst (λ x. Writes b x p) (ap (λ x. (it d).done ++ x) (sym last) ∙ (it d).whole ∙ whole_is) (writes_then (it d).put f)

    pub written : {p : Writer} → b.at ≡ 0 → Writes o (closing n) p → WritesSheets s w b.out.now p.out.now p.at
    written {p} start f = record { each = λ c e. subst (λ x. Appended b.out.now 0 (sheets x w) p.out.now p.at) (same_book c e) (rw (← start) (put_all f).appended) }

-- the bytes l that a list has at the end are those that its writer held
pub sheets_held : {s w before l now : List ℕ} {r : ℕ} → l ≡ now → WritesSheets s w before now r → WritesSheets s w before l r
sheets_held e d = rw e d
