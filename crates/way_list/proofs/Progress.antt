-- How far a listing is: the ways before are written, and the enumerator stands on the first of those that are left.
use mathlib.Core.Path.{◌≡◌, refl, sym, ap, subst, ◌∙◌}
use mathlib.Core.List.{List, [], ◌∷◌, ◌++◌, append_assoc, append-nil}
use mathlib.Core.Option.{Option, none, some}
use Prim.Native.Nat.{ℕ, ◌+◌, ◌≤◌, ◌<◌}
use native.Mathlib.Omega.{arith}
use lib.ListN.{length, take, length-append}
use lib.Seq.{take_at, take_all}
use borrow.Author.Tests.{le-leb, lt-leb}
use Rattle.laws.specs.After.{Apart, after_in, one_on}
use Rattle.laws.specs.Ascending.{ascending_apart}
use Rattle.laws.specs.Count.{counted}
use Rattle.laws.specs.Equality.{same_list}
use Rattle.laws.specs.Lexicographic.{◌<lex◌, lex_irrefl, lex_trans}
use Rattle.laws.specs.Members.{first?, none_some}
use Rattle.text_write.specs.declared.Writer.{Writer}
use Rattle.text_write.specs.Writing.{HasRoomFor, Writes}
use Rattle.text_write.proofs.Writing.{writes_none, writes_then}
use Rattle.text_listing.specs.Lines.{end_line, more_line}
use Rattle.book_form.specs.Book.{Book}
use Rattle.way_theory.specs.FullWays.{full_ways, first_way, next_way}
use Rattle.way_theory.proofs.FullWays.{full_ways_ascending}
use Rattle.way_list.specs.WayListing.{line_of_way, lines_by, last_line}

pub record ListedSoFar (b : Book) (before : Writer) (o : Option (List ℕ)) (now : Writer) (n : ℕ) : Type 0 where
  pub done : List (List ℕ)
  pub left : List (List ℕ)
  pub whole : done ++ left ≡ full_ways b
  pub count : length done ≡ n
  pub stands : o ≡ first? left
  pub written : Writes before (lines_by line_of_way done) now

-- what is to be written
abbrev pub all_lines : Book → List ℕ
all_lines b = lines_by line_of_way (take 1000 (full_ways b)) ++ last_line (counted 1000 (length (full_ways b)))

lines_more : (l : List (List ℕ)) (w : List ℕ) → lines_by line_of_way (l ++ (w ∷ [])) ≡ lines_by line_of_way l ++ line_of_way w
lines_more [] w = append-nil (line_of_way w)
lines_more (v ∷ l) w = ap (λ r. line_of_way v ++ r) (lines_more l w) ∙ sym (append_assoc (line_of_way v) (lines_by line_of_way l) (line_of_way w))

apart : (b : Book) → Apart (λ (w : List ℕ). w) (full_ways b)
apart b = ascending_apart ◌<lex◌ lex_irrefl lex_trans (full_ways b) (full_ways_ascending b)

pub starts : (b : Book) (before : Writer) (o : Option (List ℕ)) → o ≡ first_way b → HasRoomFor before [] → ListedSoFar b before o before 0
starts b before o e h = record { done = []; left = full_ways b; whole = refl; count = refl; stands = e; written = writes_none h }

module _ (b : Book) (before now : Writer) (n : ℕ) where
  pub goes_on : (w : List ℕ) → ListedSoFar b before (some w) now n → {after : Writer} → Writes now (line_of_way w) after → ListedSoFar b before (next_way b w) after (n + 1)
  goes_on w p {after} a = go p.left p.whole p.stands
    where
      go : (l : List (List ℕ)) → p.done ++ l ≡ full_ways b → some w ≡ first? l → ListedSoFar b before (next_way b w) after (n + 1)
      go [] e s = absurd (none_some w (sym s))
      go (v ∷ l) e s =
          let q : w ≡ v = cc in
          let e' : p.done ++ (w ∷ l) ≡ full_ways b = rw q e in
          record {
            done = p.done ++ (w ∷ []);
            left = l;
            whole = one_on (full_ways b) p.done l w e';
            count = omega (arith, length-append p.done (w ∷ []), p.count);
            stands = after_in same_list (λ x. x) (full_ways b) (apart b) p.done l w e';
            written = subst (λ (t : List ℕ). Writes before t after) (sym (lines_more p.done w)) (writes_then p.written a);
          }

  -- a way is left after 1,000
  pub ends_more : (w : List ℕ) → n ≡ 1000 → ListedSoFar b before (some w) now n → {after : Writer} → Writes now more_line after → Writes before (all_lines b) after
  ends_more w h p {after} a = go p.left p.whole p.stands
    where
      go : (l : List (List ℕ)) → p.done ++ l ≡ full_ways b → some w ≡ first? l → Writes before (all_lines b) after
      go [] e s = absurd (none_some w (sym s))
      go (v ∷ l) e s = subst (λ (t : List ℕ). Writes before t after) same (writes_then p.written a)
        where
          long : 1000 < length (full_ways b)
          long = omega (arith, ap length (sym e), length-append p.done (v ∷ l), p.count, h)

          same : lines_by line_of_way p.done ++ more_line ≡ all_lines b
          same = rw (lt-leb (length (full_ways b)) 1000 long, sym e, take_at p.done (v ∷ l) 1000 (p.count ∙ h)) refl

  -- no way is left
  pub ends_whole : n ≤ 1000 → ListedSoFar b before none now n → {after : Writer} → Writes now (end_line n) after → Writes before (all_lines b) after
  ends_whole h p {after} a = go p.left p.whole p.stands
    where
      go : (l : List (List ℕ)) → p.done ++ l ≡ full_ways b → none ≡ first? l → Writes before (all_lines b) after
      go (v ∷ l) e s = absurd (none_some v s)
      go [] e s = subst (λ (t : List ℕ). Writes before t after) same (writes_then p.written a)
        where
          all : p.done ≡ full_ways b
          all = sym (append-nil p.done) ∙ e

          long : length (full_ways b) ≡ n
          long = ap length (sym all) ∙ p.count

          same : lines_by line_of_way p.done ++ end_line n ≡ all_lines b
          same = rw (le-leb (length (full_ways b)) 1000 (omega (arith, long)), long, all, take_all 1000 (full_ways b) (omega (arith, long))) refl
