-- From the text that is written to what the functions ensure.
use mathlib.Core.Path.{◌≡◌, refl, sym, ap, ◌∙◌}
use mathlib.Core.Bool.{Bool, true, false}
use mathlib.Core.List.{List, [], ◌∷◌}
use mathlib.Core.Option.{Option, none, some}
use Prim.Native.Nat.{ℕ, zero, suc, ◌≤◌, ◌<◌}
use native.Mathlib.Omega.{arith}
use lib.IntN.{pos}
use lib.Dec.{leb}
use lib.ListN.{length, take, drop}
use lib.Seq.{take_at}
use Rattle.std.specs.Prelude.{Some, None, Err}
use Rattle.laws.specs.Members.{first?, none_some}
use Rattle.laws.specs.Tests.{ask}
use Rattle.laws.specs.Appended.{Appended, appended_long}
use Rattle.text_write.specs.Fit.{fit}
use Rattle.text_listing.specs.Lines.{none_line, refused_line}
use Rattle.book_lines.specs.Questions.{moves, entries, all_pass}
use Rattle.book_form.specs.Book.{Book, parse}
use Rattle.book_form.specs.Questions.{header, ask_form, book_refusal, question_of, line_of}
use Rattle.way_theory.specs.Ways.{way_cost}
use Rattle.way_theory.specs.FullWays.{full_ways, first_way}
use Rattle.way_list.specs.Room.{listing_room}
use Rattle.way_list.specs.WayListing.{list_ways, ways_text}
use Rattle.call_reply.specs.declared.Reply.{Reply}
use Rattle.call_reply.specs.Replies.{refused_at, value_alone, value_reply}
use Rattle.call_reply.proofs.Turns.{first_passed}
use Rattle.call_reply.proofs.Refusing.{if_not, refused_value}
use Rattle.book_form.specs.LineTold.{line_told}
use Rattle.book_form.proofs.LineTold.{untold}
use Rattle.book_form.specs.declared.BookRefusal.{BookRefusal}
use Rattle.book_check.specs.BookCheck.{ChecksBook}
use Rattle.call_way_bytes.specs.declared.WayRefusal.TheVariants.{Book as refused_book}
use Rattle.call_way_bytes.proofs.Admitting.{refuses}
use Rattle.call_listing.specs.declared.Written.{Written}
use Rattle.call_listing.specs.Listing.{listing, none_code, listing_code, Printed, BookListing, WritesListing}

-- the number of a question has two digits
ask_few : (b : Bool) (q r : ℕ) → q < 100 → r < 100 → ask b q r < 100
ask_few true q r h k = k
ask_few false q r h k = h

form_few : (o : Option Book) → ask_form o < 100
form_few none = omega arith
form_few (some b) =
    ask_few (all_pass (header b.players b.fee)) 13 _ (omega arith)
    (ask_few (all_pass (moves [] b.moves)) 14 _ (omega arith)
    (ask_few (all_pass (entries b.entries)) 15 _ (omega arith) (ask_few (leb (length b.entries) 28) 16 0 (omega arith) (omega arith))))

pub refusal_few : (s : List ℕ) → book_refusal s < 100
refusal_few s = ask_few (leb (length s) 16384) 11 _ (omega arith) (form_few (parse s))

no_text : (cost : List ℕ → ℕ) (l : List (List ℕ)) → first? l ≡ none → (none_code l ≡ 100) × (list_ways cost l ≡ none_line)
no_text cost [] e = (refl, refl)
no_text cost (v ∷ l) e = absurd (none_some v (sym e))

some_code : (l : List (List ℕ)) (w : List ℕ) → first? l ≡ some w → none_code l ≡ 0
some_code [] w e = absurd (none_some w e)
some_code (v ∷ l) w e = refl

-- an accepted book tells no line
accepted_untold : (s : List ℕ) → book_refusal s ≡ 0 → 0 ≡ line_told s (book_refusal s)
accepted_untold s ok = rw ok (sym (untold s 0 (λ b. refl)))

-- what is written
module _ (s before after : List ℕ) (n : ℕ) where
  pub writes_refused : (e : BookRefusal) → ChecksBook s (Err e) → (x : Reply) → x ≡ refused_at (question_of e) (line_of e) → Appended before 0 (refused_line (question_of e)) after n
      → WritesListing s before (record { len = n; refused = Some x }) after
  writes_refused e h x r a = go (question_of e) refl
    where
      go : (k : ℕ) → question_of e ≡ k → WritesListing s before (record { len = n; refused = Some x }) after
      go zero z = absurd (refuses (refused_book e) z)
      go (suc k) z =
          let q : book_refusal s ≡ suc k = sym h.question ∙ z in
          let code : listing_code s ≡ suc k = rw q refl in
          record {
            text = rw q (rw z at a);
            refused_is = (λ o. omega (arith, code, o), r ∙ ap (λ i. refused_at i (line_of e)) (z ∙ sym code) ∙ ap (refused_at (listing_code s)) h.line);
          }

  module _ (ok : book_refusal s ≡ 0) (b : Book) (is : parse s ≡ some b) where
    pub writes_none : first_way b ≡ none → (x : Reply) → x ≡ refused_at 100 0 → Appended before 0 none_line after n → WritesListing s before (record { len = n; refused = Some x }) after
    writes_none e x r a =
        let (k, t) = no_text (way_cost b) (full_ways b) e in
        let code : listing_code s ≡ 100 = rw (ok, is, k) refl in
        record {
          text = rw (ok, is, t) a;
          refused_is = (λ o. omega (arith, code, o), r ∙ ap (λ i. refused_at i 0) (sym code) ∙ ap (refused_at (listing_code s)) (accepted_untold s ok));
        }

    pub writes_ways : (w : List ℕ) → first_way b ≡ some w → Appended before 0 (ways_text b) after n → WritesListing s before (record { len = n; refused = None }) after
    writes_ways w e a = record { text = rw (ok, is) a; refused_is = rw (ok, is, some_code (full_ways b) w e) refl }

-- what is handed over of it
module _ (s room room' : List ℕ) (large : listing_room ≡ length room) (w : Written) (h : WritesListing s room w room') where
  pub in_room : w.len ≤ length room'
  in_room = omega (arith, appended_long h.text, h.text.within)

  long : w.len ≡ length (listing s)
  long = h.text.end ∙ omega arith

  pub few : w.len ≤ listing_room
  few = omega (arith, h.text.within)

  taken : take w.len room' ≡ listing s
  taken = ap (take w.len) h.text.is ∙ take_at (listing s) (drop w.len room) w.len (sym long)

  module _ (before : List ℕ) where
    pub prints : (after : List ℕ) → after ≡ fit (take w.len room') before → Printed s before after w.len
    prints after e = record { long = long; few = few; text = e ∙ ap (λ v. fit v before) taken }

    pub lists_nothing : (r : Reply) → w.refused ≡ Some r → BookListing s before r before
    lists_nothing r f =
        let (k, q) = rw f at h.refused_is in
        record {
          reply_is = q ∙ refused_value (listing_code s) _ (length (listing s)) k;
          text_is = sym (if_not (listing_code s) _ before k);
          few = omega (arith, few, long);
        }

    pub lists : (after : List ℕ) → w.refused ≡ None → after ≡ fit (take w.len room') before → BookListing s before (value_alone (pos w.len)) after
    lists after f e =
        let o : listing_code s ≡ 0 = rw f at h.refused_is in
        record {
          reply_is = rw (o, ← accepted_untold s (first_passed (book_refusal s) _ o)) (ap (value_reply 0 0) long);
          text_is = rw o (e ∙ ap (λ v. fit v before) taken);
          few = omega (arith, few, long);
        }
