-- From the steps of an entry of a book to what it ensures.
use mathlib.Core.Path.{◌≡◌, refl, sym, ap, subst, ◌∙◌}
use mathlib.Core.Bool.{Bool, true, false}
use mathlib.Core.List.{List}
use mathlib.Core.Option.{Option, none, some}
use Prim.Native.Nat.{ℕ, zero, suc}
use lib.IntN.{pos}
use lib.ListN.{length}
use Rattle.std.specs.Prelude.{Result, Ok, Err, MatchResult}
use Rattle.laws.specs.Tests.{ask}
use Rattle.laws.specs.Members.{first?}
use Rattle.laws.specs.Equality.{same_list}
use Rattle.laws.specs.After.{after}
use Rattle.laws.specs.Rules.{first, next}
use Rattle.laws.specs.Seen.{nothing, end, code_of, Shows}
use Rattle.laws.specs.Run.{shown, respond, Answers}
use Rattle.laws.specs.Count.{counted}
use Rattle.bytes_read.specs.Words.{words, encode_words}
use Rattle.book_form.specs.Questions.{book_refusal, question_of, line_of as line_in}
use Rattle.book_form.specs.Checked.{entries_of}
use Rattle.book_form.specs.LineTold.{line_told}
use Rattle.book_form.specs.declared.BookRefusal.{BookRefusal}
use Rattle.book_form.specs.declared.CheckedBook.{CheckedBook}
use Rattle.book_form.proofs.LineTold.{untold}
use Rattle.book_check.specs.BookCheck.{ChecksBook}
use Rattle.book_check.proofs.Accepting.{Accepted}
use Rattle.way_theory.specs.FullWays.{full_ways, first_way, next_way, count_ways}
use Rattle.way_theory.specs.Ways.{way_cost}
use Rattle.way_theory.specs.BookBytes.{ways_in, ways, entry_count, way_cost_or_zero, way_cost_in}
use Rattle.way_enumerate.specs.WayEnumerator.{Enumerates}
use Rattle.way_enumerate.specs.declared.WayEnumerator.{WayEnumerator}
use Rattle.call_reply.specs.declared.Reply.{Reply}
use Rattle.call_reply.specs.Replies.{or_else, sees, HandsItem, count_reply, count_unless, refused_at}
use Rattle.call_reply.specs.ByteLists.{room, listed}
use Rattle.call_reply.proofs.Turns.{no_item_word}
use Rattle.call_reply.proofs.Refusing.{refused_count}
use Rattle.call_reply.proofs.Items.{after_given}
use Rattle.call_way_bytes.specs.Refusals.{number_of, line_of, Refuses}
use Rattle.call_way_bytes.specs.WaySteps.{admit_question, Admitted}
use Rattle.call_way_bytes.specs.declared.WayRefusal.{WayRefusal}
use Rattle.call_way_bytes.specs.declared.WayRefusal.TheVariants.{Book as refused_book, StrangeWay}
use Rattle.call_way_bytes.proofs.Admitting.{refuses}
use Rattle.call_book.specs.BookCalls.{BookCall, book_lent, book_question, count_ways_in}
use Rattle.call_book.specs.BookEntries.{BookCount, Answered}
use Rattle.call_book.specs.BookRules.{book_rules}
use Rattle.call_book.proofs.BookRun.{full}

module _ (s : List ℕ) where
  -- what was handed out shows the way, or the word
  handed : (c : BookCall) (o : Option (List ℕ)) (r : Reply) (l' : List ℕ) → HandsItem (way_cost_in s) o (code_of (no_item_word c)) (book_lent c) r l' → Shows (book_rules s) c (shown o (no_item_word c)) (sees r l')
  handed (first l) none r l' h = rw (h.reply_is, h.list_is) (record { number_is = refl; told_is = refl; cost_is = refl; lists_are = refl })
  handed (next g l) none r l' h = rw (h.reply_is, h.list_is) (record { number_is = refl; told_is = refl; cost_is = refl; lists_are = refl })
  handed (first l) (some w) r l' h = rw h.reply_is (record { number_is = refl; told_is = refl; cost_is = refl; lists_are = h.list_is })
  handed (next g l) (some w) r l' h = rw h.reply_is (record { number_is = refl; told_is = refl; cost_is = refl; lists_are = h.list_is })

  says : (c : BookCall) (r : Reply) (k t : ℕ) → book_question s c ≡ suc k → r ≡ refused_at (suc k) t → t ≡ line_told s (suc k) → Answers (book_rules s) c (sees r (book_lent c))
  says c r k t e q h = rw (e, q) (record { number_is = refl; told_is = h; cost_is = refl; lists_are = refl })

  -- a call whose refusals are made replies
  pub answers : (c : BookCall) (l : List ℕ) (r : Result Reply WayRefusal) → Answered s c l r → (x : Reply)
      → MatchResult r (λ reply. x ≡ reply) (λ refusal. x ≡ refused_at (number_of refusal) (line_of refusal)) → Answers (book_rules s) c (sees x l)
  answers c l (Ok reply) h x e = rw e h
  answers c l (Err refusal) h x e = rw h.1 (go (number_of refusal) refl)
    where
      go : (k : ℕ) → number_of refusal ≡ k → Answers (book_rules s) c (sees x (book_lent c))
      go zero z = absurd (refuses refusal z)
      go (suc k) z = says c x k (line_of refusal) (h.0.0 ∙ z) (e ∙ ap (λ i. refused_at i (line_of refusal)) z) (h.0.1 ∙ ap (line_told s) (h.0.0 ∙ z))

  -- one of questions 11 to 17 fails
  pub admit_fails : (c : BookCall) (refusal : WayRefusal) → Refuses s (admit_question s (length (book_lent c))) refusal → Refuses s (book_question s c) refusal
  admit_fails c refusal h = go (book_refusal s) (room (entry_count s) (length (book_lent c))) refl refl h
    where
      go : (k : ℕ) (t : Bool) → book_refusal s ≡ k → room (entry_count s) (length (book_lent c)) ≡ t → Refuses s (or_else k (ask t 17 0)) refusal → Refuses s (book_question s c) refusal
      go (suc k) t e f g = rw e g
      go zero true e f g = absurd (refuses refusal (sym g.0))
      go zero false e f g = rw (e, f) g

  -- past them
  module _ (l : List ℕ) (c : CheckedBook) (h : Admitted s (length l) c) where
    pub room_way : (w : WayEnumerator) → Enumerates h.book w → room w.entries (length l) ≡ true
    room_way w k = ap (λ n. room n (length l)) (k.entries_are ∙ sym (ap (λ (c : CheckedBook). c.count) h.holds.is)) ∙ h.fits

    fits : room (entry_count s) (length l) ≡ true
    fits = ap (λ n. room n (length l)) (ap (λ o. length (entries_of o)) h.parsed ∙ sym (ap (λ (c : CheckedBook). c.count) h.holds.is)) ∙ h.fits

    of_book : (o : Option (List ℕ)) (k : ℕ) (r : Reply) (l' : List ℕ) → HandsItem (λ w. pos (way_cost h.book w)) o k l r l' → HandsItem (way_cost_in s) o k l r l'
    of_book o k r l' d = subst (λ x. HandsItem (λ w. pos (way_cost_or_zero x w)) o k l r l') (sym h.parsed) d

    pub answers_first : (o : Option (List ℕ)) → o ≡ first_way h.book → (r : Reply) (l' : List ℕ) → HandsItem (λ w. pos (way_cost h.book w)) o 100 l r l' → Answers (book_rules s) (first l) (sees r l')
    answers_first o e r l' d =
        let w : first? (ways s) ≡ o = ap (λ x. first? (ways_in x)) h.parsed ∙ sym e in
        let says : respond (book_rules s) (first l) ≡ shown o nothing = rw (h.ok, fits, w) refl in
        subst (λ a. Shows (book_rules s) (first l) a (sees r l')) (sym says) (handed (first l) o r l' (of_book o 100 r l' d))

    pub fails_given : (g : List ℕ) → listed g (full_ways h.book) ≡ false → Refuses s (book_question s (next g l)) StrangeWay
    fails_given g e =
        let q : book_question s (next g l) ≡ 18 = rw (h.ok, fits, ap (λ x. listed g (ways_in x)) h.parsed ∙ e) refl in
        (q, rw q (sym (untold s 18 (λ b. refl))))

    pub answers_next : (g : List ℕ) (o : Option (List ℕ)) → listed g (full_ways h.book) ≡ true → o ≡ next_way h.book (words g) → (r : Reply) (l' : List ℕ)
        → HandsItem (λ w. pos (way_cost h.book w)) o 101 l r l' → Answers (book_rules s) (next g l) (sees r l')
    answers_next g o e q r l' d =
        let on : listed g (ways s) ≡ true = ap (λ x. listed g (ways_in x)) h.parsed ∙ e in
        let w : after same_list encode_words g (ways s) ≡ o = after_given (entry_count s) (ways s) (full s h.ok) g on ∙ ap (λ x. after same_list (λ v. v) (words g) (ways_in x)) h.parsed ∙ sym q in
        let says : respond (book_rules s) (next g l) ≡ shown o end = rw (h.ok, fits, on, w) refl in
        subst (λ a. Shows (book_rules s) (next g l) a (sees r l')) (sym says) (handed (next g l) o r l' (of_book o 101 r l' d))

  -- counting
  pub counts_refused : (refusal : BookRefusal) → ChecksBook s (Err refusal) → (cap : ℕ) (x : Reply) → x ≡ refused_at (question_of refusal) (line_in refusal) → BookCount s cap x
  counts_refused refusal h cap x q =
      let count = count_ways_in s cap in
      q ∙ refused_count (question_of refusal) (line_in refusal) count (refuses (refused_book refusal)) ∙ ap (λ l. count_unless (question_of refusal) l count) h.line
      ∙ ap (λ k. count_unless k (line_told s (book_refusal s)) count) h.question

  pub counts : (c : CheckedBook) (a : Accepted s c) (cap n : ℕ) → counted cap n ≡ count_ways a.book cap → (r : Reply) → r ≡ count_reply (counted cap n) → BookCount s cap r
  counts c a cap n is r q = rw a.ok (q ∙ ap count_reply (is ∙ ap (λ x. counted cap (length (ways_in x))) (sym a.parsed)))
