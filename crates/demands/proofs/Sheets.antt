-- What is asked of the part sheets, from what their entries promise.
use mathlib.Core.Path.{◌≡◌, refl, sym, ap, ◌∙◌}
use mathlib.Core.List.{List}
use mathlib.Core.Logic.{inl}
use mathlib.Core.Option.{some}
use Prim.Native.Nat.{ℕ, zero, suc, ◌≤◌, ◌<◌}
use native.Mathlib.Omega.{arith}
use lib.IntN.{pos}
use lib.Dec.{leb}
use lib.ListN.{length}
use borrow.Author.Tests.{le-leb, lt-leb}
use Rattle.laws.specs.Parts.{plus}
use Rattle.laws.specs.Tests.{ask}
use Rattle.bytes_read.specs.Words.{words, over}
use Rattle.book_form.specs.Book.{Book, parse}
use Rattle.book_form.specs.Questions.{book_refusal}
use Rattle.book_form.specs.Checked.{entries_of}
use Rattle.book_form.specs.LineTold.{line_told}
use Rattle.book_form.specs.WithinLimits.{WithinLimits}
use Rattle.book_form.proofs.LineTold.{untold}
use Rattle.book_form.proofs.WithinLimits.{within_limits}
use Rattle.way_theory.specs.Ways.{LeastCostWay}
use Rattle.way_theory.specs.BookBytes.{ways_in, ways}
use Rattle.way_network.proofs.Made.{held}
use Rattle.way_parts.proofs.Theorems.{stands_once, ticks_summed, parts_in_time}
use Rattle.way_sheets.specs.Sheets.{sheets}
use Rattle.way_sheets.proofs.Sizes.{sheets_size}
use Rattle.call_reply.specs.declared.Reply.{Reply}
use Rattle.call_reply.specs.Replies.{or_else, value_reply}
use Rattle.call_reply.proofs.Refusing.{if_ok_lem}
use Rattle.call_reply.specs.ByteLists.{listed}
use Rattle.call_reply.proofs.Turns.{first_passed, all_passed}
use Rattle.call_way_bytes.proofs.WayItems.{listed_way}
use Rattle.call_sheets.specs.SheetCalls.{sheets_in, sheets_text, room_question, BookSheetsRoom, sheets_question, BookSheets}
use Rattle.demands.specs.Demands.{SheetsMeasured, SheetsRoomDemands, SheetsWritten, SheetsDemands, WriteInRoomDemands}
use Rattle.demands.proofs.Refusals.{value_1}

-- past questions 11 to 16 and 18: the book, and the way that is given
record Given (s g : List ℕ) : Type 0 where
  book : Book
  holds : parse s ≡ some book
  limits : WithinLimits book
  least : LeastCostWay book (words g)
  text : sheets_text s g ≡ sheets book (words g)

given : (s g : List ℕ) → room_question s g ≡ 0 → Given s g
given s g q =
    let (b, _, p, _, k) = held s (first_passed (book_refusal s) _ q) in
    let on = all_passed (book_refusal s) 17 (listed g (ways s)) q in
    record {
      book = b;
      holds = p;
      limits = k.limits;
      least = (listed_way b k.limits g (sym (ap (λ o. listed g (ways_in o)) p) ∙ on)).1;
      text = ap (λ o. sheets_in o (words g)) p;
    }

module _ (s g : List ℕ) (r : Reply) (h : BookSheetsRoom s g r) where
  pub room_demands : SheetsRoomDemands s g r
  room_demands = record {
    demand1 = value_1 (line_told s) (untold s 0 (λ b. refl)) (room_question s g) (room_question s g) (length (sheets_text s g)) (λ _. refl) inl r h tt tt tt refl;
    measured = measured;
    at_most = λ ok b e w way. omega (arith, sheets_size s b e (within_limits s b ok e) w way, ap (λ o. length (entries_of o)) e);
  }
    where
      measured : r.code ≡ 0 → SheetsMeasured s g r
      measured z =
          let q : room_question s g ≡ 0 = sym (ap (λ (x : Reply). x.code) h) ∙ z in
          let d = given s g q in
          record {
            book = d.book;
            holds = d.holds;
            least_cost = d.least;
            value_is = ap (λ (x : Reply). x.value) h ∙ ap pos (if_ok_lem (room_question s g) _ 0 q ∙ ap length d.text);
          }

module _ (s g l : List ℕ) (r : Reply) (l' : List ℕ) (h : BookSheets s g l r l') where
  pub sheets_demands : SheetsDemands s g l r l'
  sheets_demands = record {
    demand1 = value_1 (line_told s) (untold s 0 (λ b. refl)) (sheets_question s g (length l)) _ (length (sheets_text s g)) (λ _. refl) inl r h.reply_is l _ l' h.text_is;
    written = written;
  }
    where
      written : r.code ≡ 0 → SheetsWritten s g l r l'
      written z =
          let q : sheets_question s g (length l) ≡ 0 = sym (ap (λ (x : Reply). x.code) h.reply_is) ∙ z in
          let d = given s g (first_passed (room_question s g) _ q) in
          let way = d.least.way in
          record {
            book = d.book;
            holds = d.holds;
            least_cost = d.least;
            value_is = ap (λ (x : Reply). x.value) h.reply_is ∙ ap pos (if_ok_lem (sheets_question s g (length l)) _ 0 q ∙ ap length d.text);
            text_is = h.text_is ∙ if_ok_lem (sheets_question s g (length l)) _ l q ∙ ap (λ t. over t l) d.text;
            each_once = stands_once d.book d.limits (words g) way;
            ticks = ticks_summed d.book d.limits (words g) way;
            in_time = parts_in_time d.book d.limits (words g) way;
          }

  -- after the room of the same way
  module _ (p : Reply) (told : BookSheetsRoom s g p) where
    abbrev long : ℕ
    long = length (sheets_text s g)

    code_is : p.code ≡ room_question s g
    code_is = ap (λ (x : Reply). x.code) told

    -- the reply of the sheets by the question that they fail
    reply_by : (k : ℕ) → sheets_question s g (length l) ≡ k → r ≡ value_reply k (line_told s k) long
    reply_by k e = h.reply_is ∙ ap (λ i. value_reply i (line_told s i) long) e

    same : sheets_question s g (length l) ≡ room_question s g → r ≡ p
    same e = reply_by (room_question s g) e ∙ sym told

    still : (n k : ℕ) → ¬ (n ≡ 0) → or_else n k ≡ n
    still zero k z = absurd (z refl)
    still (suc n) k z = refl

    module _ (z : p.code ≡ 0) (n : ℕ) (v : p.value ≡ pos n) where
      ok : room_question s g ≡ 0
      ok = sym code_is ∙ z

      value_long : n ≡ long
      value_long = ap plus (sym v ∙ ap (λ (x : Reply). x.value) told ∙ ap pos (if_ok_lem (room_question s g) long 0 ok))

      asked : sheets_question s g (length l) ≡ ask (leb long (length l)) 21 0
      asked = ap (λ k. or_else k (ask (leb long (length l)) 21 0)) ok

      short_21 : length l < n → r.code ≡ 21
      short_21 k = ap (λ (x : Reply). x.code) (reply_by 21 (asked ∙ ap (λ t. ask t 21 0) (lt-leb long (length l) (omega (arith, k, value_long)))))

      fits_same : n ≤ length l → r ≡ p
      fits_same k = same (asked ∙ ap (λ t. ask t 21 0) (le-leb long (length l) (omega (arith, k, value_long))) ∙ sym ok)

    pub in_room : WriteInRoomDemands s g l p r l'
    in_room = record { room = room_demands s g p told; sheets = sheets_demands; refused = λ z. same (still (room_question s g) _ (λ e. z (code_is ∙ e))); too_short = short_21; enough = fits_same }
