-- From a way that is admitted to what the calls ensure.
use mathlib.Core.Path.{◌≡◌, refl, sym, ap, ◌∙◌}
use mathlib.Core.Bool.{Bool, true, false}
use mathlib.Core.List.{List}
use Prim.Native.Nat.{ℕ, ◌≤◌}
use native.Mathlib.Omega.{arith}
use lib.IntN.{pos}
use lib.ListN.{length, take}
use lib.Dec.{leb}
use borrow.Author.Tests.{leb-true}
use Rattle.laws.specs.Tests.{ask}
use Rattle.laws.specs.Padded.{padded}
use Rattle.bytes_read.specs.Words.{words, over}
use Rattle.std.specs.Prelude.{Ok}
use Rattle.book_form.specs.declared.CheckedBook.{CheckedBook}
use Rattle.book_check.specs.BookCheck.{ChecksBook}
use Rattle.way_gaps.specs.declared.JoinTicks.{JoinTicks}
use Rattle.way_gaps.specs.Gaps.{TellsTicks}
use Rattle.book_form.proofs.LineTold.{untold}
use Rattle.way_sheets.specs.Sheets.{sheets}
use Rattle.way_sheets.specs.Writing.{HasSheets, HasRoom, WritesSheets}
use Rattle.way_sheets.proofs.Sizes.{sheets_size}
use Rattle.way_sheet_sizes.specs.Sizing.{HasSize, IsSizeOf, FitsIn}
use Rattle.call_reply.specs.Replies.{or_else, value_alone, value_reply}
use Rattle.call_way_bytes.specs.Refusals.{Refuses}
use Rattle.call_way_bytes.specs.declared.WayRefusal.TheVariants.{Text}
use Rattle.call_sheets.specs.SheetCalls.{sheets_text, room_question, BookSheetsRoom, sheets_question, BookSheets}
use Rattle.call_sheets.proofs.AdmittedWay.{way_read, has_sheets}

module _ (s g : List ℕ) (c : CheckedBook) (h : ChecksBook s (Ok c)) where
  -- past questions 11 to 16 and 18: v is what was read of the way, x its gaps and spares
  module _ (ok : room_question s g ≡ 0) (v : List ℕ) (read : v ≡ padded 512 0 (take 512 (words g))) (x : List JoinTicks) (told : TellsTicks c (take c.count v) x) where
    abbrev w : List ℕ
    w = take c.count v

    has : HasSheets s c w x
    has = has_sheets s g c h ok v read x told

    pub has_size_lem : HasSize c w x
    has_size_lem = record { text = s; has = has }

    same_text : sheets has.book w ≡ sheets_text s g
    same_text = ap (sheets has.book) (way_read s g c h ok v read) ∙ sym (rw has.holds refl)

    few : length (sheets_text s g) ≤ 2212
    few = omega (arith, ap length same_text, sheets_size s has.book has.holds has.limits w has.way, has.limits.few)

    module _ (n : ℕ) (is : IsSizeOf c w x n) where
      long : n ≡ length (sheets_text s g)
      long = is.each s has ∙ ap length same_text

      pub size_few : n ≤ 2212
      size_few = omega (arith, long, few)

      pub room_told : BookSheetsRoom s g (value_alone (pos n))
      room_told = rw (ok, untold s 0 (λ b. refl)) (ap (value_reply 0 0) long)

    module _ (l : List ℕ) (fit : Bool) (is : FitsIn c w x (length l) fit) where
      -- 21 is left to be put
      past_18 : sheets_question s g (length l) ≡ ask fit 21 0
      past_18 =
          ap (λ k. or_else k (ask (leb (length (sheets_text s g)) (length l)) 21 0)) ok
          ∙ ap (λ t. ask (leb (length t) (length l)) 21 0) (sym same_text)
          ∙ ap (λ t. ask t 21 0) (sym (is.each s has))

      pub too_short : fit ≡ false → Refuses s (sheets_question s g (length l)) Text
      too_short off =
          let e : sheets_question s g (length l) ≡ 21 = past_18 ∙ ap (λ t. ask t 21 0) off in
          (e, sym (untold s 21 (λ b. refl)) ∙ rw e refl)

      module _ (on : fit ≡ true) where
        pub has_room : HasRoom s c w x (length l)
        has_room = record { has = has; room = leb-true _ _ (sym (is.each s has) ∙ on) }

        module _ (l' : List ℕ) (m : ℕ) (wrote : WritesSheets s w l l' m) where
          end : m ≡ length (sheets has.book w)
          end = (wrote.each has.book has.holds).end ∙ omega arith

          pub written_few : m ≤ 2212
          written_few = omega (arith, end, ap length same_text, few)

          pub written : BookSheets s g l (value_alone (pos m)) l'
          written =
              let passed : sheets_question s g (length l) ≡ 0 = past_18 ∙ ap (λ t. ask t 21 0) on in
              record {
                reply_is = rw (passed, untold s 0 (λ b. refl)) (ap (value_reply 0 0) (end ∙ ap length same_text));
                text_is = rw passed ((wrote.each has.book has.holds).is ∙ rw end (ap (λ t. over t l) same_text));
              }
