-- What is asked of the spare of a join, from what its entry promises.
use mathlib.Core.Path.{◌≡◌, refl, ap, ◌∙◌}
use mathlib.Core.Bool.{true}
use mathlib.Core.List.{List}
use mathlib.Core.Logic.{◌↔◌}
use mathlib.Core.Option.{Option, none, some}
use Prim.Native.Nat.{ℕ}
use native.Mathlib.Omega.{arith}
use lib.IntN.{ℤ, pos}
use lib.Signed.{◌≤ℤ◌}
use borrow.Author.Tests.{eq-eqb}
use Rattle.laws.specs.Integers.{le_z_true, true_le_z}
use Rattle.laws.specs.Optional.{optional}
use Rattle.book_lines.specs.declared.moves.Move.{Move}
use Rattle.book_form.specs.Book.{Book, parse}
use Rattle.book_form.specs.Questions.{book_refusal}
use Rattle.book_form.specs.LineTold.{line_told}
use Rattle.way_theory.specs.Follow.{entry_at, road, spare_by, spare, enough, may_follow}
use Rattle.way_network.proofs.Made.{held}
use Rattle.call_reply.specs.declared.Reply.{Reply}
use Rattle.call_reply.specs.Replies.{reply_unless}
use Rattle.call_reply.proofs.Turns.{first_passed}
use Rattle.call_spare.specs.SpareCall.{spare_question, spare_reply, spare_at, BookSpare}
use Rattle.demands.specs.Demands.{SpareDemands}
use Rattle.demands.proofs.Refusals.{Demand1Of, says_value, says_code, reply_1}

-- a spare of 0 or more, and none else, is told with the code 0 and a value of 0 or more
told_enough : (o : Option ℤ) → (enough o ≡ true) ↔ (((spare_reply (optional o)).code ≡ 0) × (pos 0 ≤ℤ (spare_reply (optional o)).value))
told_enough none = (λ e. absurd (let z : ◌≡◌ {A = ℕ} 0 1 = cc in omega arith), λ h. absurd (omega (arith, h.0)))
told_enough (some z) = (λ e. (refl, le_z_true (pos 0) z e), λ h. true_le_z (pos 0) z h.1)

module _ (s : List ℕ) (i j : ℕ) (r : Reply) (h : BookSpare s i j r) where
  says : (o : Option ℤ) → Demand1Of (line_told s) 0 (spare_reply (optional o))
  says none = says_code (line_told s) 103 (omega arith)
  says (some z) = says_value (line_told s) tt tt z

  -- past the questions
  module _ (q : spare_question s i j ≡ 0) where
    answer : (b : Book) → parse s ≡ some b → r ≡ spare_reply (optional (spare b i j))
    answer b e =
        h
        ∙ ap (λ k. reply_unless k (line_told s k) (spare_reply (optional (spare_at (parse s) i j)))) q
        ∙ ap (λ o. spare_reply (optional (spare_at o i j))) e

    by_road : (b : Book) → parse s ≡ some b → (o : Option Move) → road b i j ≡ o → r ≡ spare_reply (optional (spare_by o (entry_at b i).finish (entry_at b j).start))
    by_road b e o g = answer b e ∙ ap (λ o. spare_reply (optional (spare_by o (entry_at b i).finish (entry_at b j).start))) g

    follows : (b : Book) → parse s ≡ some b → (may_follow b i j ≡ true) ↔ ((r.code ≡ 0) × (pos 0 ≤ℤ r.value))
    follows b e = rw (answer b e) (told_enough (spare b i j))

    itself : i ≡ j → r.code ≡ 103
    itself same =
        let (b, _, p, _, _) = held s (first_passed (book_refusal s) _ q) in
        ap (λ (x : Reply). x.code) (by_road b p none (rw (eq-eqb i j same) refl))

  pub spare_demands : SpareDemands s i j r
  spare_demands = record {
    demand1 = reply_1 (line_told s) tt tt (spare_question s i j) _ r (says (spare_at (parse s) i j)) (λ _. refl) h;
    told = λ q b e m g. (let a = by_road q b e (some m) g in (ap (λ (x : Reply). x.code) a, ap (λ (x : Reply). x.value) a));
    no_move = λ q b e g. ap (λ (x : Reply). x.code) (by_road q b e none g);
    itself = itself;
    follows = follows;
  }
