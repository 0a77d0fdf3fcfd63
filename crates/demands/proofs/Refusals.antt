-- Demand 1, from what the entries promise.
use mathlib.Core.Path.{◌≡◌, refl, ap, ◌∙◌}
use mathlib.Core.Logic.{◌⊎◌, inl, inr}
use mathlib.Core.Option.{Option, none, some}
use Prim.Native.Nat.{ℕ, zero, suc, ◌≤◌}
use native.Mathlib.Omega.{arith}
use lib.IntN.{ℤ, pos}
use Rattle.laws.specs.Members.{first?}
use Rattle.laws.specs.After.{after}
use Rattle.laws.specs.Rules.{Call, first, next, Rules}
use Rattle.laws.specs.Seen.{refused, nothing, end, item, Seen, Shows}
use Rattle.laws.specs.Run.{shown, respond_unless, Answers}
use Rattle.laws.specs.Count.{Count, exactly, more}
use Rattle.call_reply.specs.declared.Reply.{Reply}
use Rattle.call_reply.specs.Replies.{if_ok, sees, code_alone, reply_unless, count_unless, value_reply}
use Rattle.call_reply.proofs.Refusing.{if_not}
use Rattle.demands.specs.Demands.{Demand1}

-- a call of a run
module _ {Item F G N Lists : Type 0} (R : Rules Item F G N Lists) where
  module _ (c : Call F G N) (s : Seen Lists) where
    -- a word, and nothing written
    says_word : 100 ≤ s.number → s.told ≡ 0 → s.cost ≡ pos 0 → s.lists ≡ R.lent c → Demand1 R.line_told 0 (R.lent c) s
    says_word n t k l = record { number_told = λ z. absurd (z refl); nothing_else = λ _. (inr n, t); changes_nothing = λ _. (k, l) }

    shows_item : (v : Item) → Shows R c (item v) s → Demand1 R.line_told 0 (R.lent c) s
    shows_item v h = record {
      number_told = λ z. absurd (z refl);
      nothing_else = λ _. (inl h.number_is, h.told_is);
      changes_nothing = λ z. absurd (z h.number_is);
    }

    refuses : (k : ℕ) → Shows R c (refused (suc k)) s → Demand1 R.line_told (suc k) (R.lent c) s
    refuses k h = record {
      number_told = λ _. (h.number_is, h.told_is);
      nothing_else = λ z. absurd (omega arith);
      changes_nothing = λ _. (h.cost_is, h.lists_are);
    }

    after_first : (o : Option Item) → Shows R c (shown o nothing) s → Demand1 R.line_told 0 (R.lent c) s
    after_first none h = says_word (omega (arith, h.number_is)) h.told_is h.cost_is h.lists_are
    after_first (some v) h = shows_item v h

    after_next : (o : Option Item) → Shows R c (shown o end) s → Demand1 R.line_told 0 (R.lent c) s
    after_next none h = says_word (omega (arith, h.number_is)) h.told_is h.cost_is h.lists_are
    after_next (some v) h = shows_item v h

  answered : (c : Call F G N) (s : Seen Lists) (n : ℕ) → Shows R c (respond_unless R n c) s → Demand1 R.line_told n (R.lent c) s
  answered c s (suc k) h = refuses c s k h
  answered (first l) s zero h = after_first (first l) s (first? R.full_list) h
  answered (next g b) s zero h = after_next (next g b) s (after R.same R.copy g R.full_list) h

  pub demand_1 : (c : Call F G N) (s : Seen Lists) → Answers R c s → Demand1 R.line_told (R.question c) (R.lent c) s
  demand_1 c s h = answered c s (R.question c) h

-- a reply x, unless question n fails
module _ {Lists : Type 0} (line_told : ℕ → ℕ) (l l' : Lists) where
  pub says_value : (z : ℤ) → Demand1 line_told 0 l (sees (record { code = 0; line = 0; value = z }) l')
  says_value z = record { number_told = λ z. absurd (z refl); nothing_else = λ _. (inl refl, refl); changes_nothing = λ z. absurd (z refl) }

  pub reply_1 : (n : ℕ) (x r : Reply) → Demand1 line_told 0 l (sees x l') → (¬ (n ≡ 0) → l' ≡ l) → r ≡ reply_unless n (line_told n) x → Demand1 line_told n l (sees r l')
  reply_1 zero x r d same e = rw e d
  reply_1 (suc n) x r d same e =
      rw e (record { number_told = λ _. (refl, refl); nothing_else = λ z. absurd (omega arith); changes_nothing = λ _. (refl, same (λ z. omega arith)) })

-- a call that is lent no list
module _ (line_told : ℕ → ℕ) where
  abbrev pub Demand1Of : ℕ → Reply → Type 0
  Demand1Of n r = Demand1 {Lists = Unit {0}} line_told n tt (sees r tt)

  pub says_code : (k : ℕ) → 100 ≤ k → Demand1Of 0 (code_alone k)
  says_code k h = record { number_told = λ z. absurd (z refl); nothing_else = λ _. (inr h, refl); changes_nothing = λ _. (refl, refl) }

  pub count_1 : (r : Reply) (n : ℕ) (k : Count) → r ≡ count_unless n (line_told n) k → Demand1Of n r
  count_1 r n (exactly m) e = reply_1 line_told tt tt n _ r (says_value line_told tt tt (pos m)) (λ _. refl) e
  count_1 r n more e = reply_1 line_told tt tt n _ r (says_code 102 (omega arith)) (λ _. refl) e

-- a reply of one value, with the code k: the number n of the question failed, or else 0 or a word
module _ {Lists : Type 0} (line_told : ℕ → ℕ) (none_told : line_told 0 ≡ 0) (n k v : ℕ) (same : ¬ (n ≡ 0) → k ≡ n) (word : n ≡ 0 → (k ≡ 0) ⊎ (100 ≤ k)) where
  pub value_1 : (r : Reply) → r ≡ value_reply k (line_told n) v → (l x l' : Lists) → l' ≡ if_ok k x l → Demand1 line_told n l (sees r l')
  value_1 r e l x l' q =
      rw (e, q)
      (record {
        number_told = λ z. (same z, refl);
        nothing_else = λ z. (word z, ap line_told z ∙ none_told);
        changes_nothing = λ z. (ap pos (if_not k v 0 z), if_not k x l z);
      })
