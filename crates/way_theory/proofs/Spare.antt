-- The spare of a join: it is 0 or more exactly where document 01 has "F of i + T ≤ S of j", and then it is a number of ticks, none of them
-- before F of i or after S of j.
use mathlib.Core.Path.{◌≡◌, refl}
use mathlib.Core.Bool.{Bool, true, false, cond}
use mathlib.Core.Option.{Option, none, some}
use mathlib.Core.Logic.{◌⊎◌, inl, inr}
use Prim.Native.Nat.{ℕ, ◌+◌, ◌-◌, ◌≤◌}
use native.Mathlib.Omega.{arith}
use lib.Dec.{leb}
use lib.IntN.{ℤ, pos, negsuc, neg_ℤ, ◌-ℤ◌}
use lib.Signed.{le_z}
use borrow.Author.Tests.{leb-true, leb-false}
use Rattle.laws.specs.Parts.{plus, minus, neg_plus, neg_minus, add_parts, le→ℕ, lt→ℕ}
use Rattle.laws.specs.Integers.{apart, le_z_true, le_z_false}
use Rattle.laws.specs.Image.{map_option}
use Rattle.book_lines.specs.declared.moves.Move.{Move}
use Rattle.book_form.specs.Book.{Book}
use Rattle.way_theory.specs.Follow.{entry_at, road, spare_with, spare_by, spare, enough, may_follow, ticks_in, spare_ticks, follow_cost}
use Rattle.way_theory.specs.Ways.{given?}
use Rattle.way_theory.proofs.ByRule.{Rule, SameWays, same_ways}

-- what a move costs, if there is time to go; `follow_cost` is that of the road from i to j
abbrev pub cost_in_time : Option Move → ℕ → ℕ → Option ℕ
cost_in_time o finish start = cond (enough (spare_by o finish start)) (map_option (λ (m : Move). m.cost) o) none

-- the spare by its parts
spare_parts : (t f s : ℕ) → plus (spare_with t f s) + (f + t) ≡ s + minus (spare_with t f s)
spare_parts t f s =
    omega (
      arith,
      add_parts (pos s -ℤ pos f) (neg_ℤ (pos t)),
      add_parts (pos s) (neg_ℤ (pos f)),
      neg_plus (pos f),
      neg_minus (pos f),
      neg_plus (pos t),
      neg_minus (pos t),
    )

pub enough_is : (m : Move) (f s : ℕ) → enough (spare_by (some m) f s) ≡ leb (f + m.ticks) s
enough_is m f s = go (le_z (pos 0) (spare_with m.ticks f s)) (leb (f + m.ticks) s) refl refl
  where
    z : ℤ
    z = spare_with m.ticks f s

    go : (x y : Bool) → le_z (pos 0) (spare_with m.ticks f s) ≡ x → leb (f + m.ticks) s ≡ y → x ≡ y
    go true true p q = refl
    go false false p q = refl
    go true false p q = absurd (omega (arith, le→ℕ (le_z_true (pos 0) z p), leb-false (f + m.ticks) s q, spare_parts m.ticks f s))
    go false true p q = absurd (omega (arith, lt→ℕ (le_z_false (pos 0) z p), leb-true (f + m.ticks) s q, spare_parts m.ticks f s))

-- a spare of 0 or more is its ticks
enough_ticks : (o : Option ℤ) → enough o ≡ true → o ≡ some (pos (ticks_in o))
enough_ticks none e = absurd (let z : ◌≡◌ {A = ℕ} 0 1 = cc in omega arith)
enough_ticks (some (pos n)) e = refl
enough_ticks (some (negsuc n)) e = absurd (let z : ◌≡◌ {A = ℕ} 0 1 = cc in omega arith)

in_time : (o : Option Move) (f s : ℕ) → enough (spare_by o f s) ≡ true → f ≤ s
in_time none f s e = absurd (let z : ◌≡◌ {A = ℕ} 0 1 = cc in omega arith)
in_time (some m) f s e = omega (arith, le→ℕ (le_z_true (pos 0) (spare_with m.ticks f s) e), spare_parts m.ticks f s)

ticks_small : (o : Option Move) (f s : ℕ) → ticks_in (spare_by o f s) ≤ s - f
ticks_small none f s = omega arith
ticks_small (some m) f s = go (apart (spare_with m.ticks f s))
  where
    go : (plus (spare_with m.ticks f s) ≡ 0) ⊎ (minus (spare_with m.ticks f s) ≡ 0) → plus (spare_with m.ticks f s) ≤ s - f
    go (inl e) = omega arith
    go (inr e) = omega (arith, spare_parts m.ticks f s)

given_enough : (o : Option Move) (f s : ℕ) → given? (cost_in_time o f s) ≡ enough (spare_by o f s)
given_enough none f s = refl
given_enough (some m) f s = go (enough (spare_by (some m) f s))
  where
    go : (t : Bool) → given? (cond t (some m.cost) none) ≡ t
    go true = refl
    go false = refl

module _ (book : Book) (i j : ℕ) where
  -- a join has a cost exactly if j may follow i
  pub follow_given : given? (follow_cost book i j) ≡ may_follow book i j
  follow_given = given_enough (road book i j) (entry_at book i).finish (entry_at book j).start

  -- who follows does not start earlier than the other ends
  pub follow_time : may_follow book i j ≡ true → (entry_at book i).finish ≤ (entry_at book j).start
  follow_time = in_time (road book i j) (entry_at book i).finish (entry_at book j).start

  pub follow_ticks : may_follow book i j ≡ true → spare book i j ≡ some (pos (spare_ticks book i j))
  follow_ticks = enough_ticks (spare book i j)

  -- the ticks to spare are some of those from F of i to S of j
  pub spare_ticks_small : spare_ticks book i j ≤ (entry_at book j).start - (entry_at book i).finish
  spare_ticks_small = ticks_small (road book i j) (entry_at book i).finish (entry_at book j).start

-- The test as it stood before request 7: "F of i + T ≤ S of j", and the cost.
abbrev pub old_cost_in_time : Option Move → ℕ → ℕ → Option ℕ
old_cost_in_time none finish start = none
old_cost_in_time (some m) finish start = cond (leb (finish + m.ticks) start) (some m.cost) none

pub cost_as_before : (o : Option Move) (f s : ℕ) → cost_in_time o f s ≡ old_cost_in_time o f s
cost_as_before none f s = refl
cost_as_before (some m) f s = rw (enough_is m f s) refl

abbrev pub rule_of_time : Book → Rule
rule_of_time book i j = old_cost_in_time (road book i j) (entry_at book i).finish (entry_at book j).start

-- every book lists what it listed, at the cost that it had
pub spare_as_before : (book : Book) → SameWays (rule_of_time book) book
spare_as_before book = same_ways (rule_of_time book) book (λ i j. cost_as_before (road book i j) (entry_at book i).finish (entry_at book j).start)
