-- The questions of a call, in turn: those of the book or network (`asked`, the number of the first that fails, or 0), of the lent lists (`fits`), of the
-- given list. What the theorems about runs ask of them.
use mathlib.Core.Path.{◌≡◌, refl}
use mathlib.Core.Bool.{Bool, true, false}
use mathlib.Core.List.{List}
use mathlib.Core.Option.{some}
use Prim.Native.Nat.{ℕ, zero, suc}
use native.Mathlib.Omega.{arith}
use lib.ListN.{get_elem?}
use Rattle.laws.specs.Tests.{ask}
use Rattle.bytes_read.specs.Words.{encode_words}
use Rattle.laws.specs.Rules.{Call, first, next}
use Rattle.laws.specs.Seen.{Reading, nothing, end}
use Rattle.call_reply.specs.Replies.{or_else}
use Rattle.call_reply.specs.ByteLists.{listed}
use Rattle.call_reply.proofs.Items.{not_listed}

pub first_passed : (n k : ℕ) → or_else n k ≡ 0 → n ≡ 0
first_passed zero k e = refl
first_passed (suc n) k e = absurd (omega arith)

one_fails : (n : ℕ) (b : Bool) (q r : ℕ) → ¬ (or_else n (ask b (suc q) (suc r)) ≡ 0)
one_fails zero true q r e = omega arith
one_fails zero false q r e = omega arith
one_fails (suc n) b q r e = omega arith

pub all_passed : (n q : ℕ) (b : Bool) → or_else n (ask b (suc q) 0) ≡ 0 → b ≡ true
all_passed zero q true e = refl
all_passed zero q false e = absurd (omega arith)
all_passed (suc n) q b e = absurd (omega arith)

pub fails_first : (n k r : ℕ) → r ≡ n → ¬ (r ≡ 0) → r ≡ or_else n k
fails_first zero k r e h = absurd (h e)
fails_first (suc n) k r e h = e

-- the word where there is no item
abbrev pub no_item_word : {F G N : Type 0} → Call F G N → Reading (List ℕ)
no_item_word (first l) = nothing
no_item_word (next g l) = end

-- bytes that are no item are refused
pub strange_refused : (asked : ℕ) (fits : Bool) (q r : ℕ) (L : List (List ℕ)) (g : List ℕ) → ((i : ℕ) (v : List ℕ) → get_elem? L i ≡ some v → ¬ (encode_words v ≡ g))
    → ¬ (or_else asked (ask fits (suc q) (ask (listed g L) (suc r) 0)) ≡ 0)
strange_refused asked fits q r L g h = rw (not_listed g L h) (one_fails asked fits q r)
