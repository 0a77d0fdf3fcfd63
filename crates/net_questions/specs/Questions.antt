-- Document 01, "Questions", 1 to 6: put to the bytes of a network, "each question ... of the whole input before the next".
use Rattle.std.specs.Prelude.{Bool, ◌&&◌, List, ℕ, ◌-◌, ◌/◌, ◌%◌, eqb, leb, length, ℤ, pos, negsuc}
use Rattle.std.specs.Int.Signed.{le_z}
use Rattle.laws.specs.Tests.{ask, all}
use Rattle.bytes_read.specs.Words.{ints}
use Rattle.net_model.specs.Input.{rows}
use Rattle.net_model.specs.declared.Row.{Row}
use Rattle.net_questions.specs.declared.NetworkRefusal.{NetworkRefusal}
use Rattle.net_questions.specs.declared.NetworkRefusal.TheVariants.{NodeCount, ArcCount, BadEnd, BadBounds, BadCost, BadBalance}

-- 1. "Are there 1 to 64 balances?" Bytes that are no whole numbers fail the question about the list's length.
abbrev pub fair_nodes : ℕ → Bool
fair_nodes bytes = eqb (bytes % 4) 0 && (leb 1 (bytes / 4) && leb (bytes / 4) 64)

-- 2. "Is the arc list a multiple of five numbers, with at most 512 arcs?"
abbrev pub fair_arcs : ℕ → Bool
fair_arcs bytes = eqb (bytes % 20) 0 && leb (bytes / 20) 512

abbrev pub inside : ℤ → ℤ → ℤ → Bool
inside lo hi x = le_z lo x && le_z x hi

-- the questions put to every arc; `last` is n − 1
pub data ArcQuestion : Type 0 where
  Ends : ArcQuestion
  Bounds : ArcQuestion
  Cost : ArcQuestion

abbrev pub passes : ArcQuestion → ℤ → Row → Bool
-- 3. "Is every tail and head from 0 to n−1?"
passes Ends last r = inside (pos 0) last r.tail && inside (pos 0) last r.head
-- 4. "Is 0 ≤ l ≤ u ≤ 1,000,000 on every arc?"
passes Bounds last r = inside (pos 0) r.up r.low && le_z r.up (pos 1000000)
-- 5. "Is every cost from −1,000,000 to 1,000,000?"
passes Cost last r = inside (negsuc 999999) (pos 1000000) r.cost

-- 6. "Is every balance from −1,000,000,000 to 1,000,000,000?"
abbrev pub fair_balance : ℤ → Bool
fair_balance b = inside (negsuc 999999999) (pos 1000000000) b

-- n − 1
abbrev pub last_node_number : List ℕ → ℤ
last_node_number bs = pos (length bs / 4 - 1)

-- the number of the first question that a network fails, or 0
abbrev pub network_refusal : List ℕ → List ℕ → ℕ
network_refusal bs xs =
    ask (fair_nodes (length bs)) 1
    (ask (fair_arcs (length xs)) 2
    (ask (all (passes Ends (last_node_number bs)) (rows (ints xs))) 3
    (ask (all (passes Bounds (last_node_number bs)) (rows (ints xs))) 4
    (ask (all (passes Cost (last_node_number bs)) (rows (ints xs))) 5
    (ask (all fair_balance (ints bs)) 6
    0)))))

-- the number of a refusal
abbrev pub number_of : NetworkRefusal → ℕ
number_of NodeCount = 1
number_of ArcCount = 2
number_of BadEnd = 3
number_of BadBounds = 4
number_of BadCost = 5
number_of BadBalance = 6
