-- How much too little leaves a node.
use Rattle.std.specs.Prelude.{List, ℕ, ℤ, pos, ◌-ℤ◌}
use Rattle.laws.specs.Parts.{plus}
use Rattle.laws.specs.Sum.{sum}
use Rattle.net_model.specs.Network.{Net, nodes, balance, net_out}

-- the excess of node v: its balance, less what goes out of it beyond what comes in; below 0 it is a deficit
abbrev pub excess : Net → List ℕ → ℕ → ℤ
excess N f v = balance N v -ℤ net_out N f v

-- the sum of the excesses above 0
abbrev pub total_excess : Net → List ℕ → ℤ
total_excess N f = sum (nodes N) (λ v. pos (plus (excess N f v)))
