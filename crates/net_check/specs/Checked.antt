-- The checked network: what the check of two lists of bytes answers.
use Rattle.std.specs.Prelude.{◌≡◌, List, ℕ, nat_abs, Result, MatchResult}
use Rattle.bytes_read.specs.Words.{ints}
use Rattle.net_model.specs.Input.{net_of}
use Rattle.net_model.specs.Struct.{struct_of}
use Rattle.net_model.specs.declared.Row.{Row}
use Rattle.net_model.specs.declared.Arc.{Arc}
use Rattle.net_model.specs.declared.Network.{Network}
use Rattle.net_questions.specs.Questions.{network_refusal, number_of}
use Rattle.net_questions.specs.declared.NetworkRefusal.{NetworkRefusal}

-- an arc as it is held, of the five numbers as they come
abbrev pub arc_of : Row → Arc
arc_of r = record { tail = nat_abs r.tail; head = nat_abs r.head; low = nat_abs r.low; up = nat_abs r.up; cost = r.cost }

-- the struct of the network that two lists of bytes are
abbrev pub checked_net : List ℕ → List ℕ → Network
checked_net bs xs = struct_of (net_of (ints bs) (ints xs))

-- what the check answers: the struct of an accepted network, and else the first question that fails
abbrev pub ChecksNetwork : List ℕ → List ℕ → Result Network NetworkRefusal → Type 0
ChecksNetwork bs xs r = MatchResult r (λ net. (network_refusal bs xs ≡ 0) × (net ≡ checked_net bs xs)) (λ refusal. network_refusal bs xs ≡ number_of refusal)
