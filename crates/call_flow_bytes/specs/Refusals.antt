-- The refusals of a call of a network, by the numbers of the questions that fail.
use Rattle.std.specs.Prelude.{◌≡◌, ℕ, Result, MatchResult}
use Rattle.net_questions.specs.Questions as network
use Rattle.call_flow_bytes.specs.declared.FlowRefusal.{FlowRefusal}
use Rattle.call_flow_bytes.specs.declared.FlowRefusal.TheVariants.{Network, Room, StrangeFlow}

abbrev pub number_of : FlowRefusal → ℕ
number_of (Network refusal) = network.number_of refusal
number_of Room = 7
number_of StrangeFlow = 8

-- questions were put, and q is the number of the first that fails, or 0: with none P holds of what is handed on, and else it is q that refuses
abbrev pub Asked : {A : Type 0} → ℕ → (A → Type 0) → Result A FlowRefusal → Type 0
Asked q P r = MatchResult r (λ x. (q ≡ 0) × P x) (λ refusal. q ≡ number_of refusal)
