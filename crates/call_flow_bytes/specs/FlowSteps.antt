-- What the steps of a call of a network ensure.
use Rattle.std.specs.Prelude.{◌≡◌, true, false, List, ℕ, Result, MatchResult}
use Rattle.std.proofs.Math.Option.{Option, none, some}
use Rattle.laws.specs.Tests.{ask}
use Rattle.bytes_read.specs.Words.{words}
use Rattle.net_model.specs.Network.{Net, arcs, cost_of}
use Rattle.net_model.specs.FullList.{full_list}
use Rattle.net_model.specs.Struct.{Sound, net_in}
use Rattle.net_model.specs.declared.Network.{Network}
use Rattle.net_questions.specs.Questions.{network_refusal}
use Rattle.net_check.specs.Checked.{checked_net}
use Rattle.flow_enumerate.specs.Enumerator.{item_of, Stands}
use Rattle.flow_enumerate.specs.declared.Enumerator.{Enumerator}
use Rattle.call_reply.specs.declared.Reply.{Reply}
use Rattle.call_reply.specs.Replies.{or_else, HandsItem}
use Rattle.call_reply.specs.ByteLists.{room, listed}
use Rattle.call_flow_bytes.specs.NetworkBytes.{net}
use Rattle.call_flow_bytes.specs.Prices.{PricesAfter}
use Rattle.call_flow_bytes.specs.Refusals.{Asked}
use Rattle.call_flow_bytes.specs.declared.FlowRefusal.{FlowRefusal}
use Rattle.call_flow_bytes.specs.declared.FlowRefusal.TheVariants.{StrangeFlow}

-- past questions 1 to 6: a struct that stands for the network of the bytes
pub record StandsFor (bs xs : List ℕ) (s : Network) : Type 0 where
  pub ok : network_refusal bs xs ≡ 0
  pub sound : Sound s
  pub is : net_in s ≡ net bs xs

-- questions 1 to 7, with a list of so many bytes lent for the flows
abbrev pub admit_question : List ℕ → List ℕ → ℕ → ℕ
admit_question bs xs bytes = or_else (network_refusal bs xs) (ask (room (arcs (net bs xs)) bytes) 7 0)

-- past them, the struct of the network, whose flows the list has room for
pub record Admitted (bs xs : List ℕ) (bytes : ℕ) (s : Network) : Type 0 where
  pub net_is : s ≡ checked_net bs xs
  pub stands_for : StandsFor bs xs s
  pub fits : room s.arcs bytes ≡ true

abbrev pub AdmitsNetwork : List ℕ → List ℕ → ℕ → Result Network FlowRefusal → Type 0
AdmitsNetwork bs xs bytes r = Asked (admit_question bs xs bytes) (Admitted bs xs bytes) r

-- question 8: an enumerator on the item that the given bytes are, or the refusal
pub record Resumed (s : Network) (g : List ℕ) (r : Enumerator) : Type 0 where
  pub stands : Stands r
  pub net_is : r.net ≡ s
  pub item_is : item_of r ≡ some (words g)

abbrev pub ResumesFlow : Network → List ℕ → Result Enumerator FlowRefusal → Type 0
ResumesFlow s g r = MatchResult r (λ e. (listed g (full_list (net_in s)) ≡ true) × Resumed s g e) (λ refusal. (listed g (full_list (net_in s)) ≡ false) × (refusal ≡ StrangeFlow))

-- the flow that an enumerator stands on is written to the list lent for it; without one the reply is the code k
abbrev pub HandsFlow : Enumerator → ℕ → List ℕ → Reply → List ℕ → Type 0
HandsFlow e k fs r fs' = HandsItem (cost_of (net_in e.net)) (item_of e) k fs r fs'

-- its prices are written to the list lent for them
abbrev pub PricesOut : Net → Option (List ℕ) → Option (List ℕ) → Option (List ℕ) → Type 0
PricesOut N none ps ps' = ps' ≡ ps
PricesOut N (some f) ps ps' = PricesAfter N f ps ps'

abbrev pub HandsPrices : Enumerator → List ℕ → List ℕ → Type 0
HandsPrices e ps ps' = PricesOut (net_in e.net) (item_of e) (some ps) (some ps')
