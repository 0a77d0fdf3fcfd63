-- From the steps of `admit_network` to what it ensures.
use mathlib.Core.Path.{◌≡◌, sym, ap, ◌∙◌}
use mathlib.Core.Bool.{Bool, true}
use mathlib.Core.List.{List}
use Prim.Native.Nat.{ℕ}
use native.Mathlib.Omega.{arith}
use Rattle.net_model.specs.Network.{nodes, arcs}
use Rattle.net_model.specs.declared.Network.{Network}
use Rattle.net_questions.specs.Questions.{network_refusal}
use Rattle.net_questions.specs.declared.NetworkRefusal.TheVariants.{NodeCount, ArcCount, BadEnd, BadBounds, BadCost, BadBalance}
use Rattle.net_check.specs.Checked.{checked_net}
use Rattle.net_check.proofs.Accepted.{checked_net_lem, checked_sound}
use Rattle.call_reply.specs.ByteLists.{room}
use Rattle.call_flow_bytes.specs.NetworkBytes.{net}
use Rattle.call_flow_bytes.specs.Refusals.{number_of}
use Rattle.call_flow_bytes.specs.declared.FlowRefusal.{FlowRefusal}
use Rattle.call_flow_bytes.specs.declared.FlowRefusal.TheVariants.{Network as of_network, Room, StrangeFlow}
use Rattle.call_flow_bytes.specs.FlowSteps.{StandsFor, Admitted, admit_question}

-- no refusal has the number 0
pub refuses : (r : FlowRefusal) → ¬ (number_of r ≡ 0)
refuses (of_network NodeCount) e = omega arith
refuses (of_network ArcCount) e = omega arith
refuses (of_network BadEnd) e = omega arith
refuses (of_network BadBounds) e = omega arith
refuses (of_network BadCost) e = omega arith
refuses (of_network BadBalance) e = omega arith
refuses Room e = omega arith
refuses StrangeFlow e = omega arith

module _ (bs xs : List ℕ) where
  pub stands_for : (s : Network) → network_refusal bs xs ≡ 0 → s ≡ checked_net bs xs → StandsFor bs xs s
  stands_for s z e = rw e (record { ok = z; sound = checked_sound bs xs z; is = checked_net_lem bs xs z })

  pub room_is : (s : Network) → StandsFor bs xs s → (b : Bool) (bytes : ℕ) → room s.arcs bytes ≡ b → room (arcs (net bs xs)) bytes ≡ b
  room_is s h b bytes e = ap (λ m. room m bytes) (sym (h.sound.arcs_held ∙ ap arcs h.is)) ∙ e

  pub prices_room_is : (s : Network) → StandsFor bs xs s → (b : Bool) (bytes : ℕ) → room s.nodes bytes ≡ b → room (nodes (net bs xs)) bytes ≡ b
  prices_room_is s h b bytes e = ap (λ n. room n bytes) (sym (h.sound.nodes_held ∙ ap nodes h.is)) ∙ e

  -- questions 1 to 7 with a list of so many bytes for the flows, where none fails
  pub admitted : (bytes : ℕ) (s : Network) → network_refusal bs xs ≡ 0 → s ≡ checked_net bs xs → room s.arcs bytes ≡ true → (admit_question bs xs bytes ≡ 0) × Admitted bs xs bytes s
  admitted bytes s z e t = let h = stands_for s z e in (rw (z, room_is s h true bytes t), record { net_is = e; stands_for = h; fits = t })
