-- The struct of the bytes, where nothing is refused: it stands for the network of the two lists.
use mathlib.Core.Path.{◌≡◌}
use mathlib.Core.List.{List}
use Prim.Native.Nat.{ℕ}
use Rattle.bytes_read.specs.Words.{ints}
use Rattle.net_model.specs.Input.{net_of}
use Rattle.net_model.specs.Struct.{net_in, Sound}
use Rattle.net_model.proofs.Struct.{struct_of_lem, struct_sound}
use Rattle.net_questions.specs.Questions.{network_refusal}
use Rattle.net_questions.proofs.Accepted.{accepted_net}
use Rattle.net_check.specs.Checked.{checked_net}

module _ (bs xs : List ℕ) (none : network_refusal bs xs ≡ 0) where
  pub checked_net_lem : net_in (checked_net bs xs) ≡ net_of (ints bs) (ints xs)
  checked_net_lem = struct_of_lem (net_of (ints bs) (ints xs)) (accepted_net bs xs none).well_formed

  pub checked_sound : Sound (checked_net bs xs)
  checked_sound = struct_sound (net_of (ints bs) (ints xs)) (accepted_net bs xs none)
