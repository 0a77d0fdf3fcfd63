-- The prices in an array, as they are written.
use mathlib.Core.Path.{◌≡◌, ◌∙◌}
use mathlib.Core.List.{List, [], ◌∷◌}
use Prim.Native.Nat.{ℕ, zero, suc, ◌≤◌, ◌<◌}
use native.Mathlib.Omega.{arith}
use lib.ListN.{length, get_or, take}
use lib.Seq.{length-take-le, get_or-take}
use lib.IntN.{ℤ, pos}
use mir.Syntax.{w32}
use mir.Val.{Val, SFits}
use denote.Array.{each}
use denote.Shadow.{shadow}
use denote.Signed.{SInt}
use Rattle.laws.specs.Members.{Every}
use Rattle.net_model.specs.Network.{Net, nodes}
use Rattle.net_model.specs.Residual.{Price}
use Rattle.call_flow_bytes.specs.Prices.{Prices}

-- an array's numbers fit
array_fits : (l : List ℤ) (vs : List Val) → shadow (each ℤ (SInt w32).own_val l vs) → Every (SFits w32) l
array_fits [] [] s = tt
array_fits [] (v ∷ vs) s = absurd s
array_fits (z ∷ l) [] s = absurd s
array_fits (z ∷ l) (v ∷ vs) s = (record { sfits = s.0.1 }, array_fits l vs s.1)

every_take : {A : Type 0} (P : A → Type 0) (n : ℕ) (l : List A) → Every P l → Every P (take n l)
every_take P zero l h = tt
every_take P (suc n) [] h = tt
every_take P (suc n) (a ∷ l) h = (h.0, every_take P n l h.1)

-- the first places of an array hold the prices
pub prices_held : (N : Net) (f : List ℕ) (n : ℕ) (a : List ℤ) (vs : List Val) → n ≡ nodes N → n ≤ length a → shadow (each ℤ (SInt w32).own_val a vs)
    → ((v : ℕ) → v < nodes N → Price N f v (get_or a v (pos 0))) → Prices N f (take n a)
prices_held N f n a vs e h s each = record {
  all_nodes = length-take-le n a h ∙ e;
  each = λ v k. rw (get_or-take n a v (pos 0) (omega arith)) (each v k);
  fit = every_take (SFits w32) n a (array_fits a vs s);
}
