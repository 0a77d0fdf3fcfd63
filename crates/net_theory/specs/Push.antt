-- Pushing δ along residual arcs.
use Rattle.std.specs.Prelude.{List, [], ◌∷◌, ℕ, ◌+◌, ◌-◌, ◌/◌, get_or, set}
use Rattle.net_model.specs.Residual.{either}

-- δ more along code c
abbrev pub push_one : ℕ → ℕ → List ℕ → List ℕ
push_one δ c f = set f (c / 2) (either c (get_or f (c / 2) 0 + δ) (get_or f (c / 2) 0 - δ))

abbrev pub push_all : ℕ → List ℕ → List ℕ → List ℕ
push_all δ [] f = f
push_all δ (c ∷ cs) f = push_all δ cs (push_one δ c f)
