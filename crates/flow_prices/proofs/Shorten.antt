-- Where no residual arc has a negative reduced cost, every walk can be made shorter than 64 arcs without costing more.
use mathlib.Core.Path.{◌≡◌, refl, sym, ap, subst, ◌∙◌}
use mathlib.Core.List.{List, [], ◌∷◌, ◌++◌}
use Prim.Native.Nat.{ℕ, zero, suc, ◌+◌, ◌-◌, ◌≤◌, ◌<◌}
use native.Mathlib.Omega.{arith}
use native.Mathlib.Decide.{dec_lt}
use lib.ListN.{length, take, drop, length-append, length-drop, take-append-drop}
use lib.Seq.{length-take-le, drop-drop}
use lib.IntN.{ℤ, pos, ◌+ℤ◌}
use lib.Signed.{◌≤ℤ◌}
use Rattle.laws.specs.Linear.{lin, given2, given3}
use Rattle.laws.specs.Pigeonhole.{Twice, pigeon}
use Rattle.net_model.specs.Network.{Net}
use Rattle.net_model.specs.Residual.{src, walk_cost, CodeWalk, codes, dst}
use Rattle.net_model.specs.Potential.{FeasiblePotential}
use Rattle.net_model.proofs.Walks.{walk_append, cost_append}
use Rattle.net_model.proofs.Rises.{rise}
use Rattle.net_theory.specs.ResidualCapacity.{has_capacity}
use Rattle.net_theory.specs.Limits.{SmallEnds}
use Rattle.net_theory.proofs.Codes.{src_in}

module _ (N : Net) (f : List ℕ) (δ : ℕ) where
  -- the node i codes before the end
  abbrev node_at : ℕ → List ℕ → ℕ → ℕ
  node_at v cs zero = v
  node_at v [] (suc i) = v
  node_at v (c ∷ cs) (suc i) = node_at (src N c) cs i

  node_in : SmallEnds N → (u v : ℕ) (cs : List ℕ) → v < 64 → CodeWalk N (has_capacity N f δ) u v cs → (i : ℕ) → node_at v cs i < 64
  node_in ok u v [] h t zero = h
  node_in ok u v [] h t (suc i) = h
  node_in ok u v (c ∷ cs) h t zero = h
  node_in ok u v (c ∷ cs) h (a, b, e, t) (suc i) = node_in ok u (src N c) cs (src_in N ok c a) t i

  -- a walk split
  walk_take : (u v : ℕ) (cs : List ℕ) → CodeWalk N (has_capacity N f δ) u v cs → (i : ℕ) → i ≤ length cs → CodeWalk N (has_capacity N f δ) (node_at v cs i) v (take i cs)
  walk_take u v [] t zero h = refl
  walk_take u v [] t (suc i) h = absurd (omega arith)
  walk_take u v (c ∷ cs) t zero h = refl
  walk_take u v (c ∷ cs) (a, b, e, t) (suc i) h = (a, b, e, walk_take u (src N c) cs t i (omega arith))

  walk_drop : (u v : ℕ) (cs : List ℕ) → CodeWalk N (has_capacity N f δ) u v cs → (i : ℕ) → i ≤ length cs → CodeWalk N (has_capacity N f δ) u (node_at v cs i) (drop i cs)
  walk_drop u v [] t zero h = t
  walk_drop u v [] t (suc i) h = absurd (omega arith)
  walk_drop u v (c ∷ cs) t zero h = t
  walk_drop u v (c ∷ cs) (a, b, e, t) (suc i) h = walk_drop u (src N c) cs t i (omega arith)

  node_later : (v : ℕ) (cs : List ℕ) (i j : ℕ) → i ≤ length cs → node_at (node_at v cs i) (drop i cs) j ≡ node_at v cs (i + j)
  node_later v cs zero j h = let e : j ≡ 0 + j = omega arith in ap (node_at v cs) e
  node_later v [] (suc i) j h = absurd (omega arith)
  node_later v (c ∷ cs) (suc i) j h = node_later (src N c) cs i j (omega arith) ∙ ap (node_at v (c ∷ cs)) (more i j)
    where
      more : (i j : ℕ) → suc (i + j) ≡ suc i + j
      more i j = omega arith

  module _ (ok : SmallEnds N) (π : ℕ → ℤ) (q : FeasiblePotential N (has_capacity N f δ) π) where
    pub record Shorter (u v : ℕ) (cs : List ℕ) : Type 0 where
      pub walk : List ℕ
      pub few : length walk < 64
      pub leads : CodeWalk N (has_capacity N f δ) u v walk
      pub costs : walk_cost N walk ≤ℤ walk_cost N cs

    -- one closed piece taken out
    cut : (u v : ℕ) (cs : List ℕ) → v < 64 → CodeWalk N (has_capacity N f δ) u v cs → 64 ≤ length cs → (xs : List ℕ) × (length xs < length cs) × CodeWalk N (has_capacity N f δ) u v xs × (walk_cost N xs ≤ℤ walk_cost N cs)
    cut u v cs h t l = go (pigeon 64 65 (node_at v cs) (omega arith) (λ i k. node_in ok u v cs h t i))
      where
        go : Twice 65 (node_at v cs) → (xs : List ℕ) × (length xs < length cs) × CodeWalk N (has_capacity N f δ) u v xs × (walk_cost N xs ≤ℤ walk_cost N cs)
        go w = (take w.i cs ++ drop w.j cs, shorter, walk_append (codes N) (src N) (dst N) (has_capacity N f δ) u (node_at v cs w.i) v (take w.i cs) (drop w.j cs) first (subst (λ x. CodeWalk N (has_capacity N f δ) u x (drop w.j cs)) (sym w.same) last), cheaper)
          where
            in_i : w.i ≤ length cs
            in_i = omega (arith, w.less, w.in_range)

            in_j : w.j ≤ length cs
            in_j = omega (arith, w.in_range)

            first : CodeWalk N (has_capacity N f δ) (node_at v cs w.i) v (take w.i cs)
            first = walk_take u v cs t w.i in_i

            last : CodeWalk N (has_capacity N f δ) u (node_at v cs w.j) (drop w.j cs)
            last = walk_drop u v cs t w.j in_j

            shorter : length (take w.i cs ++ drop w.j cs) < length cs
            shorter = omega (arith, length-append (take w.i cs) (drop w.j cs), length-take-le w.i cs in_i, length-drop w.j cs, w.less)

            rest : drop (w.j - w.i) (drop w.i cs) ≡ drop w.j cs
            rest = let e : w.i + (w.j - w.i) ≡ w.j = omega (arith, w.less) in drop-drop (w.j - w.i) w.i cs ∙ ap (λ k. drop k cs) e

            whole : walk_cost N cs ≡ walk_cost N (take w.i cs) +ℤ (walk_cost N (take (w.j - w.i) (drop w.i cs)) +ℤ walk_cost N (drop w.j cs))
            whole =
                ap (walk_cost N) (sym (take-append-drop w.i cs)) ∙ cost_append N (take w.i cs) (drop w.i cs)
                ∙ ap (λ z. walk_cost N (take w.i cs) +ℤ z)
                (ap (walk_cost N) (sym (take-append-drop (w.j - w.i) (drop w.i cs))) ∙ cost_append N (take (w.j - w.i) (drop w.i cs)) (drop (w.j - w.i) (drop w.i cs))
                ∙ ap (λ l. walk_cost N (take (w.j - w.i) (drop w.i cs)) +ℤ walk_cost N l) rest)

            closed : node_at (node_at v cs w.i) (drop w.i cs) (w.j - w.i) ≡ node_at v cs w.i
            closed = let e : w.i + (w.j - w.i) ≡ w.j = omega (arith, w.less) in node_later v cs w.i (w.j - w.i) in_i ∙ ap (node_at v cs) e ∙ sym w.same

            free : pos 0 ≤ℤ walk_cost N (take (w.j - w.i) (drop w.i cs))
            free =
                given2 (rise N (has_capacity N f δ) π q (node_at (node_at v cs w.i) (drop w.i cs) (w.j - w.i)) (node_at v cs w.i) (take (w.j - w.i) (drop w.i cs))
                (walk_take u (node_at v cs w.i) (drop w.i cs) (walk_drop u v cs t w.i in_i) (w.j - w.i) (omega (arith, length-drop w.i cs, w.in_range))))
                (ap π closed) (simp lin (omega arith))

            cheaper : walk_cost N (take w.i cs ++ drop w.j cs) ≤ℤ walk_cost N cs
            cheaper = given3 (cost_append N (take w.i cs) (drop w.j cs)) whole free (simp lin (omega arith))

    shorten_by : (n u v : ℕ) (cs : List ℕ) → length cs ≤ n → v < 64 → CodeWalk N (has_capacity N f δ) u v cs → Shorter u v cs
    shorten_by zero u v cs l h t = record { walk = cs; few = omega arith; leads = t; costs = simp lin (omega arith) }
    shorten_by (suc n) u v cs l h t = go (dec_lt (length cs) 64) (shorten_by n)
      where
        go : Dec (length cs < 64) → ((u v : ℕ) (xs : List ℕ) → length xs ≤ n → v < 64 → CodeWalk N (has_capacity N f δ) u v xs → Shorter u v xs) → Shorter u v cs
        go (yes k) deep = record { walk = cs; few = k; leads = t; costs = simp lin (omega arith) }
        go (no k) deep =
            let (xs, s, t', e) = cut u v cs h t (omega arith) in
            let r = deep u v xs (omega arith) h t' in
            record { walk = r.walk; few = r.few; leads = r.leads; costs = given2 r.costs e (simp lin (omega arith)) }

    pub shorten : (u v : ℕ) (cs : List ℕ) → v < 64 → CodeWalk N (has_capacity N f δ) u v cs → Shorter u v cs
    shorten u v cs h t = shorten_by (length cs) u v cs (omega arith) h t
