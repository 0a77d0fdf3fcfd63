-- An arc added to a closure, and what a closure shows to be out of reach.
use mathlib.Core.Path.{◌≡◌, sym, ◌∙◌}
use mathlib.Core.Logic.{⊎_elim}
use mathlib.Core.List.{List}
use mathlib.Core.Bool.{Bool, true, false, true≢false}
use Prim.Native.Nat.{ℕ, suc, ◌+◌, ◌≤◌, ◌<◌}
use native.Mathlib.Omega.{arith}
use native.Mathlib.Decide.{ℕ_discrete}
use lib.Dec.{ltb}
use lib.ListN.{get_or}
use Rattle.laws.specs.Tests.{and_true, true_and}
use Rattle.net_model.specs.Network.{Net, arcs, tail, head, low, up}
use Rattle.net_model.specs.Residual.{codes, src, dst}
use Rattle.net_theory.specs.FreeArcs.{goes, Reaches, Blocked}
use Rattle.net_theory.proofs.Codes.{even_code, odd_code, even_arc, odd_arc}
use Rattle.flow_preorder.specs.Preorder.{leads, Extended}
use Rattle.flow_closure.specs.Closure.{Closure}
use Rattle.flow_closure.proofs.Reaching.{reaches_by, reaches_over, reaches_earlier}

-- ---- an arc added
module _ (N : Net) (f : List ℕ) (free : List Bool) where
  module _ (a : ℕ) (rows : List ℕ) (cl : Closure N f free (suc a) rows) where
    earlier : (u v : ℕ) → u < 64 → leads rows u v ≡ true → Reaches N f free u v a
    earlier u v h e = reaches_earlier N f free a u v (cl.sound u v h e)

    steps_more : (rows' : List ℕ) → ((u v : ℕ) → leads rows u v ≡ true → leads rows' u v ≡ true)
        → (get_or free a false ≡ true → ltb (get_or f a 0) (up N a) ≡ true → leads rows' (tail N a) (head N a) ≡ true)
        → (get_or free a false ≡ true → ltb (low N a) (get_or f a 0) ≡ true → leads rows' (head N a) (tail N a) ≡ true)
        → (c : ℕ) → a + a ≤ c → c < codes N → goes N f free c ≡ true → leads rows' (src N c) (dst N c) ≡ true
    steps_more rows' keeps forth back c h l = go (ℕ_discrete c (a + a)) (ℕ_discrete c (suc (a + a)))
      where
        even : goes N f free (a + a) ≡ true → leads rows' (src N (a + a)) (dst N (a + a)) ≡ true
        even g = let b = and_true (get_or free a false) (ltb (get_or f a 0) (up N a)) (rw (even_code a, even_arc a) at g) in rw (even_code a, even_arc a) (forth b.0 b.1)

        odd : goes N f free (suc (a + a)) ≡ true → leads rows' (src N (suc (a + a))) (dst N (suc (a + a))) ≡ true
        odd g = let b = and_true (get_or free a false) (ltb (low N a) (get_or f a 0)) (rw (odd_code a, odd_arc a) at g) in rw (odd_code a, odd_arc a) (back b.0 b.1)

        go : Dec (c ≡ a + a) → Dec (c ≡ suc (a + a)) → goes N f free c ≡ true → leads rows' (src N c) (dst N c) ≡ true
        go (yes e) d = rw e even
        go (no n) (yes e) = rw e odd
        go (no n) (no m) = λ g. keeps (src N c) (dst N c) (cl.steps c (omega arith) l g)

    -- an arc that is not free has no step
    pub closure_skip : get_or free a false ≡ false → Closure N f free a rows
    closure_skip e = record {
      preorder = cl.preorder;
      steps = steps_more rows (λ u v h. h) (λ g. absurd (true≢false (sym g ∙ e))) (λ g. absurd (true≢false (sym g ∙ e)));
      sound = earlier;
    }

    module _ (here : a < arcs N) (is_free : get_or free a false ≡ true) (tail_in : tail N a < 64) (head_in : head N a < 64) (mid rows' : List ℕ)
        (x : Extended rows mid (ltb (get_or f a 0) (up N a)) (tail N a) (head N a)) (y : Extended mid rows' (ltb (low N a) (get_or f a 0)) (head N a) (tail N a)) where
      forward : ltb (get_or f a 0) (up N a) ≡ true → Reaches N f free (tail N a) (head N a) a
      forward o =
          let g : goes N f free (a + a) ≡ true = rw (even_code a, even_arc a) (true_and (get_or free a false) (ltb (get_or f a 0) (up N a)) is_free o) in
          let r = reaches_by N f free a (a + a) (omega arith) (omega arith) g in
          rw (even_code a, even_arc a) at r

      backward : ltb (low N a) (get_or f a 0) ≡ true → Reaches N f free (head N a) (tail N a) a
      backward o =
          let g : goes N f free (suc (a + a)) ≡ true = rw (odd_code a, odd_arc a) (true_and (get_or free a false) (ltb (low N a) (get_or f a 0)) is_free o) in
          let r = reaches_by N f free a (suc (a + a)) (omega arith) (omega arith) g in
          rw (odd_code a, odd_arc a) at r

      sound_mid : (u v : ℕ) → u < 64 → leads mid u v ≡ true → Reaches N f free u v a
      sound_mid u v h e = ⊎_elim
          (λ o. earlier u v h o)
          (λ s. reaches_over N f free a u (head N a) v (reaches_over N f free a u (tail N a) (head N a) (earlier u (tail N a) h s.1) (forward s.0)) (earlier (head N a) v head_in s.2))
          (x.only u v h e)

      sound_all : (u v : ℕ) → u < 64 → leads rows' u v ≡ true → Reaches N f free u v a
      sound_all u v h e = ⊎_elim
          (λ o. sound_mid u v h o)
          (λ s. reaches_over N f free a u (tail N a) v (reaches_over N f free a u (head N a) (tail N a) (sound_mid u (head N a) h s.1) (backward s.0)) (sound_mid (tail N a) v tail_in s.2))
          (y.only u v h e)

      pub closure_arc : Closure N f free a rows'
      closure_arc = record {
        preorder = y.preorder;
        steps = steps_more rows' (λ u v h. y.keeps u v (x.keeps u v h)) (λ _ o. y.keeps (tail N a) (head N a) (x.new o)) (λ _ o. y.new o);
        sound = sound_all;
      }

  -- ---- what s does not lead to is out of its reach
  pub closure_blocked : (from : ℕ) (rows : List ℕ) (s t : ℕ) → Closure N f free from rows → s < 64 → leads rows s t ≡ false → Blocked N f free s t from
  closure_blocked from rows s t cl h e = record {
    inside = leads rows s;
    has = cl.preorder.reflexive s h;
    lacks = e;
    shut = λ c l k g i. cl.preorder.transitive s (src N c) (dst N c) i (cl.steps c l k g);
  }
