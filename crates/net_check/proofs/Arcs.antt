-- The arcs of an accepted network: each is fair, and an array made of them place by place is that of the network's struct.
use mathlib.Core.Path.{◌≡◌, refl, sym, ap, subst, ◌∙◌}
use mathlib.Core.Bool.{true}
use mathlib.Core.List.{List, [], ◌∷◌, map}
use Prim.Native.Nat.{ℕ, zero, suc, ◌+◌, ◌-◌, ◌/◌, ◌≤◌, ◌<◌}
use native.Mathlib.Omega.{arith}
use lib.ListN.{length, get_or, set, length-map, get_or-map}
use lib.Seq.{ext_get_or}
use lib.IntN.{ℤ, pos, nat_abs}
use lib.Signed.{◌≤ℤ◌, le_z}
use denote.Param.Members.{Mut, Called}
use Rattle.std.specs.Array.{IsFromFnResult, IsFromFnResultFrom}
use Rattle.std.proofs.lemmas.List.{get_or_default}
use Rattle.laws.specs.Linear.{lin, given2}
use Rattle.laws.specs.Integers.{true_le_z}
use Rattle.laws.specs.Tests.{true_and, all}
use Rattle.laws.specs.Padded.{padded, padded_at, padded_length, filled, filled_more}
use Rattle.laws.specs.Within.{from}
use Rattle.bytes_read.specs.Words.{ints}
use Rattle.bytes_read.proofs.Words.{length_ints}
use Rattle.net_model.specs.Network.{arcs}
use Rattle.net_model.specs.Input.{rows, net_of}
use Rattle.net_model.specs.Struct.{blank_arc, arc_in, arcs_in}
use Rattle.net_model.specs.declared.Row.{Row}
use Rattle.net_model.specs.declared.Arc.{Arc}
use Rattle.net_model.specs.declared.Network.{Network}
use Rattle.net_questions.specs.Questions.{Ends, Bounds, inside, passes, last_node_number, network_refusal}
use Rattle.net_questions.specs.Arcs.{no_arc}
use Rattle.net_questions.proofs.Rows.{arcs_of, all_by_places}
use Rattle.net_questions.proofs.Accepted.{Inside, GoodArc, passed, good_arc}
use Rattle.net_check.specs.Checked.{arc_of, checked_net}

inside_true : (lo hi z : ℤ) → Inside lo hi z → inside lo hi z ≡ true
inside_true lo hi z i = true_and (le_z lo z) (le_z z hi) (true_le_z lo z i.from) (true_le_z z hi i.to)

module _ (bs xs : List ℕ) (none : network_refusal bs xs ≡ 0) where
  last_most : last_node_number bs ≤ℤ pos 63
  last_most = within (length bs / 4 - 1) (omega (arith, (passed bs xs none).nodes_fair.few))
    where
      within : (n : ℕ) → n ≤ 63 → pos n ≤ℤ pos 63
      within n h = simp lin (omega arith)

  end_inside : (z : ℤ) → Inside (pos 0) (last_node_number bs) z → inside (pos 0) (pos 63) z ≡ true
  end_inside z i = inside_true (pos 0) (pos 63) z (record { from = i.from; to = given2 i.to last_most (simp lin (omega arith)) })

  pub fair_ends : all (passes Ends (pos 63)) (rows (ints xs)) ≡ true
  fair_ends =
      all_by_places (passes Ends (pos 63)) (rows (ints xs))
      (λ a d h. (let g = subst (GoodArc (last_node_number bs)) (get_or_default (rows (ints xs)) a no_arc d h) (good_arc bs xs (passed bs xs none) a h) in true_and _ _ (end_inside _ g.tail_in) (end_inside _ g.head_in)))

  pub fair_bounds : all (passes Bounds (pos 63)) (rows (ints xs)) ≡ true
  fair_bounds =
      all_by_places (passes Bounds (pos 63)) (rows (ints xs))
      (λ a d h. (let g = subst (GoodArc (last_node_number bs)) (get_or_default (rows (ints xs)) a no_arc d h) (good_arc bs xs (passed bs xs none) a h) in true_and _ _ (inside_true _ _ _ g.low_in) (true_le_z _ _ g.up_to)))

-- an array that was made place by place
module _ {F B : Type 0} (g : Mut F (ℕ × Unit {0}) B) (f : F) (h : ℕ → B) (one : (i : ℕ) (y : B) (q : F) → Called g f (i, tt) y q → (q ≡ f) × (y ≡ h i)) where
  made_on : (ys : List B) (q : F) → q ≡ f → (i n : ℕ) → IsFromFnResultFrom g q ys i n → (k : ℕ) → k < n → (d : B) → get_or ys (i + k) d ≡ h (i + k)
  made_on ys q e i zero m k l d = absurd (omega arith)
  made_on ys q e i (suc n) m zero l d =
      let z : i + 0 ≡ i = omega arith in
      rw z (m.2.1 d ∙ (one i m.1 m.0 (rw e at m.3)).1)
  made_on ys q e i (suc n) m (suc k) l d =
      let z : i + suc k ≡ i + 1 + k = omega arith in
      rw z (made_on ys m.0 (one i m.1 m.0 (rw e at m.3)).0 (i + 1) n m.4 k (omega arith) d)

  pub made_by : (ys : List B) (n : ℕ) → IsFromFnResult g f ys n → (k : ℕ) → k < n → (d : B) → get_or ys k d ≡ h k
  made_by ys n r k l d = let z : 0 + k ≡ k = omega arith in rw z at (made_on ys f refl 0 n r.each k l d)

-- the arcs of a network are its rows, as they are held
module _ (bs xs : List ℤ) where
  arc_is : (a : ℕ) → arc_in (net_of bs xs) a ≡ arc_of (get_or (rows xs) a no_arc)
  arc_is a =
      same (get_or-map (λ (r : Row). nat_abs r.tail) (rows xs) a no_arc) (get_or-map (λ (r : Row). nat_abs r.head) (rows xs) a no_arc)
      (get_or-map (λ (r : Row). nat_abs r.low) (rows xs) a no_arc) (get_or-map (λ (r : Row). nat_abs r.up) (rows xs) a no_arc)
      (get_or-map (λ (r : Row). r.cost) (rows xs) a no_arc)
    where
      same : {t t' h h' l l' u u' : ℕ} {c c' : ℤ} → t ≡ t' → h ≡ h' → l ≡ l' → u ≡ u' → c ≡ c'
          → ◌≡◌ {A = Arc} (record { tail = t; head = h; low = l; up = u; cost = c }) (record { tail = t'; head = h'; low = l'; up = u'; cost = c' })
      same p q r v w = cc

  arcs_are : arcs_in (net_of bs xs) ≡ map arc_of (rows xs)
  arcs_are = go (arcs (net_of bs xs)) 0 (rows xs) (sym (length-map (rows xs) (λ r. nat_abs r.tail))) (λ a. let z : 0 + a ≡ a = omega arith in rw z refl)
    where
      go : (n s : ℕ) (k : List Row) → length k ≡ n → ((a : ℕ) → get_or (rows xs) (s + a) no_arc ≡ get_or k a no_arc) → map (arc_in (net_of bs xs)) (from n s) ≡ map arc_of k
      go zero s [] e h = refl
      go (suc n) s (r ∷ k) e h =
          let z : s + 0 ≡ s = omega arith in
          let one : arc_in (net_of bs xs) s ≡ arc_of r = arc_is s ∙ ap arc_of (rw z at (h 0)) in
          let rest = go n (suc s) k (omega (arith, e)) (λ a. let y : suc s + a ≡ s + suc a = omega arith in rw y (h (suc a))) in
          cc
      go zero s (r ∷ k) e h = absurd (omega (arith, e))
      go (suc n) s [] e h = absurd (omega (arith, e))

-- an array that holds a list, by its places
pub array_holds : {A : Type 0} (k : ℕ) (d : A) (l r : List A) → length l ≤ k → length r ≡ k → ((i : ℕ) → i < k → get_or r i d ≡ get_or l i d) → r ≡ padded k d l
array_holds k d l r h e f = ext_get_or d r (padded k d l) (e ∙ sym (padded_length k d l h)) (λ i q. f i (omega arith) ∙ sym (padded_at k d l i))

-- the struct that was made is that of the network
pub made : (bs xs : List ℕ) → network_refusal bs xs ≡ 0 → (balances : List ℤ) (table : List Arc) → length balances ≡ 64
    → ((v : ℕ) → v < 64 → get_or balances v (pos 0) ≡ get_or (ints bs) v (pos 0))
    → table ≡ padded 512 blank_arc (map arc_of (rows (ints xs)))
    → ◌≡◌ {A = Network} (record { nodes = length bs / 4; arcs = length xs / 20; balances = balances; table = table }) (checked_net bs xs)
made bs xs none balances table p f g =
    same (sym (length_ints bs)) (sym (length-map (rows (ints xs)) (λ r. nat_abs r.tail) ∙ arcs_of xs))
    (array_holds 64 (pos 0) (ints bs) balances (omega (arith, length_ints bs, (passed bs xs none).nodes_fair.few)) p f)
    (g ∙ ap (padded 512 blank_arc) (sym (arcs_are (ints bs) (ints xs))))
  where
    same : {n n' m m' : ℕ} {b b' : List ℤ} {t t' : List Arc} → n ≡ n' → m ≡ m' → b ≡ b' → t ≡ t'
        → ◌≡◌ {A = Network} (record { nodes = n; arcs = m; balances = b; table = t }) (record { nodes = n'; arcs = m'; balances = b'; table = t' })
    same p q r v = cc

-- an arc more
module _ (bs xs : List ℕ) (none : network_refusal bs xs ≡ 0) (a : ℕ) (here : a < length xs / 20) where
  pub within : a < 512
  within = omega (arith, here, (passed bs xs none).arcs_fair.few)

  pub table_more : (net : Network) (n m : ℕ) (balances : List ℤ) (x : Arc)
      → net ≡ record { nodes = n; arcs = m; balances = balances; table = filled arc_of (rows (ints xs)) 512 blank_arc a } → x ≡ arc_of (get_or (rows (ints xs)) a no_arc)
      → ◌≡◌ {A = Network} (record { nodes = net.nodes; arcs = net.arcs; balances = net.balances; table = set net.table a x })
      (record { nodes = n; arcs = m; balances = balances; table = filled arc_of (rows (ints xs)) 512 blank_arc (a + 1) })
  table_more net n m balances x e q =
      rw e (ap (λ (t : List Arc). record { nodes = n; arcs = m; balances = balances; table = t })
      (filled_more arc_of (rows (ints xs)) 512 blank_arc no_arc a (filled arc_of (rows (ints xs)) 512 blank_arc a) x refl (omega (arith, here, arcs_of xs)) within q))
