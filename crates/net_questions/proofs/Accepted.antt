-- A network that no question refuses: what it is then.
use mathlib.Core.Path.{◌≡◌, refl, sym, ◌∙◌}
use mathlib.Core.Bool.{Bool, true, false}
use mathlib.Core.List.{List}
use Prim.Native.Nat.{ℕ, suc, ◌/◌, ◌≤◌, ◌<◌}
use native.Mathlib.Omega.{arith}
use lib.ListN.{length, get_or, length-map, get_or-map}
use lib.IntN.{ℤ, pos, negsuc, nat_abs}
use lib.Signed.{le_z, ◌≤ℤ◌}
use Rattle.laws.specs.Parts.{le→ℕ}
use Rattle.laws.specs.Linear.{lin, given2}
use Rattle.laws.specs.Integers.{le_z_true}
use Rattle.laws.specs.Tests.{and_true, ask, all, all_at}
use Rattle.bytes_read.specs.Words.{ints}
use Rattle.bytes_read.proofs.Words.{length_ints}
use Rattle.net_model.specs.Network.{WellFormed, arcs}
use Rattle.net_model.specs.Input.{rows, net_of}
use Rattle.net_model.specs.Accepted.{AcceptedNet}
use Rattle.net_model.specs.declared.Row.{Row}
use Rattle.net_questions.specs.Questions.{inside, Ends, Bounds, Cost, passes, fair_balance, fair_nodes, fair_arcs, last_node_number, network_refusal}
use Rattle.net_questions.specs.Arcs.{no_arc}
use Rattle.net_questions.proofs.Rows.{FairNodes, FairArcs, fair_nodes_lem, fair_arcs_lem, arcs_of}

-- every question was answered with yes
pub record AllPassed (bs xs : List ℕ) : Type 0 where
  pub nodes_fair : FairNodes (length bs)
  pub arcs_fair : FairArcs (length xs)
  pub ends : all (passes Ends (last_node_number bs)) (rows (ints xs)) ≡ true
  pub bounds : all (passes Bounds (last_node_number bs)) (rows (ints xs)) ≡ true
  pub costs : all (passes Cost (last_node_number bs)) (rows (ints xs)) ≡ true
  pub balances : all fair_balance (ints bs) ≡ true

-- one question: answered with yes, and the rest is 0 too
asked : (b : Bool) (k n : ℕ) → ask b (suc k) n ≡ 0 → (b ≡ true) × (n ≡ 0)
asked true k n e = (refl, e)
asked false k n e = absurd (omega arith)

pub passed : (bs xs : List ℕ) → network_refusal bs xs ≡ 0 → AllPassed bs xs
passed bs xs e =
    let (a, e2) = asked (fair_nodes (length bs)) 0 _ e in
    let (b, e3) = asked (fair_arcs (length xs)) 1 _ e2 in
    let (c, e4) = asked (all (passes Ends (last_node_number bs)) (rows (ints xs))) 2 _ e3 in
    let (d, e5) = asked (all (passes Bounds (last_node_number bs)) (rows (ints xs))) 3 _ e4 in
    let (f, e6) = asked (all (passes Cost (last_node_number bs)) (rows (ints xs))) 4 _ e5 in
    let (g, e7) = asked (all fair_balance (ints bs)) 5 0 e6 in
    record { nodes_fair = fair_nodes_lem (length bs) a; arcs_fair = fair_arcs_lem (length xs) b; ends = c; bounds = d; costs = f; balances = g }

-- a number inside its bounds
pub record Inside (lo hi z : ℤ) : Type 0 where
  pub from : lo ≤ℤ z
  pub to : z ≤ℤ hi

pub is_inside : (lo hi z : ℤ) → inside lo hi z ≡ true → Inside lo hi z
is_inside lo hi z e = let (a, b) = and_true (le_z lo z) (le_z z hi) e in record { from = le_z_true lo z a; to = le_z_true z hi b }

nat_abs_le : (x y : ℤ) → pos 0 ≤ℤ x → x ≤ℤ y → nat_abs x ≤ nat_abs y
nat_abs_le (pos m) (pos n) h k = omega (arith, le→ℕ k)
nat_abs_le (pos m) (negsuc n) h k = absurd (omega (arith, le→ℕ k))
nat_abs_le (negsuc m) y h k = absurd (omega (arith, le→ℕ h))

-- an arc keeps what questions 3, 4 and 5 ask
pub record GoodArc (last : ℤ) (r : Row) : Type 0 where
  pub tail_in : Inside (pos 0) last r.tail
  pub head_in : Inside (pos 0) last r.head
  pub low_in : Inside (pos 0) r.up r.low
  pub up_to : r.up ≤ℤ pos 1000000
  pub cost_in_lem : Inside (negsuc 999999) (pos 1000000) r.cost

module _ (bs xs : List ℕ) (ok : AllPassed bs xs) where
  pub good_arc : (a : ℕ) → a < length (rows (ints xs)) → GoodArc (last_node_number bs) (get_or (rows (ints xs)) a no_arc)
  good_arc a h =
      let r = get_or (rows (ints xs)) a no_arc in
      let (t, u) = and_true (inside (pos 0) (last_node_number bs) r.tail) (inside (pos 0) (last_node_number bs) r.head) (all_at (passes Ends (last_node_number bs)) (rows (ints xs)) no_arc a ok.ends h) in
      let (l, k) = and_true (inside (pos 0) r.up r.low) (le_z r.up (pos 1000000)) (all_at (passes Bounds (last_node_number bs)) (rows (ints xs)) no_arc a ok.bounds h) in
      record {
        tail_in = is_inside (pos 0) (last_node_number bs) r.tail t;
        head_in = is_inside (pos 0) (last_node_number bs) r.head u;
        low_in = is_inside (pos 0) r.up r.low l;
        up_to = le_z_true r.up (pos 1000000) k;
        cost_in_lem = is_inside (negsuc 999999) (pos 1000000) r.cost (all_at (passes Cost (last_node_number bs)) (rows (ints xs)) no_arc a ok.costs h);
      }

  pub up_from : (a : ℕ) → a < length (rows (ints xs)) → pos 0 ≤ℤ (get_or (rows (ints xs)) a no_arc).up
  up_from a h = given2 (good_arc a h).low_in.from (good_arc a h).low_in.to (simp lin (omega arith))

  -- the network
  nodes_are : length (ints bs) ≡ length bs / 4
  nodes_are = length_ints bs

  arcs_are : arcs (net_of (ints bs) (ints xs)) ≡ length (rows (ints xs))
  arcs_are = length-map (rows (ints xs)) (λ r. nat_abs r.tail)

  in_rows : (a : ℕ) → a < arcs (net_of (ints bs) (ints xs)) → a < length (rows (ints xs))
  in_rows a h = omega (arith, arcs_are)

  end_below : (z : ℤ) → Inside (pos 0) (last_node_number bs) z → nat_abs z < length (ints bs)
  end_below z i = omega (arith, nodes_are, ok.nodes_fair.some, nat_abs_le z (last_node_number bs) i.from i.to)

  well_formed : WellFormed (net_of (ints bs) (ints xs))
  well_formed =
      let rs = rows (ints xs) in
      record {
        heads_len = length-map rs (λ r. nat_abs r.head) ∙ sym arcs_are;
        lows_len = length-map rs (λ r. nat_abs r.low) ∙ sym arcs_are;
        ups_len = length-map rs (λ r. nat_abs r.up) ∙ sym arcs_are;
        costs_len = length-map rs (λ r. r.cost) ∙ sym arcs_are;
        tail_in = λ a h. rw (get_or-map (λ (r : Row). nat_abs r.tail) rs a no_arc) (end_below _ (good_arc a (in_rows a h)).tail_in);
        head_in = λ a h. rw (get_or-map (λ (r : Row). nat_abs r.head) rs a no_arc) (end_below _ (good_arc a (in_rows a h)).head_in);
      }

  accepted_of : AcceptedNet (net_of (ints bs) (ints xs))
  accepted_of =
      let rs = rows (ints xs) in
      record {
        well_formed = well_formed;
        some_node = omega (arith, nodes_are, ok.nodes_fair.some);
        few_nodes = omega (arith, nodes_are, ok.nodes_fair.few);
        few_arcs = omega (arith, arcs_are, arcs_of xs, ok.arcs_fair.few);
        low_up = λ a h. rw (get_or-map (λ (r : Row). nat_abs r.low) rs a no_arc, get_or-map (λ (r : Row). nat_abs r.up) rs a no_arc)
            (let g = good_arc a (in_rows a h) in nat_abs_le _ _ g.low_in.from g.low_in.to);
        up_small = λ a h. rw (get_or-map (λ (r : Row). nat_abs r.up) rs a no_arc) (nat_abs_le _ (pos 1000000) (up_from a (in_rows a h)) (good_arc a (in_rows a h)).up_to);
        cost_small = λ a h. rw (get_or-map (λ (r : Row). r.cost) rs a no_arc)
            (let g = good_arc a (in_rows a h) in (g.cost_in_lem.from, g.cost_in_lem.to));
        balance_small = λ v h. (let i = is_inside (negsuc 999999999) (pos 1000000000) (get_or (ints bs) v (pos 0)) (all_at fair_balance (ints bs) (pos 0) v ok.balances h) in (i.from, i.to));
      }

pub accepted_net : (bs xs : List ℕ) → network_refusal bs xs ≡ 0 → AcceptedNet (net_of (ints bs) (ints xs))
accepted_net bs xs e = accepted_of bs xs (passed bs xs e)
