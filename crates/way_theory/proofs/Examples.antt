-- Document 01, "Small networks and books", the starred networks and books, and books of 02, in one table with one theorem.
use mathlib.Core.Path.{◌≡◌, refl, ap}
use mathlib.Core.Bool.{Bool, true, false, ◌&&◌}
use mathlib.Core.List.{List, [], ◌∷◌}
use mathlib.Core.Option.{Option, none, some}
use Prim.Native.Nat.{ℕ, ◌≤◌, ◌<◌}
use native.Mathlib.Omega.{arith}
use native.Mathlib.Decide.{ℕ_discrete}
use lib.Dec.{eqb, leb, ltb}
use lib.ListN.{length, get_or}
use lib.IntN.{ℤ, pos, negsuc, neg_ℤ}
use lib.Signed.{le_z, ◌≤ℤ◌}
use borrow.Author.Tests.{eqb-true, leb-true, ltb-true}
use Rattle.laws.specs.Divergence.{at}
use Rattle.laws.specs.Integers.{le_z_true, eq_z, eq_z_true}
use Rattle.laws.specs.Tests.{and_true, test, test_yes, all, all_member, all_below, all_below_lem}
use Rattle.laws.specs.Equality.{same_list, same_lists}
use Rattle.laws.specs.Members.{◌∈◌, first?}
use Rattle.laws.specs.Seen.{Reading, refused, nothing, end, item}
use Rattle.laws.specs.Run.{shown}
use Rattle.net_model.specs.Network as flows
use Rattle.net_model.specs.Network.{Net, nodes, arcs}
use Rattle.net_model.specs.Accepted.{AcceptedNet}
use Rattle.net_model.specs.Residual.{Price}
use Rattle.net_model.specs.FullList.{flow_list, full_list}
use Rattle.net_model.specs.Input.{net_of}
use Rattle.net_model.proofs.Prices.{certifies, prices}
use Rattle.text_read.specs.Reader.{then_read, ◌>>=◌, ◌>>◌, ◌<|>◌, give, guard, remaining, begins, text, front, run, value_from, number, word, row, more, up_to, many}
use Rattle.text_read.specs.Heads.{bytes}
use Rattle.book_lines.specs.Lines.{move, long_form, short_form, entry}
use Rattle.book_lines.specs.Questions as lines
use Rattle.book_form.specs.Book as form
use Rattle.book_form.specs.Book.{opening, whole, parse}
use Rattle.book_form.specs.Questions.{book_refusal}
use Rattle.way_theory.specs.FullWays.{way_list, full_ways}
use Rattle.way_theory.specs.BookBytes.{ways, way_cost_in}

-- a network, or the bytes of a book
pub data Input : Type 0 where
  network : Net → Input
  book : List ℕ → Input

-- a row: the full list, what `first` answers, its cost, which is that of each item too, and, of a network, the prices beside the first item;
-- `walks` has for each price a residual walk that costs as much, its last code first
pub record Example : Type 0 where
  pub input : Input
  pub items : List (List ℕ)
  pub answer : Reading (List ℕ)
  pub cost : ℤ
  pub prices : List ℤ
  pub walks : List (List ℕ)

abbrev pub list_of : Input → List (List ℕ)
list_of (network N) = full_list N
list_of (book s) = ways s

abbrev pub cost_in : Input → List ℕ → ℤ
cost_in (network N) f = flows.cost_of N f
cost_in (book s) w = way_cost_in s w

-- "He answers that line and its cost, .. Without lines: 'none', cost 0."
abbrev pub answer_cost : Input → Option (List ℕ) → ℤ
answer_cost i none = pos 0
answer_cost i (some v) = cost_in i v

-- "with a network's prices", one for each node
abbrev pub Priced : Input → Option (List ℕ) → List ℤ → Type 0
Priced (network N) (some f) ps = (length ps ≡ nodes N) × ((v : ℕ) → v < nodes N → Price N f v (get_or ps v (pos 0)))
Priced (network N) none ps = Unit {0}
Priced (book s) o ps = Unit {0}

-- "A book is accepted if it passes 11 to 16, a network if it passes 1 to 6."
abbrev pub AcceptedInput : Input → Type 0
AcceptedInput (network N) = AcceptedNet N
AcceptedInput (book s) = book_refusal s ≡ 0

pub record ExampleHolds (e : Example) : Type 0 where
  pub accepted : AcceptedInput e.input
  pub lists : list_of e.input ≡ e.items
  pub answers : shown (first? (list_of e.input)) nothing ≡ e.answer
  pub answer_costs : answer_cost e.input (first? (list_of e.input)) ≡ e.cost
  pub costs : (l : List ℕ) → l ∈ e.items → cost_in e.input l ≡ e.cost
  pub priced : Priced e.input (first? (list_of e.input)) e.prices

-- "One node, balance 0, no arcs: one flow, empty, cost 0."
abbrev pub no_arcs : Example
no_arcs = record {
  input = network (net_of (pos 0 ∷ []) []);
  items = [] ∷ [];
  answer = item [];
  cost = pos 0;
  prices = pos 0 ∷ [];
  walks = [] ∷ [];
}

-- "Balance 1: none."
abbrev pub unbalanced : Example
unbalanced = record {
  input = network (net_of (pos 1 ∷ []) []);
  items = [];
  answer = nothing;
  cost = pos 0;
  prices = [];
  walks = [];
}

-- "One node, a loop 0..2, cost 0: flows 0, 1, 2."
abbrev pub loop : Example
loop = record {
  input = network (net_of (pos 0 ∷ []) (pos 0 ∷ pos 0 ∷ pos 0 ∷ pos 2 ∷ pos 0 ∷ []));
  items = (0 ∷ []) ∷ (1 ∷ []) ∷ (2 ∷ []) ∷ [];
  answer = item (0 ∷ []);
  cost = pos 0;
  prices = pos 0 ∷ [];
  walks = [] ∷ [];
}

-- "Cost −3: only 2, cost −6."
abbrev pub cheap_loop : Example
cheap_loop = record {
  input = network (net_of (pos 0 ∷ []) (pos 0 ∷ pos 0 ∷ pos 0 ∷ pos 2 ∷ negsuc 2 ∷ []));
  items = (2 ∷ []) ∷ [];
  answer = item (2 ∷ []);
  cost = negsuc 5;
  prices = pos 0 ∷ [];
  walks = [] ∷ [];
}

-- "Balances 2, −2, two arcs 0→1, each 0..2, cost 1: (0,2), (1,1), (2,0), cost 2."
abbrev pub parallel : Example
parallel = record {
  input = network (net_of (pos 2 ∷ negsuc 1 ∷ []) (pos 0 ∷ pos 1 ∷ pos 0 ∷ pos 2 ∷ pos 1 ∷ pos 0 ∷ pos 1 ∷ pos 0 ∷ pos 2 ∷ pos 1 ∷ []));
  items = (0 ∷ 2 ∷ []) ∷ (1 ∷ 1 ∷ []) ∷ (2 ∷ 0 ∷ []) ∷ [];
  answer = item (0 ∷ 2 ∷ []);
  cost = pos 2;
  prices = negsuc 0 ∷ pos 0 ∷ [];
  walks = (3 ∷ []) ∷ [] ∷ [];
}

-- "Balances 0, 0, arcs 0→1 and 1→0, each 0..1, cost 0: (0,0), (1,1)."
abbrev pub opposite : Example
opposite = record {
  input = network (net_of (pos 0 ∷ pos 0 ∷ []) (pos 0 ∷ pos 1 ∷ pos 0 ∷ pos 1 ∷ pos 0 ∷ pos 1 ∷ pos 0 ∷ pos 0 ∷ pos 1 ∷ pos 0 ∷ []));
  items = (0 ∷ 0 ∷ []) ∷ (1 ∷ 1 ∷ []) ∷ [];
  answer = item (0 ∷ 0 ∷ []);
  cost = pos 0;
  prices = pos 0 ∷ pos 0 ∷ [];
  walks = [] ∷ [] ∷ [];
}

-- "Balances 2, −2, arcs 0→1 with 1..1, cost 5 and 0..3, cost 0: only (1,1), cost 5."
abbrev pub fixed_arc : Example
fixed_arc = record {
  input = network (net_of (pos 2 ∷ negsuc 1 ∷ []) (pos 0 ∷ pos 1 ∷ pos 1 ∷ pos 1 ∷ pos 5 ∷ pos 0 ∷ pos 1 ∷ pos 0 ∷ pos 3 ∷ pos 0 ∷ []));
  items = (1 ∷ 1 ∷ []) ∷ [];
  answer = item (1 ∷ 1 ∷ []);
  cost = pos 5;
  prices = pos 0 ∷ pos 0 ∷ [];
  walks = [] ∷ [] ∷ [];
}

-- "Arcs 0→1 (0..2, cost 1), 1→2 (0..2, cost 1), 2→0 (0..1, cost −3), balances 0: only (1,1,1), cost −1."
abbrev triangle : ℤ → Input
triangle last =
    network (net_of (pos 0 ∷ pos 0 ∷ pos 0 ∷ [])
    (pos 0 ∷ pos 1 ∷ pos 0 ∷ pos 2 ∷ pos 1 ∷ pos 1 ∷ pos 2 ∷ pos 0 ∷ pos 2 ∷ pos 1 ∷ pos 2 ∷ pos 0 ∷ pos 0 ∷ pos 1 ∷ last ∷ []))

abbrev pub negative_cycle : Example
negative_cycle = record {
  input = triangle (negsuc 2);
  items = (1 ∷ 1 ∷ 1 ∷ []) ∷ [];
  answer = item (1 ∷ 1 ∷ 1 ∷ []);
  cost = negsuc 0;
  prices = negsuc 1 ∷ negsuc 0 ∷ pos 0 ∷ [];
  walks = (1 ∷ 3 ∷ []) ∷ (3 ∷ []) ∷ [] ∷ [];
}

-- "Last cost −2: (0,0,0) and (1,1,1); prices −2, −1, 0."
abbrev pub zero_cycle : Example
zero_cycle = record {
  input = triangle (negsuc 1);
  items = (0 ∷ 0 ∷ 0 ∷ []) ∷ (1 ∷ 1 ∷ 1 ∷ []) ∷ [];
  answer = item (0 ∷ 0 ∷ 0 ∷ []);
  cost = pos 0;
  prices = negsuc 1 ∷ negsuc 0 ∷ pos 0 ∷ [];
  walks = (4 ∷ []) ∷ (0 ∷ 4 ∷ []) ∷ [] ∷ [];
}

-- "The book above."
abbrev pub two_players : Example
two_players = record {
  input = book (bytes "(book\n(players 2)\n(fee 6)\n(move 1 2 24 3)\n(move 2 1 24 3)\n(entry (name snare) 1 0 96)\n(entry (name xylo) 2 120 200)\n(entry (name snare2) 1 240 300)\n)\n");
  items = (0 ∷ 0 ∷ 1 ∷ []) ∷ (0 ∷ 1 ∷ 2 ∷ []) ∷ [];
  answer = item (0 ∷ 0 ∷ 1 ∷ []);
  cost = pos 12;
  prices = [];
  walks = [];
}

-- "With one player: only 0 1 2."
abbrev pub one_player : Example
one_player = record {
  input = book (bytes "(book\n(players 1)\n(fee 6)\n(move 1 2 24 3)\n(move 2 1 24 3)\n(entry (name snare) 1 0 96)\n(entry (name xylo) 2 120 200)\n(entry (name snare2) 1 240 300)\n)\n");
  items = (0 ∷ 1 ∷ 2 ∷ []) ∷ [];
  answer = item (0 ∷ 1 ∷ 2 ∷ []);
  cost = pos 12;
  prices = [];
  walks = [];
}

-- "With one player and snare ending at 97: none."
abbrev pub too_late : Example
too_late = record {
  input = book (bytes "(book\n(players 1)\n(fee 6)\n(move 1 2 24 3)\n(move 2 1 24 3)\n(entry (name snare) 1 0 97)\n(entry (name xylo) 2 120 200)\n(entry (name snare2) 1 240 300)\n)\n");
  items = [];
  answer = nothing;
  cost = pos 0;
  prices = [];
  walks = [];
}

-- 02, request 1: two entries on the timpani with a change of mallets between them that takes a tick too many
abbrev pub mallets_too_short : Example
mallets_too_short = record {
  input = book (bytes "(book\n(players 2)\n(fee 20)\n(move 1 1 48 2)\n(entry (name roll) 1 0 96)\n(entry (name strokes) 1 143 240)\n(entry (name roll2) 1 288 384)\n)\n");
  items = (0 ∷ 0 ∷ 1 ∷ []) ∷ (0 ∷ 0 ∷ 2 ∷ []) ∷ [];
  answer = item (0 ∷ 0 ∷ 1 ∷ []);
  cost = pos 42;
  prices = [];
  walks = [];
}

-- it fits to the tick
abbrev pub mallets_to_the_tick : Example
mallets_to_the_tick = record {
  input = book (bytes "(book\n(players 2)\n(fee 20)\n(move 1 1 48 2)\n(entry (name roll) 1 0 96)\n(entry (name strokes) 1 144 240)\n(entry (name roll2) 1 288 384)\n)\n");
  items = (0 ∷ 1 ∷ 2 ∷ []) ∷ [];
  answer = item (0 ∷ 1 ∷ 2 ∷ []);
  cost = pos 24;
  prices = [];
  walks = [];
}

-- it costs more than a player
abbrev pub mallets_cost : Example
mallets_cost = record {
  input = book (bytes "(book\n(players 2)\n(fee 20)\n(move 1 1 48 25)\n(entry (name roll) 1 0 96)\n(entry (name strokes) 1 144 240)\n(entry (name roll2) 1 288 384)\n)\n");
  items = (0 ∷ 0 ∷ 1 ∷ []) ∷ (0 ∷ 0 ∷ 2 ∷ []) ∷ (0 ∷ 1 ∷ 0 ∷ []) ∷ [];
  answer = item (0 ∷ 0 ∷ 1 ∷ []);
  cost = pos 65;
  prices = [];
  walks = [];
}

-- it bears on no other instrument
abbrev pub mallets_timpani_alone : Example
mallets_timpani_alone = record {
  input = book (bytes "(book\n(players 2)\n(fee 20)\n(move 1 1 48 2)\n(entry (name roll) 1 0 96)\n(entry (name strokes) 1 144 240)\n(entry (name snare) 2 0 96)\n(entry (name snare2) 2 96 192)\n)\n");
  items = (0 ∷ 1 ∷ 0 ∷ 3 ∷ []) ∷ [];
  answer = item (0 ∷ 1 ∷ 0 ∷ 3 ∷ []);
  cost = pos 42;
  prices = [];
  walks = [];
}

-- 02, request 5: from the bells (1) to the cymbal (2) in one entry, then back to the bells, which wants a move from 2 to 1
abbrev pub bells_to_cymbal : Example
bells_to_cymbal = record {
  input = book (bytes "(book\n(players 2)\n(fee 20)\n(move 2 1 48 2)\n(entry (name swell) 1 2 0 96)\n(entry (name crash) 2 96 144)\n(entry (name peal) 1 192 288)\n)\n");
  items = (0 ∷ 1 ∷ 2 ∷ []) ∷ [];
  answer = item (0 ∷ 1 ∷ 2 ∷ []);
  cost = pos 22;
  prices = [];
  walks = [];
}

-- without it no one who has played the cymbal is back in time: where the first entry began is no help
abbrev pub bells_to_cymbal_no_move : Example
bells_to_cymbal_no_move = record {
  input = book (bytes "(book\n(players 2)\n(fee 20)\n(move 1 2 48 2)\n(entry (name swell) 1 2 0 96)\n(entry (name crash) 2 96 144)\n(entry (name peal) 1 192 288)\n)\n");
  items = (0 ∷ 1 ∷ 0 ∷ []) ∷ [];
  answer = item (0 ∷ 1 ∷ 0 ∷ []);
  cost = pos 40;
  prices = [];
  walks = [];
}

abbrev pub example_table : List Example
example_table =
    no_arcs ∷ unbalanced ∷ loop ∷ cheap_loop ∷ parallel ∷ opposite ∷ fixed_arc ∷ negative_cycle ∷ zero_cycle ∷ two_players ∷ one_player ∷ too_late
    ∷ mallets_too_short ∷ mallets_to_the_tick ∷ mallets_cost ∷ mallets_timpani_alone ∷ bells_to_cymbal ∷ bells_to_cymbal_no_move ∷ []

-- the same as tests
abbrev is_small : ℕ → ℤ → Bool
is_small n z = le_z (neg_ℤ (pos n)) z && le_z z (pos n)

abbrev arc_passes : Net → ℕ → Bool
arc_passes N a =
    ltb (flows.tail N a) (nodes N) && (ltb (flows.head N a) (nodes N)
    && (leb (flows.low N a) (flows.up N a) && (leb (flows.up N a) 1000000 && is_small 1000000 (flows.cost N a))))

abbrev has_lengths : Net → Bool
has_lengths N =
    eqb (length N.heads) (arcs N) && (eqb (length N.lows) (arcs N) && (eqb (length N.ups) (arcs N) && eqb (length N.costs) (arcs N)))

abbrev has_size : Net → Bool
has_size N = leb 1 (nodes N) && (leb (nodes N) 64 && leb (arcs N) 512)

abbrev passes : Input → Bool
passes (network N) = has_lengths N && (has_size N && (all_below (arcs N) (arc_passes N) && all_below (nodes N) (λ v. is_small 1000000000 (flows.balance N v))))
passes (book s) = eqb (book_refusal s) 0

abbrev same_answer : Option (List ℕ) → Reading (List ℕ) → Bool
same_answer none (refused n) = false
same_answer none nothing = true
same_answer none end = false
same_answer none (item w) = false
same_answer (some v) (refused n) = false
same_answer (some v) nothing = false
same_answer (some v) end = false
same_answer (some v) (item w) = test (same_list v w)

abbrev priced_by : Input → Option (List ℕ) → List ℤ → List (List ℕ) → Bool
priced_by (network N) (some f) ps ws = eqb (length ps) (nodes N) && certifies N f ps ws
priced_by (network N) none ps ws = true
priced_by (book s) o ps ws = true

unfoldable right : Example → Bool
right e =
    let i = e.input in
    let L = list_of i in
    passes i
    && (test (same_lists same_list L e.items)
    && (same_answer (first? L) e.answer
    && (eq_z (answer_cost i (first? L)) e.cost
    && (all (λ l. eq_z (cost_in i l) e.cost) e.items
    && priced_by i (first? L) e.prices e.walks))))

is_small_lem : (n : ℕ) (z : ℤ) → is_small n z ≡ true → (neg_ℤ (pos n) ≤ℤ z) × (z ≤ℤ pos n)
is_small_lem n z e = let (a, b) = and_true (le_z (neg_ℤ (pos n)) z) _ e in (le_z_true _ _ a, le_z_true _ _ b)

record ArcPasses (N : Net) (a : ℕ) : Type 0 where
  tail_in : flows.tail N a < nodes N
  head_in : flows.head N a < nodes N
  low_up : flows.low N a ≤ flows.up N a
  up_small : flows.up N a ≤ 1000000
  cost_small : (neg_ℤ (pos 1000000) ≤ℤ flows.cost N a) × (flows.cost N a ≤ℤ pos 1000000)

arc_passes_lem : (N : Net) (a : ℕ) → arc_passes N a ≡ true → ArcPasses N a
arc_passes_lem N a e =
    let (t, e1) = and_true (ltb (flows.tail N a) (nodes N)) _ e in
    let (h, e2) = and_true (ltb (flows.head N a) (nodes N)) _ e1 in
    let (l, e3) = and_true (leb (flows.low N a) (flows.up N a)) _ e2 in
    let (u, c) = and_true (leb (flows.up N a) 1000000) _ e3 in
    record { tail_in = ltb-true _ _ t; head_in = ltb-true _ _ h; low_up = leb-true _ _ l; up_small = leb-true _ _ u; cost_small = is_small_lem 1000000 (flows.cost N a) c }

passed : (i : Input) → passes i ≡ true → AcceptedInput i
passed (book s) e = eqb-true (book_refusal s) 0 e
passed (network N) e =
    let (lengths, e1) = and_true (has_lengths N) _ e in
    let (sizes, e2) = and_true (has_size N) _ e1 in
    let (each, balances) = and_true (all_below (arcs N) (arc_passes N)) _ e2 in
    let (h, l1) = and_true (eqb (length N.heads) (arcs N)) _ lengths in
    let (l, l2) = and_true (eqb (length N.lows) (arcs N)) _ l1 in
    let (u, c) = and_true (eqb (length N.ups) (arcs N)) _ l2 in
    let (s, s1) = and_true (leb 1 (nodes N)) _ sizes in
    let (n, m) = and_true (leb (nodes N) 64) _ s1 in
    let arc : (a : ℕ) → a < arcs N → ArcPasses N a = λ a k. arc_passes_lem N a (all_below_lem (arcs N) (arc_passes N) each a k) in
    record {
      well_formed = record {
        heads_len = eqb-true _ _ h;
        lows_len = eqb-true _ _ l;
        ups_len = eqb-true _ _ u;
        costs_len = eqb-true _ _ c;
        tail_in = λ a k. (arc a k).tail_in;
        head_in = λ a k. (arc a k).head_in;
      };
      some_node = leb-true _ _ s;
      few_nodes = leb-true _ _ n;
      few_arcs = leb-true _ _ m;
      low_up = λ a k. (arc a k).low_up;
      up_small = λ a k. (arc a k).up_small;
      cost_small = λ a k. (arc a k).cost_small;
      balance_small = λ v k. is_small_lem 1000000000 (flows.balance N v) (all_below_lem (nodes N) (λ v. is_small 1000000000 (flows.balance N v)) balances v k);
    }

same_answer_lem : (o : Option (List ℕ)) (a : Reading (List ℕ)) → same_answer o a ≡ true → shown o nothing ≡ a
same_answer_lem none (refused n) e = absurd (let z : ◌≡◌ {A = ℕ} 0 1 = cc in omega arith)
same_answer_lem none nothing e = refl
same_answer_lem none end e = absurd (let z : ◌≡◌ {A = ℕ} 0 1 = cc in omega arith)
same_answer_lem none (item w) e = absurd (let z : ◌≡◌ {A = ℕ} 0 1 = cc in omega arith)
same_answer_lem (some v) (refused n) e = absurd (let z : ◌≡◌ {A = ℕ} 0 1 = cc in omega arith)
same_answer_lem (some v) nothing e = absurd (let z : ◌≡◌ {A = ℕ} 0 1 = cc in omega arith)
same_answer_lem (some v) end e = absurd (let z : ◌≡◌ {A = ℕ} 0 1 = cc in omega arith)
same_answer_lem (some v) (item w) e = ap item (test_yes (same_list v w) e)

priced_by_lem : (i : Input) (o : Option (List ℕ)) (ps : List ℤ) (ws : List (List ℕ)) → priced_by i o ps ws ≡ true → Priced i o ps
priced_by_lem (network N) (some f) ps ws e = let (a, b) = and_true (eqb (length ps) (nodes N)) _ e in (eqb-true _ _ a, prices N f ps ws b)
priced_by_lem (network N) none ps ws e = tt
priced_by_lem (book s) o ps ws e = tt

right_holds : (e : Example) → right e ≡ true → ExampleHolds e
unfolding right
right_holds e q =
    let i = e.input in
    let L = list_of i in
    let (a, q1) = and_true (passes i) _ q in
    let (b, q2) = and_true (test (same_lists same_list L e.items)) _ q1 in
    let (c, q3) = and_true (same_answer (first? L) e.answer) _ q2 in
    let (d, q4) = and_true (eq_z (answer_cost i (first? L)) e.cost) _ q3 in
    let (f, g) = and_true (all (λ l. eq_z (cost_in i l) e.cost) e.items) _ q4 in
    record {
      accepted = passed i a;
      lists = test_yes (same_lists same_list L e.items) b;
      answers = same_answer_lem (first? L) e.answer c;
      answer_costs = eq_z_true (answer_cost i (first? L)) e.cost d;
      costs = λ l m. eq_z_true (cost_in i l) e.cost (all_member (λ l. eq_z (cost_in i l) e.cost) e.items f l m);
      priced = priced_by_lem i (first? L) e.prices e.walks g;
    }

all_right : all right example_table ≡ true
unfolding right full_list flow_list at ℕ_discrete way_list full_ways bytes then_read ◌>>=◌ ◌>>◌ ◌<|>◌ give guard remaining begins text front run value_from number word row more up_to many move long_form short_form entry opening form.book whole parse lines.moves lines.all_pass
all_right = refl

pub examples : (e : Example) → e ∈ example_table → ExampleHolds e
examples e m = right_holds e (all_member right example_table all_right e m)
