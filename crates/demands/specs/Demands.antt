-- The three demands, put to the entries that C calls. The functions of this crate call the entries and ensure what stands here: an entry that promises
-- less has a caller here that is not proved. n is always the number of the first question that a call fails, or 0.
use Rattle.std.specs.Prelude.{◌≡◌, true, List, [], ◌∷◌, ◌++◌, map, ◌⊎◌, ◌↔◌, ℕ, zero, suc, ◌+◌, ◌*◌, ◌-◌, ◌≤◌, ◌<◌, length, get_or, take, pos, ◌-ℤ◌, ◌≤ℤ◌}
use Rattle.std.proofs.Math.Option.{none, some}
use Rattle.std.proofs.Math.ListN.{get_elem?}
use Rattle.laws.specs.Members.{Every}
use Rattle.laws.specs.Image.{map_option}
use Rattle.laws.specs.Totals.{total, total_of}
use Rattle.laws.specs.Rules.{Call, first, next, Rules}
use Rattle.laws.specs.Seen.{Seen}
use Rattle.laws.specs.Run.{Run, Strange, ConsistentRun, Kept, AsRead}
use Rattle.laws.specs.Listing.{CompleteRun, ShowsFullList}
use Rattle.laws.specs.Count.{counted, count}
use Rattle.bytes_read.specs.Words.{words, over}
use Rattle.net_model.specs.Network.{nodes, arcs, cost_of, LeastCost}
use Rattle.net_model.specs.Accepted.{AcceptedNet}
use Rattle.net_model.specs.FullList.{full_list}
use Rattle.net_questions.specs.Questions.{network_refusal}
use Rattle.call_reply.specs.declared.Reply.{Reply}
use Rattle.call_reply.specs.Replies.{sees, count_reply}
use Rattle.call_reply.specs.ByteLists.{room}
use Rattle.call_flow_bytes.specs.NetworkBytes.{net}
use Rattle.call_network.specs.NetworkCalls.{Lent, lends, network_question}
use Rattle.call_network.specs.NetworkRules.{no_line, network_rules}
use Rattle.call_network.specs.FirstFlow.{FindsFlow, FindsNoFlow}
use Rattle.call_prices.specs.PriceCall.{prices_question, WroteCommonPrices}
use Rattle.book_lines.specs.declared.moves.Move.{Move}
use Rattle.book_lines.specs.Columns.{nobody}
use Rattle.book_form.specs.Book.{Book, parse}
use Rattle.book_form.specs.Questions.{book_refusal}
use Rattle.book_form.specs.Checked.{entries_of}
use Rattle.book_names.specs.declared.Span.{Span}
use Rattle.book_names.specs.Name.{name_refusal}
use Rattle.book_names.specs.BookNames.{spanned, name_start}
use Rattle.book_form.specs.LineTold.{line_told}
use Rattle.way_theory.specs.Follow.{size, entry_at, road, may_follow}
use Rattle.way_theory.specs.Ways.{times, IsWay, LeastCostWay}
use Rattle.way_theory.specs.FullWays.{numbers}
use Rattle.way_theory.specs.BookNet.{book_net}
use Rattle.way_theory.specs.WayFlow.{flow_of}
use Rattle.way_theory.specs.BookBytes.{ways, entry_count, way_cost_or_zero, way_cost_in}
use Rattle.call_book.specs.BookCalls.{book_question}
use Rattle.call_book.specs.BookRules.{book_rules}
use Rattle.call_book.specs.FirstWay.{FindsWay, FindsNoWay}
use Rattle.text_write.specs.Fit.{fit}
use Rattle.way_list.specs.WayListing.{list_ways}
use Rattle.call_listing.specs.Listing.{listing}
use Rattle.way_parts.specs.Parts.{parts}
use Rattle.way_parts.specs.Ticks.{ticks_of, FollowInTime}
use Rattle.way_sheets.specs.Sheets.{sheets}
use Rattle.call_spare.specs.SpareCall.{spare_question}
use Rattle.call_sheets.specs.SheetCalls.{room_question, sheets_question}

-- Demand 1. That every call ends and keeps to the memory lent to it is what the prover shows of every function. It "answers each bad book or network
-- with the number of the first question it fails and changes nothing, and refuses nothing else". s is what is seen of a call that is lent l; with each question goes
-- the line that is told (`line_told`).
pub record Demand1 {Lists : Type 0} (line_told : ℕ → ℕ) (n : ℕ) (l : Lists) (s : Seen Lists) : Type 0 where
  pub number_told : ¬ (n ≡ 0) → (s.number ≡ n) × (s.told ≡ line_told n)
  -- numbers from 100 on are words, "none", "end" and "more", and no question's
  pub nothing_else : n ≡ 0 → ((s.number ≡ 0) ⊎ (100 ≤ s.number)) × (s.told ≡ 0)
  -- "'None' and 'end' are no refusals; they too write nothing."
  pub changes_nothing : ¬ (s.number ≡ 0) → (s.cost ≡ pos 0) × (s.lists ≡ l)

-- Demand 3, of one call more: whatever calls of the entries were made before, each of which has kept its contract, this one keeps it too; if the run
-- is consistent, all its calls are answered as by the reader; if it is first and then next until there is no item, they show the full list.
pub record Demand3 {Item F G N Lists : Type 0} (R : Rules Item F G N Lists) (e : Call F G N × Seen Lists) : Type 0 where
  pub kept : (r : Run R) → Kept R r → Kept R (r ++ (e ∷ []))
  pub read : (r : Run R) → Kept R r → ConsistentRun R (r ++ (e ∷ [])) → AsRead R (r ++ (e ∷ []))
  pub lists : (r : Run R) → Kept R r → CompleteRun R (r ++ (e ∷ [])) → ShowsFullList R (r ++ (e ∷ []))

-- ---- networks, by the bytes of their balances and arcs
module _ (bs xs : List ℕ) where
  -- `first`, with or without prices. Demand 2: a least-cost flow before which none comes, or there is no flow.
  pub record FirstFlowDemands (l : Lent) (s : Seen Lent) : Type 0 where
    pub demand1 : Demand1 no_line (network_question bs xs (first l)) l s
    pub demand2 : network_question bs xs (first l) ≡ 0 → FindsFlow bs xs l s ⊎ FindsNoFlow bs xs l s
    pub demand3 : Demand3 (network_rules bs xs) (first l, s)

  -- Where a list is lent for the prices of the first flow, they are those of every least-cost flow.
  pub record FirstPricesDemands (l : Lent) (s : Seen Lent) : Type 0 where
    pub prices : s.number ≡ 0 → (before after : List ℕ) → l.prices ≡ some before → s.lists.prices ≡ some after → WroteCommonPrices (net bs xs) before after

  pub record NextFlowDemands (g fs : List ℕ) (s : Seen Lent) : Type 0 where
    pub demand1 : Demand1 no_line (network_question bs xs (next g fs)) (lends fs none) s
    pub demand3 : Demand3 (network_rules bs xs) (next g fs, s)

  -- The flow given by g is a least-cost flow; the reply has its cost, and the list the prices of every least-cost flow.
  pub record FlowPriced (g ps : List ℕ) (r : Reply) (ps' : List ℕ) : Type 0 where
    pub least_cost : LeastCost (net bs xs) (words g)
    pub value_is : r.value ≡ cost_of (net bs xs) (words g)
    pub prices_are : WroteCommonPrices (net bs xs) ps ps'

  pub record PricesDemands (g ps : List ℕ) (r : Reply) (ps' : List ℕ) : Type 0 where
    pub demand1 : Demand1 no_line (prices_question bs xs g (length ps)) ps (sees r ps')
    pub priced : r.code ≡ 0 → FlowPriced g ps r ps'
    -- "What it accepts is judged as in question 8": in lists long enough for both, it fails the question that `next` fails
    pub judged_as_next : (fs : List ℕ) → room (arcs (net bs xs)) (length fs) ≡ true → room (nodes (net bs xs)) (length ps) ≡ true
        → prices_question bs xs g (length ps) ≡ network_question bs xs (next g fs)

  -- The first flow with its prices, and then the prices by any flow given: "the same numbers", to the byte, and the same cost.
  pub record PricesAgreeDemands (g : List ℕ) (l : Lent) (s : Seen Lent) (ps : List ℕ) (r : Reply) (ps' : List ℕ) : Type 0 where
    pub first_demands : FirstFlowDemands l s
    pub first_prices_demands : FirstPricesDemands l s
    pub prices_demands : PricesDemands g ps r ps'
    pub same_prices : s.number ≡ 0 → r.code ≡ 0 → (before after : List ℕ) → l.prices ≡ some before → s.lists.prices ≡ some after
        → take (4 * nodes (net bs xs)) ps' ≡ take (4 * nodes (net bs xs)) after
    pub same_cost : s.number ≡ 0 → r.code ≡ 0 → r.value ≡ s.cost
    -- where a flow is accepted, the first is found
    pub some_flow : r.code ≡ 0 → ¬ (s.number ≡ 100)

  -- Counts are exact up to the cap, and those of handing out items until the list ends or one beyond the cap is met.
  pub record CountFlowsDemands (cap : ℕ) (r : Reply) : Type 0 where
    pub demand1 : Demand1 {Lists = Unit {0}} no_line (network_refusal bs xs) tt (sees r tt)
    pub exact : network_refusal bs xs ≡ 0 → r ≡ count_reply (counted cap (length (full_list (net bs xs))))
    pub handed_out : network_refusal bs xs ≡ 0 → r ≡ count_reply (count (network_rules bs xs) cap)

  -- A run of three calls, or of one that writes no flow, is answered as by the reader, if g is not on the full list.
  pub record RunFlowsDemands (g : List ℕ) (r : Run (network_rules bs xs)) : Type 0 where
    pub read : Strange (network_rules bs xs) g → AsRead (network_rules bs xs) r

-- ---- books, by their bytes
module _ (s : List ℕ) where
  pub record FirstWayDemands (l : List ℕ) (t : Seen (List ℕ)) : Type 0 where
    pub demand1 : Demand1 (line_told s) (book_question s (first l)) l t
    pub demand2 : book_question s (first l) ≡ 0 → FindsWay s l t ⊎ FindsNoWay s l t
    pub demand3 : Demand3 (book_rules s) (first l, t)

  pub record NextWayDemands (g l : List ℕ) (t : Seen (List ℕ)) : Type 0 where
    pub demand1 : Demand1 (line_told s) (book_question s (next g l)) l t
    pub demand3 : Demand3 (book_rules s) (next g l, t)

  pub record CountWaysDemands (cap : ℕ) (r : Reply) : Type 0 where
    pub demand1 : Demand1 {Lists = Unit {0}} (line_told s) (book_refusal s) tt (sees r tt)
    pub exact : book_refusal s ≡ 0 → r ≡ count_reply (counted cap (length (ways s)))
    pub handed_out : book_refusal s ≡ 0 → r ≡ count_reply (count (book_rules s) cap)

  -- The same run of a book: the whole list lent to the first call, of E numbers, is given to the second.
  pub record RunWaysDemands (l g : List ℕ) (r : Run (book_rules s)) : Type 0 where
    pub read : length l ≡ 4 * entry_count s → Strange (book_rules s) g → AsRead (book_rules s) r

  -- Demand 3: "ways and flows match line by line". The network of the book is an accepted one, and its full list has the flow of each way in the
  -- way's place, at the way's cost, and nothing more.
  pub record MatchedItems : Type 0 where
    pub book : Book
    pub holds : parse s ≡ some book
    pub accepted : AcceptedNet (book_net book)
    pub items : (k : ℕ) → get_elem? (full_list (book_net book)) k ≡ map_option (flow_of book) (get_elem? (ways s) k)
    pub costs : (k : ℕ) (w : List ℕ) → get_elem? (ways s) k ≡ some w → cost_of (book_net book) (flow_of book w) ≡ way_cost_in s w

  -- The listing: "none" exactly without a way, and otherwise the text of the full list of ways, where the lent list has room for it.
  pub record ListWaysDemands (l : List ℕ) (r : Reply) (l' : List ℕ) : Type 0 where
    pub demand1 : Demand1 (line_told s) (book_refusal s) l (sees r l')
    pub none_exactly : book_refusal s ≡ 0 → (r.code ≡ 100) ↔ (ways s ≡ [])
    pub listed : r.code ≡ 0 → (r.value ≡ pos (length (listing s))) × (l' ≡ fit (listing s) l)
    pub text_is : book_refusal s ≡ 0 → listing s ≡ list_ways (way_cost_or_zero (parse s)) (ways s)

  -- The spare of the join from entry i to entry j: S of j less F of i and less the ticks of the move, or 103 where there is no move, as for an
  -- entry against itself. "Spare 0 or more means that j may follow."
  pub record SpareDemands (i j : ℕ) (r : Reply) : Type 0 where
    pub demand1 : Demand1 {Lists = Unit {0}} (line_told s) (spare_question s i j) tt (sees r tt)
    pub told : spare_question s i j ≡ 0 → (b : Book) → parse s ≡ some b → (m : Move) → road b i j ≡ some m
        → (r.code ≡ 0) × (r.value ≡ (pos (entry_at b j).start -ℤ pos (entry_at b i).finish) -ℤ pos m.ticks)
    pub no_move : spare_question s i j ≡ 0 → (b : Book) → parse s ≡ some b → road b i j ≡ none → r.code ≡ 103
    pub itself : spare_question s i j ≡ 0 → i ≡ j → r.code ≡ 103
    pub follows : spare_question s i j ≡ 0 → (b : Book) → parse s ≡ some b → (may_follow b i j ≡ true) ↔ ((r.code ≡ 0) × (pos 0 ≤ℤ r.value))

  -- The room of the sheets of the way given by g, which is a least-cost way: "exactly how many bytes the sheets will take"
  pub record SheetsMeasured (g : List ℕ) (r : Reply) : Type 0 where
    pub book : Book
    pub holds : parse s ≡ some book
    pub least_cost : LeastCostWay book (words g)
    pub value_is : r.value ≡ pos (length (sheets book (words g)))

  -- "the sheets of any of its ways take at most" 79 "bytes for each entry"
  pub record SheetsRoomDemands (g : List ℕ) (r : Reply) : Type 0 where
    pub demand1 : Demand1 {Lists = Unit {0}} (line_told s) (room_question s g) tt (sees r tt)
    pub measured : r.code ≡ 0 → SheetsMeasured g r
    pub at_most : book_refusal s ≡ 0 → (b : Book) → parse s ≡ some b → (w : List ℕ) → IsWay b w → length (sheets b w) ≤ 79 * entry_count s

  -- The sheets of the way given by g, which is a least-cost way, at the front of the lent list. "Every entry stands on exactly one sheet, and the ticks
  -- played on all sheets sum to those of the book."
  pub record SheetsWritten (g l : List ℕ) (r : Reply) (l' : List ℕ) : Type 0 where
    pub book : Book
    pub holds : parse s ≡ some book
    pub least_cost : LeastCostWay book (words g)
    pub value_is : r.value ≡ pos (length (sheets book (words g)))
    pub text_is : l' ≡ over (sheets book (words g)) l
    pub each_once : (j : ℕ) → 1 ≤ j → j ≤ size book → total (map (λ p. times j p) (parts (words g))) ≡ 1
    pub ticks : total (map (λ p. total_of (ticks_of book) p) (parts (words g))) ≡ total_of (ticks_of book) (numbers book)
    -- G and R of `(gap G R)` are 0 or more, R being the spare
    pub in_time : Every (FollowInTime book) (parts (words g))

  pub record SheetsDemands (g l : List ℕ) (r : Reply) (l' : List ℕ) : Type 0 where
    pub demand1 : Demand1 (line_told s) (sheets_question s g (length l)) l (sees r l')
    pub written : r.code ≡ 0 → SheetsWritten g l r l'

  -- The room p, and then the sheets r of the same way. "Once 11 to 16 and 18 are passed, refusal 21 comes in writing when the lent list is shorter than
  -- that and at no other time."
  pub record WriteInRoomDemands (g l : List ℕ) (p r : Reply) (l' : List ℕ) : Type 0 where
    pub room : SheetsRoomDemands g p
    pub sheets : SheetsDemands g l r l'
    pub refused : ¬ (p.code ≡ 0) → r ≡ p
    pub too_short : p.code ≡ 0 → (n : ℕ) → p.value ≡ pos n → length l < n → r.code ≡ 21
    pub enough : p.code ≡ 0 → (n : ℕ) → p.value ≡ pos n → n ≤ length l → r ≡ p

  -- The name of entry j, by two calls, p the part and n the number. "The name of an entry is given back as the part of the book that holds it. A refused
  -- name call gives the empty part, which no name is; a second call on the same book and entry gives the number of the refusal, or 0."
  pub record NameOfDemands (j : ℕ) (p : Span) (n : ℕ) : Type 0 where
    pub number_told : n ≡ name_refusal s j
    pub refused : ¬ (n ≡ 0) → p ≡ record { start = 0; length = 0 }
    pub named : n ≡ 0 → (spanned s p ≡ (get_or (entries_of (parse s)) (j - 1) nobody).name) × (0 < length (spanned s p)) × (p.start ≡ name_start s j)
    pub within : p.start + p.length ≤ length s

-- the calls that were made: all three, or, where the first one's number is not 0, only that
abbrev pub made_of : {E : Type 0} → ℕ → E → E → E → List E
made_of zero a b c = a ∷ b ∷ c ∷ []
made_of (suc n) a b c = a ∷ []
