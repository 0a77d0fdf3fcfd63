-- Runs of three calls: first; next, given what was written; next with a list that is not on the full list.
use mathlib.Core.Path.{◌≡◌, refl, sym, ap, ◌∙◌}
use mathlib.Core.List.{List, [], ◌∷◌, ◌++◌, append-nil}
use mathlib.Core.Logic.{inl, inr}
use mathlib.Core.Option.{Option, none, some}
use Prim.Native.Nat.{ℕ, zero, suc, ◌*◌, ◌/◌, ◌≤◌}
use native.Mathlib.Omega.{arith}
use lib.IntN.{ℤ, nat_abs}
use lib.ListN.{length, take, drop, length-map, length-append}
use lib.Seq.{drop-length}
use Rattle.laws.specs.Members.{◌∈◌, first?, first_member}
use Rattle.laws.specs.Rules.{first, next, Rules}
use Rattle.laws.specs.Seen.{nothing, item, Seen, Shows}
use Rattle.laws.specs.Run.{shown, written, respond, respond_unless, Answers, Strange, AsRead, Readable, run_is_read}
use Rattle.bytes_read.specs.Words.{encode_words, over, ints}
use Rattle.bytes_read.proofs.Words.{length_ints, length_encode}
use Rattle.net_model.specs.declared.Row.{Row}
use Rattle.net_model.specs.Network.{arcs}
use Rattle.net_model.specs.Input.{rows}
use Rattle.call_flow_bytes.specs.NetworkBytes.{net}
use Rattle.call_network.specs.NetworkCalls.{Lent, NetCall}
use Rattle.call_network.specs.NetworkRules.{network_rules}
use Rattle.call_network.proofs.NetworkRun.{accepts, full, network_readable}
use Rattle.way_theory.specs.BookBytes.{entry_count}
use Rattle.call_book.specs.BookCalls.{BookCall}
use Rattle.call_book.specs.BookRules.{book_rules}
use Rattle.call_book.proofs.BookRun.{full as full_ways_lem, accepts as accepts-book, book_readable}
use Rattle.demands.specs.Demands.{RunFlowsDemands, RunWaysDemands, made_of}

module _ {Item F G N Lists : Type 0} (R : Rules Item F G N Lists) where
  -- a call of first with number 0 wrote an item
  record FirstItem (l : F) (s : Seen Lists) : Type 0 where
    item_is : Item
    member : item_is ∈ R.full_list
    passes : R.question (first l) ≡ 0
    last_written : written none (respond R (first l)) ≡ some item_is
    shows : Shows R (first l) (item item_is) s

  first_item : (l : F) (s : Seen Lists) → Answers R (first l) s → s.number ≡ 0 → FirstItem l s
  first_item l s h z = go (R.question (first l)) refl h
    where
      wrote : (o : Option Item) → first? R.full_list ≡ o → R.question (first l) ≡ 0 → Shows R (first l) (shown o nothing) s → FirstItem l s
      wrote none q e k = absurd (omega (arith, z, k.number_is))
      wrote (some v) q e k = record { item_is = v; member = first_member R.full_list v q; passes = e; last_written = rw (e, q) refl; shows = k }

      go : (n : ℕ) → R.question (first l) ≡ n → Shows R (first l) (respond_unless R n (first l)) s → FirstItem l s
      go (suc k) e h = absurd (omega (arith, z, h.number_is))
      go zero e h = wrote (first? R.full_list) refl e h

  module _ (readable : Readable R) (l : F) (s : Seen Lists) (h : Answers R (first l) s) where
    one : AsRead R ((first l, s) ∷ [])
    one = run_is_read R readable ((first l, s) ∷ []) (tt, tt) (h, tt)

    -- the run of three calls, each of which keeps its contract, if the second one is given what the first one wrote
    module _ (p g : G) (b d : N) (t u : Seen Lists) (i : Answers R (next p b) t) (j : Answers R (next g d) u) (z : s.number ≡ 0)
        (copies : (v : Item) → v ∈ R.full_list → R.question (first l) ≡ 0 → Shows R (first l) (item v) s → R.copy v ≡ p) (away : Strange R g) where
      three : AsRead R ((first l, s) ∷ (next p b, t) ∷ (next g d, u) ∷ [])
      three =
          let f = first_item l s h z in
          run_is_read R readable ((first l, s) ∷ (next p b, t) ∷ (next g d, u) ∷ [])
          (tt, (inl (f.item_is, f.last_written, copies f.item_is f.member f.passes f.shows), (inr away, tt)))
          (h, (i, (j, tt)))

-- ---- networks
rows_many : (l : List ℤ) → length (rows l) ≡ length l / 5
rows_many [] = refl
rows_many (a ∷ []) = refl
rows_many (a ∷ b ∷ []) = refl
rows_many (a ∷ b ∷ c ∷ []) = refl
rows_many (a ∷ b ∷ c ∷ d ∷ []) = refl
rows_many (a ∷ b ∷ c ∷ d ∷ e ∷ l) = let q = rows_many l in omega arith

-- the bytes of a flow: four for each arc, of twenty bytes
flow_bytes : (bs xs : List ℕ) → 4 * arcs (net bs xs) ≡ length xs / 20 * 4
flow_bytes bs xs = omega (arith, length-map (rows (ints xs)) (λ (r : Row). nat_abs r.tail), rows_many (ints xs), length_ints xs)

module _ (bs xs : List ℕ) (l : Lent) (s : Seen Lent) (h : Answers (network_rules bs xs) (first l) s) where
  -- first, where it writes nothing
  pub run_one : (g : List ℕ) (n : ℕ) (b c : NetCall × Seen Lent) → ¬ (n ≡ 0) → RunFlowsDemands bs xs g (made_of n (first l, s) b c)
  run_one g zero b c e = absurd (e refl)
  run_one g (suc n) b c e = record { read = λ _. one (network_rules bs xs) (network_readable bs xs) l s h }

  module _ (z : s.number ≡ 0) where
    -- the list has room for the flow
    pub flow_within : length xs / 20 * 4 ≤ length s.lists.flows
    flow_within =
        let f = first_item (network_rules bs xs) l s h z in
        let v = f.item_is in
        let q = f.shows.lists_are.flows_are in
        let c = (full bs xs (accepts bs xs (first l) f.passes)).long v f.member in
        omega (arith, flow_bytes bs xs, c, length_encode v, ap length q, length-append (encode_words v) (drop (length (encode_words v)) l.flows))

    -- the flow that was written, as it is taken from the list
    abbrev flow : List ℕ
    flow = take (length xs / 20 * 4) s.lists.flows

    module _ (g fs ls : List ℕ) (t u : Seen Lent) (i : Answers (network_rules bs xs) (next flow fs) t) (j : Answers (network_rules bs xs) (next g ls) u) where
      pub run_three : (n : ℕ) → n ≡ s.number → RunFlowsDemands bs xs g (made_of n (first l, s) (next flow fs, t) (next g ls, u))
      run_three (suc n) e = absurd (omega arith)
      run_three zero e = record {
        read = three (network_rules bs xs) (network_readable bs xs) l s h flow g fs ls t u i j z
            (λ v m e w. sym ((network_readable bs xs).takes (first l) v s.lists e m w.lists_are) ∙ ap (λ n. take n s.lists.flows) (flow_bytes bs xs));
      }

-- ---- books
module _ (s l : List ℕ) (t : Seen (List ℕ)) (h : Answers (book_rules s) (first l) t) where
  pub run_one_way : (g : List ℕ) (n : ℕ) (b c : BookCall × Seen (List ℕ)) → ¬ (n ≡ 0) → RunWaysDemands s l g (made_of n (first l, t) b c)
  run_one_way g zero b c e = absurd (e refl)
  run_one_way g (suc n) b c e = record { read = λ _ _. one (book_rules s) (book_readable s) l t h }

  module _ (z : t.number ≡ 0) (g fs ls : List ℕ) (u v : Seen (List ℕ)) (i : Answers (book_rules s) (next t.lists fs) u) (j : Answers (book_rules s) (next g ls) v) where
    pub run_three_ways : (n : ℕ) → n ≡ t.number → RunWaysDemands s l g (made_of n (first l, t) (next t.lists fs, u) (next g ls, v))
    run_three_ways (suc n) e = absurd (omega arith)
    run_three_ways zero e = record {
      read = λ x. three (book_rules s) (book_readable s) l t h t.lists g fs ls u v i j z
          (λ w m e q. whole x w ((full_ways_lem s (accepts-book s (first l) e)).long w m) q.lists_are);
    }
      where
        -- a list of just E numbers that a way was written to holds the way
        whole : length l ≡ 4 * entry_count s → (w : List ℕ) → length w ≡ entry_count s → t.lists ≡ over (encode_words w) l → encode_words w ≡ t.lists
        whole x w e q =
            let long : length (encode_words w) ≡ length l = omega (arith, x, e, length_encode w) in
            sym (q ∙ ap (λ n. encode_words w ++ drop n l) long ∙ ap (λ r. encode_words w ++ r) (drop-length l) ∙ append-nil (encode_words w))
