-- A way read off the arcs that carry 1, one arc after another.
use mathlib.Core.Path.{◌≡◌, refl, sym, ap, ap₂, subst, ◌∙◌}
use mathlib.Core.Logic.{inl, inr}
use mathlib.Core.Bool.{Bool, true, false, cond}
use mathlib.Core.List.{List, [], ◌∷◌, ◌++◌, map}
use Prim.Native.Nat.{ℕ, zero, suc, ◌+◌, ◌*◌, ◌-◌, ◌/◌, ◌≤◌, ◌<◌}
use native.Mathlib.Omega.{arith}
use native.Mathlib.Nat.{suc_inj}
use native.Mathlib.Numerals.{add-one}
use lib.Dec.{eqb}
use borrow.Author.Tests.{eq-eqb, ne_eqb}
use lib.ListN.{length, get_or, set, take, drop, replicate, length-set, length-map, get_or-map, get_or-append}
use lib.Seq.{get_or-take, drop-cons, sets, sets-eq}
use Rattle.laws.specs.Members.{◌∈◌, every_member, get_or_member}
use Rattle.laws.specs.Ascending.{Ascending}
use Rattle.laws.specs.Padded.{drop_replicate}
use Rattle.net_model.specs.Struct.{blank_arc}
use Rattle.net_model.specs.declared.Arc.{Arc}
use Rattle.book_form.specs.Book.{Book}
use Rattle.way_theory.specs.Follow.{size}
use Rattle.way_theory.specs.Ways.{Joined}
use Rattle.way_theory.specs.BookNet.{BookArc, sources, join_arc, join_arcs, book_arcs}
use Rattle.way_theory.specs.WayFlow.{one_if_same, marked, join_flow}
use Rattle.way_theory.proofs.OneIfSame.{same_one, other_none, Above}
use Rattle.way_theory.proofs.Blocks.{sources_fall, source, join_flow_length, joins_member}
use Rattle.way_theory.proofs.Nodes.{no_book_arc, arcs_parts}
use Rattle.way_flow.specs.Arcs.{ArcEnds, IsWayOf}

-- an arc from t to h with x, noted in y
abbrev pub noted : ℕ → ℕ → ℕ → List ℕ → List ℕ
noted t h x y = cond (eqb x 1) (set y ((h - 1) / 2) (t / 2)) y

pub noted_one : (t h x : ℕ) (y z : List ℕ) → x ≡ 1 → z ≡ set y ((h - 1) / 2) (t / 2) → z ≡ noted t h x y
noted_one t h x y z e q = rw (eq-eqb x 1 e) q

pub noted_none : (t h x : ℕ) (y z : List ℕ) → ¬ (x ≡ 1) → z ≡ y → z ≡ noted t h x y
noted_none t h x y z e q = rw (ne_eqb x 1 e) q

pub noted_long : (t h x : ℕ) (y : List ℕ) → length (noted t h x y) ≡ length y
noted_long t h x y = go (eqb x 1)
  where
    go : (b : Bool) → length (cond b (set y ((h - 1) / 2) (t / 2)) y) ≡ length y
    go true = length-set y ((h - 1) / 2) (t / 2)
    go false = refl

-- the first n arcs noted
abbrev pub read : ℕ → List ℕ → List ℕ → List ℕ → List ℕ → List ℕ
read zero ts hs xs y = y
read (suc n) [] hs xs y = y
read (suc n) (t ∷ ts) [] xs y = y
read (suc n) (t ∷ ts) (h ∷ hs) [] y = y
read (suc n) (t ∷ ts) (h ∷ hs) (x ∷ xs) y = read n ts hs xs (noted t h x y)

-- k of n arcs are noted
module _ (ts hs xs : List ℕ) (n : ℕ) where
  pub record Noting (y : List ℕ) (k : ℕ) : Type 0 where
    pub upto : k ≤ n
    pub long : length y ≡ 28
    pub left : read (n - k) (drop k ts) (drop k hs) (drop k xs) y ≡ read n ts hs xs (replicate 28 0)

  pub noting_start : Noting (replicate 28 0) 0
  noting_start = record { upto = omega arith; long = refl; left = let z : n - 0 ≡ n = omega arith in rw z }

  pub noting_on : (y z : List ℕ) (k : ℕ) → Noting y k → k < n → k < length ts → k < length hs → k < length xs → length z ≡ length y → z ≡ noted (get_or ts k 0) (get_or hs k 0) (get_or xs k 0) y → Noting z (k + 1)
  noting_on y z k g h a b c l q = record {
    upto = omega arith;
    long = l ∙ g.long;
    left =
        let e : n - k ≡ suc (n - (k + 1)) = omega arith in
        let d : read (suc (n - (k + 1))) (get_or ts k 0 ∷ drop (suc k) ts) (get_or hs k 0 ∷ drop (suc k) hs) (get_or xs k 0 ∷ drop (suc k) xs) y ≡ read n ts hs xs (replicate 28 0) =
        rw (e, drop-cons ts k 0 a, drop-cons hs k 0 b, drop-cons xs k 0 c) at g.left in
        rw (q, add-one k) (subst (λ i. read (n - i) (drop (suc k) ts) (drop (suc k) hs) (drop (suc k) xs) (noted (get_or ts k 0) (get_or hs k 0) (get_or xs k 0) y) ≡ read n ts hs xs (replicate 28 0)) (add-one k) d);
  }

  pub noting_done : (y : List ℕ) (k : ℕ) → Noting y k → n ≤ k → y ≡ read n ts hs xs (replicate 28 0)
  noting_done y k g h = let z : n - k ≡ 0 = omega arith in rw z at g.left

-- arc by arc
abbrev read_arcs : List BookArc → List ℕ → List ℕ → List ℕ
read_arcs [] f y = y
read_arcs (a ∷ l) [] y = y
read_arcs (a ∷ l) (x ∷ f) y = read_arcs l f (noted a.tail a.head x y)

read_arcs_lem : (l r : List BookArc) (f g y : List ℕ) → length f ≡ length l → read (length l) (map (λ a. a.tail) (l ++ r)) (map (λ a. a.head) (l ++ r)) (f ++ g) y ≡ read_arcs l f y
read_arcs_lem [] r f g y e = refl
read_arcs_lem (a ∷ l) r [] g y e = absurd (omega arith)
read_arcs_lem (a ∷ l) r (x ∷ f) g y e = read_arcs_lem l r f g (noted a.tail a.head x y) (suc_inj e)

read_arcs_append : (l k : List BookArc) (f g y : List ℕ) → length f ≡ length l → read_arcs (l ++ k) (f ++ g) y ≡ read_arcs k g (read_arcs l f y)
read_arcs_append [] k [] g y e = refl
read_arcs_append [] k (x ∷ f) g y e = absurd (omega arith)
read_arcs_append (a ∷ l) k [] g y e = absurd (omega arith)
read_arcs_append (a ∷ l) k (x ∷ f) g y e = read_arcs_append l k f g (noted a.tail a.head x y) (suc_inj e)

module _ (b : Book) where
  -- a block: nothing behind the predecessor is noted
  block_none : (j p : ℕ) (l y : List ℕ) → ((a : ℕ) → a ∈ l → ¬ (a ≡ p)) → read_arcs (map (join_arc b j) l) (marked p l) y ≡ y
  block_none j p [] y h = refl
  block_none j p (a ∷ l) y h = rw (other_none a p (h a (inl refl))) (block_none j p l y (λ c m. h c (inr m)))

  block_one : (j p : ℕ) (l y : List ℕ) → 1 ≤ j → Ascending Above l → p ∈ l → read_arcs (map (join_arc b j) l) (marked p l) y ≡ set y (j - 1) p
  block_one j p [] y k h m = absurd m
  block_one j p (a ∷ l) y k h (inl q) =
      let u : (2 * j - 1 - 1) / 2 ≡ j - 1 = omega arith in
      let v : 2 * a / 2 ≡ p = omega arith in
      rw (same_one a p (sym q), u, v) (block_none j p l (set y (j - 1) p) (λ c n. (let g = every_member (Above a) l h.0 c n in λ z. omega arith)))
  block_one j p (a ∷ l) y k h (inr m) =
      let g = every_member (Above a) l h.0 p m in
      rw (other_none a p (λ z. omega arith)) (block_one j p l y k h.1 m)

  joins_read : (j : ℕ) (w y : List ℕ) → 1 ≤ j → Joined b j w → read_arcs (join_arcs b (length w) j) (join_flow b j w) y ≡ sets y (j - 1) w
  joins_read j [] y k h = refl
  joins_read j (p ∷ w) y k h =
      let s : suc j - 1 ≡ suc (j - 1) = omega arith in
      read_arcs_append (map (join_arc b j) (sources b j)) (join_arcs b (length w) (suc j)) (marked p (sources b j)) (join_flow b (suc j) w) y
      (length-map (sources b j) (λ i. one_if_same i p) ∙ sym (length-map (sources b j) (join_arc b j)))
      ∙ joins_read (suc j) w (read_arcs (map (join_arc b j) (sources b j)) (marked p (sources b j)) y) (omega arith) h.2
      ∙ ap₂ (λ i z. sets z i w) s (block_one j p (sources b j) y k (sources_fall b j) (source b j p h.0 h.1))

module _ (e : ℕ) (held : List Arc) where
  abbrev pub tails : List ℕ
  tails = map (λ (a : Arc). a.tail) held

  abbrev pub heads : List ℕ
  heads = map (λ (a : Arc). a.head) held

  pub joins_count : (b : Book) → ArcEnds b e held → length held ≡ length (join_arcs b (size b) 1) + (2 * e + 1)
  joins_count b h = sym (length-map held (λ (a : Arc). a.tail)) ∙ ap length h.tails_are ∙ length-map (book_arcs b) (λ a. a.tail) ∙ arcs_parts b ∙ ap (λ n. length (join_arcs b (size b) 1) + (2 * n + 1)) (sym h.entries_are)

  -- a join ends at the first node of an entry
  pub head_at : (b : Book) → ArcEnds b e held → (k : ℕ) → k < length held - (2 * e + 1) → (1 ≤ get_or heads k 0) × ((get_or heads k 0 - 1) / 2 < e)
  head_at b h k l =
      let n : k < length (join_arcs b (size b) 1) = omega (arith, joins_count b h) in
      let (i, j, s, t, u, q) = joins_member b (size b) 1 (get_or (join_arcs b (size b) 1) k no_book_arc) (get_or_member (join_arcs b (size b) 1) k no_book_arc n) in
      let x : get_or heads k 0 ≡ 2 * j - 1 =
      ap (λ l. get_or l k 0) h.heads_are ∙ get_or-map (λ a. a.head) (book_arcs b) k no_book_arc ∙ ap (λ a. a.head) (get_or-append (join_arcs b (size b) 1) _ no_book_arc k n ∙ q) in
      omega (arith, h.entries_are)

  -- arc k, of the first n of them
  pub tail_is : (n k : ℕ) → k < n → (get_or (take n held) k blank_arc).tail ≡ get_or tails k 0
  tail_is n k l = ap (λ (a : Arc). a.tail) (get_or-take n held k blank_arc l) ∙ sym (get_or-map (λ (a : Arc). a.tail) held k blank_arc)

  pub head_is : (n k : ℕ) → k < n → (get_or (take n held) k blank_arc).head ≡ get_or heads k 0
  head_is n k l = ap (λ (a : Arc). a.head) (get_or-take n held k blank_arc l) ∙ sym (get_or-map (λ (a : Arc). a.head) held k blank_arc)

  pub reads_way : (flow way : List ℕ) (n : ℕ) → n ≡ length held - (2 * e + 1) → way ≡ read n tails heads flow (replicate 28 0) → IsWayOf e held flow way
  reads_way flow way n c q = record {
    each = λ b h w v f.
        (let len = v.all_entries in
        let few = h.limits.few in
        let m : n ≡ length (join_arcs b (size b) 1) = omega (arith, joins_count b h) in
        let g : length (join_flow b 1 w) ≡ length (join_arcs b (size b) 1) = subst (λ k. length (join_flow b 1 w) ≡ length (join_arcs b k 1)) len (join_flow_length b 1 w) in
        let d : read_arcs (join_arcs b (size b) 1) (join_flow b 1 w) (replicate 28 0) ≡ sets (replicate 28 0) 0 w =
        subst (λ k. read_arcs (join_arcs b k 1) (join_flow b 1 w) (replicate 28 0) ≡ sets (replicate 28 0) 0 w) len (joins_read b 1 w (replicate 28 0) (omega arith) v.joined) in
        q ∙ rw (m, h.tails_are, h.heads_are, f) (read_arcs_lem (join_arcs b (size b) 1) _ (join_flow b 1 w) _ (replicate 28 0) g)
        ∙ d ∙ sets-eq w (replicate 28 0) 0 (omega arith) ∙ (let z : 0 + length w ≡ length w = omega arith in ap (λ l. w ++ l) (ap (λ k. drop k (replicate 28 0)) z ∙ drop_replicate (length w) 28 0)));
  }
