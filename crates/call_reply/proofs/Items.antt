-- Items of a full list as bytes: no two alike, and which bytes are an item.
use mathlib.Core.Path.{◌≡◌, refl, sym, ap, ◌∙◌}
use mathlib.Core.Bool.{Bool, true, false, ◌||◌}
use mathlib.Core.List.{List, [], ◌∷◌}
use mathlib.Core.Logic.{inl, inr, ◌↔◌}
use mathlib.Core.Option.{none, some}
use Prim.Native.Nat.{ℕ, suc, ◌*◌, ◌<◌}
use native.Mathlib.Omega.{arith}
use lib.ListN.{length, get_or, get_elem?, take, drop}
use lib.Seq.{take_at}
use Rattle.laws.specs.Members.{◌∈◌, Every, first?, every_member, at_member, none_some}
use Rattle.laws.specs.Tests.{test, or_left, or_right}
use Rattle.laws.specs.Equality.{same_list}
use Rattle.laws.specs.Lexicographic.{◌<lex◌, lex_irrefl, lex_trans}
use Rattle.laws.specs.Ascending.{Ascending, ascending_apart}
use Rattle.laws.specs.After.{after, after_same, Apart}
use Rattle.bytes_read.specs.Words.{words, encode_words, over}
use Rattle.bytes_read.proofs.Words.{words_encode, encode_words_lem, length_encode}
use Rattle.call_reply.specs.ByteLists.{listed}

pub every_at : (l : List ℕ) (B : ℕ) → ((a : ℕ) → a < length l → get_or l a 0 < B) → Every (λ n. n < B) l
every_at [] B h = tt
every_at (n ∷ l) B h = (h 0 (omega arith), every_at l B (λ a k. h (suc a) (omega arith)))

yes_test : {P : Type 0} (t : Dec P) → P → test t ≡ true
yes_test (yes h) p = refl
yes_test (no h) p = absurd (h p)

-- listed: some member has these bytes
pub listed_member : (g : List ℕ) (L : List (List ℕ)) → listed g L ≡ true → (v : List ℕ) × (v ∈ L) × (encode_words v ≡ g)
listed_member g [] e = absurd (let z : ◌≡◌ {A = ℕ} 0 1 = cc in omega arith)
listed_member g (v ∷ l) e = step (same_list (encode_words v) g) refl (listed_member g l)
  where
    step : (t : Dec (encode_words v ≡ g)) → same_list (encode_words v) g ≡ t → (listed g l ≡ true → (u : List ℕ) × (u ∈ l) × (encode_words u ≡ g))
        → (u : List ℕ) × (u ∈ (v ∷ l)) × (encode_words u ≡ g)
    step (yes p) q deep = (v, inl refl, p)
    step (no p) q deep = let (u, m, h) = deep (rw q at e) in (u, inr m, h)

pub member_listed : (g v : List ℕ) (L : List (List ℕ)) → v ∈ L → encode_words v ≡ g → listed g L ≡ true
member_listed g v [] m e = absurd m
member_listed g v (u ∷ l) (inl q) e = or_left (test (same_list (encode_words u) g)) (listed g l) (yes_test (same_list (encode_words u) g) (ap encode_words (sym q) ∙ e))
member_listed g v (u ∷ l) (inr m) e = or_right (test (same_list (encode_words u) g)) (listed g l) (member_listed g v l m e)

pub not_listed : (g : List ℕ) (L : List (List ℕ)) → ((i : ℕ) (v : List ℕ) → get_elem? L i ≡ some v → ¬ (encode_words v ≡ g)) → listed g L ≡ false
not_listed g [] h = refl
not_listed g (v ∷ l) h = step (same_list (encode_words v) g) (not_listed g l (λ i u e. h (suc i) u e))
  where
    step : (t : Dec (encode_words v ≡ g)) → listed g l ≡ false → test t || listed g l ≡ false
    step (yes p) e = absurd (h 0 v refl p)
    step (no p) e = e

-- the first item is one, and none comes before it
pub first_least : (l : List (List ℕ)) (f : List ℕ) → first? l ≡ some f → Ascending ◌<lex◌ l → (f ∈ l) × ((g : List ℕ) → g ∈ l → ¬ (g <lex f))
first_least [] f e h = absurd (none_some f e)
first_least (a ∷ l) f e h = let q : a ≡ f = cc in (inl (sym q), λ g m. rw (← q) (before g m))
  where
    before : (g : List ℕ) → g ∈ (a ∷ l) → ¬ (g <lex a)
    before g (inl p) k = lex_irrefl a (rw p at k)
    before g (inr m) k = lex_irrefl a (lex_trans a g a (every_member (◌<lex◌ a) l h.0 g m) k)

pub first_none : (l : List (List ℕ)) → (first? l ≡ none) ↔ (l ≡ [])
first_none [] = (λ e. refl, λ e. refl)
first_none (a ∷ l) = (λ e. absurd (none_some a (sym e)), λ e. ap first? e)

-- a full list: in order, each item of k numbers that fit 32 bits
pub record FullOf (k : ℕ) (L : List (List ℕ)) : Type 0 where
  pub ascends : Ascending ◌<lex◌ L
  pub long : (v : List ℕ) → v ∈ L → length v ≡ k
  pub small : (v : List ℕ) → v ∈ L → Every (λ n. n < 4294967296) v

module _ (k : ℕ) (L : List (List ℕ)) (full : FullOf k L) where
  pub item_words : (v : List ℕ) → v ∈ L → words (encode_words v) ≡ v
  item_words v m = words_encode v (full.small v m)

  pub items_apart : Apart encode_words L
  items_apart i j a b p q e =
      ascending_apart ◌<lex◌ lex_irrefl lex_trans L full.ascends i j a b p q
      (sym (item_words a (at_member L i a p)) ∙ ap words e ∙ item_words b (at_member L j b q))

  module _ (g : List ℕ) where
    -- bytes that are an item are those of its numbers
    pub listed_item : listed g L ≡ true → (length g ≡ 4 * k) × (words g ∈ L)
    listed_item e =
        let (v, m, q) = listed_member g L e in
        let w : words g ≡ v = ap words (sym q) ∙ item_words v m in
        (ap length (sym q) ∙ length_encode v ∙ ap (λ n. 4 * n) (full.long v m), rw w m)

    pub item_listed : Every (λ b. b < 256) g → length g ≡ 4 * k → words g ∈ L → listed g L ≡ true
    item_listed bytes e m = member_listed g (words g) L m (encode_words_lem g bytes (omega arith))

    -- the item after the bytes given is the item after their numbers
    pub after_given : listed g L ≡ true → after same_list encode_words g L ≡ after same_list (λ v. v) (words g) L
    after_given e =
        let (v, m, q) = listed_member g L e in
        let w : words g ≡ v = ap words (sym q) ∙ item_words v m in
        after_same same_list encode_words g same_list (λ f. f) (words g) L
        (λ a n. (λ p. sym (item_words a n) ∙ ap words p, λ p. ap encode_words (p ∙ w) ∙ q))

    -- bytes of another length are no item
    pub other_length : ¬ (length g ≡ 4 * k) → listed g L ≡ false
    other_length n = go (listed g L) refl
      where
        go : (t : Bool) → listed g L ≡ t → listed g L ≡ false
        go true e = absurd (n (listed_item e).0)
        go false e = e

-- the first bytes of a list that an item was written to are the item's
pub copy_written : (k : ℕ) (v out : List ℕ) → length v ≡ k → take (4 * k) (over (encode_words v) out) ≡ encode_words v
copy_written k v out e = take_at (encode_words v) (drop (length (encode_words v)) out) (4 * k) (omega (arith, length_encode v))
