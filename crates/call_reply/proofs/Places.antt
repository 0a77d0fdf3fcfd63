-- Whether an enumerator stands on an item, and the item of its flow.
use mathlib.Core.Path.{◌≡◌, refl, ap}
use mathlib.Core.Bool.{Bool, true, false}
use mathlib.Core.List.{List}
use mathlib.Core.Logic.{◌≢◌}
use mathlib.Core.Option.{none, some}
use Prim.Native.Nat.{ℕ}
use native.Mathlib.Omega.{arith}
use Rattle.flow_enumerate.specs.declared.Place.{Place}
use Rattle.flow_enumerate.specs.declared.Place.TheVariants.{Start, Item, None, End}
use Rattle.flow_enumerate.specs.Enumerator.{item_at}
use Rattle.call_reply.specs.Replies.{on_item}

pub no_item_by_test : (p : Place) (f : List ℕ) → on_item p ≡ false → item_at p f ≡ none
no_item_by_test Start f e = refl
no_item_by_test Item f e = absurd (let z : ◌≡◌ {A = ℕ} 0 1 = cc in omega arith)
no_item_by_test None f e = refl
no_item_by_test End f e = refl

pub is_item : (p : Place) → on_item p ≡ true → p ≡ Item
is_item Item e = refl
is_item Start e = absurd (let z : ◌≡◌ {A = ℕ} 0 1 = cc in omega arith)
is_item None e = absurd (let z : ◌≡◌ {A = ℕ} 0 1 = cc in omega arith)
is_item End e = absurd (let z : ◌≡◌ {A = ℕ} 0 1 = cc in omega arith)

pub an_item : (p : Place) (f : List ℕ) → on_item p ≡ true → item_at p f ≡ some f
an_item p f e = ap (λ q. item_at q f) (is_item p e)

pub no_item_by_place : (p : Place) (f : List ℕ) → p ≢ Item → item_at p f ≡ none
no_item_by_place p f n = go (on_item p) refl
  where
    go : (t : Bool) → on_item p ≡ t → item_at p f ≡ none
    go true h = absurd (n (is_item p h))
    go false h = no_item_by_test p f h
