-- The given bytes of `next`, and the numbers that they are.
use mathlib.Core.Path.{◌≡◌, refl, sym, ap, ◌∙◌}
use mathlib.Core.Bool.{Bool, true, false, cond}
use mathlib.Core.List.{List}
use mathlib.Core.Logic.{◌≢◌}
use mathlib.Core.Option.{Option, none, some}
use Prim.Native.Nat.{ℕ, ◌*◌, ◌≤◌, ◌<◌}
use native.Mathlib.Omega.{arith}
use lib.ListN.{length, take}
use lib.Seq.{take_all}
use Rattle.laws.specs.Members.{◌∈◌, Every, none_some}
use Rattle.laws.specs.Padded.{padded, take_padded}
use Rattle.bytes_read.specs.Words.{words}
use Rattle.bytes_read.proofs.Words.{length_words}
use Rattle.call_reply.specs.ByteLists.{listed}
use Rattle.flow_enumerate.specs.declared.Place.{Place}
use Rattle.flow_enumerate.specs.declared.Place.TheVariants.{Item}
use Rattle.call_reply.specs.Replies.{on_item}
use Rattle.call_reply.proofs.Places.{is_item}
use Rattle.call_reply.proofs.Items.{FullOf, listed_item, item_listed}

differ : ¬ (false ≡ true)
differ e = let z : ◌≡◌ {A = ℕ} 0 1 = cc in omega arith

-- a state on no item, and on one
pub on_none : (b : Bool) (v : List ℕ) (o : Option (List ℕ)) → o ≡ cond b (some v) none → o ≡ none → b ≡ false
on_none true v o e q = absurd (none_some v (sym q ∙ e))
on_none false v o e q = refl

pub on_some : (b : Bool) (v f : List ℕ) (o : Option (List ℕ)) → o ≡ cond b (some v) none → o ≡ some f → (b ≡ true) × (o ≡ some v)
on_some true v f o e q = (refl, e)
on_some false v f o e q = absurd (none_some f (sym e ∙ q))

-- of k numbers, all are read
pub read_all : (k : ℕ) → k ≤ 512 → (g : List ℕ) → length g ≡ 4 * k → take k (padded 512 0 (take 512 (words g))) ≡ words g
read_all k h g e =
    let l : length (words g) ≡ k = rw (length_words g) (omega (arith, e)) in
    let t : take 512 (words g) ≡ words g = take_all 512 (words g) (omega (arith, l, h)) in
    ap (λ x. take k (padded 512 0 x)) t ∙ ap (λ n. take n (padded 512 0 (words g))) (sym l) ∙ take_padded 512 0 (words g)

-- what the question about the given list finds: the state, at place p, is on the item of the bytes, or on none
pub given_found : (k : ℕ) (L : List (List ℕ)) → FullOf k L → (g : List ℕ) → Every (λ b. b < 256) g → length g ≡ 4 * k → (p : Place) (o : Option (List ℕ))
    → (p ≡ Item → (o ≡ some (words g)) × (words g ∈ L)) → (p ≢ Item → (o ≡ none) × ¬ (words g ∈ L)) → o ≡ cond (listed g L) (some (words g)) none
given_found k L full g bytes e p o there away = go (on_item p) refl (listed g L) refl
  where
    go : (t : Bool) → on_item p ≡ t → (b : Bool) → listed g L ≡ b → o ≡ cond b (some (words g)) none
    go true h true q = (there (is_item p h)).0
    go true h false q = absurd (differ (sym q ∙ item_listed k L full g bytes e (there (is_item p h)).1))
    go false h true q = absurd ((away (λ l. differ (sym h ∙ ap on_item l))).1 (listed_item k L full g q).1)
    go false h false q = (away (λ l. differ (sym h ∙ ap on_item l))).0
