-- The places of an enumerator that are no item.
use Rattle.std.proofs.Common.{◌≡◌, ◌≢◌, refl}
use Rattle.flow_enumerate.specs.Enumerator.{word_after}
use Rattle.flow_enumerate.specs.declared.Place.{Place}
use Rattle.flow_enumerate.specs.declared.Place.TheVariants.{Start, Item, None, End}
use Rattle.flow_enumerate.proofs.Steps.{NoItem}

pub no_item_at : (p : Place) → p ≢ Item → NoItem p
no_item_at Start k f = refl
no_item_at Item k f = absurd (k refl)
no_item_at None k f = refl
no_item_at End k f = refl

pub word_at : (p : Place) → p ≢ Item → word_after p ≡ p
word_at Start k = refl
word_at Item k = absurd (k refl)
word_at None k = refl
word_at End k = refl
