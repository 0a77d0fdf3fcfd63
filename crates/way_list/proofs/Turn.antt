-- One way written, and the enumerator one item on.
use mathlib.Core.Path.{◌≡◌, sym, ap, subst, ◌∙◌}
use Prim.Native.Nat.{ℕ, ◌+◌}
use Rattle.flow_enumerate.specs.declared.Place.{Place}
use Rattle.flow_enumerate.specs.declared.Place.TheVariants.{Item}
use Rattle.text_write.specs.declared.Writer.{Writer}
use Rattle.book_form.specs.Book.{Book}
use Rattle.way_enumerate.specs.WayEnumerator.{Enumerates, way_at, way_after, WaySteps}
use Rattle.way_enumerate.specs.declared.WayEnumerator.{WayEnumerator}
use Rattle.way_list.specs.WayListing.{ListsOne}
use Rattle.way_list.proofs.Progress.{ListedSoFar, goes_on}
use Rattle.way_list.proofs.Standing.{standing_way, on_way}

pub step : (b : Book) (before : Writer) (w : WayEnumerator) (now : Writer) (n : ℕ) → w.flows.place ≡ Item → Enumerates b w × ListedSoFar b before (way_at b w) now n
    → (after : Writer) → ListsOne w now after → (w' : WayEnumerator) (p : Place) → WaySteps w p (λ b. way_after b (way_at b w)) w'
    → Enumerates b w' × ListedSoFar b before (way_at b w') after (n + 1)
step b before w now n on (enumerates, p) after one w' word next =
    let a = next.each b enumerates in (
      a.enumerates,
      subst (λ o. ListedSoFar b before o after (n + 1)) (sym (a.way_is ∙ ap (way_after b) (on_way b w on)))
          (goes_on b before now n (standing_way b w) (subst (λ o. ListedSoFar b before o now n) (on_way b w on) p) (one.each b enumerates (standing_way b w) (on_way b w on))),
    )
