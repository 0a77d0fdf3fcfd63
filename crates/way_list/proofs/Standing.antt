-- The way that an enumerator stands on: which it is, and how long its line is.
use mathlib.Core.Path.{◌≡◌, sym, ap, subst, ◌∙◌}
use mathlib.Core.List.{List}
use mathlib.Core.Option.{none, some}
use Prim.Native.Nat.{ℕ, ◌+◌, ◌≤◌, ◌<◌}
use native.Mathlib.Omega.{arith}
use lib.ListN.{length, take}
use Rattle.laws.specs.Image.{map_option}
use Rattle.laws.specs.Members.{every_map}
use Rattle.laws.specs.Padded.{take_padded}
use Rattle.flow_enumerate.specs.Enumerator.{state_flow, item_at}
use Rattle.flow_enumerate.specs.declared.Place.TheVariants.{Item}
use Rattle.flow_enumerate.proofs.Steps.{NoItem}
use Rattle.text_write.specs.declared.Writer.{Writer}
use Rattle.text_write.specs.Writing.{Writes}
use Rattle.text_listing.proofs.Sizes.{way_size}
use Rattle.book_form.specs.Book.{Book}
use Rattle.way_theory.specs.Follow.{size}
use Rattle.way_theory.specs.Ways.{times, IsWay}
use Rattle.way_theory.specs.WayFlow.{way_of}
use Rattle.way_theory.proofs.Laid.{joined_small}
use Rattle.way_theory.proofs.Matched.{flow_back}
use Rattle.way_enumerate.specs.WayEnumerator.{Enumerates, way_at, Tells}
use Rattle.way_enumerate.specs.declared.WayEnumerator.{WayEnumerator}
use Rattle.way_enumerate.proofs.Enumerating.{on_flow}
use Rattle.way_list.specs.Room.{way_room}
use Rattle.way_list.specs.WayListing.{line_of_way, ListsOne}
use Rattle.way_list.proofs.Digits.{two_digits}

abbrev pub standing_way : Book → WayEnumerator → List ℕ
standing_way b s = way_of b (state_flow s.flows)

pub off_way : (b : Book) (s : WayEnumerator) → NoItem s.flows.place → way_at b s ≡ none
off_way b s h = ap (map_option (way_of b)) (h (state_flow s.flows))

module _ (b : Book) (s : WayEnumerator) (on : s.flows.place ≡ Item) where
  pub on_way : way_at b s ≡ some (standing_way b s)
  on_way = ap (λ p. map_option (way_of b) (item_at p (state_flow s.flows))) on

  module _ (enumerates : Enumerates b s) where
    is_way : IsWay b (standing_way b s)
    is_way = (flow_back b (state_flow s.flows) (on_flow b s enumerates on)).0

    pub standing_few : length (standing_way b s) ≤ 28
    standing_few = omega (arith, is_way.all_entries, enumerates.limits.few)

    pub line_short : length (line_of_way (standing_way b s)) ≤ way_room
    line_short =
        let w = standing_way b s in
        omega (
          arith,
          standing_few,
          two_digits b w enumerates.limits.few is_way,
          way_size (times 0 w) w (omega (arith, is_way.openings, enumerates.limits.players_high))
              (every_map (λ p. p ≤ size b) (λ p. p < 100) w (λ p h. omega (arith, enumerates.limits.few)) (joined_small b 1 w is_way.joined)),
        )

    pub told : (r : List ℕ) → Tells s r → take s.entries r ≡ standing_way b s
    told r t =
        ap (λ k. take k r) (enumerates.entries_are ∙ sym is_way.all_entries)
        ∙ ap (take (length (standing_way b s))) (t.each b enumerates (standing_way b s) on_way)
        ∙ take_padded 28 0 (standing_way b s)

pub lists_one : (s : WayEnumerator) → s.flows.place ≡ Item → (r : List ℕ) → Tells s r → {before after : Writer} → Writes before (line_of_way (take s.entries r)) after
    → after.at ≤ before.at + way_room → ListsOne s before after
lists_one s on r t {before} {after} a h = record { each = λ b enumerates w e. subst (λ (v : List ℕ). Writes before (line_of_way v) after) (same b enumerates w e) a; few = h }
  where
    same : (b : Book) → Enumerates b s → (w : List ℕ) → way_at b s ≡ some w → take s.entries r ≡ w
    same b enumerates w e = let q : some (standing_way b s) ≡ some w = sym (on_way b s on) ∙ e in told b s on enumerates r t ∙ cc
