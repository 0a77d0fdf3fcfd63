-- A way handed out, from the steps of the function that writes it.
use mathlib.Core.Path.{◌≡◌, refl, sym, ap, subst, ◌∙◌}
use mathlib.Core.Bool.{false}
use mathlib.Core.List.{List}
use mathlib.Core.Option.{some}
use Prim.Native.Nat.{ℕ, zero, suc}
use lib.ListN.{length, drop, take}
use lib.IntN.{pos}
use Rattle.laws.specs.Image.{map_option}
use Rattle.laws.specs.Padded.{padded, take_padded}
use Rattle.bytes_read.specs.Words.{encode_words, over}
use Rattle.flow_enumerate.specs.declared.Place.TheVariants.{Item}
use Rattle.flow_enumerate.specs.Enumerator.{item_at, state_flow}
use Rattle.book_form.specs.Book.{Book}
use Rattle.way_theory.specs.Follow.{size}
use Rattle.way_theory.specs.Ways.{way_cost}
use Rattle.way_theory.specs.BookNet.{sources}
use Rattle.way_theory.specs.WayFlow.{way_from, way_of}
use Rattle.way_enumerate.specs.WayEnumerator.{Enumerates, way_at, way_item_cost, Tells}
use Rattle.way_enumerate.specs.declared.WayEnumerator.{WayEnumerator}
use Rattle.way_enumerate.proofs.Enumerating.{cost_held}
use Rattle.call_reply.specs.declared.Reply.{Reply}
use Rattle.call_reply.specs.Replies.{code_alone, HandsItem, on_item}
use Rattle.call_way_bytes.specs.WaySteps.{HandsWay}
use Rattle.call_reply.proofs.Places.{no_item_by_test}

way_long : (b : Book) (n j : ℕ) (f : List ℕ) → length (way_from b n j f) ≡ n
way_long b zero j f = refl
way_long b (suc n) j f = ap suc (way_long b n (suc j) (drop (length (sources b j)) f))

module _ (s : WayEnumerator) (k : ℕ) (out : List ℕ) (r : Reply) where
  pub hands_none : on_item s.flows.place ≡ false → r ≡ code_alone k → HandsWay s k out r out
  hands_none e q = record {
    each = λ b h. (let none-there = sym (ap (map_option (way_of b)) (no_item_by_test s.flows.place (state_flow s.flows) e)) in
        subst (λ o. HandsItem (λ w. pos (way_cost b w)) o k out r out) none-there (record { reply_is = q; list_is = refl }));
  }

  pub hands_way : s.flows.place ≡ Item → (numbers out' : List ℕ) → Tells s numbers → out' ≡ over (encode_words (take s.entries numbers)) out
      → r ≡ record { code = 0; line = 0; value = s.flows.cost } → HandsWay s k out r out'
  hands_way on numbers out' tells written q = record { each = go }
    where
      go : (b : Book) → Enumerates b s → HandsItem (λ w. pos (way_cost b w)) (way_at b s) k out r out'
      go b h =
          let w = way_of b (state_flow s.flows) in
          let e : way_at b s ≡ some w = ap (λ p. map_option (way_of b) (item_at p (state_flow s.flows))) on in
          let l : length w ≡ s.entries = way_long b (size b) 1 (state_flow s.flows) ∙ sym h.entries_are in
          let t : take s.entries numbers ≡ w = ap (take s.entries) (tells.each b h w e) ∙ ap (λ n. take n (padded 28 0 w)) (sym l) ∙ take_padded 28 0 w in
          subst (λ o. HandsItem (λ w. pos (way_cost b w)) o k out r out') (sym e)
          (record {
            reply_is = q ∙ ap (λ z. record { code = 0; line = 0; value = z }) (cost_held b s h ∙ ap (way_item_cost b) e);
            list_is = written ∙ ap (λ x. over (encode_words x) out) t;
          })
