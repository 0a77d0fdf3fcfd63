-- The bytes given for a way of a checked book, and what question 18 says of them.
use mathlib.Core.Path.{◌≡◌, refl, sym, ap, ◌∙◌}
use mathlib.Core.Bool.{Bool, true, false, false≢true}
use mathlib.Core.List.{List}
use mathlib.Core.Option.{some}
use Prim.Native.Nat.{ℕ, ◌*◌, ◌≤◌, ◌<◌}
use native.Mathlib.Omega.{arith}
use lib.ListN.{length, take}
use Rattle.laws.specs.Members.{Every}
use Rattle.laws.specs.Padded.{padded}
use Rattle.bytes_read.specs.Words.{words}
use Rattle.book_form.specs.Book.{Book}
use Rattle.book_form.specs.Held.{Held, Holds}
use Rattle.book_form.specs.declared.CheckedBook.{CheckedBook}
use Rattle.flow_enumerate.specs.declared.Place.TheVariants.{Start}
use Rattle.way_theory.specs.Follow.{size}
use Rattle.way_theory.specs.FullWays.{full_ways}
use Rattle.way_enumerate.specs.WayEnumerator.{At, ResumesIn, LeastWayIf}
use Rattle.way_enumerate.specs.declared.WayEnumerator.{WayEnumerator}
use Rattle.call_reply.specs.ByteLists.{listed}
use Rattle.call_reply.specs.Replies.{on_item}
use Rattle.call_reply.proofs.Items.{other_length}
use Rattle.call_reply.proofs.Given.{read_all}
use Rattle.call_way_bytes.proofs.WayItems.{full_ways_lem, listed_way, way_listed}

module _ (c : CheckedBook) where
  count_is : (b : Book) → Holds b c → c.count ≡ size b
  count_is b h = ap (λ (x : CheckedBook). x.count) h.is

  pub few : Held c → c.count ≤ 28
  few h = omega (arith, count_is h.book h.holds, h.holds.limits.few)

  -- where their count is right, all numbers given are read
  pub read_given : Held c → (g : List ℕ) → length g ≡ 4 * c.count → (r : List ℕ) → r ≡ padded 512 0 (take 512 (words g)) → take c.count r ≡ words g
  read_given h g e r q = ap (take c.count) q ∙ read_all c.count (omega (arith, few h)) g e

  module _ (b : Book) (h : Holds b c) (g : List ℕ) where
    pub wrong_length : ¬ (length g ≡ 4 * c.count) → listed g (full_ways b) ≡ false
    wrong_length n = other_length (size b) (full_ways b) (full_ways_lem b h.limits) g (λ q. n (q ∙ ap (λ k. 4 * k) (sym (count_is b h))))

    module _ (bytes : Every (λ x. x < 256) g) (e : length g ≡ 4 * c.count) (w : List ℕ) (same : w ≡ words g) where
      right_length : length g ≡ 4 * size b
      right_length = e ∙ ap (λ k. 4 * k) (count_is b h)

      -- an enumerator resumed on the numbers stands on them if the bytes are an item
      pub resumed : (r : WayEnumerator) → ResumesIn b w r → on_item r.flows.place ≡ true → (listed g (full_ways b) ≡ true) × At b Start (some (words g)) r
      resumed r k on = go (listed g (full_ways b)) refl
        where
          go : (t : Bool) → listed g (full_ways b) ≡ t → (listed g (full_ways b) ≡ true) × At b Start (some (words g)) r
          go true q = (q, rw same at (k.on (rw same (listed_way b h.limits g q).1)))
          go false q =
              let off = k.off (λ l. false≢true (sym q ∙ (way_listed b h.limits g bytes).1 (right_length, rw same at l))) in
              absurd (false≢true (ap on_item (sym off.place_is) ∙ on))

      -- and where it stands on none, they are none
      pub strange : (r : WayEnumerator) → ResumesIn b w r → on_item r.flows.place ≡ false → listed g (full_ways b) ≡ false
      strange r k off = go (listed g (full_ways b)) refl
        where
          go : (t : Bool) → listed g (full_ways b) ≡ t → listed g (full_ways b) ≡ false
          go true q = absurd (false≢true (sym off ∙ ap on_item (k.on (rw same (listed_way b h.limits g q).1)).place_is))
          go false q = q

      -- the numbers are a least-cost way if the bytes are an item
      pub tested : (r : Bool) → LeastWayIf b w r → r ≡ listed g (full_ways b)
      tested true l = sym ((way_listed b h.limits g bytes).1 (right_length, rw same at l))
      tested false n = go (listed g (full_ways b)) refl
        where
          go : (t : Bool) → listed g (full_ways b) ≡ t → false ≡ t
          go true q = absurd (n (rw same (listed_way b h.limits g q).1))
          go false q = refl
