-- The states that a step hands back: on an item, or on none.
use mathlib.Core.Path.{◌≡◌, refl, sym, ap, subst, ◌∙◌}
use mathlib.Core.Bool.{Bool, true, false}
use mathlib.Core.List.{List, [], ◌∷◌}
use mathlib.Core.Option.{Option, none, some}
use Prim.Native.Nat.{ℕ, ◌+◌, ◌≤◌}
use native.Mathlib.Omega.{arith}
use lib.ListN.{length, take}
use lib.IntN.{ℤ, pos}
use lib.Signed.{◌≤ℤ◌}
use Rattle.laws.specs.Linear.{lin, given2}
use Rattle.laws.specs.Members.{first?, none_some}
use Rattle.laws.specs.Count.{counted}
use Rattle.net_model.specs.Network.{Net, LeastCost, cost_of}
use Rattle.net_model.specs.FullList.{full_list, first_flow, count_flows}
use Rattle.net_model.specs.Struct.{net_in, Sound}
use Rattle.net_model.specs.declared.Network.{Network}
use Rattle.flow_least.specs.Marked.{Marked}
use Rattle.flow_least.specs.Answers.{FirstFlow, MarkedIfLeast}
use Rattle.flow_enumerate.specs.Enumerator.{state_net, state_flow, item_at, item_of, place_after, word_after, item_after, item_cost, Stands, Steps}
use Rattle.flow_enumerate.specs.declared.Enumerator.{Enumerator}
use Rattle.flow_enumerate.specs.declared.Place.{Place}
use Rattle.flow_enumerate.specs.declared.Place.TheVariants.{Item, End}

-- a place that stands on no item
abbrev pub NoItem : Place → Type 0
NoItem p = (f : List ℕ) → item_at p f ≡ none

no_item : (p : Place) → NoItem p → ¬ (p ≡ Item)
no_item p h e = none_some [] (sym (h []) ∙ ap (λ q. item_at q []) e)

-- a state on no item
pub off_item : (n : Network) (p : Place) → NoItem p → Sound n → (f : List ℕ) (t : List Bool) → Stands (record { net = n; place = p; cost = pos 0; flow = f; free = t })
off_item n p h ok f t = record {
  sound = ok;
  cost_is = rw (h (take n.arcs f));
  marked = λ e. absurd (no_item p h e);
}

-- a state on the item g
pub on_item_lem : (n : Network) → Sound n → (g f : List ℕ) (t : List Bool) (c : ℤ) → take n.arcs f ≡ g → c ≡ cost_of (net_in n) g → Marked (net_in n) (take n.arcs t) g
    → Stands (record { net = n; place = Item; cost = c; flow = f; free = t })
on_item_lem n ok g f t c e q m = record {
  sound = ok;
  cost_is = q ∙ ap (cost_of (net_in n)) (sym e);
  marked = λ _. subst (Marked (net_in n) (take n.arcs t)) (sym e) m;
}

module _ (s : Enumerator) (ok : Sound s.net) (f : List ℕ) (t : List Bool) where
  pub step_off : (w : Place) → NoItem w → (o : Option (List ℕ)) → o ≡ none → Steps s w o (record { net = s.net; place = w; cost = pos 0; flow = f; free = t })
  step_off w h o e = record {
    stands = off_item s.net w h ok f t;
    net_is = refl;
    item_is = h (take s.net.arcs f) ∙ sym e;
    place_is = ap (place_after w) (sym e);
  }

  pub step_on : (w : Place) (o : Option (List ℕ)) (g : List ℕ) (c : ℤ) → o ≡ some g → take s.net.arcs f ≡ g → c ≡ cost_of (state_net s) g → Marked (state_net s) (take s.net.arcs t) g
      → Steps s w o (record { net = s.net; place = Item; cost = c; flow = f; free = t })
  step_on w o g c e q k m = record {
    stands = on_item_lem s.net ok g f t c q k m;
    net_is = refl;
    item_is = ap some q ∙ sym e;
    place_is = ap (place_after w) (sym e);
  }

-- what the search for the first flow answered
pub not_found : (N : Net) (f : List ℕ) (t t' : List Bool) (r : Bool) → FirstFlow N f t t' r → r ≡ false → first_flow N ≡ none
not_found N f t t' r h e = let k : FirstFlow N f t t' false = subst (FirstFlow N f t t') e h in k.0

pub first_found : (N : Net) (f : List ℕ) (t t' : List Bool) (r : Bool) → FirstFlow N f t t' r → r ≡ true → (first_flow N ≡ some f) × Marked N t' f
first_found N f t t' r h e = subst (FirstFlow N f t t') e h

-- two least-cost flows cost the same
pub same_cost : (N : Net) (f g : List ℕ) → LeastCost N f → LeastCost N g → cost_of N f ≡ cost_of N g
same_cost N f g a b = both (cost_of N f) (cost_of N g) (a.least g b.flow) (b.least f a.flow)
  where
    both : (x y : ℤ) → x ≤ℤ y → y ≤ℤ x → x ≡ y
    both x y h k = given2 h k (simp lin (omega arith))

-- the cost of a state on an item
pub cost_on : (s : Enumerator) → Stands s → s.place ≡ Item → s.cost ≡ cost_of (state_net s) (state_flow s)
cost_on s h e = h.cost_is ∙ ap (λ p. item_cost (state_net s) (item_at p (state_flow s))) e

-- a state on no item hands itself back
pub stays : (s : Enumerator) → Stands s → NoItem s.place → word_after s.place ≡ s.place → Steps s (word_after s.place) (item_after (state_net s) (item_of s)) s
stays s h n e = record {
  stands = h;
  net_is = refl;
  item_is = n (state_flow s) ∙ sym off;
  place_is = sym (ap (place_after (word_after s.place)) off ∙ e);
}
  where
    off : item_after (state_net s) (item_of s) ≡ none
    off = ap (item_after (state_net s)) (n (state_flow s))

-- the next item of a state on an item
pub goes_on : (s r : Enumerator) → s.place ≡ Item → Steps s End (item_after (state_net s) (some (state_flow s))) r → Steps s (word_after s.place) (item_after (state_net s) (item_of s)) r
goes_on s r e h = subst (λ (p : Place). Steps s (word_after p) (item_after (state_net s) (item_at p (state_flow s))) r) (sym e) h

-- without a first item there is none to count
empty : (l : List (List ℕ)) → first? l ≡ none → length l ≡ 0
empty [] e = refl
empty (x ∷ l) e = absurd (none_some x (sym e))

-- what the count of a state's list comes to, by whether there is a first item
module _ (s r : Enumerator) (w : Place) (h : Steps s w (first_flow (state_net s)) r) where
  same_net : state_net r ≡ state_net s
  same_net = ap net_in h.net_is

  pub counts_none : NoItem r.place → (cap : ℕ) → (0 ≤ cap + 1) × (counted cap 0 ≡ count_flows (state_net s) cap)
  counts_none n cap = (omega arith, ap (counted cap) (sym (empty (full_list (state_net s)) (sym h.item_is ∙ n (state_flow r)))))

  pub counts_item : r.place ≡ Item → (cap k : ℕ) → (first_flow (state_net r) ≡ some (state_flow r) → counted cap k ≡ count_flows (state_net r) cap) → counted cap k ≡ count_flows (state_net s) cap
  counts_item on cap k c = c (ap first_flow same_net ∙ sym h.item_is ∙ ap (λ p. item_at p (state_flow r)) on) ∙ ap (λ N. count_flows N cap) same_net

-- what the test of question 8 answered
pub marked_yes : (N : Net) (f : List ℕ) (t t' : List Bool) (r : Bool) → MarkedIfLeast N f t t' r → r ≡ true → Marked N t' f
marked_yes N f t t' r h e = subst (MarkedIfLeast N f t t') e h

pub not_marked : (N : Net) (f : List ℕ) (t t' : List Bool) (r : Bool) → MarkedIfLeast N f t t' r → r ≡ false → ¬ LeastCost N f
not_marked N f t t' r h e = let k : MarkedIfLeast N f t t' false = subst (MarkedIfLeast N f t t') e h in k.0
