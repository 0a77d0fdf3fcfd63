use Rattle.std.proofs.Common.{rules, ◌≡◌, sym, ap, subst, ◌∙◌, List, ◌++◌, ℕ, ◌≤◌, arith, length, unsigned_abs}
use Rattle.std.proofs.lemmas.Int.{fits_signed_from_abs}
use lib.IntN.{pos}
use mir.Syntax.{w64}
use mir.Val.{to_z, of_z}
use mir.Facts.{to_z-of_z}
use Rattle.laws.specs.Appended.{Appended, appended_long}
use Rattle.text_write.proofs.Writing.{writes_then}
use Rattle.text_listing.specs.Lines.{cost_line}
use Rattle.text_listing.proofs.Sizes.{cost_size}
use Rattle.book_form.specs.Book.{Book}
use Rattle.way_theory.specs.Ways.{way_cost}
use Rattle.way_enumerate.specs.WayEnumerator.{Enumerates}
use Rattle.way_enumerate.specs.declared.WayEnumerator.{WayEnumerator}
use Rattle.way_list.proofs.Progress.{all_lines}
use Rattle.way_list.proofs.Standing.{standing_way, on_way}
use Rattle.way_list.proofs.Whole.{text_of, cost_is, cost_few, lists_all}
use Rattle.way_list.specs.WayListing.{OnFirst}
use Rattle.way_list.proofs.list.Goals as goal

-- the cost that is told
module _ (w : WayEnumerator) (h : OnFirst w) (n : ℕ) (told : n ≡ unsigned_abs (to_z w64 (of_z w64 w.flows.cost))) where
  cost-of : (b : Book) → Enumerates b w → n ≡ way_cost b (standing_way b w)
  cost-of b enumerates =
      let m = way_cost b (standing_way b w) in
      let few : m ≤ 28000000 = cost_few b w h.on enumerates in
      told ∙ ap (λ z. unsigned_abs (to_z w64 (of_z w64 z))) (cost_is b w h.on enumerates) ∙ ap {B = ℕ} unsigned_abs (to_z-of_z {w = w64} {z = pos m} (fits_signed_from_abs w64 (pos m) (omega (arith, few))))

  cost-short : length (cost_line n) ≤ 16
  cost-short = cost_size n (omega (arith, cost-of h.book h.enumerates, cost_few h.book w h.on h.enumerates))

pub put_line-requires : goal.put_line-requires
put_line-requires c = record { fits = omega (arith, c.requires.1, cost-short c.args.ways c.requires.0 _ c.unsigned_abs-cost.ensures.value) }

pub list_from-requires : goal.list_from-requires
list_from-requires c =
    let h = c.requires.0 in
    let w = c.put_line.ensures.appended in
    (record { book = h.book; enumerates = h.enumerates }, h.on, omega (arith, c.requires.1, appended_long w, w.end, cost-short c.args.ways h _ c.unsigned_abs-cost.ensures.value))

pub returns : goal.returns
returns c =
    let w = c.args.ways in
    let h = c.requires.0 in
    lists_all (search rules)
    (λ b enumerates e. subst (λ (t : List ℕ). Appended c.args.out.now 0 t c.list_from.new.writer.out.now c.list_from.new.writer.at)
    (ap (λ n. cost_line n ++ all_lines b) (cost-of w h _ c.unsigned_abs-cost.ensures.value b enumerates) ∙ text_of b (standing_way b w) (sym e ∙ on_way b w h.on))
    (writes_then c.put_line.ensures (c.list_from.ensures.each b enumerates e)).appended)
