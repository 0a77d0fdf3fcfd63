use Rattle.std.proofs.Common.{refl, subst, ◌∙◌, ◌+◌, arith}
use Rattle.laws.specs.Appended.{appended_long}
use Rattle.flow_enumerate.specs.Enumerator.{word_after}
use Rattle.flow_enumerate.proofs.Places.{no_item_at}
use Rattle.text_listing.proofs.Sizes.{more_size, end_size}
use Rattle.way_enumerate.specs.WayEnumerator.{way_at}
use Rattle.way_list.proofs.Progress.{ListedSoFar, starts, ends_more, ends_whole}
use Rattle.way_list.proofs.Standing.{standing_way, on_way, off_way}
use Rattle.way_list.proofs.Turn.{step}
use Rattle.way_list.proofs.list_from.Goals as goal

pub loop-n-init : goal.loop-n-init
loop-n-init c = (refl, refl, omega arith, c.requires.1, c.requires.0, λ b enumerates e. (enumerates, starts b c.args.writer.now (way_at b c.args.ways) e (record { fits = omega (arith, c.requires.2) })))

pub list_one-requires : goal.list_one-requires
list_one-requires c = let i = c.loop-n.invariant in (i.4, i.3, omega (arith, i.1, i.2, c.requires.2, c.loop-n-test.true))

pub next-ways-requires : goal.next-ways-requires
next-ways-requires c = c.loop-n.invariant.4

pub loop-n-preserved : goal.loop-n-preserved
loop-n-preserved c =
    let l = c.loop-n in
    let h = l.invariant.4 in
    let one = c.list_one.ensures in
    let m = c.next-ways in
    let line = one.each h.book h.enumerates (standing_way h.book l.ways) (on_way h.book l.ways l.invariant.3) in (
      line.lent ∙ l.invariant.0,
      appended_long line.appended ∙ l.invariant.1,
      omega (arith, l.invariant.2, one.few),
      c.in-Item.is,
      record { book = h.book; enumerates = (m.ensures.each h.book h.enumerates).enumerates },
      λ b enumerates e. step b c.args.writer.now l.ways l.writer l.n l.invariant.3 (l.invariant.5 b enumerates e) c.list_one.new.writer one m.result (word_after l.ways.flows.place) m.ensures,
    )

pub put_line-requires : goal.put_line-requires
put_line-requires c =
    let l = c.loop-n in
    let h = l.invariant.4 in
    let one = c.list_one.ensures in
    let line = one.each h.book h.enumerates (standing_way h.book l.ways) (on_way h.book l.ways l.invariant.3) in
    record { fits = omega (arith, l.invariant.1, l.invariant.2, one.few, appended_long line.appended, c.requires.2, c.loop-n-test.true, end_size (l.n + 1) (omega (arith, c.loop-n-test.true))) }

pub returns-in_default : goal.returns-in_default
returns-in_default c =
    let l = c.loop-n in
    let h = l.invariant.4 in
    let one = c.list_one.ensures in
    let m = c.next-ways in
    let line = one.each h.book h.enumerates (standing_way h.book l.ways) (on_way h.book l.ways l.invariant.3) in
    record {
      lent = c.put_line.ensures.lent ∙ line.lent ∙ l.invariant.0;
      each = λ b enumerates e. (let (now, p) = step b c.args.writer.now l.ways l.writer l.n l.invariant.3 (l.invariant.5 b enumerates e) c.list_one.new.writer one m.result (word_after l.ways.flows.place) m.ensures in
          ends_whole b c.args.writer.now c.list_one.new.writer (l.n + 1) (omega (arith, c.loop-n-test.true))
          (subst (λ o. ListedSoFar b c.args.writer.now o c.list_one.new.writer (l.n + 1)) (off_way b m.result (no_item_at m.result.flows.place c.in_default.not-Item)) p) c.put_line.ensures);
    }

pub put_line-requires-2 : goal.put_line-requires-2
put_line-requires-2 c = let i = c.loop-n.invariant in record { fits = omega (arith, i.1, i.2, c.requires.2, more_size, c.loop-n-test.false, c.loop-n.auto.n-end) }

pub returns : goal.returns
returns c = let l = c.loop-n in
    record {
      lent = c.put_line-2.ensures.lent ∙ l.invariant.0;
      each = λ b enumerates e. (let (now, p) = l.invariant.5 b enumerates e in
          ends_more b c.args.writer.now l.writer l.n (standing_way b l.ways) (omega (arith, c.loop-n-test.false, l.auto.n-end))
          (subst (λ o. ListedSoFar b c.args.writer.now o l.writer l.n) (on_way b l.ways l.invariant.3) p) c.put_line-2.ensures);
    }
