use mathlib.Core.Path.{refl, sym, ◌∙◌}
use Rattle.call_reply.proofs.Items.{every_at}
use Rattle.call_way_bytes.proofs.GivenWays.{wrong_length, resumed, strange}
use Rattle.call_way_bytes.proofs.resume_way.Goals as goal

pub returns-in_default : goal.returns-in_default
returns-in_default c = record { each = λ b h. (wrong_length c.args.book.now b h c.args.given.now c.in_default.ensures, refl) }

pub returns-then-not-on_item : goal.returns-then-not-on_item
returns-then-not-on_item c = let g = c.args.given.now in
    let (e, same) = c.in-Some.ensures in
    record {
      each = λ b h. (
        strange c.args.book.now b h g (every_at g 256 (λ i k. (c.type_inv.given i).fits)) e _ same c.resume-ways.result (c.resume-ways.ensures.each b h)
            (sym c.on_item.ensures ∙ c.if-not-on_item.true),
        refl,
      );
    }

pub returns : goal.returns
returns c = let g = c.args.given.now in
    let (e, same) = c.in-Some.ensures in
    record {
      each = λ b h. resumed c.args.book.now b h g (every_at g 256 (λ i k. (c.type_inv.given i).fits)) e _ same c.resume-ways.result (c.resume-ways.ensures.each b h)
          (sym c.on_item.ensures ∙ c.if-not-on_item.false);
    }
