use mathlib.Core.Path.{sym}
use Rattle.call_reply.proofs.Items.{every_at}
use Rattle.call_way_bytes.proofs.GivenWays.{wrong_length, tested}
use Rattle.call_way_bytes.proofs.is_given.Goals as goal

pub returns-in-Some : goal.returns-in-Some
returns-in-Some c = let g = c.args.given.now in
    let (e, same) = c.in-Some.ensures in
    record { each = λ b h. tested c.args.book.now b h g (every_at g 256 (λ i k. (c.type_inv.given i).fits)) e _ same c.is_item.result (c.is_item.ensures.each b h) }

pub returns-in-None : goal.returns-in-None
returns-in-None c = record { each = λ b h. sym (wrong_length c.args.book.now b h c.args.given.now c.in-None.ensures) }
