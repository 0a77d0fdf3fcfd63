use Rattle.laws.specs.Rules.{next}
use Rattle.call_book.proofs.BookEntries.{answers}
use Rattle.call_book.proofs.next.Goals as goal

pub returns : goal.returns
returns c = answers c.args.book.now (next c.args.given.now c.args.way.now) _ c.next_way.result c.next_way.ensures c.reply_of.result c.reply_of.ensures
