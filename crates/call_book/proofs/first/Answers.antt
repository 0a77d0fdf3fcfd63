use Rattle.laws.specs.Rules.{first}
use Rattle.call_book.proofs.BookEntries.{answers}
use Rattle.call_book.proofs.first.Goals as goal

pub returns : goal.returns
returns c = answers c.args.book.now (first c.args.way.now) _ c.first_way.result c.first_way.ensures c.reply_of.result c.reply_of.ensures
