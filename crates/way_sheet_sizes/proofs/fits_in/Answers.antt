-- By whether there are 79 bytes an entry.
use mathlib.Core.Path.{sym, ap}
use native.Mathlib.Omega.{arith}
use lib.Dec.{leb}
use lib.ListN.{length}
use borrow.Author.Tests.{le-leb}
use Rattle.way_sheets.specs.Sheets.{sheets}
use Rattle.way_sheets.proofs.Sizes.{sheets_size}
use Rattle.way_sheet_sizes.proofs.fits_in.Goals as goal

pub returns-then-way-bytes : goal.returns-then-way-bytes
returns-then-way-bytes c = let w = c.args.way.now in
    record {
      each = λ s has. sym (le-leb (length (sheets has.book w)) c.args.bytes (omega (arith, c.if-way-bytes.true, sheets_size s has.book has.holds has.limits w has.way, has.way.all_entries)));
    }

pub returns : goal.returns
returns c = record { each = λ s has. ap (λ n. leb n c.args.bytes) (c.size_of.ensures.each s has) }
