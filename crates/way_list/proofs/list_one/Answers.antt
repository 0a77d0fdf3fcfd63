use Rattle.std.proofs.Common.{◌≤◌, ap, length, take, arith}
use Rattle.way_list.specs.Room.{way_room}
use Rattle.way_list.specs.WayListing.{line_of_way}
use Rattle.way_list.proofs.Standing.{line_short, told, lists_one}
use Rattle.way_list.proofs.list_one.Goals as goal

pub put_way-requires : goal.put_way-requires
put_way-requires c =
    let short : length (line_of_way (take c.args.ways.now.entries c.way-way.result)) ≤ way_room = let h = c.requires.0 in omega (arith, ap (λ v. length (line_of_way v)) (told h.book c.args.ways.now c.requires.1 h.enumerates c.way-way.result c.way-way.ensures), line_short h.book c.args.ways.now c.requires.1 h.enumerates) in
    rw c.times-parts.ensures (record { fits = omega (arith, c.requires.2, short) })

pub returns : goal.returns
returns c =
    let short : length (line_of_way (take c.args.ways.now.entries c.way-way.result)) ≤ way_room = let h = c.requires.0 in omega (arith, ap (λ v. length (line_of_way v)) (told h.book c.args.ways.now c.requires.1 h.enumerates c.way-way.result c.way-way.ensures), line_short h.book c.args.ways.now c.requires.1 h.enumerates) in
    let w = c.way-way in
    let line = rw c.times-parts.ensures at c.put_way.ensures in
    lists_one c.args.ways.now c.requires.1 w.result w.ensures line (omega (arith, line.appended.end, short))
