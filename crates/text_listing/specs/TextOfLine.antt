-- The lines of a listing other than those of ways.
use Rattle.std.specs.Prelude.{List, ℕ}
use Rattle.text_listing.specs.declared.Line.{Line}
use Rattle.text_listing.specs.declared.Line.TheVariants.{Cost, End, More, NoWay, Refused}
use Rattle.text_listing.specs.Lines.{cost_line, end_line, more_line, none_line, refused_line}

abbrev pub text_of_line : Line → List ℕ
text_of_line (Cost cost) = cost_line cost
text_of_line (End n) = end_line n
text_of_line More = more_line
text_of_line NoWay = none_line
text_of_line (Refused number) = refused_line number
