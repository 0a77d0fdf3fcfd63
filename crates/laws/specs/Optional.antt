-- A value that may be missing, as the program has it, from one as the definitions have it.
use Rattle.std.specs.Prelude.{Option, Some, None}
use Rattle.std.proofs.Math.Option.{Option as Maybe, none, some}

abbrev pub optional : {A : Type 0} → Maybe A → Option A
optional none = None
optional (some a) = Some a
