-- A number, byte for byte.
use mathlib.Core.Path.{◌≡◌, refl}
use Rattle.text_read.specs.Heads.{bytes}
use Rattle.text_write.specs.Decimal.{digits, decimal}

large : decimal 10203040 ≡ bytes "10203040"
unfolding bytes digits decimal
large = refl
