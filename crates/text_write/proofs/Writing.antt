-- Pieces that a writer writes one behind another, and the room for them.
use Rattle.std.proofs.Common.{refl, List, [], ◌++◌, ℕ, ◌∙◌, arith, length-append}
use Rattle.laws.specs.Appended.{appended_none, appended_then, appended_long}
use Rattle.text_write.specs.declared.Writer.{Writer}
use Rattle.text_write.specs.Writing.{HasRoomFor, Writes}

-- nothing is written
pub writes_none : {a : Writer} {p : List ℕ} → HasRoomFor a p → Writes a [] a
writes_none h = record { lent = refl; appended = appended_none _ _ (omega (arith, h.fits)) }

-- a piece and then a piece are one piece
pub writes_then : {a b c : Writer} {p q : List ℕ} → Writes a p b → Writes b q c → Writes a (p ++ q) c
writes_then d f = record { lent = f.lent ∙ d.lent; appended = appended_then d.appended f.appended }

-- room for two pieces is room for the first, and after it for the second
pub room_first : {a : Writer} (p q : List ℕ) → HasRoomFor a (p ++ q) → HasRoomFor a p
room_first p q h = record { fits = omega (arith, h.fits, length-append p q) }

pub room_then : {a b : Writer} (p q : List ℕ) → Writes a p b → HasRoomFor a (p ++ q) → HasRoomFor b q
room_then p q d h = record { fits = omega (arith, h.fits, length-append p q, d.appended.end, appended_long d.appended) }
