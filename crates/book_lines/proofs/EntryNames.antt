-- The name of an entry that is read: where it lies, and that it is short.
use Prim.Native.Nat.{ℕ, ◌+◌, ◌-◌, ◌<◌, ◌≤◌}
use mathlib.Core.Path.{◌≡◌, sym, ap, subst, ◌∙◌}
use mathlib.Core.List.{List}
use native.Mathlib.Omega.{arith}
use native.Mathlib.Nat.{sub_self}
use lib.ListN.{length, length-take, length-drop, take, drop}
use lib.Seq.{drop-drop}
use lib.Dec.{leb}
use borrow.Author.Tests.{leb-true}
use Rattle.laws.specs.Tests.{and_true}
use Rattle.text_read.specs.Reader.{reads, ◌>>◌, ◌<|>◌, give, remaining, text, front, short, word_byte, word, row}
use Rattle.text_read.specs.Heads.{entry_head, name_end}
use Rattle.text_read.proofs.Runs.{take_front}
use Rattle.book_lines.specs.Lines.{Entry, short_form, long_form, entry}
use Rattle.text_read.proofs.Leaves.{reads_same, both, Suffix, Leaves, then_leaves, text_leaves, give_leaves, remaining_leaves, judged_read, judged_leaves, row_leaves}
use Rattle.text_read.proofs.Alternatives.{either_leaves}

-- the name of e is the part of s that begins where `left` bytes are left
pub record Placed (s : List ℕ) (e : Entry) : Type 0 where
  pub begins : e.left ≤ length s
  pub ends : length e.name ≤ e.left
  pub some : 0 < length e.name
  pub is : take (length e.name) (drop (length s - e.left) s) ≡ e.name

-- a name that lies in a suffix of s lies in s
placed_drop : (s : List ℕ) (n : ℕ) (e : Entry) → Placed (drop n s) e → Placed s e
placed_drop s n e p = record { begins = omega (arith, p.begins, l); ends = p.ends; some = p.some; is = rw same p.is }
  where
    l : length (drop n s) ≡ length s - n
    l = length-drop n s

    place : n + (length (drop n s) - e.left) ≡ length s - e.left
    place = omega (arith, p.begins, p.ends, p.some, l)

    same : drop (length s - e.left) s ≡ drop (length (drop n s) - e.left) (drop n s)
    same = sym (drop-drop (length (drop n s) - e.left) n s ∙ ap (λ (k : ℕ). drop k s) place)

-- placed, and of at most 16 bytes
abbrev pub Named : List ℕ → Entry → Type 0
Named s e = Placed s e × (length e.name ≤ 16)

pub named_drop : (s : List ℕ) (n : ℕ) (e : Entry) → Named (drop n s) e → Named s e
named_drop s n e h = (placed_drop s n e h.0, h.1)

-- w has 1 to 16 bytes, and s begins with them
abbrev pub ShortFront : List ℕ → List ℕ → Type 0
ShortFront s w = (0 < length w) × (length w ≤ 16) × (take (length w) s ≡ w)

pub word_is : (s w t : List ℕ) → word s ≡ reads w t → ShortFront s w
unfolding word ◌>>◌
word_is s w t e =
    let r = judged_read word_byte (λ w. short w) (λ w. w) s w t e in
    let h = and_true (leb 1 (length (front word_byte s))) (leb (length (front word_byte s)) 16) r.0 in
    subst (ShortFront s) r.1 (leb-true _ _ h.0, leb-true _ _ h.1, take_front word_byte s)

-- a word at the front of s, with all of s left
named_here : (s : List ℕ) (e : Entry) → ShortFront s e.name → e.left ≡ length s → Named s e
named_here s e h l = (record { begins = omega arith; ends = omega (arith, ap length h.2, length-take (length e.name) s); some = h.0; is = rw (l, sub_self) h.2 }, h.1)

numbers_leave : Leaves (short_form <|> long_form)
unfolding short_form long_form
numbers_leave = either_leaves short_form long_form (then_leaves (row name_end 3) _ (row_leaves name_end 3) (λ ns. give_leaves _)) (row_leaves name_end 4)

entry_leaves : Leaves entry
unfolding entry word ◌>>◌
entry_leaves =
    then_leaves (text entry_head) _ (text_leaves entry_head)
    (λ _. then_leaves remaining _ remaining_leaves
    (λ left. then_leaves word _ (judged_leaves word_byte (λ w. short w) (λ w. w))
    (λ w. then_leaves (short_form <|> long_form) _ numbers_leave (λ ns. give_leaves _))))

pub entry_named : (s : List ℕ) (e : Entry) (t : List ℕ) → entry s ≡ reads e t → Named s e × Suffix s t
unfolding entry remaining give ◌>>◌
entry_named s e t h =
    let a = both (text entry_head) _ s e t h in
    let b = both remaining _ a.rest e t a.second in
    let c = both word _ b.rest e t b.second in
    let d = both (short_form <|> long_form) _ c.rest e t c.second in
    let same = (reads_same _ e d.rest t d.second).0 in
    let left = reads_same _ b.value a.rest b.rest b.first in
    let n = text_leaves entry_head s a.value a.rest a.first in
    let w = word_is b.rest c.value c.rest c.first in
    let here : Named b.rest e = named_here b.rest e (subst (ShortFront b.rest) (ap (λ (x : Entry). x.name) same) w) (sym (ap (λ (x : Entry). x.left) same) ∙ sym left.0 ∙ ap length left.1) in
    (named_drop s n.0 e (subst (λ (x : List ℕ). Named x e) (sym left.1 ∙ n.1) here), entry_leaves s e t h)
