-- The names of a book's entries: where they lie in its bytes, by the form of the book alone, that they are short, and that the checked book tells where they lie.
use Prim.Native.Nat.{ℕ, ◌+◌, ◌<◌, ◌≤◌}
use mathlib.Core.Path.{◌≡◌, refl, ap, subst, ◌∙◌}
use mathlib.Core.Option.{some}
use mathlib.Core.List.{List, [], ◌∷◌}
use native.Mathlib.Omega.{arith}
use lib.ListN.{length, take, drop, get_or}
use Rattle.laws.specs.Members.{Every, every_map, every_member, none_some, get_or_member}
use Rattle.text_read.specs.Reader.{Parsed, fails, reads, ◌>>◌, give, text, row, many}
use Rattle.text_read.specs.Heads.{line_end, book_line, players_head, fee_head, move_head}
use Rattle.book_lines.specs.Lines.{move, entry}
use Rattle.book_lines.specs.Columns.{blank_entry, nobody}
use Rattle.text_read.proofs.Leaves.{reads_same, both, Leaves, suffix_more, then_leaves, text_leaves, give_leaves, row_leaves, many_read, many_leaves}
use Rattle.book_lines.proofs.EntryNames.{Placed, Named, named_drop, entry_named}
use Rattle.book_form.specs.Book.{Book, opening, book, whole, parse}
use Rattle.book_form.specs.Checked.{checked_of}
use Rattle.book_form.proofs.Judging.{entry_in}

opening_leaves : Leaves opening
unfolding opening ◌>>◌
opening_leaves =
    then_leaves (text book_line) _ (text_leaves book_line)
    (λ _. then_leaves (row players_head 1) _ (row_leaves players_head 1)
    (λ ps. then_leaves (row fee_head 1) _ (row_leaves fee_head 1) (λ cs. give_leaves _)))

move_leaves : Leaves move
unfolding move
move_leaves = then_leaves (row move_head 4) _ (row_leaves move_head 4) (λ ns. give_leaves _)

book_named : (s : List ℕ) (b : Book) (t : List ℕ) → book s ≡ reads b t → Every (Named s) b.entries
unfolding book give ◌>>◌
book_named s b t h =
    let o = both opening _ s b t h in
    let m = both (many move) _ o.rest b t o.second in
    let n = both (many entry) _ m.rest b t m.second in
    let x = both (text line_end) _ n.rest b t n.second in
    let same = (reads_same _ b x.rest t x.second).0 in
    let u = suffix_more s o.rest m.rest (opening_leaves s o.value o.rest o.first) (many_leaves move move_leaves o.rest m.value m.rest m.first) in
    let l = (many_read Named entry named_drop entry_named m.rest n.value n.rest n.first).0 in
    subst (Every (Named s)) (ap (λ (k : Book). k.entries) same)
    (every_map (Named m.rest) (Named s) n.value (λ e z. named_drop s u.0 e (subst (λ (x : List ℕ). Named x e) u.1 z)) l)

module _ (s : List ℕ) (b : Book) (e : parse s ≡ some b) where
  all_named : Every (Named s) b.entries
  unfolding parse whole
  all_named = go (book s) refl e
    where
      go : (x : Parsed Book) → book s ≡ x → whole x ≡ some b → Every (Named s) b.entries
      go fails h q = absurd (none_some b q)
      go (reads c []) h q = let w : c ≡ b = cc in book_named s b [] (h ∙ ap (λ k. reads k []) w)
      go (reads c (y ∷ u)) h q = absurd (none_some b q)

  module _ (n : ℕ) (h : n < length b.entries) where
    named_at : Named s (get_or b.entries n nobody)
    named_at = every_member (Named s) b.entries all_named (get_or b.entries n nobody) (get_or_member b.entries n nobody h)

    pub names_placed : Placed s (get_or b.entries n nobody)
    names_placed = named_at.0

    pub names_short : length (get_or b.entries n nobody).name ≤ 16
    names_short = named_at.1

    -- the part of s that the checked book tells of is the name
    pub checked_name :
        let e = get_or (checked_of (length s) b).entries n blank_entry in
        (e.name + e.length ≤ length s) × (take e.length (drop e.name s) ≡ (get_or b.entries n nobody).name)
    checked_name =
        let p = names_placed in
        rw (entry_in (length s) b.entries n blank_entry h) (omega (arith, p.begins, p.ends), p.is)
