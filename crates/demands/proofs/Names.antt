-- What is asked of a name, from what the two entries promise.
use mathlib.Core.Path.{◌≡◌, sym, ap, ◌∙◌}
use mathlib.Core.List.{List}
use Prim.Native.Nat.{ℕ, ◌-◌}
use lib.ListN.{get_or}
use Rattle.book_lines.specs.Columns.{nobody}
use Rattle.book_form.specs.Book.{parse}
use Rattle.book_form.specs.Checked.{entries_of}
use Rattle.book_names.specs.declared.Span.{Span}
use Rattle.book_names.specs.Name.{or_empty_part, name_refusal}
use Rattle.book_names.specs.BookNames.{BookName, BookNameRefusal}
use Rattle.demands.specs.Demands.{NameOfDemands}

pub name_demands : (s : List ℕ) (j : ℕ) (p : Span) (n : ℕ) → BookName s j p → BookNameRefusal s j n → NameOfDemands s j p n
name_demands s j p n h q = record {
  number_told = q;
  refused = λ z. h.zero (λ e. z (q ∙ e));
  named = λ z. (let e : name_refusal s j ≡ 0 = sym q ∙ z in (h.given.is ∙ ap (λ k. or_empty_part k (get_or (entries_of (parse s)) (j - 1) nobody).name) e, h.given.some e, h.here e));
  within = h.within;
}
