-- For the crates above: an accepted book is held by its checked book, and the network made of it is sound and the book's.
use mathlib.Core.Path.{◌≡◌, refl, sym, ap, subst, ◌∙◌}
use mathlib.Core.Bool.{Bool, true, false}
use mathlib.Core.Option.{Option as Maybe, none, some}
use Rattle.std.specs.Prelude.{Some}
use mathlib.Core.List.{List}
use Prim.Native.Nat.{ℕ}
use native.Mathlib.Omega.{arith}
use lib.Dec.{leb}
use lib.ListN.{length}
use Rattle.laws.specs.Tests.{ask}
use Rattle.net_model.specs.declared.Network.{Network}
use Rattle.net_model.specs.Struct.{net_in, Sound}
use Rattle.net_model.proofs.Struct.{struct_of_lem, struct_sound}
use Rattle.book_form.specs.Book.{Book, parse}
use Rattle.book_form.specs.Questions.{book_refusal}
use Rattle.book_form.specs.Checked.{checked_of, checked_book}
use Rattle.book_form.specs.declared.CheckedBook.{CheckedBook}
use Rattle.book_form.proofs.WithinLimits.{within_limits}
use Rattle.way_theory.specs.BookNet.{book_net}
use Rattle.way_theory.proofs.Arcs.{well_formed}
use Rattle.way_theory.proofs.Accepted.{accepted_net}
use Rattle.book_form.specs.Held.{Holds}
use Rattle.way_network.specs.Network.{IsNetworkOf}

pub held : (s : List ℕ) → book_refusal s ≡ 0 → (b : Book) × (c : CheckedBook) × (parse s ≡ some b) × (checked_book s ≡ Some c) × Holds b c
held s e = go (parse s) refl
  where
    no_form : (t : Bool) → ¬ (ask t 11 12 ≡ 0)
    no_form true q = omega arith
    no_form false q = omega arith

    go : (o : Maybe Book) → parse s ≡ o → (b : Book) × (c : CheckedBook) × (parse s ≡ some b) × (checked_book s ≡ Some c) × Holds b c
    go none q = absurd (no_form (leb (length s) 16384) (rw q at e))
    go (some b) q = (b, checked_of (length s) b, q, rw (e, q), record { limits = within_limits s b e q; total = length s; is = refl })

module _ (b : Book) (s : CheckedBook) (h : Holds b s) (r : Network) (m : IsNetworkOf s r) where
  pub made_net : net_in r ≡ book_net b
  made_net = ap net_in (m.each b h) ∙ struct_of_lem (book_net b) (well_formed b)

  pub made_sound : Sound r
  made_sound = subst Sound (sym (m.each b h)) (struct_sound (book_net b) (accepted_net b h.limits))
