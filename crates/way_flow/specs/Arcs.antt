-- The ends of a book's arcs, as a checked network holds them.
use Rattle.std.specs.Prelude.{◌≡◌, List, map, ℕ}
use Rattle.laws.specs.Padded.{padded}
use Rattle.net_model.specs.declared.Arc.{Arc}
use Rattle.book_form.specs.Book.{Book}
use Rattle.book_form.specs.WithinLimits.{WithinLimits}
use Rattle.way_theory.specs.Follow.{size}
use Rattle.way_theory.specs.Ways.{IsWay}
use Rattle.way_theory.specs.BookNet.{book_arcs}
use Rattle.way_theory.specs.WayFlow.{flow_of}

-- they are those of the book b, of e entries
pub record ArcEnds (b : Book) (e : ℕ) (held : List Arc) : Type 0 where
  pub limits : WithinLimits b
  pub entries_are : e ≡ size b
  pub tails_are : map (λ (a : Arc). a.tail) held ≡ map (λ a. a.tail) (book_arcs b)
  pub heads_are : map (λ (a : Arc). a.head) held ≡ map (λ a. a.head) (book_arcs b)

-- those of a book with so many players
pub record HasEnds (e players : ℕ) (held : List Arc) : Type 0 where
  pub book : Book
  pub ends : ArcEnds book e held
  pub players_are : players ≡ book.players

-- those of a book, with the flow of a way of it
pub record HasFlow (e : ℕ) (held : List Arc) (flow : List ℕ) : Type 0 where
  pub book : Book
  pub ends : ArcEnds book e held
  pub way : List ℕ
  pub is_way : IsWay book way
  pub flow_is : flow ≡ flow_of book way

-- the way whose flow it is, of each book that has these arcs
pub record IsWayOf (e : ℕ) (held : List Arc) (flow way : List ℕ) : Type 0 where
  pub each : (b : Book) → ArcEnds b e held → (w : List ℕ) → IsWay b w → flow ≡ flow_of b w → way ≡ padded 28 0 w

-- the flow of the list w, of each book that has these arcs and as many players
pub record IsFlowOf (e players : ℕ) (held : List Arc) (w flow : List ℕ) : Type 0 where
  pub each : (b : Book) → ArcEnds b e held → players ≡ b.players → flow ≡ padded 512 0 (flow_of b w)
