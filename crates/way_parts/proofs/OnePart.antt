-- One part written, entry by entry.
use Rattle.std.proofs.Common.{◌≡◌, refl, sym, ap, ◌∙◌, List, [], ◌∷◌, ◌++◌, append_assoc, append-nil, ℕ, ◌+◌, ◌≤◌, ◌<◌, arith, length, set, length-append, Option, Some, None}
use Rattle.laws.specs.Appended.{Appended, appended_none, appended_one, appended_then, appended_long}
use Rattle.laws.specs.Optional.{optional}
use Rattle.way_parts.specs.Parts.{successor, part_of}
use Rattle.way_parts.specs.Acyclic.{Acyclic}
use Rattle.way_parts.proofs.Induction.{part_induction}

-- l is what is played from an entry on, if there is one
abbrev pub Chain : List ℕ → Option ℕ → List ℕ → Type 0
Chain w next [] = next ≡ None
Chain w next (j ∷ l) = (next ≡ Some j) × Chain w (optional (successor w j)) l

pub part_chain : (w : List ℕ) → Acyclic w → (j : ℕ) → 1 ≤ j → j ≤ length w → Chain w (Some j) (part_of w j)
part_chain w ok j h k =
    let (l, e, p) = part_induction w ok (λ i l. Chain w (optional (successor w i)) l) (record { last = λ i e. ap optional e; back = λ i k l h e f p. (ap optional e, p) }) j h k in
    rw e (refl, p)

-- some entries of the part l are written from the place `at` to the place k, and those from `next` on are left
pub record PartBegun (w l b : List ℕ) (at : ℕ) (o : List ℕ) (next : Option ℕ) (k : ℕ) : Type 0 where
  pub done : List ℕ
  pub rest : List ℕ
  pub left : Chain w next rest
  pub whole : done ++ rest ≡ l
  pub put : Appended b at done o k

pub part_begin : (w l b : List ℕ) (at : ℕ) (next : Option ℕ) → Chain w next l → at ≤ length b → PartBegun w l b at b next at
part_begin w l b at next c h = record { done = []; rest = l; left = c; whole = refl; put = appended_none b at h }

module _ {w l b : List ℕ} {at : ℕ} {o : List ℕ} {next : Option ℕ} {k : ℕ} (d : PartBegun w l b at o next k) where
  -- there is a place for entry i
  pub part_room : {i : ℕ} → next ≡ Some i → k < at + length l
  part_room {i} q = go d.rest d.left (sym (length-append d.done d.rest) ∙ ap length d.whole)
    where
      go : (r : List ℕ) → Chain w next r → length d.done + length r ≡ length l → k < at + length l
      go [] c e = cc
      go (j ∷ r) c e = omega (arith, d.put.end)

  pub part_free : {i : ℕ} → next ≡ Some i → at + length l ≤ length b → k < length o
  part_free q h = omega (arith, part_room q, h, appended_long d.put)

  pub part_more : {i : ℕ} → next ≡ Some i → at + length l ≤ length b → PartBegun w l b at (set o k i) (optional (successor w i)) (k + 1)
  part_more {i} q h = go d.rest d.left d.whole
    where
      go : (r : List ℕ) → Chain w next r → d.done ++ r ≡ l → PartBegun w l b at (set o k i) (optional (successor w i)) (k + 1)
      go [] c e = cc
      go (j ∷ r) (s, c) e =
          let t : j ≡ i = cc in
          record {
            done = d.done ++ (i ∷ []);
            rest = r;
            left = rw t at c;
            whole = append_assoc d.done (i ∷ []) r ∙ ap (λ x. d.done ++ (x ∷ r)) (sym t) ∙ e;
            put = appended_then d.put (appended_one o k i (part_free q h));
          }

  pub part_end : next ≡ None → Appended b at l o k
  part_end q = go d.rest d.left d.whole
    where
      go : (r : List ℕ) → Chain w next r → d.done ++ r ≡ l → Appended b at l o k
      go [] c e = rw (sym (append-nil d.done) ∙ e) at d.put
      go (j ∷ r) (s, c) e = cc
