-- What is asked of the listing, from what its entry promises.
use mathlib.Core.Path.{◌≡◌, refl, sym, ap, ◌∙◌}
use mathlib.Core.List.{List, [], ◌∷◌}
use mathlib.Core.Logic.{◌⊎◌, ◌↔◌, inl, inr}
use Prim.Native.Nat.{ℕ, ◌≤◌}
use native.Mathlib.Omega.{arith}
use lib.IntN.{pos}
use lib.ListN.{length}
use Rattle.book_form.specs.Book.{parse}
use Rattle.book_form.specs.Questions.{book_refusal}
use Rattle.book_form.specs.LineTold.{line_told}
use Rattle.book_form.proofs.LineTold.{untold}
use Rattle.way_theory.specs.BookBytes.{ways, way_cost_or_zero}
use Rattle.call_reply.specs.declared.Reply.{Reply}
use Rattle.call_reply.specs.Replies.{or_else}
use Rattle.call_reply.proofs.Turns.{fails_first}
use Rattle.call_reply.proofs.Refusing.{if_ok_lem}
use Rattle.way_list.specs.WayListing.{list_ways}
use Rattle.call_listing.specs.Listing.{or_refused_line, listing, none_code, listing_code, BookListing}
use Rattle.demands.specs.Demands.{ListWaysDemands}
use Rattle.demands.proofs.Refusals.{value_1}

none_code_lem : (l : List (List ℕ)) → (none_code l ≡ 100) ↔ (l ≡ [])
none_code_lem [] = (λ e. refl, λ e. refl)
none_code_lem (w ∷ l) = (λ e. absurd (omega arith), λ e. ap none_code e)

module _ (s l : List ℕ) (r : Reply) (l' : List ℕ) (h : BookListing s l r l') where
  pub listing_demands : ListWaysDemands s l r l'
  listing_demands = record {
    demand1 = value_1 (line_told s) (untold s 0 (λ b. refl)) (book_refusal s) (listing_code s) (length (listing s)) (λ z. sym (fails_first (book_refusal s) _ (book_refusal s) refl z)) word r h.reply_is l _ l' h.text_is;
    none_exactly = λ ok. (let e = code ∙ passed ok in let n = none_code_lem (ways s) in (λ q. n.0 (sym e ∙ q), λ q. e ∙ n.1 q));
    listed = λ z. (let k : listing_code s ≡ 0 = sym code ∙ z in (ap (λ (x : Reply). x.value) h.reply_is ∙ ap pos (if_ok_lem (listing_code s) _ 0 k), h.text_is ∙ if_ok_lem (listing_code s) _ l k));
    text_is = λ ok. ap (λ n. or_refused_line n (list_ways (way_cost_or_zero (parse s)) (ways s))) ok;
  }
    where
      code : r.code ≡ listing_code s
      code = ap (λ (x : Reply). x.code) h.reply_is

      passed : book_refusal s ≡ 0 → listing_code s ≡ none_code (ways s)
      passed ok = ap (λ n. or_else n (none_code (ways s))) ok

      code_or_word : (L : List (List ℕ)) → (none_code L ≡ 0) ⊎ (100 ≤ none_code L)
      code_or_word [] = inr (omega arith)
      code_or_word (w ∷ L) = inl refl

      word : book_refusal s ≡ 0 → (listing_code s ≡ 0) ⊎ (100 ≤ listing_code s)
      word ok = rw (passed ok) (code_or_word (ways s))
