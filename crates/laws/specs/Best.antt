-- The best of a list: those that no member beats. `no-worse x y` says that x is no worse than y.
use Rattle.std.specs.Prelude.{◌≡◌, ◌↔◌, List, Bool, true}
use Rattle.laws.specs.Members.{◌∈◌, keep, kept, keeps}
use Rattle.laws.specs.Ascending.{Ascending, ascending_keep}
use Rattle.laws.specs.Tests.{all, all_member, member_all}

module _ {A : Type 0} where
  abbrev pub best : (A → A → Bool) → List A → List A
  best no-worse l = keep (λ x. all (no-worse x) l) l

  pub best_member : (no-worse : A → A → Bool) (l : List A) (x : A)
      → (x ∈ best no-worse l) ↔ ((x ∈ l) × ((y : A) → y ∈ l → no-worse x y ≡ true))
  best_member no-worse l x = (
    λ m. (let (n, e) = kept (λ x. all (no-worse x) l) l x m in (n, all_member (no-worse x) l e)),
    λ h. keeps (λ x. all (no-worse x) l) l x h.0 (member_all (no-worse x) l h.1),
  )

  pub best_ascending : (R : A → A → Type 0) (no-worse : A → A → Bool) (l : List A) → Ascending R l → Ascending R (best no-worse l)
  best_ascending R no-worse l h = ascending_keep R (λ x. all (no-worse x) l) l h
