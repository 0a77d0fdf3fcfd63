-- All lists of numbers within bounds, in lexicographic order.
use Rattle.std.specs.Prelude.{◌≡◌, refl, ◌⊎◌, ◌↔◌, List, [], ◌∷◌, ◌++◌, map, ℕ, zero, suc, ◌+◌, ◌-◌, ◌≤◌, ◌<◌}
use Rattle.std.proofs.Common.{inl, inr, arith}
use Rattle.std.proofs.Math.Decide.{ℕ_discrete}
use Rattle.laws.specs.Lexicographic.{◌<lex◌}
use Rattle.laws.specs.Members.{◌∈◌, member_every, every_member, append_cases, append_left, append_right, map_member, member_map}
use Rattle.laws.specs.Ascending.{Ascending, ascending_append}
use Rattle.laws.specs.Image.{ascending_image}

-- n numbers from a upwards
abbrev pub from : ℕ → ℕ → List ℕ
from zero a = []
from (suc n) a = a ∷ from n (suc a)

-- the numbers from l to u, both included
abbrev pub between : ℕ → ℕ → List ℕ
between l u = from (suc u - l) l

-- each list of `rest` behind each number of `heads`
abbrev pub fronted : List ℕ → List (List ℕ) → List (List ℕ)
fronted [] rest = []
fronted (a ∷ heads) rest = map (λ r. a ∷ r) rest ++ fronted heads rest

-- all lists within the bounds
abbrev pub within : List (ℕ × ℕ) → List (List ℕ)
within [] = [] ∷ []
within (b ∷ bs) = fronted (between b.0 b.1) (within bs)

-- what it is to be within the bounds
abbrev pub Within : List (ℕ × ℕ) → List ℕ → Type 0
Within [] [] = Unit {0}
Within [] (a ∷ x) = ⊥
Within (b ∷ bs) [] = ⊥
Within (b ∷ bs) (a ∷ x) = (b.0 ≤ a) × (a ≤ b.1) × Within bs x

pub from_member : (n s a : ℕ) → a ∈ from n s → (s ≤ a) × (a < s + n)
from_member zero s a m = absurd m
from_member (suc n) s a (inl q) = omega arith
from_member (suc n) s a (inr m) = let h = from_member n (suc s) a m in omega arith

from_cases : (s a : ℕ) → s ≤ a → Dec (a ≡ s) → (a ≡ s) ⊎ (suc s ≤ a)
from_cases s a h (yes q) = inl q
from_cases s a h (no q) = inr (omega arith)

pub member_from : (n s a : ℕ) → s ≤ a → a < s + n → a ∈ from n s
member_from zero s a h k = absurd (omega arith)
member_from (suc n) s a h k =
    step (λ g. member_from n (suc s) a g (omega arith)) (from_cases s a h (ℕ_discrete a s))
  where
    step : (suc s ≤ a → a ∈ from n (suc s)) → (a ≡ s) ⊎ (suc s ≤ a) → (a ≡ s) ⊎ (a ∈ from n (suc s))
    step deep (inl q) = inl q
    step deep (inr g) = inr (deep g)

from_ascending : (n s : ℕ) → Ascending ◌<◌ (from n s)
from_ascending zero s = tt
from_ascending (suc n) s = (member_every (λ a. s < a) (from n (suc s)) (λ a m. (from_member n (suc s) a m).0), from_ascending n (suc s))

between_member : (l u a : ℕ) → (a ∈ between l u) ↔ ((l ≤ a) × (a ≤ u))
between_member l u a = (λ m. (let h = from_member (suc u - l) l a m in omega arith), λ h. member_from (suc u - l) l a h.0 (omega arith))

fronted_member : (heads : List ℕ) (rest : List (List ℕ)) (a : ℕ) (x : List ℕ) → (a ∷ x) ∈ fronted heads rest → (a ∈ heads) × (x ∈ rest)
fronted_member [] rest a x m = absurd m
fronted_member (b ∷ heads) rest a x m =
    step (λ n. fronted_member heads rest a x n) (append_cases (map (λ r. b ∷ r) rest) (fronted heads rest) (a ∷ x) m)
  where
    here : (y : List ℕ) → y ∈ rest → (a ∷ x) ≡ (b ∷ y) → (a ∈ (b ∷ heads)) × (x ∈ rest)
    here y n q = (inl (cc), (let e : x ≡ y = cc in rw e n))

    step : ((a ∷ x) ∈ fronted heads rest → (a ∈ heads) × (x ∈ rest)) → ((a ∷ x) ∈ map (λ r. b ∷ r) rest) ⊎ ((a ∷ x) ∈ fronted heads rest) → (a ∈ (b ∷ heads)) × (x ∈ rest)
    step deep (inl n) = let (y, p, q) = member_map (λ r. b ∷ r) rest (a ∷ x) n in here y p q
    step deep (inr n) = (inr (deep n).0, (deep n).1)

fronted_nil : (heads : List ℕ) (rest : List (List ℕ)) → ¬ ([] ∈ fronted heads rest)
fronted_nil [] rest m = m
fronted_nil (b ∷ heads) rest m = step (λ n. fronted_nil heads rest n) (append_cases (map (λ r. b ∷ r) rest) (fronted heads rest) [] m)
  where
    here : (y : List ℕ) → ◌≡◌ {A = List ℕ} [] (b ∷ y) → ⊥
    here y q = let z : ◌≡◌ {A = ℕ} 0 1 = cc in omega arith

    step : ¬ ([] ∈ fronted heads rest) → ([] ∈ map (λ r. b ∷ r) rest) ⊎ ([] ∈ fronted heads rest) → ⊥
    step deep (inl n) = let (y, p, q) = member_map (λ r. b ∷ r) rest [] n in here y q
    step deep (inr n) = deep n

member_fronted : (heads : List ℕ) (rest : List (List ℕ)) (a : ℕ) (x : List ℕ) → a ∈ heads → x ∈ rest → (a ∷ x) ∈ fronted heads rest
member_fronted [] rest a x m n = absurd m
member_fronted (b ∷ heads) rest a x (inl q) n =
    append_left (map (λ r. b ∷ r) rest) (fronted heads rest) (a ∷ x) (rw q (map_member (λ r. b ∷ r) rest x n))
member_fronted (b ∷ heads) rest a x (inr m) n =
    append_right (map (λ r. b ∷ r) rest) (fronted heads rest) (a ∷ x) (member_fronted heads rest a x m n)

-- `within bs` has exactly the lists within the bounds
pub within_member : (bs : List (ℕ × ℕ)) (x : List ℕ) → (x ∈ within bs) ↔ Within bs x
within_member bs x = (into bs x, out bs x)
  where
    into : (bs : List (ℕ × ℕ)) (x : List ℕ) → x ∈ within bs → Within bs x
    into [] [] m = tt
    into [] (a ∷ x) (inl q) = let z : ◌≡◌ {A = ℕ} 0 1 = cc in omega arith
    into [] (a ∷ x) (inr m) = m
    into (b ∷ bs) [] m = fronted_nil (between b.0 b.1) (within bs) m
    into (b ∷ bs) (a ∷ x) m =
        let (h, n) = fronted_member (between b.0 b.1) (within bs) a x m in
        let g = (between_member b.0 b.1 a).0 h in
        (g.0, g.1, into bs x n)

    out : (bs : List (ℕ × ℕ)) (x : List ℕ) → Within bs x → x ∈ within bs
    out [] [] w = inl refl
    out [] (a ∷ x) w = absurd w
    out (b ∷ bs) [] w = absurd w
    out (b ∷ bs) (a ∷ x) w =
        member_fronted (between b.0 b.1) (within bs) a x ((between_member b.0 b.1 a).1 (w.0, w.1)) (out bs x w.2)

-- `within bs` ascends
fronted_head : (heads : List ℕ) (rest : List (List ℕ)) (x : List ℕ) → x ∈ fronted heads rest → (a : ℕ) × (y : List ℕ) × (x ≡ a ∷ y) × (a ∈ heads)
fronted_head heads rest [] m = absurd (fronted_nil heads rest m)
fronted_head heads rest (a ∷ y) m = (a, y, refl, (fronted_member heads rest a y m).0)

fronted_ascending : (heads : List ℕ) (rest : List (List ℕ)) → Ascending ◌<◌ heads → Ascending ◌<lex◌ rest → Ascending ◌<lex◌ (fronted heads rest)
fronted_ascending [] rest h g = tt
fronted_ascending (a ∷ heads) rest h g =
    ascending_append ◌<lex◌ (map (λ r. a ∷ r) rest) (fronted heads rest)
    (ascending_image (λ r. a ∷ r) ◌<lex◌ ◌<lex◌ rest (λ x y m n k. inr (refl, k)) g)
    (fronted_ascending heads rest h.1 g)
    apart
  where
    apart : (x y : List ℕ) → x ∈ map (λ r. a ∷ r) rest → y ∈ fronted heads rest → x <lex y
    apart x y m n =
        let (u, m', e) = member_map (λ r. a ∷ r) rest x m in
        let (c, v, f, k) = fronted_head heads rest y n in
        rw (e, f) (inl (every_member (λ z. a < z) heads h.0 c k))

pub within_ascending : (bs : List (ℕ × ℕ)) → Ascending ◌<lex◌ (within bs)
within_ascending [] = (tt, tt)
within_ascending (b ∷ bs) =
    fronted_ascending (between b.0 b.1) (within bs) (from_ascending (suc b.1 - b.0) b.0) (within_ascending bs)
