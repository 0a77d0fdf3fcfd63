-- Each node alone, and a step added.
use mathlib.Core.Path.{◌≡◌, refl, sym, ap, subst, ◌∙◌}
use mathlib.Core.Logic.{◌⊎◌, inl, inr, ⊎_elim}
use mathlib.Core.List.{List, [], ◌∷◌}
use mathlib.Core.Bool.{Bool, true, false, true≢false, ◌&&◌, ◌||◌}
use Prim.Native.Nat.{ℕ, zero, suc, ◌≤◌, ◌<◌}
use native.Mathlib.Omega.{arith}
use native.Mathlib.Decide.{ℕ_discrete, dec_lt}
use lib.Dec.{eqb}
use lib.ListN.{length, get_or, set, length-set}
use lib.Seq.{get_or-set_same, get_or-set_other}
use lib.Bits.{bit_or}
use borrow.Author.Tests.{eq-eqb, eqb-true}
use Rattle.laws.specs.Tests.{and_true, true_and, or_cases, or_left, or_right}
use Rattle.flow_preorder.specs.NodeSet.{has}
use Rattle.flow_preorder.specs.Preorder.{leads, Preorder, Alone, JoinedSet, JoinedRows, Extended}
use Rattle.flow_preorder.proofs.NodeSet.{union_has, joined_yes, joined_no, none_has}

-- rows come to an end
no_row : (rows : List ℕ) (u : ℕ) → length rows ≤ u → get_or rows u 0 ≡ 0
no_row [] u h = refl
no_row (r ∷ rows) zero h = absurd (omega arith)
no_row (r ∷ rows) (suc u) h = no_row rows u (omega arith)

inside : (rows : List ℕ) (u v : ℕ) → leads rows u v ≡ true → u < length rows
inside rows u v e = go (dec_lt u (length rows))
  where
    go : Dec (u < length rows) → u < length rows
    go (yes h) = h
    go (no h) = absurd (let z : ◌≡◌ {A = ℕ} 0 1 = cc (e, ap (λ r. has r v) (no_row rows u (omega arith)), none_has v) in omega arith)

-- ---- each node leads to itself alone
module _ (rows : List ℕ) (l : length rows ≡ 65) (h : (u : ℕ) → u < 64 → (w : ℕ) → has (get_or rows u 0) w ≡ eqb w u) (z : get_or rows 64 0 ≡ 0) where
  itself : (u v : ℕ) → leads rows u v ≡ true → (u < 64) × (v ≡ u)
  itself u v e = go (dec_lt u 64)
    where
      go : Dec (u < 64) → (u < 64) × (v ≡ u)
      go (yes k) = (k, eqb-true v u (sym (h u k v) ∙ e))
      go (no k) = absurd (let q : u ≡ 64 = omega (arith, inside rows u v e) in let n : ◌≡◌ {A = ℕ} 0 1 = cc (e, ap (λ r. has r v) (ap (λ i. get_or rows i 0) q ∙ z), none_has v) in omega arith)

  pub alone : Alone rows
  alone = record {
    preorder = record {
      rows_len = l;
      nodes = λ u v e. omega (arith, itself u v e);
      met = λ u v e. inl (sym (itself u v e).1);
      reflexive = λ u k. h u k u ∙ eq-eqb u u refl;
      transitive = λ u v w p q. rw (itself u v p).1 at q;
    };
    itself = λ u v e. sym (itself u v e).1;
  }

-- ---- a step added
-- each row that has p gets what q leads to, and so does row 64
pub record Stepped (rows rows' : List ℕ) (p q : ℕ) : Type 0 where
  pub same_len : length rows' ≡ length rows
  pub done : (v : ℕ) → v < 64 → JoinedSet (get_or rows v 0) (get_or rows q 0) p (get_or rows' v 0)
  pub last : (w : ℕ) → leads rows' 64 w ≡ (leads rows 64 w || leads rows q w)

module _ (rows : List ℕ) (p q : ℕ) (pre : Preorder rows) (hp : p < 64) (hq : q < 64) where
  -- p is in row 64: all rows are gone through
  pub stepped_all : (rows' : List ℕ) → leads rows 64 p ≡ true → JoinedRows rows rows' (get_or rows q 0) p 65 → Stepped rows rows' p q
  stepped_all rows' e j = record { same_len = j.same_len; done = λ v h. j.done v (omega arith); last = λ w. let d = j.done 64 (omega arith) w in rw e at d }

  -- it is not: p alone leads to p
  pub stepped_one : leads rows 64 p ≡ false → Stepped rows (set (set rows p (bit_or (get_or rows p 0) (get_or rows q 0))) 64 (bit_or (get_or rows 64 0) (get_or rows q 0))) p q
  stepped_one e = record {
    same_len = length-set (set rows p (bit_or (get_or rows p 0) (get_or rows q 0))) 64 (bit_or (get_or rows 64 0) (get_or rows q 0)) ∙ length-set rows p (bit_or (get_or rows p 0) (get_or rows q 0));
    done = λ v h. subst (λ (r : ℕ). JoinedSet (get_or rows v 0) (get_or rows q 0) p r) (sym (get_or-set_other (set rows p (bit_or (get_or rows p 0) (get_or rows q 0))) 64 v _ 0 (λ n. omega arith))) (go v (ℕ_discrete v p) _ refl);
    last = λ w. ap (λ r. has r w) (get_or-set_same (set rows p (bit_or (get_or rows p 0) (get_or rows q 0))) 64 _ 0 (omega (arith, pre.rows_len, length-set rows p (bit_or (get_or rows p 0) (get_or rows q 0))))) ∙ union_has (get_or rows 64 0) (get_or rows q 0) w;
  }
    where
      go : (v : ℕ) → Dec (v ≡ p) → (b : Bool) → leads rows v p ≡ b → JoinedSet (get_or rows v 0) (get_or rows q 0) p (get_or (set rows p (bit_or (get_or rows p 0) (get_or rows q 0))) v 0)
      go v (yes d) b _ = subst (λ (i : ℕ). JoinedSet (get_or rows i 0) (get_or rows q 0) p (get_or (set rows p (bit_or (get_or rows p 0) (get_or rows q 0))) i 0)) (sym d)
          (subst (λ (r : ℕ). JoinedSet (get_or rows p 0) (get_or rows q 0) p r) (sym (get_or-set_same rows p _ 0 (omega (arith, pre.rows_len)))) (λ w. joined_yes (get_or rows p 0) (get_or rows q 0) p w (pre.reflexive p hp)))
      go v (no d) true t = absurd (⊎_elim (λ s. d s) (λ s. true≢false (sym s ∙ e)) (pre.met v p t))
      go v (no d) false n = subst (λ (r : ℕ). JoinedSet (get_or rows v 0) (get_or rows q 0) p r) (sym (get_or-set_other rows p v _ 0 d)) (λ w. joined_no (get_or rows v 0) (get_or rows q 0) p w n)

  module _ (rows' : List ℕ) (j : Stepped rows rows' p q) where
    -- what rows' has
    of_stepped : (v w : ℕ) → v < 64 → leads rows' v w ≡ true → (leads rows v w ≡ true) ⊎ ((leads rows v p ≡ true) × (leads rows q w ≡ true))
    of_stepped v w h e = ⊎_elim (λ a. inl a) (λ b. inr (and_true (leads rows v p) (leads rows q w) b)) (or_cases (leads rows v w) (leads rows v p && leads rows q w) (sym (j.done v h w) ∙ e))

    of_last : (w : ℕ) → leads rows' 64 w ≡ true → (leads rows 64 w ≡ true) ⊎ (leads rows q w ≡ true)
    of_last w e = or_cases (leads rows 64 w) (leads rows q w) (sym (j.last w) ∙ e)

    -- a row is that of a node, or row 64
    which : (v w : ℕ) → leads rows' v w ≡ true → (v < 64) ⊎ (v ≡ 64)
    which v w e = go (dec_lt v 64)
      where
        go : Dec (v < 64) → (v < 64) ⊎ (v ≡ 64)
        go (yes h) = inl h
        go (no h) = inr (omega (arith, inside rows' v w e, j.same_len, pre.rows_len))

    last_old : (w : ℕ) → leads rows 64 w ≡ true → leads rows' 64 w ≡ true
    last_old w e = j.last w ∙ or_left (leads rows 64 w) (leads rows q w) e

    last_new : (w : ℕ) → leads rows q w ≡ true → leads rows' 64 w ≡ true
    last_new w e = j.last w ∙ or_right (leads rows 64 w) (leads rows q w) e

    node_old : (v w : ℕ) → v < 64 → leads rows v w ≡ true → leads rows' v w ≡ true
    node_old v w h e = j.done v h w ∙ or_left (leads rows v w) (leads rows v p && leads rows q w) e

    by_step : (v w : ℕ) → v < 64 → leads rows v p ≡ true → leads rows q w ≡ true → leads rows' v w ≡ true
    by_step v w h a b = j.done v h w ∙ or_right (leads rows v w) (leads rows v p && leads rows q w) (true_and (leads rows v p) (leads rows q w) a b)

    old : (v w : ℕ) → leads rows v w ≡ true → leads rows' v w ≡ true
    old v w e = go (dec_lt v 64)
      where
        go : Dec (v < 64) → leads rows' v w ≡ true
        go (yes h) = node_old v w h e
        go (no h) = let k : v ≡ 64 = omega (arith, inside rows v w e, pre.rows_len) in subst (λ (i : ℕ). leads rows' i w ≡ true) (sym k) (last_old w (subst (λ (i : ℕ). leads rows i w ≡ true) k e))

    all_nodes : (v w : ℕ) → leads rows' v w ≡ true → w < 64
    all_nodes v w e = ⊎_elim
        (λ h. ⊎_elim (λ a. pre.nodes v w a) (λ b. pre.nodes q w b.1) (of_stepped v w h e))
        (λ k. ⊎_elim (λ a. pre.nodes 64 w a) (λ b. pre.nodes q w b) (of_last w (subst (λ (i : ℕ). leads rows' i w ≡ true) k e)))
        (which v w e)

    all_met : (v w : ℕ) → leads rows' v w ≡ true → (v ≡ w) ⊎ (leads rows' 64 w ≡ true)
    all_met v w e = ⊎_elim
        (λ h. ⊎_elim (λ a. ⊎_elim (λ s. inl s) (λ m. inr (last_old w m)) (pre.met v w a)) (λ b. inr (last_new w b.1)) (of_stepped v w h e))
        (λ k. inr (subst (λ (i : ℕ). leads rows' i w ≡ true) k e))
        (which v w e)

    through : (x y z : ℕ) → x < 64 → (leads rows x y ≡ true) ⊎ ((leads rows x p ≡ true) × (leads rows q y ≡ true)) → (leads rows y z ≡ true) ⊎ ((leads rows y p ≡ true) × (leads rows q z ≡ true)) → leads rows' x z ≡ true
    through x y z h (inl a) (inl b) = node_old x z h (pre.transitive x y z a b)
    through x y z h (inl a) (inr b) = by_step x z h (pre.transitive x y p a b.0) b.1
    through x y z h (inr a) (inl b) = by_step x z h a.0 (pre.transitive q y z a.1 b)
    through x y z h (inr a) (inr b) = by_step x z h a.0 b.1

    through_last : (y z : ℕ) → (leads rows 64 y ≡ true) ⊎ (leads rows q y ≡ true) → (leads rows y z ≡ true) ⊎ ((leads rows y p ≡ true) × (leads rows q z ≡ true)) → leads rows' 64 z ≡ true
    through_last y z (inl a) (inl b) = last_old z (pre.transitive 64 y z a b)
    through_last y z (inr a) (inl b) = last_new z (pre.transitive q y z a b)
    through_last y z a (inr b) = last_new z b.1

    pub stepped : (on : Bool) → on ≡ true → Extended rows rows' on p q
    stepped on t = record {
      preorder = record {
        rows_len = j.same_len ∙ pre.rows_len;
        nodes = all_nodes;
        met = all_met;
        reflexive = λ v l. node_old v v l (pre.reflexive v l);
        transitive = λ x y z a b. ⊎_elim
            (λ h. through x y z h (of_stepped x y h a) (of_stepped y z (all_nodes x y a) b))
            (λ k. subst (λ (i : ℕ). leads rows' i z ≡ true) (sym k) (through_last y z (of_last y (subst (λ (i : ℕ). leads rows' i y ≡ true) k a)) (of_stepped y z (all_nodes x y a) b)))
            (which x y a);
      };
      only = λ u v h e. ⊎_elim (λ a. inl a) (λ b. inr (t, b.0, b.1)) (of_stepped u v h e);
      keeps = old;
      new = λ _. by_step p q hp (pre.reflexive p hp) (pre.reflexive q hq);
      met_only = λ v e. ⊎_elim (λ a. inl a) (λ b. inr (t, b)) (of_last v e);
    }

-- nothing to add
pub same_rows : (rows : List ℕ) (on : Bool) (p q : ℕ) → Preorder rows → (on ≡ true → leads rows p q ≡ true) → Extended rows rows on p q
same_rows rows on p q pre h = record { preorder = pre; only = λ u v k e. inl e; keeps = λ u v e. e; new = h; met_only = λ v e. inl e }
