-- The reply of a refusal, which is the reply of a call whose code is not 0.
use mathlib.Core.Path.{◌≡◌, refl}
use Prim.Native.Nat.{ℕ, zero, suc}
use native.Mathlib.Omega.{arith}
use Rattle.laws.specs.Count.{Count}
use Rattle.call_reply.specs.declared.Reply.{Reply}
use Rattle.call_reply.specs.Replies.{if_ok, refused_at, count_reply, reply_unless, count_unless, value_reply}

pub if_ok_lem : {A : Type 0} (k : ℕ) (x y : A) → k ≡ 0 → if_ok k x y ≡ x
if_ok_lem zero x y z = refl
if_ok_lem (suc k) x y z = absurd (omega arith)

pub if_not : {A : Type 0} (k : ℕ) (x y : A) → ¬ (k ≡ 0) → if_ok k x y ≡ y
if_not zero x y z = absurd (z refl)
if_not (suc k) x y z = refl

pub refused_value : (k l n : ℕ) → ¬ (k ≡ 0) → refused_at k l ≡ value_reply k l n
refused_value k l n z = rw (if_not k n 0 z)

pub refused_reply : (k l : ℕ) (x : Reply) → ¬ (k ≡ 0) → refused_at k l ≡ reply_unless k l x
refused_reply zero l x z = absurd (z refl)
refused_reply (suc k) l x z = refl

pub refused_count : (k l : ℕ) (n : Count) → ¬ (k ≡ 0) → refused_at k l ≡ count_unless k l n
refused_count k l n z = refused_reply k l (count_reply n) z
