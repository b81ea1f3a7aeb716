-- What a write appends to reuse. Assumes nothing.
use mathlib.Core.Path.{◌≡◌, refl}
use mathlib.Core.Bool.{Bool, true, false}
use mathlib.Core.Logic.{inl, inr}
use Prim.Native.Nat.{ℕ, zero, suc, ◌<◌}
use native.Mathlib.Omega.{arith}
use Rattle.prelude.specs.Members.{In}
use Rattle.table.proofs.defs.Reuse.{appended}

-- what is appended: the old slot, where there is one, or the slot taken, where a remove went there
pub data Joined (o : ℕ) (p : Bool) (s t : ℕ) : Type 0 where
  from_old : 0 < o → t ≡ o → Joined o p s t
  from_own : p ≡ false → t ≡ s → Joined o p s t

pub joined : (o : ℕ) (p : Bool) (s t : ℕ) → In t (appended o p s) → Joined o p s t
unfolding appended
joined zero true s t i = absurd i
joined zero false s t (inl e) = from_own refl e
joined zero false s t (inr i) = absurd i
joined (suc o) true s t (inl e) = from_old (omega arith) e
joined (suc o) true s t (inr i) = absurd i
joined (suc o) false s t (inl e) = from_old (omega arith) e
joined (suc o) false s t (inr (inl e)) = from_own refl e
joined (suc o) false s t (inr (inr i)) = absurd i
