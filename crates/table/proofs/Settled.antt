-- The settled table: what it has is what the slots hold. Assumes nothing.
use mathlib.Core.Path.{◌≡◌, refl, sym, ap, ◌∙◌}
use mathlib.Core.Bool.{Bool, true, false}
use mathlib.Core.Logic.{◌⊎◌, inl, inr}
use Prim.Native.Nat.{ℕ, ◌<◌}
use native.Mathlib.Omega.{arith}
use Rattle.prelude.specs.Members.{Slot}
use Rattle.prelude.proofs.Choice.{split, true-false}
use Rattle.layout.specs.Content.{Content, highest_whole_in, Table}
use Rattle.table.specs.Table.{rank_for_key, live}
use Rattle.table.specs.Complete.{SizeFields, is_void, settled}
use Rattle.table.proofs.defs.Write.{ApartByKey}
use Rattle.table.proofs.Complete.{settled_void, settled_same}
use Rattle.table.proofs.Map.{live-broken}
use Rattle.table.proofs.OneSlot.{weight_broken}

module _ (f : Table) (num : SizeFields) (n : ℕ) where
  -- a live slot is not void
  pub settled-live : (s : ℕ) → live (settled f num n) n s ≡ true → settled f num n s ≡ f s
  settled-live s e = go (split (is_void f num n s))
    where
      go : (is_void f num n s ≡ true) ⊎ (is_void f num n s ≡ false) → settled f num n s ≡ f s
      go (inl v) = absurd (true-false e (live-broken (settled f num n) n s (highest_whole_in (f s)) (settled_void f num n s v)))
      go (inr v) = settled_same f num n s v

  -- a slot with a record of a key is not void
  pub settled_weight : (k s : ℕ) → 0 < rank_for_key k (settled f num n s) → settled f num n s ≡ f s
  settled_weight k s p = go (split (is_void f num n s))
    where
      go : (is_void f num n s ≡ true) ⊎ (is_void f num n s ≡ false) → settled f num n s ≡ f s
      go (inl v) = absurd (omega (arith, p, ap (rank_for_key k) (settled_void f num n s v), weight_broken (highest_whole_in (f s)) k))
      go (inr v) = settled_same f num n s v

  pub settled_apart : ApartByKey f n → ApartByKey (settled f num n) n
  settled_apart a k s t i j ne p e =
      let es = settled_weight k s p in
      let et = settled_weight k t (omega (arith, p, e)) in
      a k s t i j ne (omega (arith, p, ap (rank_for_key k) es)) (sym (ap (rank_for_key k) es) ∙ e ∙ ap (rank_for_key k) et)
