-- What a call appends to the reuse chain, key by key. Assumes nothing.
use mathlib.Core.Path.{◌≡◌, refl, sym, ap, ◌∙◌}
use mathlib.Core.Bool.{true, false}
use mathlib.Core.Logic.{◌⊎◌, inl, inr}
use mathlib.Core.List.{List, [], ◌∷◌}
use Prim.Native.Nat.{ℕ, ◌<◌}
use Rattle.layout.specs.Content.{Table}
use Rattle.prelude.specs.Members.{In}
use Rattle.prelude.proofs.Lists.{in_append}
use Rattle.table.specs.Table.{key_in, live}
use Rattle.table.proofs.defs.Reuse.{joins}
use Rattle.table.proofs.defs.ReuseAfter.{joins_of}
use Rattle.table.proofs.defs.Write.{holder}
use Rattle.table.specs.Class.{is_put}
use Rattle.table.proofs.Appended.{Joined, from_old, from_own, joined}
use Rattle.table.proofs.Held.{is_holder, Holder, holder_is}

-- why slot t is appended: it is the old slot of a key, or a remove went there
pub data From (f : Table) (n : ℕ) (l : List ℕ) (new : Table) (t : ℕ) : Type 0 where
  old : (s : ℕ) → In s l → 0 < holder f n (key_in (new s)) → t ≡ holder f n (key_in (new s)) → From f n l new t
  own_slot : In t l → is_put (new t) ≡ false → From f n l new t

pub joins_from : (f : Table) (n : ℕ) (l : List ℕ) (new : Table) (t : ℕ) → In t (joins_of f n l new) → From f n l new t
unfolding joins_of
joins_from f n [] new t i = absurd i
joins_from f n (x ∷ l) new t i = go (in_append t (joins f n x (key_in (new x)) (new x)) (joins_of f n l new) i) (joins_from f n l new t)
  where
    wider : From f n l new t → From f n (x ∷ l) new t
    wider (old s j p e) = old s (inr j) p e
    wider (own_slot j p) = own_slot (inr j) p

    here : Joined (holder f n (key_in (new x))) (is_put (new x)) x t → From f n (x ∷ l) new t
    here (from_old p e) = old x (inl refl) p e
    here (from_own p e) = own_slot (inl e) (ap (λ (y : ℕ). is_put (new y)) e ∙ p)

    go : In t (joins f n x (key_in (new x)) (new x)) ⊎ In t (joins_of f n l new) → (In t (joins_of f n l new) → From f n l new t) → From f n (x ∷ l) new t
    go (inl j) ih = here (joined (holder f n (key_in (new x))) (is_put (new x)) x t j)
    go (inr j) ih = wider (ih j)

-- the slots of l are spare and no two of their keys are one: nothing is appended twice
module _ (f : Table) (n : ℕ) (new : Table) where
  -- the holder of a record's key is live
  pub holder-live : (s t : ℕ) → 0 < holder f n (key_in (new s)) → holder f n (key_in (new s)) ≡ t → live f n t ≡ true
  holder-live s t p e = go (is_holder f n (key_in (new s)) p)
    where
      go : Holder f n (key_in (new s)) → live f n t ≡ true
      go (holder_is i a b) = sym (ap (live f n) e) ∙ a
