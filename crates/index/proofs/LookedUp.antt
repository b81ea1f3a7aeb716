-- The lookup of a call by what following the key's chain found. Assumes nothing.
use mathlib.Core.Path.{◌≡◌, sym, ap, ◌∙◌}
use Prim.Native.Nat.{ℕ}
use Rattle.prelude.specs.Refusal.{unless_refused}
use Rattle.prelude.proofs.Refusals.{taken_leaves, refused_keeps}
use Rattle.index.specs.Walk.{compared_in}
use Rattle.index.specs.inner.Lookup.{lookup_by}
use Rattle.index.specs.declared.Found.{Found}
use Rattle.index.specs.declared.Found.TheVariants.{At, Missing, BadChain}
use Rattle.index.specs.declared.Place.{Place}
use Rattle.index.specs.declared.Place.TheVariants.{Held, NotHeld}
use Rattle.index.specs.declared.Lookup.{Lookup}
use Rattle.index.specs.declared.Lookup.TheVariants.{Refused, Accepted}

module _ (found : Found) (slot prev compared fault : ℕ) (e : found ≡ At slot prev compared) where
  pub held_by_fault : unless_refused fault (Accepted (Held slot prev) compared) (Refused fault compared) ≡ lookup_by fault found
  unfolding lookup_by
  held_by_fault = sym (ap (lookup_by fault) e)

  pub held_taken : fault ≡ 0 → Accepted (Held slot prev) compared ≡ lookup_by fault found
  held_taken z = sym (taken_leaves _ _ fault z) ∙ held_by_fault

module _ (found : Found) (prev compared fault : ℕ) (e : found ≡ Missing prev compared) where
  pub not_held_by_fault : unless_refused fault (Accepted (NotHeld prev) compared) (Refused fault compared) ≡ lookup_by fault found
  unfolding lookup_by
  not_held_by_fault = sym (ap (lookup_by fault) e)

  pub not_held_taken : fault ≡ 0 → Accepted (NotHeld prev) compared ≡ lookup_by fault found
  not_held_taken z = sym (taken_leaves _ _ fault z) ∙ not_held_by_fault

-- a refusal has the count of what was found
pub refused_by_fault : (found : Found) (fault c : ℕ) → (fault ≡ 0 → ⊥) → c ≡ compared_in found → Refused fault c ≡ lookup_by fault found
unfolding lookup_by compared_in
refused_by_fault (At slot prev compared) fault c ne e = ap (Refused fault) e ∙ sym (refused_keeps _ _ fault ne)
refused_by_fault (Missing prev compared) fault c ne e = ap (Refused fault) e ∙ sym (refused_keeps _ _ fault ne)
refused_by_fault BadChain fault c ne e = ap (Refused fault) e

-- the lookup where the key is open, by its place
pub allowed_at : {r : Lookup} {place known : Place} {compared : ℕ} → r ≡ Accepted place compared → place ≡ known → r ≡ Accepted known compared
allowed_at {compared = compared} e q = e ∙ ap (λ (p : Place). Accepted p compared) q
