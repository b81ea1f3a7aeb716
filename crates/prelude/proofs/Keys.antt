-- The keys that a map holds: as many in every list of them, and those of a map that differs at one key. Assumes nothing.
use mathlib.Core.Path.{◌≡◌, refl, sym, ap, ◌∙◌}
use mathlib.Core.Logic.{inl, inr, by_cases}
use mathlib.Core.Option.{Option, some, none}
use mathlib.Core.List.{List, ◌∷◌}
use Prim.Native.Nat.{ℕ}
use native.Mathlib.Decide.{ℕ_discrete}
use native.Mathlib.Omega.{arith}
use lib.ListN.{length}
use Rattle.prelude.specs.Members.{In}
use Rattle.prelude.specs.Keys.{Holds, holds, Keys}
use Rattle.prelude.proofs.defs.Members.{without}
use Rattle.prelude.proofs.Lists.{no_longer, in_without, without_in, once_without, without_gone}

pub some-none : {v : List ℕ} {o : Option (List ℕ)} → o ≡ some v → o ≡ none → ⊥
some-none {v} {o} p q = let z : ◌≡◌ {A = ℕ} 0 1 = cc in omega arith

-- two lists of a map's keys are equally long
pub keys_many : (m : ℕ → Option (List ℕ)) (ks js : List ℕ) → Keys m ks → Keys m js → length ks ≡ length js
keys_many m ks js a b =
    omega (
      arith,
      no_longer ks js a.once (λ k i. b.all k (a.held k i)),
      no_longer js ks b.once (λ k i. a.all k (b.held k i)),
    )

-- there is a list of the held keys
pub data Listed (m : ℕ → Option (List ℕ)) : Type 0 where
  listed : (ks : List ℕ) → Keys m ks → Listed m

-- ---- two maps that agree but at one key

module _ (m m' : ℕ → Option (List ℕ)) (key : ℕ) (elsewhere : (k : ℕ) → (k ≡ key → ⊥) → m' k ≡ m k) where
  pub forth : (k : ℕ) → (k ≡ key → ⊥) → Holds m k → Holds m' k
  forth k ne (holds value e) = holds value (elsewhere k ne ∙ e)

  pub back : (k : ℕ) → (k ≡ key → ⊥) → Holds m' k → Holds m k
  back k ne (holds value e) = holds value (sym (elsewhere k ne) ∙ e)

  -- a list of the keys of the one gives a list of the keys of the other
  module _ (ks : List ℕ) (a : Keys m ks) where
    kept : (k : ℕ) → In k (without key ks) → Holds m' k
    kept k i = forth k (λ e. without_gone key ks a.once (rw e at i)) (a.held k (without_in key k ks i))

    left : (k : ℕ) → (k ≡ key → ⊥) → Holds m' k → In k (without key ks)
    left k ne h = in_without key k ks (a.all k (back k ne h)) ne

    keys_with : (value : List ℕ) → m' key ≡ some value → Keys m' (key ∷ without key ks)
    keys_with value e = record {
      once = (without_gone key ks a.once, once_without key ks a.once);
      held = held;
      all = λ k h. by_cases (ℕ_discrete k key) (λ q. inl q) (λ ne. inr (left k ne h));
    }
      where
        held : (k : ℕ) → In k (key ∷ without key ks) → Holds m' k
        held k (inl q) = holds value (ap m' q ∙ e)
        held k (inr i) = kept k i

    keys_without : m' key ≡ none → Keys m' (without key ks)
    keys_without e = record {
      once = once_without key ks a.once;
      held = kept;
      all = λ k h. left k (λ q. gone k q h) h;
    }
      where
        gone : (k : ℕ) → k ≡ key → Holds m' k → ⊥
        gone k q (holds value d) = some-none d (ap m' q ∙ e)

    pub next_listed : Listed m'
    next_listed = go (m' key) refl
      where
        go : (held : Option (List ℕ)) → m' key ≡ held → Listed m'
        go none e = listed (without key ks) (keys_without e)
        go (some value) e = listed (key ∷ without key ks) (keys_with value e)
