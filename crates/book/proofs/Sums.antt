-- What is open, summed over the keys that are held: by any list of them, and after a change at one key. Assumes nothing.
use mathlib.Core.Path.{◌≡◌, refl, sym, ap, ◌∙◌}
use mathlib.Core.Option.{Option, some, none}
use mathlib.Core.List.{List, [], ◌∷◌}
use Prim.Native.Nat.{ℕ, ◌+◌}
use native.Mathlib.Omega.{arith}
use Rattle.prelude.specs.Members.{In}
use Rattle.prelude.proofs.defs.Members.{sum_over}
use Rattle.prelude.proofs.Sums.{sum_same, sum_but_one}
use Rattle.prelude.proofs.Keys.{forth, back}
use Rattle.interface.specs.Set.{PlainMap, holds, Keys}
use Rattle.book.specs.Totals.{open_held, of_held, open_total}

open_sum : (m : PlainMap) (ks : List ℕ) → open_total m ks ≡ sum_over (λ (k : ℕ). open_held (m k)) ks
unfolding open_total sum_over
open_sum m [] = refl
open_sum m (k ∷ ks) = ap (λ (n : ℕ). open_held (m k) + n) (open_sum m ks)

-- any two lists of the held keys
pub open_same : (m : PlainMap) (ks js : List ℕ) → Keys m ks → Keys m js → open_total m ks ≡ open_total m js
open_same m ks js a b =
    open_sum m ks
    ∙ sum_same (λ (k : ℕ). open_held (m k)) ks js a.once b.once (λ k i. b.all k (a.held k i)) (λ k i. a.all k (b.held k i))
    ∙ sym (open_sum m js)

-- a key in no list of the held keys
not_listed : (m : PlainMap) (ks : List ℕ) → Keys m ks → (key : ℕ) → (In key ks → ⊥) → open_held (m key) ≡ 0
unfolding of_held
not_listed m ks a key n = go (m key) refl
  where
    go : (held : Option (List ℕ)) → m key ≡ held → open_held held ≡ 0
    go none e = refl
    go (some value) e = absurd (n (a.all key (holds value e)))

-- ---- two maps that agree but at one key

module _ (m m' : PlainMap) (key : ℕ) (elsewhere : (k : ℕ) → (k ≡ key → ⊥) → m' k ≡ m k) where
  -- the sums differ by what is open at that key
  pub open_but_one : (ks js : List ℕ) → Keys m ks → Keys m' js → open_total m ks + open_held (m' key) ≡ open_total m' js + open_held (m key)
  open_but_one ks js a b =
      omega (
        arith,
        open_sum m ks,
        open_sum m' js,
        sum_but_one (λ (k : ℕ). open_held (m k)) (λ (k : ℕ). open_held (m' k)) key ks js a.once b.once (not_listed m ks a key)
            (not_listed m' js b key) (λ k ne i. b.all k (forth m m' key elsewhere k ne (a.held k i)))
            (λ k ne i. a.all k (back m m' key elsewhere k ne (b.held k i)))
            (λ k ne. ap open_held (sym (elsewhere k ne))),
      )
