-- The list that a function tabulates to: its length, its elements, which list it is, and how it grows. Assumes nothing.
use mathlib.Core.Path.{◌≡◌, refl, sym, ap, ap₂, ◌∙◌}
use mathlib.Core.Logic.{by_cases}
use mathlib.Core.List.{List, [], ◌∷◌, ◌++◌, append_assoc}
use Prim.Native.Nat.{ℕ, zero, suc, ◌+◌, ◌<◌}
use native.Mathlib.Decide.{ℕ_discrete}
use native.Mathlib.Omega.{arith}
use lib.ListN.{length, get_or, set, drop, length-set}
use lib.Seq.{drop-cons, get_or-set_same, get_or-set_other, set_at, ext_get_or}
use Rattle.prelude.specs.Range.{tabulate}

pub tabulate-length : (f : ℕ → ℕ) (k n : ℕ) → length (tabulate f k n) ≡ n
unfolding tabulate
tabulate-length f k zero = refl
tabulate-length f k (suc n) = ap suc (tabulate-length f (suc k) n)

pub tabulate_get : (f : ℕ → ℕ) (k n i : ℕ) → i < n → get_or (tabulate f k n) i 0 ≡ f (k + i)
unfolding tabulate
tabulate_get f k zero i h = absurd (omega arith)
tabulate_get f k (suc n) zero h = ap f (omega arith)
tabulate_get f k (suc n) (suc i) h = tabulate_get f (suc k) n i (omega arith) ∙ ap f (omega arith)

tabulate_last : (f : ℕ → ℕ) (k n : ℕ) → tabulate f k (suc n) ≡ tabulate f k n ++ (f (k + n) ∷ [])
unfolding tabulate
tabulate_last f k zero = ap (λ (x : ℕ). f x ∷ []) (omega arith)
tabulate_last f k (suc n) =
    ap (λ (t : List ℕ). f k ∷ t)
    (tabulate_last f (suc k) n ∙ ap (λ (x : ℕ). tabulate f (suc k) n ++ (f x ∷ [])) (omega arith))

-- one more value
pub tabulate_more : (f : ℕ → ℕ) (k : ℕ) → tabulate f 0 (k + 1) ≡ tabulate f 0 k ++ (f k ∷ [])
tabulate_more f k =
    ap (tabulate f 0) (omega arith) ∙ tabulate_last f 0 k ∙ ap (λ (x : ℕ). tabulate f 0 k ++ (f x ∷ [])) (omega arith)

-- the store of one more value into a list whose front is the values so far
pub tabulate-set : (f : ℕ → ℕ) (k : ℕ) (old out : List ℕ) (v : ℕ) → k < length old → out ≡ tabulate f 0 k ++ drop k old → v ≡ f k
    → set out k v ≡ tabulate f 0 (k + 1) ++ drop (k + 1) old
tabulate-set f k old out v h e q =
    ap (λ (t : List ℕ). set t k v) (e ∙ ap (λ (t : List ℕ). tabulate f 0 k ++ t) (drop-cons old k 0 h))
    ∙ set_at (tabulate f 0 k) (get_or old k 0) (drop (suc k) old) v k (tabulate-length f 0 k)
    ∙ ap (λ (x : ℕ). tabulate f 0 k ++ (x ∷ drop (suc k) old)) q
    ∙ sym (append_assoc (tabulate f 0 k) (f k ∷ []) (drop (suc k) old))
    ∙ ap₂ (λ (t : List ℕ) (x : ℕ). t ++ drop x old) (sym (tabulate_more f k)) next
  where
    next : suc k ≡ k + 1
    next = omega arith

-- a list is what its elements tabulate to
pub tabulate_list : (f : ℕ → ℕ) (xs : List ℕ) (k : ℕ) → ((i : ℕ) → i < length xs → f (k + i) ≡ get_or xs i 0)
    → tabulate f k (length xs) ≡ xs
unfolding tabulate
tabulate_list f [] k h = refl
tabulate_list f (x ∷ xs) k h =
    ap₂ (λ (y : ℕ) (ys : List ℕ). y ∷ ys) (ap f (omega arith) ∙ h 0 (omega arith))
    (tabulate_list f xs (suc k) (λ i l. ap f (omega arith) ∙ h (suc i) (omega arith)))

-- another value at one number
pub set-tabulate : (f g : ℕ → ℕ) (n k v : ℕ) → k < n → g k ≡ v → ((i : ℕ) → (i ≡ k → ⊥) → g i ≡ f i)
    → set (tabulate f 0 n) k v ≡ tabulate g 0 n
set-tabulate f g n k v h e rest =
    ext_get_or 0 (set (tabulate f 0 n) k v) (tabulate g 0 n) (length-set (tabulate f 0 n) k v ∙ tabulate-length f 0 n ∙ sym (tabulate-length g 0 n))
    (λ i p.
    let inside : i < n = omega (arith, p, length-set (tabulate f 0 n) k v, tabulate-length f 0 n) in
    let here : get_or (tabulate g 0 n) i 0 ≡ g i = tabulate_get g 0 n i inside ∙ ap g (omega arith) in
    by_cases (ℕ_discrete i k)
    (λ q.
    ap (λ (x : ℕ). get_or (set (tabulate f 0 n) k v) x 0) q
    ∙ get_or-set_same (tabulate f 0 n) k v 0 (omega (arith, tabulate-length f 0 n))
    ∙ sym (here ∙ ap g q ∙ e))
    (λ ne.
    get_or-set_other (tabulate f 0 n) k i v 0 ne ∙ tabulate_get f 0 n i inside ∙ ap f (omega arith) ∙ sym (here ∙ rest i ne)))
