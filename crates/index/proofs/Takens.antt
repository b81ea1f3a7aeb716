-- Slots that are taken, as they stand in two arrays. Assumes nothing.
use mathlib.Core.Path.{◌≡◌, refl, ap, ap₂, ◌∙◌, subst}
use mathlib.Core.Logic.{by_cases}
use mathlib.Core.List.{List, [], ◌∷◌, ◌++◌}
use Prim.Native.Nat.{ℕ, zero, suc, ◌+◌, ◌≤◌, ◌<◌}
use native.Mathlib.Decide.{dec_lt}
use native.Mathlib.Omega.{arith}
use lib.ListN.{length, get_or, set}
use lib.Seq.{get_or-set_same, get_or-set_other}
use Rattle.prelude.specs.Members.{All, none_left, one_more}
use Rattle.index.specs.Allocation.{Taken}
use Rattle.index.specs.inner.Basket.{takens_from}

-- they depend on these entries alone
pub takens_same : (slots prevs slots' prevs' : List ℕ) (i n : ℕ) → ((j : ℕ) → i ≤ j → j < i + n → get_or slots j 0 ≡ get_or slots' j 0)
    → ((j : ℕ) → i ≤ j → j < i + n → get_or prevs j 0 ≡ get_or prevs' j 0) → takens_from slots prevs i n ≡ takens_from slots' prevs' i n
unfolding takens_from
takens_same slots prevs slots' prevs' i zero s p = refl
takens_same slots prevs slots' prevs' i (suc n) s p =
    ap₂ (λ (t : Taken) (ts : List Taken). t ∷ ts)
    (ap₂ (λ (a b : ℕ). record { slot = a; prev = b }) (s i (omega arith) (omega arith)) (p i (omega arith) (omega arith)))
    (takens_same slots prevs slots' prevs' (suc i) n (λ j a b. s j (omega arith) (omega arith)) (λ j a b. p j (omega arith) (omega arith)))

-- one more at the end
pub takens_more : (slots prevs : List ℕ) (i n : ℕ)
    → takens_from slots prevs i (suc n) ≡ takens_from slots prevs i n ++ (record { slot = get_or slots (i + n) 0; prev = get_or prevs (i + n) 0 } ∷ [])
unfolding takens_from
takens_more slots prevs i zero =
    let e : i ≡ i + 0 = omega arith in
    ap (λ (k : ℕ). alone (record { slot = get_or slots k 0; prev = get_or prevs k 0 })) e
  where
    alone : Taken → List Taken
    alone t = t ∷ []
takens_more slots prevs i (suc n) =
    let e : suc i + n ≡ i + suc n = omega arith in
    ap (λ (ts : List Taken). record { slot = get_or slots i 0; prev = get_or prevs i 0 } ∷ ts)
    (takens_more slots prevs (suc i) n
    ∙ ap (λ (k : ℕ). takens_from slots prevs (suc i) n ++ (record { slot = get_or slots k 0; prev = get_or prevs k 0 } ∷ [])) e)

-- the next entries are written
pub takens_set : (slots prevs : List ℕ) (n slot prev : ℕ) → n < length slots → n < length prevs
    → takens_from (set slots n slot) (set prevs n prev) 0 (n + 1) ≡ takens_from slots prevs 0 n ++ (record { slot = slot; prev = prev } ∷ [])
takens_set slots prevs n slot prev hs hp =
    let e : n + 1 ≡ suc n = omega arith in
    let z : 0 + n ≡ n = omega arith in
    ap (takens_from (set slots n slot) (set prevs n prev) 0) e
    ∙ takens_more (set slots n slot) (set prevs n prev) 0 n
    ∙ ap₂ (λ (ts : List Taken) (t : Taken). ts ++ (t ∷ []))
    (takens_same (set slots n slot) (set prevs n prev) slots prevs 0 n (λ j a b. get_or-set_other slots n j slot 0 (λ q. omega arith))
    (λ j a b. get_or-set_other prevs n j prev 0 (λ q. omega arith)))
    (ap₂ (λ (a b : ℕ). record { slot = a; prev = b })
    (ap (λ (k : ℕ). get_or (set slots n slot) k 0) z ∙ get_or-set_same slots n slot 0 hs)
    (ap (λ (k : ℕ). get_or (set prevs n prev) k 0) z ∙ get_or-set_same prevs n prev 0 hp))

-- what holds of all holds of each
pub takens_each : (P : Taken → Type 0) (slots prevs : List ℕ) (i n : ℕ) → All P (takens_from slots prevs i n) → (j : ℕ) → i ≤ j → j < i + n
    → P (record { slot = get_or slots j 0; prev = get_or prevs j 0 })
unfolding takens_from
takens_each P slots prevs i zero none_left j low high = absurd (omega arith)
takens_each P slots prevs i (suc n) (one_more h hs) j low high =
    by_cases (dec_lt i j) (λ k. takens_each P slots prevs (suc i) n hs j (omega arith) (omega arith))
    (λ k.
    let e : i ≡ j = omega arith in
    subst (λ (x : ℕ). P (record { slot = get_or slots x 0; prev = get_or prevs x 0 })) e h)
