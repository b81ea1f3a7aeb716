-- A test over a range: a search for it turn by turn, and a test that holds nowhere. Assumes nothing.
use mathlib.Core.Path.{◌≡◌, refl, sym, ap, ap₂, ◌∙◌}
use mathlib.Core.Bool.{Bool, true, false, cond, ◌||◌, true≢false}
use mathlib.Core.Logic.{◌⊎◌, inl, inr}
use mathlib.Core.List.{List, [], ◌∷◌}
use Prim.Native.Nat.{ℕ, zero, suc, ◌+◌, ◌-◌, ◌≤◌, ◌<◌}
use native.Mathlib.Omega.{arith}
use native.Mathlib.Numerals.{add-one}
use lib.Dec.{eqb}
use borrow.Author.Tests.{eqb-true, eqb-false}
use Rattle.std.specs.List.{list_any, range_with_len}
use Rattle.prelude.specs.Members.{In, Slot}
use Rattle.prelude.specs.Filter.{any_in}
use Rattle.prelude.specs.Range.{any_of}
use Rattle.prelude.proofs.Choice.{pick_true, pick_false, split, true-false}

-- A LOOP OVER THE n NUMBERS FROM start ON asks whether any of them passes; it has come to k, and ends before `end`: what is left answers for the
-- whole
pub record Going (p : ℕ → Bool) (start n end k : ℕ) : Type 0 where
  pub position : k ≤ end
  pub rest : any_of p k (end - k) ≡ any_of p start n

pub any_start : {p : ℕ → Bool} {start n end : ℕ} → end ≡ start + n → Going p start n end start
any_start {p} {start} e = record { position = omega arith; rest = ap (any_of p start) (omega arith) }

any_step : (p : ℕ → Bool) (k n : ℕ) → 0 < n → any_of p k n ≡ cond (p k) true (any_of p (suc k) (n - 1))
unfolding any_of
any_step p k zero h = absurd (omega arith)
any_step p k (suc n) h =
    let e : n ≡ suc n - 1 = omega arith in ap (λ (x : ℕ). cond (p k) true (any_of p (suc k) x)) e

-- b is the test of k
module _ {p : ℕ → Bool} {start n end k : ℕ} (g : Going p start n end k) where
  pub any_hit : {b : Bool} → k < end → b ≡ p k → b ≡ true → true ≡ any_of p start n
  any_hit h e t = sym (any_step p k (end - k) (omega arith) ∙ pick_true (p k) _ _ (sym e ∙ t)) ∙ g.rest

  pub any_next : {b : Bool} → k < end → b ≡ p k → b ≡ false → Going p start n end (k + 1)
  any_next h e t =
      record {
        position = omega arith;
        rest =
            ap₂ (any_of p) (omega arith) (omega arith)
            ∙ sym (any_step p k (end - k) (omega arith) ∙ pick_false (p k) _ _ (sym e ∙ t)) ∙ g.rest;
      }

  pub any_end : end ≤ k → false ≡ any_of p start n
  unfolding any_of
  any_end h = ap (any_of p k) (let nothing_left : 0 ≡ end - k = omega arith in nothing_left) ∙ g.rest

-- a test of some number of a range, from that of some element of a list
pub any_listed : (p : ℕ → Bool) (k n : ℕ) → list_any p (range_with_len k n) ≡ any_of p k n
unfolding any_of
any_listed p k zero = refl
any_listed p k (suc n) =
    ap (λ (x : ℕ). p k || list_any p (range_with_len x n)) (add-one k) ∙ either (p k) _ _ (any_listed p (suc k) n)
  where
    either : (b x y : Bool) → x ≡ y → (b || x) ≡ cond b true y
    either true x y e = refl
    either false x y e = e

-- neither of two tests
pub or_none : (p q : Bool) → cond p true q ≡ false → (p ≡ false) × (q ≡ false)
or_none true q e = absurd (true≢false e)
or_none false q e = (refl, e)

pub any_none : (p : ℕ → Bool) (k n : ℕ) → any_of p k n ≡ false → (i : ℕ) → i < n → p (k + i) ≡ false
unfolding any_of
any_none p k zero e i h = absurd (omega arith)
any_none p k (suc n) e zero h = ap p (omega arith) ∙ (or_none (p k) (any_of p (suc k) n) e).0
any_none p k (suc n) e (suc i) h =
    ap p (omega arith) ∙ any_none p (suc k) n (or_none (p k) (any_of p (suc k) n) e).1 i (omega arith)

pub any_clear : (p : ℕ → Bool) (k n : ℕ) → ((i : ℕ) → i < n → p (k + i) ≡ false) → any_of p k n ≡ false
unfolding any_of
any_clear p k zero h = refl
any_clear p k (suc n) h =
    pick_false (p k) _ _ (ap p (omega arith) ∙ h 0 (omega arith))
    ∙ any_clear p (suc k) n (λ i l. ap p (omega arith) ∙ h (suc i) (omega arith))

-- a test that holds somewhere
pub any_some : (p : ℕ → Bool) (k n i : ℕ) → i < n → p (k + i) ≡ true → any_of p k n ≡ true
unfolding any_of
any_some p k zero i h e = absurd (omega arith)
any_some p k (suc n) zero h e = pick_true (p k) _ _ (ap p (omega arith) ∙ e)
any_some p k (suc n) (suc i) h e = either (p k) _ (any_some p (suc k) n i (omega arith) (ap p (omega arith) ∙ e))
  where
    either : (a b : Bool) → b ≡ true → cond a true b ≡ true
    either true b q = refl
    either false b q = q

or_or : (p q r : Bool) → cond p true (cond q true r) ≡ cond (cond p true q) true r
or_or true q r = refl
or_or false q r = refl

-- a range in two parts
pub any_split : (p : ℕ → Bool) (k a b : ℕ) → any_of p k (a + b) ≡ cond (any_of p k a) true (any_of p (k + a) b)
unfolding any_of
any_split p k zero b =
    let n : 0 + b ≡ b = omega arith in
    let j : k ≡ k + 0 = omega arith in
    ap₂ (any_of p) j n
any_split p k (suc a) b =
    ap (any_of p k) more ∙ ap (λ (t : Bool). cond (p k) true t) (any_split p (suc k) a b)
    ∙ or_or (p k) (any_of p (suc k) a) (any_of p (suc k + a) b)
    ∙ ap (λ (x : ℕ). cond (cond (p k) true (any_of p (suc k) a)) true (any_of p x b)) along
  where
    more : suc a + b ≡ suc (a + b)
    more = omega arith

    along : suc k + a ≡ k + suc a
    along = omega arith

-- two tests that agree, each over its own range
pub any_alike : (p q : ℕ → Bool) (k j n : ℕ) → ((i : ℕ) → i < n → p (k + i) ≡ q (j + i)) → any_of p k n ≡ any_of q j n
unfolding any_of
any_alike p q k j zero h = refl
any_alike p q k j (suc n) h =
    ap₂ (λ (x y : Bool). cond x true y) (ap p (omega arith) ∙ h 0 (omega arith) ∙ ap q (omega arith))
    (any_alike p q (suc k) (suc j) n (λ i l. ap p (omega arith) ∙ h (suc i) (omega arith) ∙ ap q (omega arith)))

-- over one range
pub any_same : (p q : ℕ → Bool) (k n : ℕ) → ((i : ℕ) → k ≤ i → i < k + n → p i ≡ q i) → any_of p k n ≡ any_of q k n
any_same p q k n h = any_alike p q k k n (λ i l. h (k + i) (omega arith) (omega arith))

-- by the last number of the range
pub any_last : (p : ℕ → Bool) (k n : ℕ) → any_of p k (suc n) ≡ cond (any_of p k n) true (p (k + n))
unfolding any_of
any_last p k n =
    ap (any_of p k) (let e : suc n ≡ n + 1 = omega arith in e) ∙ any_split p k n 1 ∙ ap (cond (any_of p k n) true) (or_false (p (k + n)))
  where
    or_false : (b : Bool) → cond b true false ≡ b
    or_false true = refl
    or_false false = refl

-- over the first n numbers
pub any_none_at : (p : ℕ → Bool) (n : ℕ) → any_of p 0 n ≡ false → (i : ℕ) → i < n → p i ≡ false
any_none_at p n e i h = let at : i ≡ 0 + i = omega arith in ap p at ∙ any_none p 0 n e i h

pub any_clear_at : (p : ℕ → Bool) (n : ℕ) → ((i : ℕ) → i < n → p i ≡ false) → any_of p 0 n ≡ false
any_clear_at p n h = any_clear p 0 n (λ i l. h (0 + i) (omega arith))

-- over the slots
pub any_none_slot : (p : ℕ → Bool) (n : ℕ) → any_of p 1 n ≡ false → (t : ℕ) → Slot n t → p t ≡ false
any_none_slot p n e t i = let at : 1 + (t - 1) ≡ t = omega arith in ap p (sym at) ∙ any_none p 1 n e (t - 1) (omega arith)

pub any_clear_slot : (p : ℕ → Bool) (n : ℕ) → ((t : ℕ) → Slot n t → p t ≡ false) → any_of p 1 n ≡ false
any_clear_slot p n h = any_clear p 1 n (λ i l. h (1 + i) (omega arith))

-- a slot that passes a test, or none
pub data Passing (p : ℕ → Bool) (n : ℕ) : Type 0 where
  passes : (s : ℕ) → Slot n s → p s ≡ true → Passing p n
  none_passes : ((t : ℕ) → Slot n t → p t ≡ false) → Passing p n

pub passing : (p : ℕ → Bool) (n : ℕ) → Passing p n
passing p zero = none_passes (λ t i. absurd (omega arith))
passing p (suc n) = go (p (suc n)) refl (passing p n)
  where
    each : p (suc n) ≡ false → ((t : ℕ) → Slot n t → p t ≡ false) → (x : Bool) → (t : ℕ) → Slot (suc n) t → eqb t (suc n) ≡ x → p t ≡ false
    each e h true t i q = ap p (eqb-true t (suc n) q) ∙ e
    each e h false t i q = h t (omega (arith, eqb-false t (suc n) q))

    go : (b : Bool) → p (suc n) ≡ b → Passing p n → Passing p (suc n)
    go true e ih = passes (suc n) (omega arith) e
    go false e (passes s i q) = passes s (omega arith) q
    go false e (none_passes h) = none_passes (λ t i. each e h (eqb t (suc n)) t i refl)

-- and where it holds
pub any_place : (p : ℕ → Bool) (k n : ℕ) → any_of p k n ≡ true → (i : ℕ) × (i < k + n) × (p i ≡ true)
unfolding any_of
any_place p k zero e = absurd (true-false e refl)
any_place p k (suc n) e = go (split (p k)) (any_place p (suc k) n)
  where
    go : (p k ≡ true) ⊎ (p k ≡ false) → (any_of p (suc k) n ≡ true → (i : ℕ) × (i < suc k + n) × (p i ≡ true)) → (i : ℕ) × (i < k + suc n) × (p i ≡ true)
    go (inl q) ih = (k, omega arith, q)
    go (inr q) ih = let r = ih (sym (pick_false (p k) true (any_of p (suc k) n) q) ∙ e) in (r.0, omega (arith, r.1), r.2)

-- over the elements of a list
pub in_any : (p : ℕ → Bool) (x : ℕ) (xs : List ℕ) → In x xs → p x ≡ true → any_in p xs ≡ true
unfolding any_in
in_any p x [] x3 q = elim x3 [ ]
in_any p x (y ∷ xs) (inl e) q = pick_true (p y) _ _ (ap p (sym e) ∙ q)
in_any p x (y ∷ xs) (inr i) q = go (p y) (in_any p x xs i q)
  where
    go : (b : Bool) → any_in p xs ≡ true → cond b true (any_in p xs) ≡ true
    go true ih = refl
    go false ih = ih

pub any-in : (p : ℕ → Bool) (xs : List ℕ) → any_in p xs ≡ true → (x : ℕ) × In x xs × (p x ≡ true)
unfolding any_in
any-in p [] e = absurd (true-false e refl)
any-in p (y ∷ xs) e = go (split (p y)) (any-in p xs)
  where
    go : (p y ≡ true) ⊎ (p y ≡ false) → (any_in p xs ≡ true → (x : ℕ) × In x xs × (p x ≡ true)) → (x : ℕ) × In x (y ∷ xs) × (p x ≡ true)
    go (inl q) ih = (y, inl refl, q)
    go (inr q) ih = let r = ih (sym (pick_false (p y) true (any_in p xs) q) ∙ e) in (r.0, inr r.1, r.2)
