-- A buffer filled from a position on, part by part or element by element: what is left to fill in gives what all of it gives. Assumes nothing.
use mathlib.Core.Path.{◌≡◌, refl, sym, ap, ap₂, ◌∙◌}
use mathlib.Core.List.{List, [], ◌∷◌, ◌++◌, append_assoc}
use Prim.Native.Nat.{ℕ, suc, ◌+◌, ◌≤◌, ◌<◌}
use native.Mathlib.Omega.{arith}
use lib.ListN.{length, get_or, set, take, drop, length-append, drop_of_length-le}
use lib.Seq.{sets, length-sets, sets-eq, paste, take_all, take_at, drop-cons, length-take-le}

module _ {A : Type 0} where
  pub sets_append : (l xs ys : List A) (k : ℕ) → sets l k (xs ++ ys) ≡ sets (sets l k xs) (k + length xs) ys
  sets_append l [] ys k = ap (λ (n : ℕ). sets l n ys) (let e : k ≡ k + 0 = omega arith in e)
  sets_append l (x ∷ xs) ys k =
      sets_append (set l k x) xs ys (suc k) ∙ ap (λ (n : ℕ). sets (sets (set l k x) (suc k) xs) n ys)
      (let e : suc k + length xs ≡ k + suc (length xs) = omega arith in e)

  -- n elements in the place of as many
  pub paste-sets : (l xs : List A) (k n : ℕ) → length xs ≡ n → k + n ≤ length l → paste l k xs n ≡ sets l k xs
  paste-sets l xs k n e h =
      ap₂ (λ (x : List A) (i : ℕ). take k l ++ x ++ drop (k + i) l) (take_all n xs (omega arith)) (sym e) ∙ sym (sets-eq xs l k (omega arith))

  -- the front of the buffer, and what was stored behind it
  pub sets_front : (l xs : List A) (k : ℕ) → k + length xs ≤ length l → take (k + length xs) (sets l k xs) ≡ take k l ++ xs
  sets_front l xs k h =
      ap (take (k + length xs)) (sets-eq xs l k h)
      ∙ take_at (take k l ++ xs) (drop (k + length xs) l) (k + length xs)
      (length-append (take k l) xs ∙ ap (λ (n : ℕ). n + length xs) (length-take-le k l (omega arith)))

  -- from the first position on
  pub sets_first : (l xs : List A) → length xs ≤ length l → sets l 0 xs ≡ xs ++ drop (length xs) l
  sets_first l xs h = sets-eq xs l 0 (omega arith) ∙ ap (λ (n : ℕ). xs ++ drop n l) (let e : 0 + length xs ≡ length xs = omega arith in e)

  -- `rest` is still to be filled in from position k on: then all of it stands in the old buffer from position k₀ on
  pub record Fill (old : List A) (k₀ : ℕ) (all now : List A) (k : ℕ) (rest : List A) : Type 0 where
    pub size : length now ≡ length old
    pub room : k + length rest ≡ k₀ + length all
    pub left : sets now k rest ≡ sets old k₀ all

  pub fill_begins : {old all rest : List A} {k₀ k : ℕ} → k ≡ k₀ → rest ≡ all → Fill old k₀ all old k rest
  fill_begins {old} p e =
      record { size = refl; room = ap₂ (λ (k : ℕ) (l : List A). k + length l) p e; left = ap₂ (λ (k : ℕ) (l : List A). sets old k l) p e }

  pub fill_on : {old all now rest : List A} {k₀ k : ℕ} → Fill old k₀ all now k rest → {next : List A} {j : ℕ} (part : List A) {behind : List A}
      → rest ≡ part ++ behind → next ≡ sets now k part → j ≡ k + length part → Fill old k₀ all next j behind
  fill_on {now = now} {k = k} g part {behind} e f q =
      record {
        size = ap length f ∙ length-sets now k part ∙ g.size;
        room = omega (arith, g.room, ap length e, length-append part behind);
        left =
            ap₂ (λ (l : List A) (n : ℕ). sets l n behind) f q ∙ sym (sets_append now part behind k) ∙ ap (sets now k) (sym e) ∙ g.left;
      }

  pub fill_ends : {old all now rest : List A} {k₀ k : ℕ} → Fill old k₀ all now k rest → rest ≡ [] → now ≡ sets old k₀ all
  fill_ends {now = now} {k = k} g e = sym (ap (sets now k) e) ∙ g.left

  -- element by element: the first i of all are in the buffer
  pub element_on : {old all now next : List A} {k₀ i : ℕ} {v : A} (d : A) → Fill old k₀ all now (k₀ + i) (drop i all) → i < length all
      → v ≡ get_or all i d → next ≡ set now (k₀ + i) v → Fill old k₀ all next (k₀ + (i + 1)) (drop (i + 1) all)
  element_on {all = all} {i = i} {v = v} d g h e f =
      let one : suc i ≡ i + 1 = omega arith in
      fill_on g (v ∷ []) (drop-cons all i d h ∙ ap₂ (λ (x : A) (n : ℕ). x ∷ drop n all) (sym e) one) f (omega arith)

  pub elements_end : {old all now : List A} {k₀ i : ℕ} → Fill old k₀ all now (k₀ + i) (drop i all) → length all ≤ i → now ≡ sets old k₀ all
  elements_end {all = all} g h = fill_ends g (drop_of_length-le all h)
