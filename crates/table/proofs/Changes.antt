-- The map with the changes of a basket. Assumes nothing.
use mathlib.Core.Path.{◌≡◌, refl, sym, ap, ◌∙◌}
use mathlib.Core.Bool.{Bool, true, false, cond}
use mathlib.Core.Logic.{inl, inr, ⊎_elim}
use mathlib.Core.Option.{Option}
use mathlib.Core.List.{List, [], ◌∷◌}
use Prim.Native.Nat.{ℕ}
use lib.Dec.{eqb}
use borrow.Author.Tests.{ne_eqb, eqb-true, eqb-false, eq-eqb}
use Rattle.layout.specs.Content.{Table}
use Rattle.prelude.specs.Members.{In, Once}
use Rattle.prelude.proofs.Choice.{pick_false, pick_true}
use Rattle.table.specs.Table.{key_in, value_in}
use Rattle.table.proofs.defs.Basket.{changes, changes_in_turn}

pub changes_miss : (l : List ℕ) (new : Table) (m : ℕ → Option (List ℕ)) (k : ℕ) → ((s : ℕ) → In s l → key_in (new s) ≡ k → ⊥) → changes l new m k ≡ m k
unfolding changes
changes_miss [] new m k h = refl
changes_miss (x ∷ l) new m k h =
    ap (λ (b : Bool). cond b (value_in (new x)) (changes l new m k)) (ne_eqb k (key_in (new x)) (λ e. h x (inl refl) (sym e)))
    ∙ changes_miss l new m k (λ s i. h s (inr i))

pub changes_hit : (l : List ℕ) (new : Table) (m : ℕ → Option (List ℕ)) (k s : ℕ) → In s l → key_in (new s) ≡ k → ((t : ℕ) → In t l → key_in (new t) ≡ k → t ≡ s)
    → changes l new m k ≡ value_in (new s)
unfolding changes
changes_hit [] new m k s i e h = absurd i
changes_hit (x ∷ l) new m k s i e h = go (eqb k (key_in (new x))) refl i (changes_hit l new m k s)
  where
    go : (b : Bool) → eqb k (key_in (new x)) ≡ b → In s (x ∷ l)
        → (In s l → key_in (new s) ≡ k → ((t : ℕ) → In t l → key_in (new t) ≡ k → t ≡ s) → changes l new m k ≡ value_in (new s))
        → cond b (value_in (new x)) (changes l new m k) ≡ value_in (new s)
    go true q j ih = ap (λ (t : ℕ). value_in (new t)) (h x (inl refl) (sym (eqb-true k (key_in (new x)) q)))
    go false q (inl j) ih = absurd (eqb-false k (key_in (new x)) q (sym e ∙ ap (λ (t : ℕ). key_in (new t)) j))
    go false q (inr j) ih = ih j e (λ t a. h t (inr a))

-- a slot of the list whose record has key k, or none
pub data Keyed (l : List ℕ) (new : Table) (k : ℕ) : Type 0 where
  keyed : (s : ℕ) → In s l → key_in (new s) ≡ k → Keyed l new k
  unkeyed : ((s : ℕ) → In s l → key_in (new s) ≡ k → ⊥) → Keyed l new k

pub key_sought : (l : List ℕ) (new : Table) (k : ℕ) → Keyed l new k
key_sought [] new k = unkeyed (λ s i e. i)
key_sought (x ∷ l) new k = go (eqb (key_in (new x)) k) refl (key_sought l new k)
  where
    go : (b : Bool) → eqb (key_in (new x)) k ≡ b → Keyed l new k → Keyed (x ∷ l) new k
    go true e ih = keyed x (inl refl) (eqb-true (key_in (new x)) k e)
    go false e (keyed s i d) = keyed s (inr i) d
    go false e (unkeyed h) =
        unkeyed (λ s i d. ⊎_elim (λ q. eqb-false (key_in (new x)) k e (sym (ap (λ (t : ℕ). key_in (new t)) q) ∙ d)) (λ j. h s j d) i)

-- changes of equal maps
pub changes_same : (l : List ℕ) (new : Table) (m m' : ℕ → Option (List ℕ)) (k : ℕ) → m k ≡ m' k → changes l new m k ≡ changes l new m' k
unfolding changes
changes_same [] new m m' k e = e
changes_same (s ∷ l) new m m' k e = ap (cond (eqb k (key_in (new s))) (value_in (new s))) (changes_same l new m m' k e)

-- ---- the changes key by key, in order

turn_miss : (l : List ℕ) (new : Table) (m : ℕ → Option (List ℕ)) (k : ℕ) → ((s : ℕ) → In s l → key_in (new s) ≡ k → ⊥) → changes_in_turn l new m k ≡ m k
unfolding changes_in_turn
turn_miss [] new m k h = refl
turn_miss (x ∷ l) new m k h =
    turn_miss l new (λ j. cond (eqb j (key_in (new x))) (value_in (new x)) (m j)) k (λ s i. h s (inr i))
    ∙ pick_false (eqb k (key_in (new x))) (value_in (new x)) (m k) (ne_eqb k (key_in (new x)) (λ e. h x (inl refl) (sym e)))

turn_hit : (l : List ℕ) (new : Table) (m : ℕ → Option (List ℕ)) (k s : ℕ) → Once l → In s l → key_in (new s) ≡ k
    → ((t : ℕ) → In t l → key_in (new t) ≡ k → t ≡ s) → changes_in_turn l new m k ≡ value_in (new s)
unfolding changes_in_turn
turn_hit [] new m k s o i e h = absurd i
turn_hit (x ∷ l) new m k s o (inl q) e h =
    turn_miss l new (λ j. cond (eqb j (key_in (new x))) (value_in (new x)) (m j)) k (λ t i d. o.0 (at t i (h t (inr i) d)))
    ∙ pick_true (eqb k (key_in (new x))) (value_in (new x)) (m k) (eq-eqb k (key_in (new x)) (sym e ∙ ap (λ (t : ℕ). key_in (new t)) q))
    ∙ ap (λ (t : ℕ). value_in (new t)) (sym q)
  where
    at : (t : ℕ) → In t l → t ≡ s → In x l
    at t i d = rw (sym (d ∙ q)) i
turn_hit (x ∷ l) new m k s o (inr i) e h =
    turn_hit l new (λ j. cond (eqb j (key_in (new x))) (value_in (new x)) (m j)) k s o.1 i e (λ t j. h t (inr j))

pub changes-in-turn : (l : List ℕ) (new : Table) (m : ℕ → Option (List ℕ)) → Once l
    → ((s t : ℕ) → In s l → In t l → key_in (new s) ≡ key_in (new t) → s ≡ t) → (k : ℕ) → changes l new m k ≡ changes_in_turn l new m k
changes-in-turn l new m o h k = go (key_sought l new k)
  where
    go : Keyed l new k → changes l new m k ≡ changes_in_turn l new m k
    go (keyed s i e) =
        changes_hit l new m k s i e (λ t j d. h t s j i (d ∙ sym e)) ∙ sym (turn_hit l new m k s o i e (λ t j d. h t s j i (d ∙ sym e)))
    go (unkeyed a) = changes_miss l new m k a ∙ sym (turn_miss l new m k a)
